-- Status 0 is that of Done alone.
use Rattle.std.proofs.Common.{◌≡◌, refl}
use Rattle.command_texts.specs.declared.answer.Answer.{Answer}
use Rattle.command_texts.specs.declared.answer.Answer.TheVariants.{Done, Usage, ReadFault, WriteFault, Malformed, BadDesc, BadGeometry}
use Rattle.command_texts.specs.declared.answer.Answer.TheVariants.{BadChain, BadRing, BadText, Rejected, Differs, NoMemory}
use Rattle.command_texts.specs.Answers.{status_of}

pub done_at_zero : (answer : Answer) → status_of answer ≡ 0 → answer ≡ Done
done_at_zero Done e = refl
done_at_zero (Usage fault) e = cc
done_at_zero ReadFault e = cc
done_at_zero WriteFault e = cc
done_at_zero (Malformed file fault) e = cc
done_at_zero (BadDesc fault) e = cc
done_at_zero (BadGeometry fault) e = cc
done_at_zero (BadChain fault) e = cc
done_at_zero (BadRing fault) e = cc
done_at_zero (BadText fault) e = cc
done_at_zero (Rejected at nth cause) e = cc
done_at_zero (Differs text) e = cc
done_at_zero NoMemory e = cc
