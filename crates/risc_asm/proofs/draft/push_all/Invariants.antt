use Rattle.std.proofs.Common.{◌≡◌, ◌<◌, drop, length}
use Rattle.risc_text.specs.Drafts.{longer}
use Rattle.risc_asm.proofs.draft.push_all.Given as goal

abbrev pub invariant-loop-word : goal.invariant-loop-word
invariant-loop-word l = record {
  some : 0 < length l.spans;
  so_far : longer l.spans (drop l.word-index l.words) ≡ longer l.fn.spans l.words;
}
