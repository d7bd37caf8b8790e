use Rattle.std.proofs.Common.{◌≡◌, drop}
use Rattle.machine_model.specs.Paths.{is_there, word_among}
use Rattle.risc_asm.proofs.programs.has_word.Given as goal

abbrev pub invariant-loop-number : goal.invariant-loop-number
invariant-loop-number l = is_there (word_among l.spans l.address) ≡ is_there (word_among (drop l.number l.spans) l.address)
