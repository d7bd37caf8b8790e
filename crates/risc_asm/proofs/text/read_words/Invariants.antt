use Rattle.std.proofs.Common.{length, ◌≤◌}
use Rattle.risc_asm.specs.Texts.{IsGrown}
use Rattle.risc_asm.proofs.text.read_words.Given as goal

abbrev pub invariant-loop-rest : goal.invariant-loop-rest
invariant-loop-rest l =
    record {
      within : length l.rest ≤ length l.text;
      grown : IsGrown l.fn.draft.words.items l.draft.words.items;
    }

abbrev pub decreases-loop-rest : goal.decreases-loop-rest
decreases-loop-rest l = length l.rest
