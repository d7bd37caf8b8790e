use Rattle.std.proofs.Common.{length}
use Rattle.risc_asm.specs.Drafts.{Continues, seen}
use Rattle.risc_asm.proofs.draft.read_draft.Given as goal

abbrev pub invariant-loop-draft : goal.invariant-loop-draft
invariant-loop-draft l = Continues (seen l.draft) l.rest l.text

abbrev pub decreases-loop-draft : goal.decreases-loop-draft
decreases-loop-draft l = length l.rest
