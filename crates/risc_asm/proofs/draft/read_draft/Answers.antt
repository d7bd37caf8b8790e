use Rattle.risc_asm.specs.Drafts.{seen}
use Rattle.risc_asm.proofs.Continuing.{on_taken}
use Rattle.risc_asm.proofs.draft.read_draft.Goals as goal

pub loop-draft-preserved : goal.loop-draft-preserved
loop-draft-preserved c =
    on_taken (seen c.loop-draft.draft) _ c.loop-draft.rest.now c.args.text.now c.in-Some.left.now c.loop-draft.invariant
    (rw c.in-Some.is at c.in_ok-left.ensures.taken) (rw c.in-Some.is at c.in_ok-left.ensures.rest)
