use Rattle.std.proofs.Common.{sym, ap, subst, ◌∙◌}
use Rattle.fifo_model.specs.Queues.{more}
use Rattle.machine_model.proofs.WritesAndFetches.{StaysInside-safe}
use Rattle.dma_machine.specs.Counts.{with_turns}
use Rattle.dma_machine.proofs.Counting.{acted-counted}
use Rattle.dma_machine.specs.Looks.{RetiresAt}
use Rattle.dma_machine.proofs.Retiring.{seen-RetiresAt}
use Rattle.dma_machine.proofs.StillSeen.{seen-acted}
use Rattle.dma_machine.proofs.Machine.turn_seen.Goals as goal

pub returns-clause-state : goal.returns-clause-state
returns-clause-state g c =
    c.count.ensures.state ∙ ap (λ m. with_turns (more m.turns 1) m) c.act_told-told.ensures.state ∙ acted-counted c.args.self.now

pub returns-clause-retired : goal.returns-clause-retired
returns-clause-retired g c e =
    let seen = c.act_told-told.ensures.seen in
    subst (λ s. RetiresAt c.args.self.now s.at) (sym seen)
    (seen-RetiresAt c.args.self.now c.act_told-told.ensures.before (ap (λ s. s.did) (sym seen) ∙ e))

pub returns-clause-still : goal.returns-clause-still
returns-clause-still g c e =
    let seen = c.act_told-told.ensures.seen in
    let same = seen-acted c.args.self.now c.act_told-told.ensures.before (ap (λ s. s.did) (sym seen) ∙ e) in
    c.count.ensures.state ∙ ap (λ m. with_turns (more m.turns 1) m) (c.act_told-told.ensures.state ∙ same)

pub returns-clause-inside : goal.returns-clause-inside
returns-clause-inside g c = StaysInside-safe _ c.act_told-told.ensures.before.sound c.act_told-told.ensures.before.safe
