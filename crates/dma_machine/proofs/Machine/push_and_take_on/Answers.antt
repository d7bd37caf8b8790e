use Rattle.std.proofs.Common.{ap, subst, sym, ◌∙◌}
use Rattle.fifo_model.specs.Queues.{more}
use Rattle.machine_model.specs.Seen.{seen}
use Rattle.machine_model.specs.Steps.{push}
use Rattle.dma_machine.specs.Counts.{with_turns}
use Rattle.dma_machine.specs.FallThrough.{MovesWhole}
use Rattle.dma_machine.specs.Views.{state_of}
use Rattle.dma_machine.proofs.Counting.{acted-counted}
use Rattle.dma_machine.proofs.FallThrough.{falls_seen}
use Rattle.dma_machine.proofs.Machine.push_and_take_on.Goals as goal

pub returns-then-falls-clause-taken : goal.returns-then-falls-clause-taken
returns-then-falls-clause-taken g c e =
    c.count.ensures.state ∙ ap (λ m. with_turns (more m.turns 1) m) c.fall_through.ensures.state
    ∙ acted-counted (push c.args.q c.args.e c.args.self.now)

pub returns-then-falls-clause-seen : goal.returns-then-falls-clause-seen
returns-then-falls-clause-seen g c e =
    subst (λ m. MovesWhole c.args.q (seen (push c.args.q c.args.e m))) c.self.view_is
    (falls_seen c.args.q c.args.e (state_of g.R.Ram.memory c.self.inside.engine) c.self.invariant.0.safe.orderly.queues
    (sym c.falls_through-falls.ensures ∙ e))
