use Rattle.std.proofs.Common.{slice_index, replicate, sym, ap, subst, ◌∙◌}
use Rattle.fifo_model.specs.declared.Queue.TheVariants.{One, Two, Three}
use Rattle.machine_model.specs.PlainEntries.{plain_entry}
use Rattle.machine_model.specs.States.{State}
use Rattle.machine_model.specs.Steps.{Push, run}
use Rattle.dma_machine.specs.Stills.{StandsAs}
use Rattle.dma_machine.specs.Views.{state_of}
use Rattle.dma_machine.proofs.LostPushes.{any_order, three_pushed}
use Rattle.dma_machine.proofs.Machine.push_lost.Goals as goal

pub invariant_of-self : goal.invariant_of-self
invariant_of-self g c = (
  three_pushed (slice_index c.args.lost 0) (slice_index c.args.lost 1) (slice_index c.args.lost 2)
      (state_of g.R.Ram.memory c.self.inside.engine) _ _ _
      c.lose_times.ensures.state c.lose_times-2.ensures.state c.lose_times-3.ensures.state c.self.invariant.0,
  subst (λ noted. StandsAs noted (state_of g.R.Ram.memory c.lose_times-3.new.self)) (sym c.lose_times-3.ensures.stands) tt,
)

pub returns-clause-state : goal.returns-clause-state
returns-clause-state g c = λ entries is.
    let three = replicate (slice_index c.args.lost 2) (Push Three (plain_entry 0)) in
    let two = replicate (slice_index c.args.lost 1) (Push Two (plain_entry 0)) in
    let one = replicate (slice_index c.args.lost 0) (Push One (plain_entry 0)) in
    c.lose_times-3.ensures.state
    ∙ ap (λ (x : State). run x three) (c.lose_times-2.ensures.state ∙ ap (λ (x : State). run x two) c.lose_times.ensures.state)
    ∙ ap (λ (x : State). run (run (run x one) two) three) c.self.view_is
    ∙ any_order c.args.lost (plain_entry 0) c.args.self.now c.requires entries is

pub returns-clause-facts : goal.returns-clause-facts
returns-clause-facts g c = (invariant_of-self g c).0
