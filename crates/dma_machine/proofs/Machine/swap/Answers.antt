use Rattle.std.proofs.Common.{sym, subst}
use Rattle.machine_model.specs.Paths.{IsProgram}
use Rattle.machine_model.specs.Steps.{with_program}
use Rattle.dma_machine.specs.Facts.{IsMachine}
use Rattle.dma_machine.specs.Looks.{CanGoOn}
use Rattle.dma_machine.specs.Stills.{StandsAs}
use Rattle.dma_machine.specs.Views.{state_of}
use Rattle.dma_machine.proofs.Machines.{IsMachine-program}
use Rattle.dma_machine.proofs.Standing.{StandsAs-program}
use Rattle.dma_machine.proofs.Machine.swap.Goals as goal

pub invariant_of-self : goal.invariant_of-self
invariant_of-self g c =
    let here = state_of g.R.Ram.memory c.self.inside.engine in
    let made = subst IsProgram c.program.ensures.value c.base-base.ensures.made in
    let can = subst (CanGoOn c.args.other.now) (sym c.self.view_is) c.requires in
    subst (λ program. IsMachine (with_program program here) × StandsAs c.self.inside.engine.standing (with_program program here))
    (sym c.swap.ensures.x_after) (
      IsMachine-program c.args.other.now here made c.program.ensures.sound can c.self.invariant.0.room,
      StandsAs-program c.args.other.now _ here c.self.invariant.1,
    )

pub returns-clause-facts : goal.returns-clause-facts
returns-clause-facts g c = (invariant_of-self g c).0
