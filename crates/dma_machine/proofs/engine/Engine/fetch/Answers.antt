use Rattle.std.proofs.Common.{◌∙◌, ap}
use Rattle.machine_model.specs.Paths.{fetch}
use Rattle.machine_model.specs.Turns.{fetched}
use Rattle.dma_machine.specs.Views.{state_of}
use Rattle.dma_machine.proofs.engine.Engine.fetch.Goals as goal

pub returns-in-Ok : goal.returns-in-Ok
returns-in-Ok g c =
    c.execute.ensures ∙ ap (λ reading. fetched reading (state_of g.R.Ram.memory c.args.self.now))
    (c.in-Ok.ensures.value ∙ ap (λ program. fetch program c.args.self.now.pc) c.program.ensures.value)
