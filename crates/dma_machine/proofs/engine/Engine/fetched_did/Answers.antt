use Rattle.std.proofs.Common.{◌∙◌, ap}
use Rattle.machine_model.specs.Paths.{fetch}
use Rattle.machine_model.specs.Seen.{fetched_did}
use Rattle.dma_machine.proofs.engine.Engine.fetched_did.Goals as goal

pub returns-in-Ok : goal.returns-in-Ok
returns-in-Ok g c =
    c.instr_did.ensures ∙ ap (λ reading. fetched_did reading c.args.self.now.skipping)
    (c.in-Ok.ensures.value ∙ ap (λ program. fetch program c.args.self.now.pc) c.program.ensures.value)
