use Rattle.std.proofs.Common.{length, ap, ◌∙◌, arith}
use Rattle.page_table.specs.Blocks.{chunks_of}
use Rattle.machine_model.specs.Paths.{range_cause, demands_cause}
use Rattle.machine_model.specs.Turns.{stores_at}
use Rattle.dma_machine.proofs.Asked.{part-written, rest-granted}
use Rattle.dma_machine.proofs.engine.Engine.put_down.Goals as goal

pub store_at-stored-requires-clause-granted : goal.store_at-stored-requires-clause-granted
store_at-stored-requires-clause-granted g c =
    ap (λ d. range_cause (chunks_of (g.R.Ram.memory c.args.self.now.ram)) d.address (length c.args.bytes.now)) c.demand_on-demand.ensures
    ∙ part-written _ c.args.q c.args.self.now.demands (length c.args.bytes.now)
    (omega (arith, c.requires.all, c.requires.asked)) c.requires.within

pub returns-clause-within : goal.returns-clause-within
returns-clause-within g c =
    ap (demands_cause (chunks_of (g.R.Ram.memory c.store_at-stored.new.ram))) c.lessen.ensures
    ∙ rest-granted _ _ (stores_at c.demand_on-demand.result.address c.args.self.now.off c.args.lane c.args.bytes.now)
    c.args.q c.args.self.now.demands c.from.result c.store_at-stored.ensures.memory
    (omega (arith, c.from.ensures, c.requires.asked)) c.requires.within
