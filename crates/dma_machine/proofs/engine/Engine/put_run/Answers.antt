use Rattle.std.proofs.Common.{length, ap, ◌∙◌}
use Rattle.page_table.specs.Blocks.{chunks_of}
use Rattle.machine_model.specs.Paths.{range_cause}
use Rattle.dma_machine.proofs.Asked.{part-written}
use Rattle.dma_machine.proofs.engine.Engine.put_run.Goals as goal

pub store_run_at-stored-requires : goal.store_run_at-stored-requires
store_run_at-stored-requires g c =
    ap (λ d. range_cause (chunks_of (g.R.Ram.memory c.args.self.now.ram)) d.address (length c.args.bytes.now)) c.demand_on-demand.ensures
    ∙ part-written _ c.args.q c.args.self.now.demands (length c.args.bytes.now) c.requires.asked c.requires.within
