use Rattle.std.proofs.Common.{ap, sym, ◌∙◌}
use Rattle.machine_model.specs.declared.Demand.{Demand}
use Rattle.machine_model.specs.Turns.{demand_on, judged}
use Rattle.sync_status.specs.Statuses.{kind_of, verdict_on}
use Rattle.dma_machine.specs.Views.{state_of}
use Rattle.dma_machine.proofs.WholeTakes.{plain_whole}
use Rattle.dma_machine.proofs.engine.Engine.meet_front.Goals as goal

pub returns-then-takes_whole-clause-state : goal.returns-then-takes_whole-clause-state
returns-then-takes_whole-clause-state g c =
    let m = c.args.self.now in
    let kind = kind_of c.args.entry.status in
    let demand = demand_on c.args.q m.demands in
    let whole =
    plain_whole kind c.demand_on-demand.result.needs_sol c.part-part.result c.demand_on-demand.result.rest
    (sym c.takes_whole.ensures ∙ c.if-takes_whole.true) in
    let verdict =
    sym whole.verdict
    ∙ ap (λ (d : Demand). verdict_on kind d.needs_sol c.part-part.result d.rest) c.demand_on-demand.ensures
    ∙ ap (λ taken. verdict_on kind demand.needs_sol taken demand.rest) c.part-part.ensures.part
    in
    c.take.ensures.state ∙ ap (λ v. judged v c.args.q m.instr m.demands c.args.entry (state_of g.R.Ram.memory m)) verdict
