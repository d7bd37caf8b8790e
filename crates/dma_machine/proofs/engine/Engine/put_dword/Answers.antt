use Rattle.std.proofs.Common.{◌≡◌, Some, None, length, sym, ap, ◌∙◌, arith}
use Rattle.fifo_model.specs.Queues.{more}
use Rattle.page_table.specs.Blocks.{chunks_of}
use Rattle.machine_model.specs.Paths.{range_cause}
use Rattle.machine_model.specs.Turns.{demand_on, with_demand}
use Rattle.machine_model.proofs.Demanded.{written-IsRange}
use Rattle.dma_machine.specs.Views.{job_of, state_of}
use Rattle.dma_machine.proofs.Asked.{part-written}
use Rattle.dma_machine.proofs.OpenFalls.{dword_put, less_at, less_none}
use Rattle.dma_machine.proofs.WholeBursts.{count_at, put_at}
use Rattle.dma_machine.proofs.engine.Engine.put_dword.Goals as goal

pub store_run-requires-clause-granted : goal.store_run-requires-clause-granted
store_run-requires-clause-granted g c =
    let m = c.args.self.now in
    let grants = chunks_of (g.R.Ram.memory m.ram) in
    let address : (demand_on c.args.q m.demands).address ≡ Some c.in-Some.at =
    ap (λ d. d.address) (sym c.demand_on-demand.ensures) ∙ c.in-Some.is in
    let range : range_cause grants (Some c.in-Some.at) (length c.args.bytes.now) ≡ None =
    ap (λ a. range_cause grants a (length c.args.bytes.now)) (sym address)
    ∙ part-written grants c.args.q m.demands (length c.args.bytes.now) (omega (arith, c.requires.four, c.requires.asked))
    c.requires.within in
    (written-IsRange grants c.in-Some.at (length c.args.bytes.now) range).whole

pub returns-in-Some-clause-state : goal.returns-in-Some-clause-state
returns-in-Some-clause-state g c =
    let m = c.args.self.now in
    let before = state_of g.R.Ram.memory m in
    let address : (demand_on c.args.q m.demands).address ≡ Some c.in-Some.at =
    ap (λ d. d.address) (sym c.demand_on-demand.ensures) ∙ c.in-Some.is in
    dword_put c.args.q m.instr m.demands c.set_demand.new.demands
    (job_of m.phase m.wait m.instr c.set_demand.new.demands) (g.R.Ram.memory c.store_run.new.self) c.saturating_add-moved.result
    c.args.bytes.now before (sym m.lanes ∙ c.requires.on)
    (ap (λ phase. job_of phase m.wait m.instr c.set_demand.new.demands) c.requires.running)
    (c.set_demand.ensures
    ∙ ap (λ d. with_demand c.args.q d m.demands)
    (less_at c.demand_on-demand.result (demand_on c.args.q m.demands) c.in-Some.at c.demand_on-demand.ensures c.in-Some.is))
    (c.store_run.ensures ∙ ap (λ a. put_at before.memory a c.args.bytes.now) (sym address))
    (c.saturating_add-moved.ensures ∙ ap (more m.moved) (sym (ap (λ a. count_at a c.args.bytes.now) address ∙ c.requires.four)))

pub returns-in-None-clause-state : goal.returns-in-None-clause-state
returns-in-None-clause-state g c =
    let m = c.args.self.now in
    let before = state_of g.R.Ram.memory m in
    let address : (demand_on c.args.q m.demands).address ≡ None =
    ap (λ d. d.address) (sym c.demand_on-demand.ensures) ∙ c.in-None.is in
    dword_put c.args.q m.instr m.demands c.set_demand-in-None.new.demands
    (job_of m.phase m.wait m.instr c.set_demand-in-None.new.demands) (g.R.Ram.memory m.ram) m.moved
    c.args.bytes.now before (sym m.lanes ∙ c.requires.on)
    (ap (λ phase. job_of phase m.wait m.instr c.set_demand-in-None.new.demands) c.requires.running)
    (c.set_demand-in-None.ensures
    ∙ ap (λ d. with_demand c.args.q d m.demands)
    (less_none c.demand_on-demand.result (demand_on c.args.q m.demands) c.demand_on-demand.ensures c.in-None.is))
    (ap (λ a. put_at before.memory a c.args.bytes.now) (sym address))
    ((let small : m.moved ≡ more m.moved 0 = omega arith in small)
    ∙ ap (more m.moved) (sym (ap (λ a. count_at a c.args.bytes.now) address)))
