use Rattle.std.proofs.Common.{◌∙◌, ap, sym, arith}
use Rattle.dma_machine.specs.Counts.{acted_times}
use Rattle.dma_machine.proofs.Turns.{run_counted}
use Rattle.dma_machine.proofs.Machine.turns.Goals as goal

pub returns-clause-state : goal.returns-clause-state
returns-clause-state g c =
    c.act_all.ensures.state ∙ ap (acted_times c.args.count) c.count.ensures.state
    ∙ sym (run_counted c.args.count c.args.self.now (omega (arith, c.count.ensures.few)))
