use Rattle.std.proofs.Common.{arith}
use Rattle.machine_model.specs.Steps.{push}
use Rattle.dma_machine.proofs.Turns.{first_counted}
use Rattle.dma_machine.proofs.Machine.push_through.Goals as goal

pub returns-then-count-gt0-clause-state : goal.returns-then-count-gt0-clause-state
returns-then-count-gt0-clause-state g c =
    first_counted c.args.count
    (push c.args.q c.args.e c.args.self.now) c.fall_through.new.self c.count.new.self c.act_all.new.self c.if-count-gt0.true
    (omega (arith, c.count.ensures.few)) c.fall_through.ensures.state c.count.ensures.state c.act_all.ensures.state
