use Rattle.std.proofs.Common.{subst}
use Rattle.capture_desk.specs.Desks.{Tells}
use Rattle.command_steps.proofs.outputs.finish.Goals as goal

pub returns-in-Ok : goal.returns-in-Ok
returns-in-Ok g c =
    let see = g.D.Desk.seen in
    let e = c.in-Ok.ensures in
    record {
      left = e.left;
      counts = e.counts;
      calls = subst (λ calls. Tells calls (see c.args.desk.now).calls (see c.deliver.new.desk).calls) e.calls.1 e.calls.2;
    }

pub returns-in-Err : goal.returns-in-Err
returns-in-Err g c = let e = c.in-Err.ensures in record { left = e.left; fault = e.counts; calls = e.calls }
