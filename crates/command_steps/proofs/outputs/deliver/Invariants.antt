use Rattle.std.proofs.Common.{All, drop}
use Rattle.capture_desk.specs.Desks.{IsAllowed}
use Rattle.command_steps.specs.Outputs.{files_of}
use Rattle.command_steps.proofs.Delivering.{IsUnderWay}
use Rattle.command_steps.proofs.outputs.deliver.Given as goal

abbrev pub invariant-loop-output : goal.invariant-loop-output
invariant-loop-output g l =
    record {
      allowed : All (λ output. IsAllowed output.name.now (g.D.Desk.seen l.desk).told.may_create) (drop l.output-index l.outputs);
      under_way :
          IsUnderWay (files_of g.C.Content.bytes l.outputs) (files_of g.C.Content.bytes (drop l.output-index l.outputs))
          (g.D.Desk.seen l.fn.desk)
          (g.D.Desk.seen l.desk);
    }
