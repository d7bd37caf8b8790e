use Rattle.std.proofs.Common.{arith}
use Rattle.capture_desk.proofs.Hosts.{nothing_written}
use Rattle.capture_desk.proofs.system.OsDeskDesk.write.Goals as goal
use Rattle.capture_desk.proofs.system.OsDeskDesk.write.Goals.{in_default-write-via-in-Ok+else-written-gt0}
use Rattle.capture_desk.proofs.system.OsDeskDesk.write.Goals.{in_default-write-via-in_default-write}

-- a write of no bytes is a fault, and has changed nothing
pub returns-in_default-write-clause-appends : goal.returns-in_default-write-clause-appends
returns-in_default-write-clause-appends g c =
    elim c.in_default-write.branch [
      | in_default-write-via-in-Ok+else-written-gt0 w ↦ grind (arith, nothing_written)
      | in_default-write-via-in_default-write w ↦ grind arith
    ]
