use Rattle.std.proofs.Common.{length, ◌+◌, ◌-◌, ◌≡◌, ◌≤◌, ◌++◌, [], take}
use Rattle.capture_desk.specs.Desks.{after_read}
use Rattle.command_steps.specs.Inputs.{Always, OfRest, SameCounts}
use Rattle.command_steps.proofs.Taking.{ReadSoFar}
use Rattle.command_steps.proofs.read.keep_rest.Given as goal

abbrev pub invariant-loop-at : goal.invariant-loop-at
invariant-loop-at g l =
    record {
      within : l.at ≤ l.most + 1;
      told : (g.D.Desk.seen l.desk).told ≡ after_read l.at (g.D.Desk.seen l.fn.desk).told;
      taken : OfRest (g.D.Desk.seen l.fn.desk).told.rest
          (λ rest. (l.at ≤ length rest) × (g.K.Keeps.kept l.keeper ≡ g.K.Keeps.kept l.fn.keeper ++ take l.at rest));
      counts : SameCounts (g.D.Desk.seen l.fn.desk) (g.D.Desk.seen l.desk);
      calls : ReadSoFar (λ at. Always []) l.most l.at (g.D.Desk.seen l.fn.desk) (g.D.Desk.seen l.desk);
    }

abbrev pub decreases-loop-at : goal.decreases-loop-at
decreases-loop-at g l = l.most + 1 - l.at
