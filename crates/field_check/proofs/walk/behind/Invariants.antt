use Rattle.std.proofs.Common.{◌≡◌, ◌-◌}
use Rattle.check_model.specs.Checks.{behind}
use Rattle.field_check.proofs.walk.behind.Given as goal

abbrev pub invariant-loop-round : goal.invariant-loop-round
invariant-loop-round l = behind (l.rounds - l._round) l.program l.at ≡ behind l.rounds l.program l.from
