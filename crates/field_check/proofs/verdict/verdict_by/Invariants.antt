use Rattle.std.proofs.Common.{◌≡◌, ◌-◌, length}
use Rattle.machine_model.specs.Paths.{all_words, path}
use Rattle.check_model.specs.Verdicts.{verdict}
use Rattle.field_check.specs.Walks.{chosen_from, said_from}
use Rattle.field_check.proofs.verdict.verdict_by.Given as goal

abbrev pub invariant-loop-place : goal.invariant-loop-place
invariant-loop-place l = record {
  at : l.at ≡ (path l.accepted l._place).pc;
  same : chosen_from l.accepted l.field l.first (said_from l.accepted l.frame l.field l._place (length (all_words l.accepted) - l._place))
      ≡ verdict l.accepted l.frame l.field;
}
