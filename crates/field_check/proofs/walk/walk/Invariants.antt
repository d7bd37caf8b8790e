use Rattle.std.proofs.Common.{◌≡◌, ◌-◌, ◌*◌}
use Rattle.check_model.specs.Checks.{walked}
use Rattle.field_check.specs.Tracks.{AreIn, CountUpTo, lefts}
use Rattle.field_check.specs.Walks.{plus}
use Rattle.field_check.proofs.walk.walk.Given as goal

abbrev pub invariant-loop-count : goal.invariant-loop-count
invariant-loop-count l = record {
  at : AreIn l.frame l.field l.plan l.tracks;
  few : CountUpTo l.tracks (65536 * l.count);
  same : plus l.count (walked (l.rounds - l.count) l.program l.frame l.field l.at (lefts l.plan l.tracks))
      ≡ walked l.rounds l.program l.frame l.field l.from (lefts l.plan l.fn.begin);
}
