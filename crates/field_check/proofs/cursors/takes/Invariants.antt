use Rattle.std.proofs.Common.{◌≡◌, ◌+◌, ◌-◌, ◌<◌, ◌≤◌, ◌^◌, List, drop}
use Rattle.std.specs.Prelude.{IfSome, IsTrue}
use Rattle.field_law.specs.Sections.{Ask, ask_of}
use Rattle.check_model.specs.ByBytes.{bytes_asked}
use Rattle.check_model.specs.Checks.{first_unlike}
use Rattle.field_check.specs.Cursors.{CountsMore, Fits, IsAt, left_of}
use Rattle.field_check.proofs.cursors.takes.Given as goal

abbrev pub invariant-loop-more : goal.invariant-loop-more
invariant-loop-more l = record {
  fits : Fits l.plan l.q l.track.cursor;
  some : IsTrue l.more.needs_sol → 0 < l.more.rest;
  below : IfSome l.more.address (λ at. at + l.more.rest < 2 ^ 40);
  less : l.more.rest ≤ l.fn.asked.rest;
  unlike : first_unlike (bytes_asked (ask_of l.more)) (left_of l.plan l.q l.track.cursor)
      ≡ first_unlike (bytes_asked (ask_of l.fn.asked)) (left_of l.plan l.q l.fn.track.cursor);
  left : drop l.more.rest (left_of l.plan l.q l.track.cursor) ≡ drop l.fn.asked.rest (left_of l.plan l.q l.fn.track.cursor);
  at : (full : List Ask) → IsAt full l.plan l.q l.fn.track → IsAt full l.plan l.q l.track;
  few : CountsMore l.fn.track l.track (l.fn.asked.rest - l.more.rest);
}

abbrev pub decreases-loop-more : goal.decreases-loop-more
decreases-loop-more l = l.more.rest
