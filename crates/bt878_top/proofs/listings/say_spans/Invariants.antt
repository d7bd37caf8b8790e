use Rattle.std.proofs.Common.{List, ℕ, drop, ◌≡◌, ◌++◌}
use Rattle.std.specs.List.{flat_map}
use Rattle.capture_desk.specs.Desks.{OnlySaid, after_say}
use Rattle.risc_listing.specs.Listings.{span_lines}
use Rattle.bt878_top.proofs.listings.say_spans.Given as goal

abbrev pub invariant-loop-number : goal.invariant-loop-number
invariant-loop-number g l =
    (said : List ℕ)
    × (said ++ flat_map span_lines (drop l.number l.spans) ≡ flat_map span_lines l.spans)
    × ((g.D.Desk.seen l.desk).told ≡ after_say said (g.D.Desk.seen l.fn.desk).told)
    × OnlySaid said (g.D.Desk.seen l.fn.desk) (g.D.Desk.seen l.desk)
