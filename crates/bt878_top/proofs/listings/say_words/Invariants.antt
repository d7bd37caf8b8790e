use Rattle.std.proofs.Common.{ℕ, List, length, drop, ◌-◌, ◌≡◌, ◌+◌, ◌*◌, ◌≤◌, ◌++◌}
use Rattle.capture_desk.specs.Desks.{OnlySaid, after_say}
use Rattle.risc_listing.specs.Listings.{word_lines}
use Rattle.bt878_top.proofs.listings.say_words.Given as goal

abbrev pub invariant-loop-next : goal.invariant-loop-next
invariant-loop-next g l =
    record {
      within : l.next ≤ length l.words;
      said : (said : List ℕ)
          × (said ++ word_lines (l.base + 4 * l.next) 0 (drop l.next l.words) ≡ word_lines l.base 0 l.words)
          × ((g.D.Desk.seen l.desk).told ≡ after_say said (g.D.Desk.seen l.fn.desk).told)
          × OnlySaid said (g.D.Desk.seen l.fn.desk) (g.D.Desk.seen l.desk);
    }

abbrev pub decreases-loop-next : goal.decreases-loop-next
decreases-loop-next g l = length l.words - l.next
