use Rattle.std.proofs.Common.{length, drop, ◌-◌, ◌≡◌, ◌+◌, ◌*◌, ◌≤◌, ◌++◌, List, ℕ}
use Rattle.risc_listing.specs.Listings.{word_lines}
use Rattle.risc_listing.proofs.push_settled.Given as goal

abbrev pub invariant-loop-told : goal.invariant-loop-told
invariant-loop-told l =
    record {
      from : l.from ≤ l.told;
      within : l.told ≤ length l.words;
      lines : (later : List ℕ) → l.text.bytes ++ word_lines (l.base + 4 * l.told) 0 (drop l.told (l.words ++ later))
          ≡ l.fn.text.bytes ++ word_lines (l.base + 4 * l.from) 0 (drop l.from (l.words ++ later));
    }

abbrev pub decreases-loop-told : goal.decreases-loop-told
decreases-loop-told l = length l.words - l.told
