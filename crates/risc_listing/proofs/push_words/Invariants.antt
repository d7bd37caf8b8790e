use Rattle.std.proofs.Common.{length, drop, ◌-◌, ◌≡◌, ◌<◌, ◌+◌, ◌*◌, ◌≤◌, ◌++◌, ◌⊎◌}
use Rattle.risc_listing.specs.Listings.{word_lines}
use Rattle.risc_listing.proofs.push_words.Given as goal

abbrev pub invariant-loop-next : goal.invariant-loop-next
invariant-loop-next l =
    record {
      from : l.from ≤ l.next;
      within : l.next ≤ length l.words;
      more : (l.text ≡ l.fn.text) ⊎ (l.from < l.next);
      lines : l.text.bytes ++ word_lines (l.base + 4 * l.next) 0 (drop l.next l.words)
          ≡ l.fn.text.bytes ++ word_lines (l.base + 4 * l.from) 0 (drop l.from l.words);
    }

abbrev pub decreases-loop-next : goal.decreases-loop-next
decreases-loop-next l = length l.words - l.next
