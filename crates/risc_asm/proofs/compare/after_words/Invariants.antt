use Rattle.std.proofs.Common.{length, drop, ◌-◌, ◌≤◌, ◌+◌, ◌*◌}
use Rattle.risc_listing.specs.Listings.{word_lines}
use Rattle.risc_asm.proofs.Matching.{Matched}
use Rattle.risc_asm.proofs.compare.after_words.Given as goal

abbrev pub invariant-loop-next : goal.invariant-loop-next
invariant-loop-next l =
    record {
      within : l.next ≤ length l.words;
      matched : Matched (word_lines (l.base + 4 * l.from) 0 (drop l.from l.words))
          (word_lines (l.base + 4 * l.next) 0 (drop l.next l.words)) l.text l.rest;
    }

abbrev pub decreases-loop-next : goal.decreases-loop-next
decreases-loop-next l = length l.words - l.next
