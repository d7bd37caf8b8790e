-- Chunks in rising order.
use Rattle.std.proofs.Common.{◌≡◌, ℕ, zero, suc, ◌+◌, ◌≤◌, ◌<◌, false, List, [], ◌∷◌, length, get_or, drop, refl, arith}
use Rattle.std.proofs.lemmas.Bool.{or_from, and_left, lt-leb}
use Rattle.std.specs.List.Sorted.{IsNonDecreasingBy}
use Rattle.page_table.specs.Grants.{Chunk, AreRising, covers, granted}
use Rattle.page_table.specs.Taken.{listed}

-- they rise from an earlier address on too
pub rising_from : (from to : ℕ) (chunks : List Chunk) → to ≤ from → AreRising from chunks → AreRising to chunks
rising_from from to [] earlier rising = tt
rising_from from to (c ∷ rest) earlier rising = (omega arith, rising.1, rising.2)

-- no address below the first chunk is granted
pub none_below : (from : ℕ) (chunks : List Chunk) (address : ℕ) → AreRising from chunks → address < from → granted chunks address ≡ false
none_below from [] address rising below = refl
none_below from (c ∷ rest) address rising below =
    or_from (covers c address) (granted rest address) (and_left _ _ (lt-leb c.at address (omega arith)))
    (none_below (c.at + c.len) rest address rising.2 (omega arith))

-- a part at the end rises too
pub rising-drop : (from n : ℕ) (pairs : List (ℕ × ℕ)) → AreRising from (listed pairs) → AreRising from (listed (drop n pairs))
rising-drop from zero pairs rising = rising
rising-drop from (suc n) [] rising = tt
rising-drop from (suc n) (pair ∷ rest) rising =
    rising-drop from n rest (rising_from (pair.0 + pair.1) from (listed rest) (omega arith) rising.2)

-- the ends rise too
abbrev pub pair_end : ℕ × ℕ → ℕ
pair_end pair = pair.0 + pair.1

le-pair_end : (from : ℕ) (pairs : List (ℕ × ℕ)) (j : ℕ) (d : ℕ × ℕ) → AreRising from (listed pairs) → j < length pairs →
    from ≤ pair_end (get_or pairs j d)
le-pair_end from [] j d rising within = absurd (omega arith)
le-pair_end from (pair ∷ rest) zero d rising within = omega arith
le-pair_end from (pair ∷ rest) (suc j) d rising within =
    let later = le-pair_end (pair.0 + pair.1) rest j d rising.2 (omega arith) in omega arith

pub ends_rise : (from : ℕ) (pairs : List (ℕ × ℕ)) → AreRising from (listed pairs) → IsNonDecreasingBy pair_end pairs
ends_rise from [] rising i j d order within = absurd (omega arith)
ends_rise from (pair ∷ rest) rising zero zero d order within = omega arith
ends_rise from (pair ∷ rest) rising zero (suc j) d order within =
    le-pair_end (pair.0 + pair.1) rest j d rising.2 (omega arith)
ends_rise from (pair ∷ rest) rising (suc i) zero d order within = absurd (omega arith)
ends_rise from (pair ∷ rest) rising (suc i) (suc j) d order within =
    ends_rise (pair.0 + pair.1) rest rising.2 i j d (omega arith) (omega arith)
