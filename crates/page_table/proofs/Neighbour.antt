-- Chunks kept in a map by their addresses: whether a further one shares a byte with some of them
-- shows at the last of them that begins before its end.
use Rattle.std.proofs.Common.{◌≡◌, ℕ, ◌+◌, ◌≤◌, Bool, true, false, List, [], ◌∷◌, ◌++◌, length, length-append, refl, sym, ap, ◌∙◌, arith}
use Rattle.std.proofs.Common.{⊎_elim}
use Rattle.std.proofs.lemmas.Bool.{ltb-false, le-ltb, or_parts, and_right, cond-true, cond-false, cases_Bool, or_from}
use Rattle.std.proofs.lemmas.Bool.Decides.{nat_tests}
use Rattle.std.specs.List.{list_any, filter}
use Rattle.std.specs.Prelude.{nat_lt}
use Rattle.std.specs.Ordering.{nat_cmp}
use Rattle.std.specs.BTreeMap.{insert_entry}
use Rattle.std.specs.BTreeMap.Range.{range_contains}
use Rattle.std.specs.declared.ops.Bound.TheVariants.{Included, Unbounded}
use Rattle.page_table.specs.Grants.{Chunk, chunk, IsChunk, AreRising}
use Rattle.page_table.specs.Taken.{listed, pair_chunk, shares, placed}
use Rattle.page_table.proofs.Placing.{stand_apart}

-- an insertion into the map places the chunk
pub listed-insert_entry : (at len from : ℕ) (pairs : List (ℕ × ℕ)) → IsChunk (chunk at len) → AreRising from (listed pairs) →
    list_any (shares (chunk at len)) (listed pairs) ≡ false →
    listed (insert_entry nat_cmp pairs at len) ≡ placed (chunk at len) (listed pairs)
listed-insert_entry at len from [] good rising apart = refl
listed-insert_entry at len from (e ∷ rest) good rising apart =
    let c : Chunk = chunk at len in
    let parts = or_parts (shares c (pair_chunk e)) (list_any (shares c) (listed rest)) apart in
    let sides = stand_apart c (pair_chunk e) parts.0 in
    let more = listed-insert_entry at len (e.0 + e.1) rest good rising.2 parts.1 in
    let some = good.some in
    let other = rising.1.some in
    grind (arith, nat_tests)

module _ (c : Chunk) (last : ℕ) (ends : last + 1 ≡ c.at + c.len) where
  -- whether an entry begins before the chunk's end
  abbrev pub begins : ℕ × ℕ → Bool
  begins e = range_contains nat_cmp Unbounded (Included last) e.0

  begins_is : (e : ℕ × ℕ) → begins e ≡ nat_lt e.0 (c.at + c.len)
  begins_is e = grind (arith, nat_tests)

  none_begin : (from : ℕ) (pairs : List (ℕ × ℕ)) → c.at + c.len ≤ from → AreRising from (listed pairs) → filter begins pairs ≡ []
  none_begin from [] later rising = refl
  none_begin from (e ∷ rest) later rising =
      let no : begins e ≡ false = begins_is e ∙ le-ltb _ _ (omega arith) in
      cond-false (begins e) _ _ no ∙ none_begin (e.0 + e.1) rest (omega arith) rising.2

  pub none_share : (pairs : List (ℕ × ℕ)) → filter begins pairs ≡ [] → list_any (shares c) (listed pairs) ≡ false
  none_share [] none = refl
  none_share (e ∷ rest) none =
      ⊎_elim
      (λ yes_e. let more : e ∷ filter begins rest ≡ [] = sym (cond-true (begins e) _ _ yes_e) ∙ none in cc)
      (λ no_e.
      let more : filter begins rest ≡ [] = sym (cond-false (begins e) _ _ no_e) ∙ none in
      or_from (shares c (pair_chunk e)) (list_any (shares c) (listed rest)) (and_right _ _ (sym (begins_is e) ∙ no_e))
      (none_share rest more))
      (cases_Bool (begins e))

  pub last_shares : (from : ℕ) (pairs front : List (ℕ × ℕ)) (e : ℕ × ℕ) → AreRising from (listed pairs) →
      filter begins pairs ≡ front ++ e ∷ [] → (list_any (shares c) (listed pairs) ≡ nat_lt c.at (e.0 + e.1)) × (from ≤ e.0)
  last_shares from [] front e rising is =
      let lengths : 0 ≡ length front + 1 = ap length is ∙ length-append front (e ∷ []) in
      absurd (omega arith)
  last_shares from (x ∷ rest) [] e rising is =
      ⊎_elim
      (λ yes_x.
      let whole : x ∷ filter begins rest ≡ e ∷ [] = sym (cond-true (begins x) _ _ yes_x) ∙ is in
      let same : x ≡ e = cc in
      let none : filter begins rest ≡ [] = cc in
      let within : nat_lt x.0 (c.at + c.len) ≡ true = sym (begins_is x) ∙ yes_x in
      let others = none_share rest none in
      let same_at : x.0 ≡ e.0 = ap (λ (z : ℕ × ℕ). z.0) same in
      let same_len : x.1 ≡ e.1 = ap (λ (z : ℕ × ℕ). z.1) same in
      (grind (arith, within, others), omega arith))
      (λ no_x.
      let later : c.at + c.len ≤ x.0 + x.1 = omega (arith, ltb-false _ _ (sym (begins_is x) ∙ no_x)) in
      let whole : filter begins rest ≡ e ∷ [] = sym (cond-false (begins x) _ _ no_x) ∙ is in
      let none = none_begin (x.0 + x.1) rest later rising.2 in
      let two : [] ≡ e ∷ [] = sym none ∙ whole in
      cc)
      (cases_Bool (begins x))
  last_shares from (x ∷ rest) (y ∷ front) e rising is =
      ⊎_elim
      (λ yes_x.
      let whole : x ∷ filter begins rest ≡ y ∷ (front ++ e ∷ []) = sym (cond-true (begins x) _ _ yes_x) ∙ is in
      let after : filter begins rest ≡ front ++ e ∷ [] = cc in
      let more = last_shares (x.0 + x.1) rest front e rising.2 after in
      (grind (arith, nat_tests, more), omega arith))
      (λ no_x.
      let later : c.at + c.len ≤ x.0 + x.1 = omega (arith, ltb-false _ _ (sym (begins_is x) ∙ no_x)) in
      let whole : filter begins rest ≡ y ∷ (front ++ e ∷ []) = sym (cond-false (begins x) _ _ no_x) ∙ is in
      let none = none_begin (x.0 + x.1) rest later rising.2 in
      let two : [] ≡ y ∷ (front ++ e ∷ []) = sym none ∙ whole in
      cc)
      (cases_Bool (begins x))
