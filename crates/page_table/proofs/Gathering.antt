-- How far a list of chunks has been put into rising order.
use Rattle.std.proofs.Common.{◌≡◌, ◌↔◌, ℕ, ◌+◌, ◌%◌, ◌≤◌, ◌<◌, Bool, true, false, not, List, [], ◌∷◌, ◌++◌, length, length-append, get_or}
use Rattle.std.proofs.Common.{take, drop, subst, refl, sym, ap, ◌∙◌, arith, ⊎_elim, Some, None, Option, Ok, append_assoc}
use Rattle.std.proofs.lemmas.Bool.{and_left, and_parts, le-ltb, or_from, cases_Bool, cond-false, cond-true, ltb-true, ltb-false, leb-true}
use Rattle.std.proofs.lemmas.Bool.{eqb-true, not-false, not-true}
use Rattle.std.proofs.lemmas.List.Sums.{sum_by-append, prefix_len_passes}
use Rattle.std.proofs.lemmas.List.Folds.{list_any-append}
use Rattle.std.proofs.Math.ListN.{get_or-map}
use Rattle.std.proofs.lemmas.List.{append-nil, drop_more, map_more, length-map}
use Rattle.std.specs.Ordering.{nat_cmp}
use Rattle.std.specs.BTreeMap.{insert_entry}
use Rattle.std.specs.List.{list_any, position, position_or_len, All}
use Rattle.std.specs.Prelude.{nat_lt}
use Rattle.page_table.specs.Grants.{Chunk, IsChunk, AreRising, total}
use Rattle.page_table.specs.Taken.{shares, placed, all_placed, in_order, first_shared, is_aligned, listed, pair_chunk, unless_shared}
use Rattle.page_table.proofs.Neighbour.{listed-insert_entry}
use Rattle.page_table.proofs.Placing.{length-placed, total-placed, total-cons, list_any-placed, placed_rising}

-- where no element is found, each one fails the test
pub none_found : {X : Type 0} (good : X → Bool) (xs : List X) → position (λ x. not (good x)) xs ≡ None → All (λ x. good x ≡ true) xs
none_found {X = X} good xs none k d within =
    let bad = λ (x : X). not (good x) in
    ⊎_elim
    (λ yes. let some : Some (position_or_len bad xs) ≡ None =
    sym (cond-true (nat_lt (position_or_len bad xs) (length xs)) (Some (position_or_len bad xs)) None yes) ∙ none in cc)
    (λ no.
    let all : length xs ≤ position_or_len bad xs = ltb-false _ _ no in
    not-false (good (get_or xs k d))
    (not-true (not (good (get_or xs k d))) (prefix_len_passes (λ (x : X). not (bad x)) xs k d (omega arith))))
    (cases_Bool (nat_lt (position_or_len bad xs) (length xs)))

pub chunk_from_test : (c : Chunk) → is_aligned c ≡ true → IsChunk c
chunk_from_test c test =
    let three = and_parts _ _ test in
    let two = and_parts _ _ three.0 in
    let one = and_parts _ _ two.0 in
    let at : c.at % 4 ≡ 0 = eqb-true _ _ one.0 in
    let len : c.len % 4 ≡ 0 = eqb-true _ _ one.1 in
    let some : 0 < c.len = ltb-true _ _ two.1 in
    record { at_aligned = at; len_aligned = len; some = omega arith; ends = leb-true _ _ three.1 }

-- of all chunks the earlier ones are in rising order, and the rest is still to come
pub record IsGathered (rising earlier rest all : List Chunk) : Type 0 where
  pub order : all_placed rising rest ≡ in_order all
  pub first : first_shared earlier rest ≡ first_shared [] all
  pub same : (c : Chunk) → list_any (shares c) rising ≡ list_any (shares c) earlier
  pub rises : AreRising 0 rising
  pub count : length rising ≡ length earlier
  pub bytes : total rising ≡ total earlier

pub none_gathered : (all : List Chunk) → IsGathered [] [] all all
none_gathered all = record { order = refl; first = refl; same = λ _. refl; rises = tt; count = refl; bytes = refl }

pub one_more : (rising earlier rest all : List Chunk) (c : Chunk) → IsGathered rising earlier (c ∷ rest) all → IsChunk c →
    list_any (shares c) rising ≡ false → IsGathered (placed c rising) (earlier ++ c ∷ []) rest all
one_more rising earlier rest all c so_far good apart =
    let apart_too : list_any (shares c) earlier ≡ false = sym (so_far.same c) ∙ apart in
    record {
      order = so_far.order;
      first = sym (cond-false _ _ _ apart_too) ∙ so_far.first;
      same =
          λ d. let old = so_far.same d in
          let new = list_any-placed (shares d) c rising in
          let last = list_any-append (shares d) earlier (c ∷ []) in
          grind (arith, old, new, last);
      rises = placed_rising c 0 rising good (omega arith) so_far.rises apart;
      count = let new = length-placed c rising in let last = length-append earlier (c ∷ []) in let old = so_far.count in omega arith;
      bytes =
          let new = total-placed c rising in
          let last = sum_by-append (λ (d : Chunk). d.len) earlier (c ∷ []) in
          let one = total-cons c [] in
          let old = so_far.bytes in
          omega arith;
    }

-- the same over pairs, of which i are done
pub pair_chunk_at : (pairs : List (ℕ × ℕ)) (i : ℕ) → All (λ c. is_aligned c ≡ true) (listed pairs) → i < length pairs →
    IsChunk (pair_chunk (get_or pairs i (0, 0)))
pair_chunk_at pairs i aligned within =
    let there : i < length (listed pairs) = subst (λ (n : ℕ). i < n) (sym (length-map pairs pair_chunk)) within in
    let same : get_or (listed pairs) i (pair_chunk (0, 0)) ≡ pair_chunk (get_or pairs i (0, 0)) = get_or-map pair_chunk pairs i (0, 0) in
    chunk_from_test _ (subst (λ (c : Chunk). is_aligned c ≡ true) same (aligned i (pair_chunk (0, 0)) there))

pub one_more_pair : (entries pairs : List (ℕ × ℕ)) (i : ℕ) → All (λ c. is_aligned c ≡ true) (listed pairs) → i < length pairs →
    IsGathered (listed entries) (listed (take i pairs)) (listed (drop i pairs)) (listed pairs) →
    list_any (shares (pair_chunk (get_or pairs i (0, 0)))) (listed entries) ≡ false →
    IsGathered (listed (insert_entry nat_cmp entries (get_or pairs i (0, 0)).0 (get_or pairs i (0, 0)).1)) (listed (take (i + 1) pairs))
    (listed (drop (i + 1) pairs)) (listed pairs)
one_more_pair entries pairs i aligned within so_far apart =
    let pair = get_or pairs i (0, 0) in
    let good = pair_chunk_at pairs i aligned within in
    let placing = listed-insert_entry pair.0 pair.1 0 entries good so_far.rises apart in
    let before : listed (take (i + 1) pairs) ≡ listed (take i pairs) ++ pair_chunk pair ∷ [] = map_more pair_chunk pairs i (0, 0) within in
    let after : listed (drop i pairs) ≡ pair_chunk pair ∷ listed (drop (i + 1) pairs) = ap listed (drop_more pairs i (0, 0) within) in
    let here : IsGathered (listed entries) (listed (take i pairs)) (pair_chunk pair ∷ listed (drop (i + 1) pairs)) (listed pairs) = subst
    (λ (rest : List Chunk). IsGathered (listed entries) (listed (take i pairs)) rest (listed pairs)) after so_far in
    let done =
    one_more (listed entries) (listed (take i pairs)) (listed (drop (i + 1) pairs)) (listed pairs) (pair_chunk pair) here good apart in
    rw (placing, before) done

-- chunks that rise as they are are in order, and share no byte

-- those before them end where they begin, or earlier
abbrev pub EndBy : ℕ → List Chunk → Type 0
EndBy from [] = Unit {0}
EndBy from (d ∷ rest) = (d.at + d.len ≤ from) × EndBy from rest

placed_last : (c : Chunk) (from : ℕ) (front : List Chunk) → EndBy from front → from ≤ c.at → placed c front ≡ front ++ c ∷ []
placed_last c from [] ends later = refl
placed_last c from (d ∷ rest) ends later =
    cond-false (nat_lt c.at d.at) _ _ (le-ltb _ _ (omega (arith, ends.0)))
    ∙ ap (λ (cs : List Chunk). d ∷ cs) (placed_last c from rest ends.1 later)

none_before : (c : Chunk) (from : ℕ) (front : List Chunk) → EndBy from front → from ≤ c.at → list_any (shares c) front ≡ false
none_before c from [] ends later = refl
none_before c from (d ∷ rest) ends later =
    let apart : d.at + d.len ≤ c.at = omega (arith, ends.0) in
    or_from (shares c d) (list_any (shares c) rest) (and_left _ _ (le-ltb c.at (d.at + d.len) apart)) (none_before c from rest ends.1 later)

ends_more : (c : Chunk) (from : ℕ) (front : List Chunk) → EndBy from front → from ≤ c.at → EndBy (c.at + c.len) (front ++ c ∷ [])
ends_more c from [] ends later = (omega arith, tt)
ends_more c from (d ∷ rest) ends later = (omega (arith, ends.0), ends_more c from rest ends.1 later)

rising_on : (from : ℕ) (front rest : List Chunk) → EndBy from front → AreRising from rest →
    (all_placed front rest ≡ front ++ rest) × (first_shared front rest ≡ None)
rising_on from front [] ends rises = (sym (append-nil front), refl)
rising_on from front (c ∷ rest) ends rises =
    let last = placed_last c from front ends rises.0 in
    let more = rising_on (c.at + c.len) (front ++ c ∷ []) rest (ends_more c from front ends rises.0) rises.2 in (
      ap (λ (cs : List Chunk). all_placed cs rest) last ∙ more.0 ∙ append_assoc front (c ∷ []) rest,
      cond-false (list_any (shares c) front) _ _ (none_before c from front ends rises.0) ∙ more.1,
    )

pub rising_stays : (chunks : List Chunk) → AreRising 0 chunks → unless_shared (first_shared [] chunks) chunks ≡ Ok chunks
rising_stays chunks rises =
    let stays = rising_on 0 [] chunks tt rises in
    ap (λ (o : Option ℕ). unless_shared o chunks) stays.1 ∙ ap Ok stays.0

pub rising_next : (pairs : List (ℕ × ℕ)) (i end next : ℕ) → All (λ c. is_aligned c ≡ true) (listed pairs) → i < length pairs →
    end ≤ (get_or pairs i (0, 0)).0 →
    next ≡ (get_or pairs i (0, 0)).0 + (get_or pairs i (0, 0)).1 → (AreRising 0 (listed pairs) ↔ AreRising end (listed (drop i pairs))) →
    (AreRising 0 (listed pairs) ↔ AreRising next (listed (drop (i + 1) pairs)))
rising_next pairs i end next aligned within later is same =
    let good = pair_chunk_at pairs i aligned within in
    let here : listed (drop i pairs) ≡ pair_chunk (get_or pairs i (0, 0)) ∷ listed (drop (i + 1) pairs) =
    ap listed (drop_more pairs i (0, 0) within) in
    let now : AreRising 0 (listed pairs) ↔ AreRising end (pair_chunk (get_or pairs i (0, 0)) ∷ listed (drop (i + 1) pairs)) =
    rw here at same in
    rw is ((λ rises. (now.0 rises).2), (λ rises. now.1 (later, good, rises)))
