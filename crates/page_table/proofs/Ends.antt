-- The offsets at which chunks end, and the chunk in which an offset lies.
use Rattle.std.proofs.Common.{◌≡◌, ◌⊎◌, ℕ, zero, suc, ◌+◌, ◌-◌, ◌^◌, ◌≤◌, ◌<◌, true, List, [], ◌∷◌, length, get_or, refl, sym, ap, ◌∙◌}
use Rattle.std.proofs.Common.{arith, subst, ⊎_elim}
use Rattle.std.proofs.lemmas.Bool.{cases_Bool, cond-true, cond-false, leb-true, leb-false, le-leb, lt-leb}
use Rattle.std.proofs.lemmas.List.Sums.{prefix_len_is}
use Rattle.std.specs.List.{prefix_len, All}
use Rattle.std.specs.List.Sorted.{IsNonDecreasingBy}
use Rattle.std.specs.Prelude.{nat_le}
use Rattle.page_table.specs.Grants.{Chunk, total}
use Rattle.page_table.specs.Taken.{is_aligned, listed, pair_chunk}
use Rattle.page_table.specs.Scattered.{Holds, address_at, ends_from, room_at}
use Rattle.page_table.proofs.Placing.{total-cons}
use Rattle.page_table.proofs.Gathering.{chunk_from_test}
use Rattle.page_table.proofs.Scattered.{address_at-here, address_at-later, room_at-here, room_at-later}

-- there are as many ends as chunks, and they rise
pub length-ends_from : (begin : ℕ) (pairs : List (ℕ × ℕ)) → length (ends_from begin (listed pairs)) ≡ length pairs
length-ends_from begin [] = refl
length-ends_from begin (pair ∷ rest) = let more = length-ends_from (begin + pair.1) rest in omega arith

le-end : (begin : ℕ) (chunks : List Chunk) (j d : ℕ) → j < length (ends_from begin chunks) → begin ≤ get_or (ends_from begin chunks) j d
le-end begin [] j d within = absurd (omega arith)
le-end begin (c ∷ rest) zero d within = omega arith
le-end begin (c ∷ rest) (suc j) d within =
    let later = le-end (begin + c.len) rest j d (omega arith) in omega arith

pub ends_from-rise : (begin : ℕ) (chunks : List Chunk) → IsNonDecreasingBy (λ (end : ℕ). end) (ends_from begin chunks)
ends_from-rise begin [] i j d order within = absurd (omega arith)
ends_from-rise begin (c ∷ rest) zero zero d order within = omega arith
ends_from-rise begin (c ∷ rest) zero (suc j) d order within = le-end (begin + c.len) rest j d (omega arith)
ends_from-rise begin (c ∷ rest) (suc i) zero d order within = absurd (omega arith)
ends_from-rise begin (c ∷ rest) (suc i) (suc j) d order within =
    ends_from-rise (begin + c.len) rest i j d (omega arith) (omega arith)

-- how many ends are at an offset or before it
abbrev pub ended_at : ℕ → List ℕ → ℕ
ended_at q ends = prefix_len (λ end. nat_le end q) ends

-- a place after the ends before the i-th, and before the i-th
pub between_ends : (ends : List ℕ) (i q : ℕ) → IsNonDecreasingBy (λ (end : ℕ). end) ends → i < length ends → q < get_or ends i 0 →
    ((i ≡ 0) ⊎ (get_or ends (i - 1) 0 ≤ q)) → i ≡ ended_at q ends
between_ends ends i q rise within after before =
    sym (prefix_len_is (λ end. nat_le end q) ends i 0 (omega arith)
    (λ k below. ⊎_elim
    (λ none. absurd (omega (arith, none)))
    (λ low. let up = rise k (i - 1) 0 (omega arith) (omega arith) in le-leb (get_or ends k 0) q (omega arith))
    before)
    (λ _. lt-leb (get_or ends i 0) q after))

-- the chunk in which a place lies, where the first chunk begins at a place
record IsHeld (begin : ℕ) (pairs : List (ℕ × ℕ)) (q i : ℕ) : Type 0 where
  pub within : i < length pairs
  pub before_end : q < get_or (ends_from begin (listed pairs)) i 0
  pub after_begin : get_or (ends_from begin (listed pairs)) i 0 - q ≤ (get_or pairs i (0, 0)).1
  pub last : (get_or pairs i (0, 0)).0 + (get_or pairs i (0, 0)).1 ≤ 2 ^ 32
  pub address : address_at (listed pairs) (q - begin)
      ≡ (get_or pairs i (0, 0)).0 + ((get_or pairs i (0, 0)).1 - (get_or (ends_from begin (listed pairs)) i 0 - q))
  pub room : room_at (listed pairs) (q - begin) ≡ get_or (ends_from begin (listed pairs)) i 0 - q

held : (begin : ℕ) (pairs : List (ℕ × ℕ)) (q : ℕ) → All (λ c. is_aligned c ≡ true) (listed pairs) → begin ≤ q →
    q < begin + total (listed pairs) → IsHeld begin pairs q (ended_at q (ends_from begin (listed pairs)))
held begin [] q aligned low high = absurd (omega arith)
held begin (pair ∷ rest) q aligned low high =
    let c = pair_chunk pair in
    let end = begin + pair.1 in
    let whole = total-cons c (listed rest) in
    ⊎_elim
    (λ yes.
    let past : end ≤ q = leb-true end q yes in
    let more = held end rest q (λ k d below. aligned (suc k) d (omega arith)) past (omega arith) in
    let e : q - begin - c.len ≡ q - end = omega arith in
    let next : ended_at q (ends_from begin (listed (pair ∷ rest))) ≡ suc (ended_at q (ends_from end (listed rest))) =
    cond-true (nat_le end q) _ _ yes ∙ omega arith in
    subst (IsHeld begin (pair ∷ rest) q) (sym next) (record {
      within = let w = more.within in omega arith;
      before_end = more.before_end;
      after_begin = more.after_begin;
      last = more.last;
      address = address_at-later c (listed rest) (q - begin) (omega arith) ∙ ap (address_at (listed rest)) e ∙ more.address;
      room = room_at-later c (listed rest) (q - begin) (omega arith) ∙ ap (room_at (listed rest)) e ∙ more.room;
    }))
    (λ no.
    let before : q < end = leb-false end q no in
    let ends = (chunk_from_test c (aligned 0 c (omega arith))).ends in
    let address = address_at-here c (listed rest) (q - begin) (omega arith) in
    let room = room_at-here c (listed rest) (q - begin) (omega arith) in
    let next : ended_at q (ends_from begin (listed (pair ∷ rest))) ≡ zero = cond-false (nat_le end q) _ _ no in
    subst (IsHeld begin (pair ∷ rest) q) (sym next) (record {
      within = omega arith;
      before_end = before;
      after_begin = omega arith;
      last = ends;
      address = omega arith;
      room = omega arith;
    }))
    (cases_Bool (nat_le end q))

pub holds : (pairs : List (ℕ × ℕ)) (ends : List ℕ) (offset i : ℕ) → ends ≡ ends_from 0 (listed pairs) →
    All (λ c. is_aligned c ≡ true) (listed pairs) → offset < total (listed pairs) → i ≡ ended_at offset ends → Holds pairs ends offset i
holds pairs ends offset i sums aligned within is =
    let h = held 0 pairs offset aligned (omega arith) (omega (arith, within)) in
    let count = length-ends_from 0 pairs in
    let there = h.within in
    let e : offset ≡ offset - 0 = omega arith in
    rw (is, sums) (record {
      within = there;
      end_within = omega arith;
      before_end = h.before_end;
      after_begin = h.after_begin;
      last = h.last;
      address = ap (address_at (listed pairs)) e ∙ h.address;
      room = ap (room_at (listed pairs)) e ∙ h.room;
    })
