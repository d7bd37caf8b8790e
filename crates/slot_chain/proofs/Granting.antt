-- The memory of two descriptions together.
use Rattle.std.proofs.Common.{◌≡◌, ℕ, ◌+◌, ◌<◌, ◌≤◌, Bool, true, false, cond, not, All, List, [], ◌∷◌, ◌++◌, length, get_or, map}
use Rattle.std.proofs.Common.{append_assoc, Option, Some, None, refl, sym, ap, ◌∙◌, subst, arith, ⊎_elim}
use Rattle.std.specs.Prelude.{nat_lt}
use Rattle.std.specs.List.{list_any, position, position_or_len}
use Rattle.std.proofs.lemmas.Bool.{cases_Bool, cond-false, cond-true, ltb-false, not-true, or_from, not_from_true, both_ways}
use Rattle.std.proofs.lemmas.List.{append-nil, get_or-map, length-map}
use Rattle.std.proofs.lemmas.List.Elements.{All-head, All-tail}
use Rattle.std.proofs.lemmas.List.Folds.{list_any-append}
use Rattle.std.proofs.lemmas.List.Quantifiers.{position-Some}
use Rattle.std.proofs.lemmas.List.Sums.{prefix_len_passes}
use Rattle.page_table.proofs.Listed.{any_map}
use Rattle.page_table.specs.Grants.{Chunk}
use Rattle.page_table.specs.Taken.{first_shared, is_aligned, listed, pair_chunk, shares}
use Rattle.page_table.proofs.Scattered.{first_shared-head}

-- ---- chunks that share no byte

first_apart : (earlier one two : List Chunk) → first_shared earlier one ≡ None → first_shared (earlier ++ one) two ≡ None →
    first_shared earlier (one ++ two) ≡ None
first_apart earlier [] two none more = subst (λ (cs : List Chunk). first_shared cs two ≡ None) (append-nil earlier) more
first_apart earlier (c ∷ one) two none more =
    let parts = first_shared-head earlier c one none in
    cond-false (list_any (shares c) earlier) (Some (length earlier)) (first_shared (earlier ++ c ∷ []) (one ++ two)) parts.0
    ∙ first_apart (earlier ++ c ∷ []) one two parts.1
    (subst (λ (cs : List Chunk). first_shared cs two ≡ None) (sym (append_assoc earlier (c ∷ []) one)) more)

apart_beside : (others earlier rest : List Chunk) → All (λ c. list_any (shares c) others ≡ false) rest → first_shared earlier rest ≡ None →
    first_shared (others ++ earlier) rest ≡ None
apart_beside others earlier [] apart none = refl
apart_beside others earlier (c ∷ rest) apart none =
    let parts = first_shared-head earlier c rest none in
    let head = All-head (λ c. list_any (shares c) others ≡ false) c rest apart in
    cond-false (list_any (shares c) (others ++ earlier)) (Some (length (others ++ earlier)))
    (first_shared ((others ++ earlier) ++ c ∷ []) rest)
    (list_any-append (shares c) others earlier ∙ or_from (list_any (shares c) others) (list_any (shares c) earlier) head parts.0)
    ∙ ap (λ (cs : List Chunk). first_shared cs rest) (append_assoc others earlier (c ∷ []))
    ∙ apart_beside others (earlier ++ c ∷ []) rest (All-tail (λ c. list_any (shares c) others ≡ false) c rest apart) parts.1

-- ---- tests of chunks that are given by their addresses and lengths

position-map : {A B : Type 0} (p : B → Bool) (f : A → B) (xs : List A) → position_or_len p (map f xs) ≡ position_or_len (λ x. p (f x)) xs
position-map p f [] = refl
position-map p f (x ∷ xs) = ap (λ (n : ℕ). cond (not (p (f x))) (1 + n) 0) (position-map p f xs)

pub position-listed : (p : Chunk → Bool) (pairs : List (ℕ × ℕ)) → position p (listed pairs) ≡ position (λ pair. p (pair_chunk pair)) pairs
position-listed p pairs =
    let n : ℕ = position_or_len (λ (pair : ℕ × ℕ). p (pair_chunk pair)) pairs in
    ap (λ (k : ℕ). cond (nat_lt k (length (listed pairs))) (Some k) None) (position-map p pair_chunk pairs)
    ∙ ap (λ (len : ℕ). cond (nat_lt n len) (Some n) None) (length-map pairs pair_chunk)

position-alike : {X : Type 0} (p q : X → Bool) → ((x : X) → p x ≡ q x) → (xs : List X) → position_or_len p xs ≡ position_or_len q xs
position-alike p q same [] = refl
position-alike p q same (x ∷ xs) =
    ap (λ (b : Bool). cond (not b) (1 + position_or_len p xs) 0) (same x)
    ∙ ap (λ (n : ℕ). cond (not (q x)) (1 + n) 0) (position-alike p q same xs)

-- the first chunk that shares a byte with another, where both are given by their addresses and lengths
pub shared-listed : (one two : List (ℕ × ℕ)) →
    position (λ c. list_any (shares c) (listed one)) (listed two)
    ≡ position (λ pair. list_any (λ other. shares (pair_chunk pair) (pair_chunk other)) one) two
shared-listed one two =
    position-listed (λ (c : Chunk). list_any (shares c) (listed one)) two
    ∙ ap (λ (k : ℕ). cond (nat_lt k (length two)) (Some k) None)
    (position-alike (λ (pair : ℕ × ℕ). list_any (shares (pair_chunk pair)) (listed one))
    (λ (pair : ℕ × ℕ). list_any (λ other. shares (pair_chunk pair) (pair_chunk other)) one)
    (λ pair. any_map (shares (pair_chunk pair)) pair_chunk one) two)

none_pass : {X : Type 0} (p : X → Bool) (xs : List X) → position p xs ≡ None → All (λ x. p x ≡ false) xs
none_pass {X = X} p xs none k d within =
    ⊎_elim
    (λ yes. let some : Some (position_or_len p xs) ≡ None =
    sym (cond-true (nat_lt (position_or_len p xs) (length xs)) (Some (position_or_len p xs)) None yes) ∙ none in cc)
    (λ no.
    let all : length xs ≤ position_or_len p xs = ltb-false _ _ no in
    not-true (p (get_or xs k d)) (prefix_len_passes (λ (x : X). not (p x)) xs k d (omega arith)))
    (cases_Bool (nat_lt (position_or_len p xs) (length xs)))

no_place : {X : Type 0} (p : X → Bool) (xs : List X) (d : X) → All (λ x. p x ≡ false) xs → (found : Option ℕ) → position p xs ≡ found →
    found ≡ None
no_place p xs d none None is = refl
no_place p xs d none (Some i) is =
    let there = position-Some p xs i d is in
    absurd (both_ways (p (get_or xs i d)) (none i d there.0) there.1)

-- chunks of two memories share no byte, where no chunk of the second shares one with the first
pub apart_both : (one two : List Chunk) → first_shared [] one ≡ None → first_shared [] two ≡ None →
    position (λ c. list_any (shares c) one) two ≡ None → first_shared [] (one ++ two) ≡ None
apart_both one two first second none =
    first_apart [] one two first
    (ap (λ (cs : List Chunk). first_shared cs two) (sym (append-nil one))
    ∙ apart_beside one [] two (none_pass (λ (c : Chunk). list_any (shares c) one) two none) second)

pub all_aligned : (pairs : List (ℕ × ℕ)) → All (λ c. is_aligned c ≡ true) (listed pairs) →
    position (λ pair. not (is_aligned (pair_chunk pair))) pairs ≡ None
all_aligned pairs aligned =
    no_place (λ (pair : ℕ × ℕ). not (is_aligned (pair_chunk pair))) pairs (0, 0)
    (λ k d within. not_from_true (is_aligned (pair_chunk (get_or pairs k d)))
    (subst (λ (c : Chunk). is_aligned c ≡ true) (get_or-map pair_chunk pairs k d (pair_chunk d) within)
    (aligned k (pair_chunk d) (subst (λ (n : ℕ). k < n) (sym (length-map pairs pair_chunk)) within))))
    (position (λ (pair : ℕ × ℕ). not (is_aligned (pair_chunk pair))) pairs) refl
