-- The first byte of a range that is in no chunk, by going from chunk to chunk.
use Rattle.std.proofs.Common.{◌≡◌, ℕ, zero, suc, ◌+◌, ◌-◌, ◌≤◌, ◌<◌, Bool, true, false, cond, ◌||◌, List, [], ◌∷◌, length, drop, get_or}
use Rattle.std.proofs.Common.{refl, sym, ap, ◌∙◌, arith, subst, Option, Some, None, ⊎_elim, add-zero}
use Rattle.std.proofs.lemmas.Bool.{cases_lt, cases_Bool, cond-true, cond-false, or_left, and_from, and_right, le-leb, lt-ltb, le-ltb}
use Rattle.std.proofs.lemmas.Bool.{leb-true, leb-false}
use Rattle.std.proofs.lemmas.List.{drop_more, drop_all}
use Rattle.std.proofs.lemmas.List.Sums.{prefix_len-le-length}
use Rattle.std.specs.List.{prefix_len}
use Rattle.std.specs.Prelude.{nat_le}
use Rattle.page_table.specs.Grants.{Chunk, AreRising, covers, granted, first_ungranted}
use Rattle.page_table.specs.Taken.{listed, pair_chunk}
use Rattle.page_table.proofs.Rising.{none_below, pair_end, rising_from, rising-drop}

-- the first byte from an address on, and before an end, that is not granted
abbrev pub ungranted : List Chunk → ℕ → ℕ → Option ℕ
ungranted chunks from end = first_ungranted chunks from (end - from)

pub ungranted-end : (chunks : List Chunk) (from end : ℕ) → end ≤ from → ungranted chunks from end ≡ None
ungranted-end chunks from end past = let e : end - from ≡ 0 = omega arith in ap (first_ungranted chunks from) e

ungranted-more : (chunks : List Chunk) (from end : ℕ) → from < end →
    ungranted chunks from end ≡ cond (granted chunks from) (ungranted chunks (from + 1) end) (Some from)
ungranted-more chunks from end before =
    let e : end - from ≡ suc (end - (from + 1)) = omega arith in ap (first_ungranted chunks from) e

pub ungranted_here : (chunks : List Chunk) (from end : ℕ) → from < end → granted chunks from ≡ false → ungranted chunks from end ≡ Some from
ungranted_here chunks from end before apart = ungranted-more chunks from end before ∙ cond-false _ _ _ apart

-- a stretch that is granted is passed over
pub pass_over : (chunks : List Chunk) (count from end : ℕ) → ((k : ℕ) → from ≤ k → k < from + count → granted chunks k ≡ true) →
    ungranted chunks from end ≡ ungranted chunks (from + count) end
pass_over chunks zero from end all = ap (λ k. ungranted chunks k end) (sym (add-zero from))
pass_over chunks (suc count) from end all =
    ⊎_elim
    (λ before.
    let here : granted chunks from ≡ true = all from (omega arith) (omega arith) in
    let e : (from + 1) + count ≡ from + suc count = omega arith in
    ungranted-more chunks from end before ∙ cond-true _ _ _ here
    ∙ pass_over chunks count (from + 1) end (λ k low high. all k (omega arith) (omega arith))
    ∙ ap (λ k. ungranted chunks k end) e)
    (λ past. ungranted-end chunks from end past ∙ sym (ungranted-end chunks (from + suc count) end (omega arith)))
    (cases_lt from end)

-- only what is granted from the address on counts
same_from : (chunks others : List Chunk) (count from : ℕ) → ((k : ℕ) → from ≤ k → granted chunks k ≡ granted others k) →
    first_ungranted chunks from count ≡ first_ungranted others from count
same_from chunks others zero from same = refl
same_from chunks others (suc count) from same =
    let more = same_from chunks others count (from + 1) (λ k low. same k (omega arith)) in
    let here = same from (omega arith) in
    ap (λ (yes : Bool). cond yes (first_ungranted chunks (from + 1) count) (Some from)) here
    ∙ ap (λ (rest : Option ℕ). cond (granted others from) rest (Some from)) more

-- one chunk that covers the place is passed over
pub pass_chunk : (c : Chunk) (rest : List Chunk) (from end : ℕ) → c.at ≤ from → from ≤ c.at + c.len →
    ungranted (c ∷ rest) from end ≡ ungranted rest (c.at + c.len) end
pass_chunk c rest from end begun ahead =
    let count = c.at + c.len - from in
    let e : from + count ≡ c.at + c.len = omega arith in
    let passed = pass_over (c ∷ rest) count from end (λ k low high.
    or_left (covers c k) (granted rest k) (and_from _ _ (le-leb c.at k (omega arith)) (lt-ltb k (c.at + c.len) (omega arith)))) in
    passed ∙ ap (λ k. ungranted (c ∷ rest) k end) e
    ∙ same_from (c ∷ rest) rest (end - (c.at + c.len)) (c.at + c.len)
    (λ k low. let no : covers c k ≡ false = and_right _ _ (le-ltb k (c.at + c.len) low) in ap (λ (yes : Bool). yes || granted rest k) no)

-- how many chunks of a list end at an address or before it
abbrev pub ended : ℕ → List (ℕ × ℕ) → ℕ
ended address pairs = prefix_len (λ pair. nat_le (pair_end pair) address) pairs

pub ended-le : (address : ℕ) (pairs : List (ℕ × ℕ)) → ended address pairs ≤ length pairs
ended-le address pairs = prefix_len-le-length (λ (pair : ℕ × ℕ). nat_le (pair_end pair) address) pairs

ended-yes : (address : ℕ) (pair : ℕ × ℕ) (rest : List (ℕ × ℕ)) → nat_le (pair_end pair) address ≡ true →
    ended address (pair ∷ rest) ≡ suc (ended address rest)
ended-yes address pair rest early = cond-true _ _ _ early ∙ omega arith

-- they do not count from there on
pub pass_early : (address : ℕ) (pairs : List (ℕ × ℕ)) (k : ℕ) → address ≤ k →
    granted (listed pairs) k ≡ granted (listed (drop (ended address pairs) pairs)) k
pass_early address [] k low = refl
pass_early address (pair ∷ rest) k low =
    ⊎_elim
    (λ early.
    let apart : covers (pair_chunk pair) k ≡ false = and_right _ _ (le-ltb k (pair_end pair) (omega (arith, leb-true _ _ early))) in
    ap (λ (here : Bool). here || granted (listed rest) k) apart
    ∙ pass_early address rest k low
    ∙ ap (λ n. granted (listed (drop n (pair ∷ rest))) k) (sym (ended-yes address pair rest early)))
    (λ late.
    ap (λ n. granted (listed (drop n (pair ∷ rest))) k) (sym (cond-false (nat_le (pair_end pair) address) (1 + ended address rest) 0 late)))
    (cases_Bool (nat_le (pair_end pair) address))

-- the first chunk ends after the place
abbrev pub IsAhead : ℕ → List Chunk → Type 0
IsAhead next [] = Unit {0}
IsAhead next (c ∷ rest) = next < c.at + c.len

pub ahead_ended : (address : ℕ) (pairs : List (ℕ × ℕ)) → IsAhead address (listed (drop (ended address pairs) pairs))
ahead_ended address [] = tt
ahead_ended address (pair ∷ rest) =
    ⊎_elim
    (λ early.
    subst (λ (n : ℕ). IsAhead address (listed (drop n (pair ∷ rest)))) (sym (ended-yes address pair rest early)) (ahead_ended address rest))
    (λ late. subst (λ (n : ℕ). IsAhead address (listed (drop n (pair ∷ rest))))
    (sym (cond-false (nat_le (pair_end pair) address) (1 + ended address rest) 0 late)) (leb-false _ _ late))
    (cases_Bool (nat_le (pair_end pair) address))

ahead_rising : (from : ℕ) (chunks : List Chunk) → AreRising from chunks → IsAhead from chunks
ahead_rising from [] rising = tt
ahead_rising from (c ∷ rest) rising = let some = rising.1.some in omega arith

-- how far a range was gone through: what is left of it is the same as at the beginning
pub record IsScanned (all : List Chunk) (from end : ℕ) (rest : List Chunk) (next : ℕ) : Type 0 where
  pub same : ungranted all from end ≡ ungranted rest next end
  pub rises : AreRising 0 rest
  pub ahead : IsAhead next rest

pub scan_begins : (pairs : List (ℕ × ℕ)) (from end i next : ℕ) → AreRising 0 (listed pairs) → i ≡ ended from pairs → next ≡ from →
    IsScanned (listed pairs) from end (listed (drop i pairs)) next
scan_begins pairs from end i next rising is here =
    rw (is, here) (record {
      same = same_from (listed pairs) (listed (drop (ended from pairs) pairs)) (end - from) from (λ k low. pass_early from pairs k low);
      rises = rising-drop 0 (ended from pairs) pairs rising;
      ahead = ahead_ended from pairs;
    })

pub scan_more : (all : List Chunk) (from end : ℕ) (c : Chunk) (rest : List Chunk) (next : ℕ) → IsScanned all from end (c ∷ rest) next →
    c.at ≤ next → IsScanned all from end rest (c.at + c.len)
scan_more all from end c rest next scan begun =
    let ahead : next < c.at + c.len = scan.ahead in
    record {
      same = scan.same ∙ pass_chunk c rest next end begun (omega arith);
      rises = rising_from (c.at + c.len) 0 rest (omega arith) scan.rises.2;
      ahead = ahead_rising (c.at + c.len) rest scan.rises.2;
    }

-- where it stops
pub scan_meets : (all : List Chunk) (from end : ℕ) (c : Chunk) (rest : List Chunk) (next : ℕ) → IsScanned all from end (c ∷ rest) next →
    next < end → next < c.at → ungranted all from end ≡ Some next
scan_meets all from end c rest next scan before gap =
    scan.same ∙ ungranted_here (c ∷ rest) next end before (none_below c.at (c ∷ rest) next (omega arith, scan.rises.1, scan.rises.2) gap)

pub scan_runs_out : (all : List Chunk) (from end next : ℕ) → IsScanned all from end [] next → next < end →
    ungranted all from end ≡ Some next
scan_runs_out all from end next scan before = scan.same ∙ ungranted_here [] next end before refl

-- the same at a place of a list of pairs
begins_at : (pairs : List (ℕ × ℕ)) (i : ℕ) → i < length pairs →
    listed (drop i pairs) ≡ pair_chunk (get_or pairs i (0, 0)) ∷ listed (drop (i + 1) pairs)
begins_at pairs i within = ap listed (drop_more pairs i (0, 0) within)

pub scan_more_at : (pairs : List (ℕ × ℕ)) (from end i next : ℕ) → i < length pairs →
    IsScanned (listed pairs) from end (listed (drop i pairs)) next → (get_or pairs i (0, 0)).0 ≤ next →
    IsScanned (listed pairs) from end (listed (drop (i + 1) pairs)) (pair_end (get_or pairs i (0, 0)))
scan_more_at pairs from end i next within scan begun =
    scan_more (listed pairs) from end (pair_chunk (get_or pairs i (0, 0))) (listed (drop (i + 1) pairs)) next
    (subst (λ (rest : List Chunk). IsScanned (listed pairs) from end rest next) (begins_at pairs i within) scan) begun

pub scan_meets_at : (pairs : List (ℕ × ℕ)) (from end i next : ℕ) → i < length pairs →
    IsScanned (listed pairs) from end (listed (drop i pairs)) next → next < end → next < (get_or pairs i (0, 0)).0 →
    ungranted (listed pairs) from end ≡ Some next
scan_meets_at pairs from end i next within scan before gap =
    scan_meets (listed pairs) from end (pair_chunk (get_or pairs i (0, 0))) (listed (drop (i + 1) pairs)) next
    (subst (λ (rest : List Chunk). IsScanned (listed pairs) from end rest next) (begins_at pairs i within) scan) before gap

pub scan_runs_out_at : (pairs : List (ℕ × ℕ)) (from end i next : ℕ) → i ≡ length pairs →
    IsScanned (listed pairs) from end (listed (drop i pairs)) next → next < end → ungranted (listed pairs) from end ≡ Some next
scan_runs_out_at pairs from end i next out scan before =
    scan_runs_out (listed pairs) from end next
    (subst (λ (rest : List Chunk). IsScanned (listed pairs) from end rest next)
    (ap (λ n. listed (drop n pairs)) out ∙ ap listed (drop_all (length pairs) pairs (omega arith))) scan) before

-- the end is the length further on
pub ungranted-length : (chunks : List Chunk) (from end len : ℕ) (found : Option ℕ) → from + len ≡ end → ungranted chunks from end ≡ found →
    found ≡ first_ungranted chunks from len
ungranted-length chunks from end len found is told = let e : end - from ≡ len = omega arith in sym told ∙ ap (first_ungranted chunks from) e
