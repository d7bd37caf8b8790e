-- The addresses of the offsets over a list of chunks.
use Rattle.std.proofs.Common.{◌≡◌, ℕ, suc, ◌+◌, ◌-◌, ◌*◌, ◌%◌, ◌^◌, ◌≤◌, ◌<◌, true, false, List, [], ◌∷◌, ◌++◌, length, refl, sym, ap, ◌∙◌}
use Rattle.std.proofs.Common.{arith, subst, Some, None, ⊎_elim}
use Rattle.std.proofs.lemmas.Bool.{cases_lt, cases_Bool, cond-true, cond-false, or_from, or_left, or_right, or_parts, and_from, and_left}
use Rattle.std.proofs.lemmas.Bool.{and_right, and_cases, le-leb, lt-ltb, le-ltb, lt-leb}
use Rattle.std.proofs.lemmas.List.{append_assoc}
use Rattle.std.proofs.lemmas.List.Folds.{list_any-append}
use Rattle.std.specs.List.{list_any, All}
use Rattle.std.specs.Prelude.{nat_lt, nat_le}
use Rattle.page_table.specs.Grants.{Chunk, AreRising, covers, granted, first_ungranted, total}
use Rattle.page_table.specs.Taken.{shares, first_shared, is_aligned, placed}
use Rattle.page_table.specs.Scattered.{address_at, room_at}
use Rattle.page_table.proofs.Placing.{stand_apart, total-cons, total-placed}
use Rattle.page_table.proofs.Gathering.{IsGathered, none_gathered, one_more, chunk_from_test}
use Rattle.page_table.proofs.Covering.{pass_over, ungranted-end, ungranted-length}

-- an offset within the first chunk, and one behind it
pub address_at-here : (c : Chunk) (rest : List Chunk) (o : ℕ) → o < c.len → address_at (c ∷ rest) o ≡ c.at + o
address_at-here c rest o within = cond-true (nat_lt o c.len) (c.at + o) (address_at rest (o - c.len)) (lt-ltb o c.len within)

pub address_at-later : (c : Chunk) (rest : List Chunk) (o : ℕ) → c.len ≤ o → address_at (c ∷ rest) o ≡ address_at rest (o - c.len)
address_at-later c rest o past = cond-false (nat_lt o c.len) (c.at + o) (address_at rest (o - c.len)) (le-ltb o c.len past)

pub room_at-here : (c : Chunk) (rest : List Chunk) (o : ℕ) → o < c.len → room_at (c ∷ rest) o ≡ c.len - o
room_at-here c rest o within = cond-true (nat_lt o c.len) (c.len - o) (room_at rest (o - c.len)) (lt-ltb o c.len within)

pub room_at-later : (c : Chunk) (rest : List Chunk) (o : ℕ) → c.len ≤ o → room_at (c ∷ rest) o ≡ room_at rest (o - c.len)
room_at-later c rest o past = cond-false (nat_lt o c.len) (c.len - o) (room_at rest (o - c.len)) (le-ltb o c.len past)

-- an offset of the chunks has room behind it, and the room lies in the chunks
pub lt-room_at : (chunks : List Chunk) (o : ℕ) → o < total chunks → 0 < room_at chunks o
lt-room_at [] o within = absurd (omega arith)
lt-room_at (c ∷ rest) o within =
    ⊎_elim
    (λ here. omega (arith, room_at-here c rest o here))
    (λ past. let more = lt-room_at rest (o - c.len) (omega (arith, total-cons c rest)) in omega (arith, room_at-later c rest o past))
    (cases_lt o c.len)

pub room_at-le : (chunks : List Chunk) (o : ℕ) → o < total chunks → o + room_at chunks o ≤ total chunks
room_at-le [] o within = absurd (omega arith)
room_at-le (c ∷ rest) o within =
    let whole = total-cons c rest in
    ⊎_elim
    (λ here. omega (arith, room_at-here c rest o here))
    (λ past. let more = room_at-le rest (o - c.len) (omega arith) in omega (arith, room_at-later c rest o past))
    (cases_lt o c.len)

-- within its chunk an address follows its offset
pub address_at-add : (chunks : List Chunk) (o k : ℕ) → k < room_at chunks o → address_at chunks (o + k) ≡ address_at chunks o + k
address_at-add [] o k within = absurd (omega arith)
address_at-add (c ∷ rest) o k within =
    ⊎_elim
    (λ here.
    let room = room_at-here c rest o here in
    let first = address_at-here c rest o here in
    let next = address_at-here c rest (o + k) (omega arith) in omega arith)
    (λ past.
    let room = room_at-later c rest o past in
    let first = address_at-later c rest o past in
    let next = address_at-later c rest (o + k) (omega arith) in
    let more = address_at-add rest (o - c.len) k (omega arith) in
    let e : o + k - c.len ≡ o - c.len + k = omega arith in
    next ∙ ap (address_at rest) e ∙ more ∙ ap (λ a. a + k) (sym first))
    (cases_lt o c.len)

pub room_at-add : (chunks : List Chunk) (o k : ℕ) → k < room_at chunks o → room_at chunks (o + k) ≡ room_at chunks o - k
room_at-add [] o k within = absurd (omega arith)
room_at-add (c ∷ rest) o k within =
    ⊎_elim
    (λ here.
    let room = room_at-here c rest o here in
    let next = room_at-here c rest (o + k) (omega arith) in omega arith)
    (λ past.
    let room = room_at-later c rest o past in
    let next = room_at-later c rest (o + k) (omega arith) in
    let more = room_at-add rest (o - c.len) k (omega arith) in
    let e : o + k - c.len ≡ o - c.len + k = omega arith in
    next ∙ ap (room_at rest) e ∙ more ∙ ap (λ r. r - k) (sym room))
    (cases_lt o c.len)

-- a chunk of the list covers the address of an offset and those that follow in the room behind it
pub granted-address_at : (chunks : List Chunk) (o k : ℕ) → k < room_at chunks o → granted chunks (address_at chunks o + k) ≡ true
granted-address_at [] o k within = absurd (omega arith)
granted-address_at (c ∷ rest) o k within =
    ⊎_elim
    (λ here.
    let room = room_at-here c rest o here in
    let first = address_at-here c rest o here in
    let address = address_at (c ∷ rest) o + k in
    or_left (covers c address) (granted rest address)
    (and_from _ _ (le-leb c.at address (omega arith)) (lt-ltb address (c.at + c.len) (omega arith))))
    (λ past.
    let room = room_at-later c rest o past in
    let first = address_at-later c rest o past in
    let more = granted-address_at rest (o - c.len) k (omega arith) in
    let address = address_at (c ∷ rest) o + k in
    or_right (covers c address) (granted rest address) (subst (λ a. granted rest (a + k) ≡ true) (sym first) more))
    (cases_lt o c.len)

pub granted-offset : (chunks : List Chunk) (o : ℕ) → o < total chunks → granted chunks (address_at chunks o) ≡ true
granted-offset chunks o within =
    let e : address_at chunks o + 0 ≡ address_at chunks o = omega arith in
    subst (λ a. granted chunks a ≡ true) e (granted-address_at chunks o 0 (lt-room_at chunks o within))

-- no byte of a run within a chunk is ungranted
pub run_granted : (chunks : List Chunk) (o n : ℕ) → n ≤ room_at chunks o → first_ungranted chunks (address_at chunks o) n ≡ None
run_granted chunks o n within =
    let a = address_at chunks o in
    let all : (k : ℕ) → a ≤ k → k < a + n → granted chunks k ≡ true = λ k low high. let e : a + (k - a) ≡ k = omega arith in
    subst (λ q. granted chunks q ≡ true) e (granted-address_at chunks o (k - a) (omega arith)) in
    sym
    (ungranted-length chunks a (a + n) n None refl (pass_over chunks n a (a + n) all ∙ ungranted-end chunks (a + n) (a + n) (omega arith)))

-- a run within a chunk of aligned ones ends at 2^32 at most
pub address_at-fits : (chunks : List Chunk) (o : ℕ) → All (λ c. is_aligned c ≡ true) chunks → o < total chunks →
    address_at chunks o + room_at chunks o ≤ 2 ^ 32
address_at-fits [] o aligned within = absurd (omega arith)
address_at-fits (c ∷ rest) o aligned within =
    ⊎_elim
    (λ here.
    let ends = (chunk_from_test c (aligned 0 c (omega arith))).ends in
    omega (arith, room_at-here c rest o here, address_at-here c rest o here))
    (λ past.
    let more = address_at-fits rest (o - c.len) (λ k d below. aligned (suc k) d (omega arith)) (omega (arith, total-cons c rest)) in
    omega (arith, room_at-later c rest o past, address_at-later c rest o past))
    (cases_lt o c.len)

-- over aligned chunks a multiple of 4 has an address and a room that are multiples of 4
pub address_at-aligned : (chunks : List Chunk) (o : ℕ) → All (λ c. is_aligned c ≡ true) chunks → o < total chunks → o % 4 ≡ 0 →
    (address_at chunks o % 4 ≡ 0) × (room_at chunks o % 4 ≡ 0)
address_at-aligned [] o aligned within multiple = absurd (omega arith)
address_at-aligned (c ∷ rest) o aligned within multiple =
    let good = chunk_from_test c (aligned 0 c (omega arith)) in
    let at = good.at_aligned in
    let len = good.len_aligned in
    ⊎_elim
    (λ here. (omega (arith, address_at-here c rest o here), omega (arith, room_at-here c rest o here)))
    (λ past.
    let more =
    address_at-aligned rest (o - c.len) (λ k d below. aligned (suc k) d (omega arith)) (omega (arith, total-cons c rest)) (omega arith) in
    (omega (arith, address_at-later c rest o past), omega (arith, room_at-later c rest o past)))
    (cases_lt o c.len)

-- chunks of which none shares a byte with a later one
abbrev pub AreDisjoint : List Chunk → Type 0
AreDisjoint [] = Unit {0}
AreDisjoint (c ∷ rest) = (list_any (shares c) rest ≡ false) × AreDisjoint rest

shares-sym : (c d : Chunk) → shares c d ≡ false → shares d c ≡ false
shares-sym c d apart =
    let first = nat_lt c.at (d.at + d.len) in
    let second = nat_lt d.at (c.at + c.len) in
    ⊎_elim (λ no. and_right second first no) (λ no. and_left second first no) (and_cases first second apart)

-- where none shares a byte with an earlier one, the first shares none
pub first_shared-head : (earlier : List Chunk) (c : Chunk) (rest : List Chunk) → first_shared earlier (c ∷ rest) ≡ None →
    (list_any (shares c) earlier ≡ false) × (first_shared (earlier ++ c ∷ []) rest ≡ None)
first_shared-head earlier c rest none =
    ⊎_elim
    (λ yes. let some : Some (length earlier) ≡ None =
    sym (cond-true (list_any (shares c) earlier) (Some (length earlier)) (first_shared (earlier ++ c ∷ []) rest) yes) ∙ none in cc)
    (λ no. (no, sym (cond-false (list_any (shares c) earlier) (Some (length earlier)) (first_shared (earlier ++ c ∷ []) rest) no) ∙ none))
    (cases_Bool (list_any (shares c) earlier))

shares_none : (before : List Chunk) (e : Chunk) (after chunks : List Chunk) → first_shared (before ++ e ∷ after) chunks ≡ None →
    list_any (shares e) chunks ≡ false
shares_none before e after [] none = refl
shares_none before e after (c ∷ rest) none =
    let parts = first_shared-head (before ++ e ∷ after) c rest none in
    let both =
    or_parts (list_any (shares c) before) (list_any (shares c) (e ∷ after))
    (sym (list_any-append (shares c) before (e ∷ after)) ∙ parts.0) in
    let here = or_parts (shares c e) (list_any (shares c) after) both.1 in
    let more =
    shares_none before e (after ++ c ∷ []) rest
    (subst (λ cs. first_shared cs rest ≡ None) (append_assoc before (e ∷ after) (c ∷ [])) parts.1) in
    or_from (shares e c) (list_any (shares e) rest) (shares-sym c e here.0) more

disjoint_after : (earlier chunks : List Chunk) → first_shared earlier chunks ≡ None → AreDisjoint chunks
disjoint_after earlier [] none = tt
disjoint_after earlier (c ∷ rest) none =
    let parts = first_shared-head earlier c rest none in
    (shares_none earlier c [] rest parts.1, disjoint_after (earlier ++ c ∷ []) rest parts.1)

pub AreDisjoint-from_first_shared : (chunks : List Chunk) → first_shared [] chunks ≡ None → AreDisjoint chunks
AreDisjoint-from_first_shared chunks none = disjoint_after [] chunks none

-- an address of a chunk that shares no byte with others is in none of them
not_granted : (c : Chunk) (chunks : List Chunk) (address : ℕ) → list_any (shares c) chunks ≡ false → c.at ≤ address →
    address < c.at + c.len → granted chunks address ≡ false
not_granted c [] address apart low high = refl
not_granted c (d ∷ rest) address apart low high =
    let parts = or_parts (shares c d) (list_any (shares c) rest) apart in
    let away : covers d address ≡ false = ⊎_elim
    (λ before. and_right (nat_le d.at address) (nat_lt address (d.at + d.len)) (le-ltb address (d.at + d.len) (omega arith)))
    (λ behind. and_left (nat_le d.at address) (nat_lt address (d.at + d.len)) (lt-leb d.at address (omega arith)))
    (stand_apart c d parts.0) in
    or_from (covers d address) (granted rest address) away (not_granted c rest address parts.1 low high)

-- an address in the first chunk is that of no offset behind it
here_not_later : (c : Chunk) (rest : List Chunk) (o p : ℕ) → list_any (shares c) rest ≡ false → o < c.len → c.len ≤ p →
    p < total (c ∷ rest) → address_at (c ∷ rest) o ≡ address_at (c ∷ rest) p → ⊥
here_not_later c rest o p apart here past within same =
    let first = address_at-here c rest o here in
    let last = address_at-later c rest p past in
    let whole = total-cons c rest in
    let address : c.at + o ≡ address_at rest (p - c.len) = sym first ∙ same ∙ last in
    let yes : granted rest (c.at + o) ≡ true =
    subst (λ a. granted rest a ≡ true) (sym address) (granted-offset rest (p - c.len) (omega arith)) in
    let no = not_granted c rest (c.at + o) apart (omega arith) (omega arith) in
    let bad : true ≡ false = sym yes ∙ no in cc

-- over disjoint chunks different offsets have different addresses
pub address_at-injective : (chunks : List Chunk) (o p : ℕ) → AreDisjoint chunks → o < total chunks → p < total chunks →
    address_at chunks o ≡ address_at chunks p → o ≡ p
address_at-injective [] o p disjoint o_within p_within same = absurd (omega arith)
address_at-injective (c ∷ rest) o p disjoint o_within p_within same =
    let whole = total-cons c rest in
    ⊎_elim
    (λ o_here.
    ⊎_elim
    (λ p_here. omega (arith, address_at-here c rest o o_here, address_at-here c rest p p_here))
    (λ p_past. absurd (here_not_later c rest o p disjoint.0 o_here p_past p_within same))
    (cases_lt p c.len))
    (λ o_past.
    ⊎_elim
    (λ p_here. absurd (here_not_later c rest p o disjoint.0 p_here o_past o_within (sym same)))
    (λ p_past.
    let e =
    address_at-injective rest (o - c.len) (p - c.len) disjoint.1 (omega arith) (omega arith)
    (sym (address_at-later c rest o o_past) ∙ same ∙ address_at-later c rest p p_past) in
    omega arith)
    (cases_lt p c.len))
    (cases_lt o c.len)

-- chunks that share no byte have 2^32 bytes at most
total-rising : (from : ℕ) (chunks : List Chunk) → AreRising from chunks → from ≤ 2 ^ 32 → from + total chunks ≤ 2 ^ 32
total-rising from [] rising low = omega arith
total-rising from (c ∷ rest) rising low =
    let more = total-rising (c.at + c.len) rest rising.2 rising.1.ends in omega (arith, total-cons c rest)

total-gathered : (rising earlier rest all : List Chunk) → IsGathered rising earlier rest all → All (λ c. is_aligned c ≡ true) rest →
    first_shared [] all ≡ None → total rising + total rest ≤ 2 ^ 32
total-gathered rising earlier [] all so_far aligned none =
    let whole = total-rising 0 rising so_far.rises (omega arith) in omega arith
total-gathered rising earlier (c ∷ rest) all so_far aligned none =
    let good = chunk_from_test c (aligned 0 c (omega arith)) in
    let here = first_shared-head earlier c rest (so_far.first ∙ none) in
    let next = one_more rising earlier rest all c so_far good (so_far.same c ∙ here.0) in
    let more = total-gathered (placed c rising) (earlier ++ c ∷ []) rest all next (λ k d below. aligned (suc k) d (omega arith)) none in
    omega (arith, total-placed c rising, total-cons c rest)

pub total-le : (chunks : List Chunk) → All (λ c. is_aligned c ≡ true) chunks → first_shared [] chunks ≡ None → total chunks ≤ 2 ^ 32
total-le chunks aligned none =
    let whole = total-gathered [] [] chunks chunks (none_gathered chunks) aligned none in omega arith

-- each has 4 bytes at least, so they are few
pub length-le-total : (chunks : List Chunk) → All (λ c. is_aligned c ≡ true) chunks → length chunks * 4 ≤ total chunks
length-le-total [] aligned = omega arith
length-le-total (c ∷ rest) aligned =
    let some = (chunk_from_test c (aligned 0 c (omega arith))).some in
    let more = length-le-total rest (λ k d below. aligned (suc k) d (omega arith)) in
    omega (arith, total-cons c rest)
