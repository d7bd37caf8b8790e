-- Areas and lines that share no offset cross each chunk end at most once.
use Rattle.std.proofs.Common.{◌≡◌, ℕ, zero, suc, ◌+◌, ◌-◌, ◌<◌, ◌≤◌, false, List, [], ◌∷◌, ◌++◌, length, map, Option, Some, None, refl, sym}
use Rattle.std.proofs.Common.{ap, ◌∙◌, arith, ◌⊎◌, ⊎_elim, if◌then◌else◌}
use Rattle.std.specs.Prelude.{max, min, nat_le}
use Rattle.std.specs.List.{list_any, range_with_len}
use Rattle.std.proofs.lemmas.Bool.{cases_lt, cond-true, cond-false, le-leb, lt-leb, ltb-false, or_parts}
use Rattle.page_table.specs.Grants.{Chunk}
use Rattle.picture_model.specs.Described.{Extent}
use Rattle.picture_model.specs.Geometry.{overlaps, some_overlap}
use Rattle.picture_model.proofs.Ends.{all_ended, ended, ended-here, ended-later}

-- areas whose end isn't before their beginning
abbrev pub AreForward : List Extent → Type 0
AreForward [] = Unit {0}
AreForward (e ∷ rest) = (e.from ≤ e.to) × AreForward rest

pub forward_append : (xs ys : List Extent) → AreForward xs → AreForward ys → AreForward (xs ++ ys)
forward_append [] ys one two = two
forward_append (x ∷ xs) ys one two = (one.0, forward_append xs ys one.1 two)

pub forward_map : {A : Type 0} (f : A → Extent) (xs : List A) → ((x : A) → (f x).from ≤ (f x).to) → AreForward (map f xs)
forward_map f [] each = tt
forward_map f (x ∷ xs) each = (each x, forward_map f xs each)

-- a count over the beginnings of areas, and over their ends

abbrev pub at_begins : (ℕ → ℕ) → List Extent → ℕ
at_begins count [] = 0
at_begins count (e ∷ rest) = count e.from + at_begins count rest

abbrev pub at_ends : (ℕ → ℕ) → List Extent → ℕ
at_ends count [] = 0
at_ends count (e ∷ rest) = count e.to + at_ends count rest

-- one chunk end

abbrev past : ℕ → ℕ → ℕ
past end o = if nat_le end o then 1 else 0

past-yes : (end o : ℕ) → end ≤ o → past end o ≡ 1
past-yes end o there = cond-true (nat_le end o) 1 0 (le-leb end o there)

past-no : (end o : ℕ) → o < end → past end o ≡ 0
past-no end o before = cond-false (nat_le end o) 1 0 (lt-leb end o before)

-- an area that doesn't cross it
past_same : (end : ℕ) (e : Extent) → e.from ≤ e.to → (e.from < end → end ≤ e.to → ⊥) → past end e.to ≡ past end e.from
past_same end e forward not_here =
    ⊎_elim
    (λ before. ⊎_elim
    (λ both_before. past-no end e.to both_before ∙ sym (past-no end e.from before))
    (λ after. absurd (not_here before after))
    (cases_lt e.to end))
    (λ after. past-yes end e.to (omega arith) ∙ sym (past-yes end e.from after))
    (cases_lt e.from end)

-- where one area crosses it, none of the others does
none_crosses : (end : ℕ) (e : Extent) (rest : List Extent) → e.from < end → end ≤ e.to → AreForward rest →
    list_any (overlaps e) rest ≡ false → at_ends (past end) rest ≡ at_begins (past end) rest
none_crosses end e [] begins ends forward apart = refl
none_crosses end e (f ∷ rest) begins ends forward apart =
    let parts = or_parts (overlaps e f) (list_any (overlaps e) rest) apart in
    let none = ltb-false (max e.from f.from) (min e.to f.to) parts.0 in
    let here = past_same end f forward.0 (λ from to. absurd (omega arith)) in
    let more = none_crosses end e rest begins ends forward.1 parts.1 in
    omega arith

one_end : (end : ℕ) (es : List Extent) → AreForward es → some_overlap es ≡ false → at_ends (past end) es ≤ at_begins (past end) es + 1
one_end end [] forward apart = omega arith
one_end end (e ∷ rest) forward apart =
    let parts = or_parts (list_any (overlaps e) rest) (some_overlap rest) apart in
    let more = one_end end rest forward.1 parts.1 in
    ⊎_elim
    (λ before. ⊎_elim
    (λ both_before. let here = past-no end e.to both_before in let from = past-no end e.from before in omega arith)
    (λ after.
    let others = none_crosses end e rest before after forward.1 parts.0 in
    let here = past-yes end e.to after in
    let from = past-no end e.from before in omega arith)
    (cases_lt e.to end))
    (λ after. let here = past-yes end e.to (let ordered = forward.0 in omega arith) in let from = past-yes end e.from after in omega arith)
    (cases_lt e.from end)

-- all chunk ends of a memory that begins at an offset

abbrev passed_from : ℕ → List Chunk → ℕ → ℕ
passed_from base [] o = 0
passed_from base (c ∷ rest) o = past (base + c.len) o + passed_from (base + c.len) rest o

none_passed : (memory : List Chunk) (base o : ℕ) → o < base → passed_from base memory o ≡ 0
none_passed [] base o before = refl
none_passed (c ∷ rest) base o before =
    let here = past-no (base + c.len) o (omega arith) in
    let more = none_passed rest (base + c.len) o (omega arith) in omega arith

ended_is : (memory : List Chunk) (base o : ℕ) → base ≤ o → ended memory (o - base) ≡ passed_from base memory o
ended_is [] base o from = refl
ended_is (c ∷ rest) base o from =
    ⊎_elim
    (λ within.
    let here = past-no (base + c.len) o (omega arith) in
    let more = none_passed rest (base + c.len) o (omega arith) in
    let none = ended-here c rest (o - base) within in omega arith)
    (λ later.
    let here = past-yes (base + c.len) o (omega arith) in
    let more = ended_is rest (base + c.len) o (omega arith) in
    let same : o - base - c.len ≡ o - (base + c.len) = omega arith in
    let again : ended rest (o - base - c.len) ≡ ended rest (o - (base + c.len)) = ap (ended rest) same in
    let one = ended-later c rest (o - base) later in omega arith)
    (cases_lt (o - base) c.len)

ends_split : (f g : ℕ → ℕ) (es : List Extent) → at_ends (λ o. f o + g o) es ≡ at_ends f es + at_ends g es
ends_split f g [] = refl
ends_split f g (e ∷ rest) = let more = ends_split f g rest in omega arith

begins_split : (f g : ℕ → ℕ) (es : List Extent) → at_begins (λ o. f o + g o) es ≡ at_begins f es + at_begins g es
begins_split f g [] = refl
begins_split f g (e ∷ rest) = let more = begins_split f g rest in omega arith

ends_same : (f g : ℕ → ℕ) (es : List Extent) → ((o : ℕ) → f o ≡ g o) → at_ends f es ≡ at_ends g es
ends_same f g [] same = refl
ends_same f g (e ∷ rest) same = let more = ends_same f g rest same in let here = same e.to in omega arith

begins_same : (f g : ℕ → ℕ) (es : List Extent) → ((o : ℕ) → f o ≡ g o) → at_begins f es ≡ at_begins g es
begins_same f g [] same = refl
begins_same f g (e ∷ rest) same = let more = begins_same f g rest same in let here = same e.from in omega arith

no_ends : (es : List Extent) → at_ends (λ o. 0) es ≡ 0
no_ends [] = refl
no_ends (e ∷ rest) = let more = no_ends rest in omega arith

crossed_from : (memory : List Chunk) (base : ℕ) (es : List Extent) → AreForward es → some_overlap es ≡ false →
    at_ends (passed_from base memory) es ≤ at_begins (passed_from base memory) es + length memory
crossed_from [] base es forward apart =
    let none = ends_same (passed_from base []) (λ o. 0) es (λ o. refl) ∙ no_ends es in omega arith
crossed_from (c ∷ rest) base es forward apart =
    let end = base + c.len in
    let one = one_end end es forward apart in
    let more = crossed_from rest end es forward apart in
    let ends =
    ends_same (passed_from base (c ∷ rest)) (λ o. past end o + passed_from end rest o) es (λ o. refl)
    ∙ ends_split (past end) (passed_from end rest) es in
    let begins =
    begins_same (passed_from base (c ∷ rest)) (λ o. past end o + passed_from end rest o) es (λ o. refl)
    ∙ begins_split (past end) (passed_from end rest) es in
    omega arith

ended_whole : (memory : List Chunk) (o : ℕ) → ended memory o ≡ passed_from 0 memory o
ended_whole memory o =
    let same : o - 0 ≡ o = omega arith in ap (ended memory) (sym same) ∙ ended_is memory 0 o (omega arith)

pub crossed_once : (memory : List Chunk) (es : List Extent) → AreForward es → some_overlap es ≡ false →
    at_ends (ended memory) es ≤ at_begins (ended memory) es + length memory
crossed_once memory es forward apart =
    let all = crossed_from memory 0 es forward apart in
    let ends = ends_same (ended memory) (passed_from 0 memory) es (ended_whole memory) in
    let begins = begins_same (ended memory) (passed_from 0 memory) es (ended_whole memory) in
    omega arith

-- lines of so many bytes that begin at some of these offsets, between two bounds, and share no byte

abbrev Misses : ℕ → ℕ → List (Option ℕ) → Type 0
Misses bytes from [] = Unit {0}
Misses bytes from (None ∷ rest) = Misses bytes from rest
Misses bytes from (Some other ∷ rest) =
    ((from + bytes ≤ other) ⊎ (other + bytes ≤ from)) × Misses bytes from rest

abbrev pub AreApart : ℕ → ℕ → ℕ → List (Option ℕ) → Type 0
AreApart bytes low high [] = Unit {0}
AreApart bytes low high (None ∷ rest) = AreApart bytes low high rest
AreApart bytes low high (Some from ∷ rest) =
    (low ≤ from) × (from + bytes ≤ high) × Misses bytes from rest × AreApart bytes low high rest

misses_by : (bytes from : ℕ) (start : Option ℕ) (rest : List (Option ℕ)) →
    ((o : ℕ) → start ≡ Some o → (from + bytes ≤ o) ⊎ (o + bytes ≤ from)) → Misses bytes from rest → Misses bytes from (start ∷ rest)
misses_by bytes from None rest here more = more
misses_by bytes from (Some o) rest here more = (here o refl, more)

range_missed : (f : ℕ → Option ℕ) (bytes at from count : ℕ) →
    ((k o : ℕ) → from ≤ k → k < from + count → f k ≡ Some o → (at + bytes ≤ o) ⊎ (o + bytes ≤ at)) →
    Misses bytes at (map f (range_with_len from count))
range_missed f bytes at from zero apart = tt
range_missed f bytes at from (suc count) apart =
    misses_by bytes at (f from) (map f (range_with_len (from + 1) count)) (λ o is. apart from o (omega arith) (omega arith) is)
    (range_missed f bytes at (from + 1) count (λ k o later below is. apart k o (omega arith) (omega arith) is))

apart_by : (bytes low high : ℕ) (start : Option ℕ) (rest : List (Option ℕ)) →
    ((o : ℕ) → start ≡ Some o → (low ≤ o) × (o + bytes ≤ high) × Misses bytes o rest) → AreApart bytes low high rest →
    AreApart bytes low high (start ∷ rest)
apart_by bytes low high None rest here more = more
apart_by bytes low high (Some o) rest here more = let first = here o refl in (first.0, first.1, first.2, more)

pub range_apart : (f : ℕ → Option ℕ) (bytes low high from count : ℕ) →
    ((k o : ℕ) → from ≤ k → k < from + count → f k ≡ Some o → (low ≤ o) × (o + bytes ≤ high)) →
    ((k l o p : ℕ) → k < l → l < from + count → f k ≡ Some o → f l ≡ Some p → (o + bytes ≤ p) ⊎ (p + bytes ≤ o)) →
    AreApart bytes low high (map f (range_with_len from count))
range_apart f bytes low high from zero within apart = tt
range_apart f bytes low high from (suc count) within apart =
    apart_by bytes low high (f from) (map f (range_with_len (from + 1) count))
    (λ o is. let here = within from o (omega arith) (omega arith) is in
    (here.0, here.1, range_missed f bytes o (from + 1) count (λ k p later below is'. apart from k o p (omega arith) (omega arith) is is')))
    (range_apart f bytes low high (from + 1) count (λ k o later below is. within k o (omega arith) (omega arith) is)
    (λ k l o p less below is is'. apart k l o p less (omega arith) is is'))

-- a count over the offsets so many bytes behind the lines' beginnings
abbrev counted : (ℕ → ℕ) → ℕ → List (Option ℕ) → ℕ
counted count bytes [] = 0
counted count bytes (None ∷ rest) = counted count bytes rest
counted count bytes (Some from ∷ rest) = count (from + bytes) + counted count bytes rest

counted_ended : (memory : List Chunk) (bytes : ℕ) (starts : List (Option ℕ)) →
    counted (ended memory) bytes starts ≡ all_ended memory bytes starts
counted_ended memory bytes [] = refl
counted_ended memory bytes (None ∷ rest) = let more = counted_ended memory bytes rest in omega arith
counted_ended memory bytes (Some from ∷ rest) = let more = counted_ended memory bytes rest in omega arith

counted_split : (f g : ℕ → ℕ) (bytes : ℕ) (starts : List (Option ℕ)) →
    counted (λ o. f o + g o) bytes starts ≡ counted f bytes starts + counted g bytes starts
counted_split f g bytes [] = refl
counted_split f g bytes (None ∷ rest) = counted_split f g bytes rest
counted_split f g bytes (Some from ∷ rest) = let more = counted_split f g bytes rest in omega arith

counted_same : (f g : ℕ → ℕ) (bytes : ℕ) (starts : List (Option ℕ)) → ((o : ℕ) → f o ≡ g o) →
    counted f bytes starts ≡ counted g bytes starts
counted_same f g bytes [] same = refl
counted_same f g bytes (None ∷ rest) same = counted_same f g bytes rest same
counted_same f g bytes (Some from ∷ rest) same =
    let more = counted_same f g bytes rest same in let here = same (from + bytes) in omega arith

counted_none : (bytes : ℕ) (starts : List (Option ℕ)) → counted (λ o. 0) bytes starts ≡ 0
counted_none bytes [] = refl
counted_none bytes (None ∷ rest) = counted_none bytes rest
counted_none bytes (Some from ∷ rest) = let more = counted_none bytes rest in omega arith

-- where one line crosses a chunk end, none of the others does
others_miss : (end bytes from : ℕ) (starts : List (Option ℕ)) → from < end → end ≤ from + bytes → Misses bytes from starts →
    counted (past end) bytes starts ≡ counted (past end) 0 starts
others_miss end bytes from [] begins ends misses = refl
others_miss end bytes from (None ∷ rest) begins ends misses = others_miss end bytes from rest begins ends misses
others_miss end bytes from (Some o ∷ rest) begins ends misses =
    let more = others_miss end bytes from rest begins ends misses.1 in
    let here : past end (o + bytes) ≡ past end (o + 0) =
    ⊎_elim
    (λ after. past-yes end (o + bytes) (omega arith) ∙ sym (past-yes end (o + 0) (omega arith)))
    (λ before. past-no end (o + bytes) (omega arith) ∙ sym (past-no end (o + 0) (omega arith)))
    misses.0
    in
    omega arith

past_rises : (end o p : ℕ) → o ≤ p → past end o ≤ past end p
past_rises end o p order =
    ⊎_elim
    (λ before. let none = past-no end o before in omega arith)
    (λ after. let first = past-yes end o after in let second = past-yes end p (omega arith) in omega arith)
    (cases_lt o end)

one_within : (end bytes low high : ℕ) (starts : List (Option ℕ)) → low ≤ high → AreApart bytes low high starts →
    counted (past end) bytes starts + past end low ≤ counted (past end) 0 starts + past end high
one_within end bytes low high [] forward apart = let more = past_rises end low high forward in omega arith
one_within end bytes low high (None ∷ rest) forward apart = one_within end bytes low high rest forward apart
one_within end bytes low high (Some from ∷ rest) forward apart =
    let more = one_within end bytes low high rest forward apart.3 in
    let begins = apart.0 in
    let ends = apart.1 in
    ⊎_elim
    (λ before. ⊎_elim
    (λ both_before. let here = past-no end (from + bytes) both_before in let there = past-no end (from + 0) (omega arith) in omega arith)
    (λ after.
    let others = others_miss end bytes from rest before after apart.2 in
    let here = past-yes end (from + bytes) after in
    let there = past-no end (from + 0) (omega arith) in
    let first = past-no end low (omega arith) in
    let last = past-yes end high (omega arith) in omega arith)
    (cases_lt (from + bytes) end))
    (λ after. let here = past-yes end (from + bytes) (omega arith) in let there = past-yes end (from + 0) (omega arith) in omega arith)
    (cases_lt from end)

within_from : (memory : List Chunk) (base bytes low high : ℕ) (starts : List (Option ℕ)) → low ≤ high → AreApart bytes low high starts →
    counted (passed_from base memory) bytes starts + passed_from base memory low
    ≤ counted (passed_from base memory) 0 starts + passed_from base memory high
within_from [] base bytes low high starts forward apart =
    let none = counted_same (passed_from base []) (λ o. 0) bytes starts (λ o. refl) ∙ counted_none bytes starts in
    let first : passed_from base [] low ≡ 0 = refl in omega arith
within_from (c ∷ rest) base bytes low high starts forward apart =
    let end = base + c.len in
    let one = one_within end bytes low high starts forward apart in
    let more = within_from rest end bytes low high starts forward apart in
    let split : (n : ℕ) →
    counted (passed_from base (c ∷ rest)) n starts ≡ counted (past end) n starts + counted (passed_from end rest) n starts =
    λ n. counted_same (passed_from base (c ∷ rest)) (λ o. past end o + passed_from end rest o) n starts (λ o. refl)
    ∙ counted_split (past end) (passed_from end rest) n starts
    in
    let ends = split bytes in
    let begins = split 0 in
    omega arith

-- the lines cross at most the chunk ends between their bounds
pub crossed-within : (memory : List Chunk) (bytes low high : ℕ) (starts : List (Option ℕ)) → low ≤ high → AreApart bytes low high starts →
    all_ended memory bytes starts + ended memory low ≤ all_ended memory 0 starts + ended memory high
crossed-within memory bytes low high starts forward apart =
    let all = within_from memory 0 bytes low high starts forward apart in
    let count : (n : ℕ) → counted (passed_from 0 memory) n starts ≡ all_ended memory n starts =
    λ n. counted_same (passed_from 0 memory) (ended memory) n starts (λ o. sym (ended_whole memory o)) ∙ counted_ended memory n starts
    in
    let ends = count bytes in
    let begins = count 0 in
    let first = ended_whole memory low in
    let last = ended_whole memory high in
    omega arith
