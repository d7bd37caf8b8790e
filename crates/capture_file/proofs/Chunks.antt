-- The chunks of a program file are grants.
use Rattle.std.proofs.Common.{◌≡◌, ℕ, zero, suc, ◌+◌, ◌*◌, ◌%◌, ◌^◌, max, ◌<◌, ◌≤◌, Bool, true, false, cond, not, ◌&&◌, List, [], ◌∷◌, ◌++◌}
use Rattle.std.proofs.Common.{length, get_or, drop, Option, Some, None, Result, Ok, Err}
use Rattle.std.proofs.Common.{refl, sym, ap, subst, ◌∙◌, arith, append_assoc}
use Rattle.std.specs.Prelude.{nat_lt, nat_le, ◌==◌}
use Rattle.std.specs.List.{All, list_any, position, prefix_len}
use Rattle.std.proofs.lemmas.Bool.{and_parts, ltb-false, leb-true, eqb-true, le-ltb, lt-ltb, le-leb, not-false}
use Rattle.std.proofs.lemmas.List.{get_or-drop, append-nil}
use Rattle.std.proofs.lemmas.List.Elements.{All-cons}
use Rattle.byteorder.specs.Endian.{little_number}
use Rattle.page_table.specs.Grants.{Chunk, chunk, IsChunk, AreRising, total}
use Rattle.page_table.specs.declared.PageFault.{PageFault}
use Rattle.page_table.specs.declared.PageFault.TheVariants.{TooMany, Unaligned, Twice, Memory}
use Rattle.page_table.specs.Taken.{listed, pair_chunk, is_aligned, shares, first_shared, placed, all_placed, taken_chunks, Answers}
use Rattle.page_table.proofs.Placing.{total-cons}
use Rattle.machine_model.specs.Paths.{RiscProgram, shares_byte}
use Rattle.capture_file.specs.declared.FileKind.{FileKind}
use Rattle.capture_file.specs.declared.FileKind.TheVariants as fault
use Rattle.capture_file.specs.declared.FileFault.{FileFault}
use Rattle.capture_file.specs.declared.program.Layout.{Layout}
use Rattle.capture_file.specs.declared.program.Layout.TheVariants.{Paged, Chunked}
use Rattle.capture_file.specs.Programs.{◌>>=◌, number_field, judged, page_fault, address_fault, is_length, length_fault, page_field}
use Rattle.capture_file.specs.Programs.{long_chunk_field, chunk_field, chunks_field}

-- ---- steps that did not fail

pub bind_ok : {A B : Type 0} (r : Result A FileFault) (f : A → Result B FileFault) (y : B) → (r >>= f) ≡ Ok y →
    (x : A) × (r ≡ Ok x) × (f x ≡ Ok y)
bind_ok (Ok x) f y e = (x, refl, e)
bind_ok (Err d) f y e = absurd (cc)

pub judged_ok : (kind : Option FileKind) (size : ℕ) (bytes : List ℕ) (u : Unit {0}) → judged kind size bytes ≡ Ok u → kind ≡ None
judged_ok None size bytes u e = refl
judged_ok (Some kind) size bytes u e = absurd (cc)

pub no_fault : (b : Bool) (kind : FileKind) (next : Option FileKind) → cond b (Some kind) next ≡ None → (b ≡ false) × (next ≡ None)
no_fault true kind next e = absurd (cc)
no_fault false kind next e = (refl, e)

pub some_fault : (b : Bool) (kind : FileKind) → cond b None (Some kind) ≡ None → b ≡ true
some_fault true kind e = refl
some_fault false kind e = absurd (cc)

abbrev pub IsBytes : List ℕ → Type 0
IsBytes bytes = (i : ℕ) → get_or bytes i 0 < 256

pub IsBytes-drop : (n : ℕ) (bytes : List ℕ) → IsBytes bytes → IsBytes (drop n bytes)
IsBytes-drop n bytes h i = rw get_or-drop (h (n + i))

abbrev done : {A : Type 0} → A → Result A FileFault
done x = Ok x

pub ok_is : {A : Type 0} (x y : A) → done x ≡ done y → x ≡ y
ok_is x y e = cc

-- ---- numbers

number_fits : (size : ℕ) (bytes : List ℕ) (x : ℕ × List ℕ) → IsBytes bytes → number_field size bytes ≡ Ok x → (x.0 < 2 ^ 32) × IsBytes x.1
number_fits size [] x fits e = absurd (cc)
number_fits size (a ∷ []) x fits e = absurd (cc)
number_fits size (a ∷ b ∷ []) x fits e = absurd (cc)
number_fits size (a ∷ b ∷ c ∷ []) x fits e = absurd (cc)
number_fits size (a ∷ b ∷ c ∷ d ∷ rest) x fits e =
    let same : (little_number 4 (a ∷ b ∷ c ∷ d ∷ []), rest) ≡ x = cc in
    let low : little_number 4 (a ∷ b ∷ c ∷ d ∷ []) < 2 ^ 32 = omega (arith, fits 0, fits 1, fits 2, fits 3) in
    subst (λ (p : ℕ × List ℕ). (p.0 < 2 ^ 32) × IsBytes p.1) same (low, λ i. IsBytes-drop 4 (a ∷ b ∷ c ∷ d ∷ rest) fits i)

-- ---- one chunk

abbrev pub Follows : RiscProgram → ℕ → Chunk → Type 0
Follows program from c = (from ≤ c.at) × IsChunk c × (shares_byte program c ≡ false)

page_right : (program : RiscProgram) (from at : ℕ) → page_fault program from at ≡ None → at < 2 ^ 32 → Follows program from (chunk at 4096)
page_right program from at e low =
    let a =
    no_fault (not (at % 4096 == 0)) fault.Page
    (cond (nat_lt at from) (Some fault.Order) (cond (shares_byte program (chunk at 4096)) (Some fault.Overlap) None)) e in
    let b = no_fault (nat_lt at from) fault.Order (cond (shares_byte program (chunk at 4096)) (Some fault.Overlap) None) a.1 in
    let c = no_fault (shares_byte program (chunk at 4096)) fault.Overlap None b.1 in
    let paged : at % 4096 ≡ 0 = eqb-true (at % 4096) 0 (not-false (at % 4096 == 0) a.0) in
    (ltb-false at from b.0, record { at_aligned = omega arith; len_aligned = refl; some = omega arith; ends = omega arith }, c.0)

address_right : (from at : ℕ) → address_fault from at ≡ None → (at % 4 ≡ 0) × (from ≤ at)
address_right from at e =
    let a = no_fault (not (at % 4 == 0)) fault.Page (cond (nat_lt at from) (Some fault.Order) None) e in
    let b = no_fault (nat_lt at from) fault.Order None a.1 in
    (eqb-true (at % 4) 0 (not-false (at % 4 == 0) a.0), ltb-false at from b.0)

pub above_zero : (n : ℕ) → not (n == 0) ≡ true → 0 < n
above_zero zero e = absurd (cc)
above_zero (suc n) e = omega arith

length_right : (program : RiscProgram) (from sum at len : ℕ) → length_fault program sum at len ≡ None → (at % 4 ≡ 0) × (from ≤ at) →
    Follows program from (chunk at len) × (sum + len ≤ 16777216)
length_right program from sum at len e h =
    let a = no_fault (not (is_length sum at len)) fault.Length (cond (shares_byte program (chunk at len)) (Some fault.Overlap) None) e in
    let b = no_fault (shares_byte program (chunk at len)) fault.Overlap None a.1 in
    let all : is_length sum at len ≡ true = not-false (is_length sum at len) a.0 in
    let last = and_parts (not (len == 0) && len % 4 == 0 && nat_le (at + len) (2 ^ 32)) (nat_le (sum + len) 16777216) all in
    let third = and_parts (not (len == 0) && len % 4 == 0) (nat_le (at + len) (2 ^ 32)) last.0 in
    let second = and_parts (not (len == 0)) (len % 4 == 0) third.0 in
    let some : 0 < len = above_zero len second.0 in
    let even : len % 4 ≡ 0 = eqb-true (len % 4) 0 second.1 in
    let ends : at + len ≤ 2 ^ 32 = leb-true (at + len) (2 ^ 32) third.1 in
    let small : sum + len ≤ 16777216 = leb-true (sum + len) 16777216 last.1 in
    ((h.1, record { at_aligned = h.0; len_aligned = even; some = omega arith; ends = ends }, b.0), small)

-- the bytes of the chunks so far: pages have 4,096 each
abbrev pub Sums : Layout → ℕ → ℕ → Type 0
Sums Paged sum len = len ≡ 4096
Sums Chunked sum len = sum + len ≤ 16777216

abbrev pub ChunkRight : Layout → RiscProgram → ℕ → ℕ → Chunk × List ℕ → Type 0
ChunkRight layout program from sum x = Follows program from x.0 × Sums layout sum x.0.len × IsBytes x.1

page_read : (size : ℕ) (program : RiscProgram) (from sum : ℕ) (bytes : List ℕ) (x : Chunk × List ℕ) → IsBytes bytes →
    page_field size program from bytes ≡ Ok x → ChunkRight Paged program from sum x
unfolding page_field
page_read size program from sum bytes x fits e =
    let a =
    bind_ok (number_field size bytes) (λ at. judged (page_fault program from at.0) size bytes >>= λ _. Ok (chunk at.0 4096, at.1)) x e in
    let b = bind_ok (judged (page_fault program from a.0.0) size bytes) (λ _. Ok (chunk a.0.0 4096, a.0.1)) x a.2 in
    let number = number_fits size bytes a.0 fits a.1 in
    let right = page_right program from a.0.0 (judged_ok (page_fault program from a.0.0) size bytes b.0 b.1) number.0 in
    let same : (chunk a.0.0 4096, a.0.1) ≡ x = ok_is (chunk a.0.0 4096, a.0.1) x b.2 in
    subst (λ (y : Chunk × List ℕ). ChunkRight Paged program from sum y) same (right, refl, number.1)

-- what was read of a chunk and its length, neither of which is at fault
pub record LongChunk (size : ℕ) (program : RiscProgram) (from sum : ℕ) (bytes : List ℕ) (x : Chunk × List ℕ) : Type 0 where
  pub at : ℕ × List ℕ
  pub at_read : number_field size bytes ≡ Ok at
  pub at_fine : address_fault from at.0 ≡ None
  pub len : ℕ × List ℕ
  pub len_read : number_field size at.1 ≡ Ok len
  pub len_fine : length_fault program sum at.0 len.0 ≡ None
  pub is : (chunk at.0 len.0, len.1) ≡ x

pub long_chunk_parts : (size : ℕ) (program : RiscProgram) (from sum : ℕ) (bytes : List ℕ) (x : Chunk × List ℕ) →
    long_chunk_field size program from sum bytes ≡ Ok x → LongChunk size program from sum bytes x
unfolding long_chunk_field
long_chunk_parts size program from sum bytes x e =
    let a = bind_ok (number_field size bytes)
    (λ at. judged (address_fault from at.0) size bytes >>= λ _. number_field size at.1
    >>= λ len. judged (length_fault program sum at.0 len.0) size at.1 >>= λ _. Ok (chunk at.0 len.0, len.1)) x e in
    let b = bind_ok (judged (address_fault from a.0.0) size bytes)
    (λ _. number_field size a.0.1 >>= λ len. judged (length_fault program sum a.0.0 len.0) size a.0.1
    >>= λ _. Ok (chunk a.0.0 len.0, len.1)) x a.2 in
    let c =
    bind_ok (number_field size a.0.1)
    (λ len. judged (length_fault program sum a.0.0 len.0) size a.0.1 >>= λ _. Ok (chunk a.0.0 len.0, len.1)) x b.2 in
    let d = bind_ok (judged (length_fault program sum a.0.0 c.0.0) size a.0.1) (λ _. Ok (chunk a.0.0 c.0.0, c.0.1)) x c.2 in
    record {
      at = a.0;
      at_read = a.1;
      at_fine = judged_ok (address_fault from a.0.0) size bytes b.0 b.1;
      len = c.0;
      len_read = c.1;
      len_fine = judged_ok (length_fault program sum a.0.0 c.0.0) size a.0.1 d.0 d.1;
      is = ok_is (chunk a.0.0 c.0.0, c.0.1) x d.2;
    }

long_chunk_read : (size : ℕ) (program : RiscProgram) (from sum : ℕ) (bytes : List ℕ) (x : Chunk × List ℕ) → IsBytes bytes →
    long_chunk_field size program from sum bytes ≡ Ok x → ChunkRight Chunked program from sum x
long_chunk_read size program from sum bytes x fits e =
    let c = long_chunk_parts size program from sum bytes x e in
    let first = number_fits size bytes c.at fits c.at_read in
    let second = number_fits size c.at.1 c.len first.1 c.len_read in
    let right = length_right program from sum c.at.0 c.len.0 c.len_fine (address_right from c.at.0 c.at_fine) in
    subst (λ (y : Chunk × List ℕ). ChunkRight Chunked program from sum y) c.is (right.0, right.1, second.1)

chunk_read : (layout : Layout) (size : ℕ) (program : RiscProgram) (from sum : ℕ) (bytes : List ℕ) (x : Chunk × List ℕ) → IsBytes bytes →
    chunk_field layout size program from sum bytes ≡ Ok x → ChunkRight layout program from sum x
chunk_read Paged size program from sum bytes x fits e = page_read size program from sum bytes x fits e
chunk_read Chunked size program from sum bytes x fits e = long_chunk_read size program from sum bytes x fits e

-- ---- all chunks

abbrev pub Totals : Layout → ℕ → ℕ → List Chunk → Type 0
Totals Paged sum count chunks = total chunks ≡ 4096 * count
Totals Chunked sum count chunks = sum + total chunks ≤ max sum 16777216

pub record AreRead (layout : Layout) (program : RiscProgram) (from sum count : ℕ) (x : List Chunk × List ℕ) : Type 0 where
  pub rising : AreRising from x.0
  pub apart : All (λ c. shares_byte program c ≡ false) x.0
  pub len : length x.0 ≡ count
  pub totals : Totals layout sum count x.0
  pub fits : IsBytes x.1

totals_more : (layout : Layout) (sum count : ℕ) (c : Chunk) (chunks : List Chunk) → Sums layout sum c.len →
    Totals layout (sum + c.len) count chunks → Totals layout sum (suc count) (c ∷ chunks)
totals_more Paged sum count c chunks h t = omega (arith, total-cons c chunks)
totals_more Chunked sum count c chunks h t = omega (arith, total-cons c chunks)

totals_none : (layout : Layout) (sum : ℕ) → Totals layout sum 0 []
totals_none Paged sum = refl
totals_none Chunked sum = omega arith

pub chunks_read : (layout : Layout) (size : ℕ) (program : RiscProgram) (count from sum : ℕ) (bytes : List ℕ) (x : List Chunk × List ℕ) →
    IsBytes bytes →
    chunks_field layout size program count from sum bytes ≡ Ok x → AreRead layout program from sum count x
unfolding chunks_field
chunks_read layout size program zero from sum bytes x fits e =
    let same : ([], bytes) ≡ x = ok_is ([], bytes) x e in
    subst (λ (y : List Chunk × List ℕ). AreRead layout program from sum 0 y) same
    (record { rising = tt; apart = λ k d h. absurd (omega arith); len = refl; totals = totals_none layout sum; fits = fits })
chunks_read layout size program (suc count) from sum bytes x fits e =
    let a = bind_ok (chunk_field layout size program from sum bytes)
    (λ c. chunks_field layout size program count (c.0.at + c.0.len) (sum + c.0.len) c.1 >>= λ others. Ok (c.0 ∷ others.0, others.1)) x e in
    let b =
    bind_ok (chunks_field layout size program count (a.0.0.at + a.0.0.len) (sum + a.0.0.len) a.0.1)
    (λ others. Ok (a.0.0 ∷ others.0, others.1)) x a.2 in
    let one = chunk_read layout size program from sum bytes a.0 fits a.1 in
    let rest = chunks_read layout size program count (a.0.0.at + a.0.0.len) (sum + a.0.0.len) a.0.1 b.0 one.2 b.1 in
    let same : (a.0.0 ∷ b.0.0, b.0.1) ≡ x = ok_is (a.0.0 ∷ b.0.0, b.0.1) x b.2 in
    subst (λ (y : List Chunk × List ℕ). AreRead layout program from sum (suc count) y) same
    (record {
      rising = (one.0.0, one.0.1, rest.rising);
      apart = All-cons (λ (c : Chunk). shares_byte program c ≡ false) a.0.0 b.0.0 one.0.2 rest.apart;
      len = ap suc rest.len;
      totals = totals_more layout sum count a.0.0 b.0.0 one.1 rest.totals;
      fits = rest.fits;
    })

-- ---- chunks that rise are taken as they are

-- all of these end at an address or before it, and have a byte
abbrev EndBy : ℕ → List Chunk → Type 0
EndBy from [] = Unit {0}
EndBy from (d ∷ rest) = (d.at < d.at + d.len) × (d.at + d.len ≤ from) × EndBy from rest

end_later : (from to : ℕ) (chunks : List Chunk) → from ≤ to → EndBy from chunks → EndBy to chunks
end_later from to [] le h = tt
end_later from to (d ∷ rest) le h = (h.0, omega arith, end_later from to rest le h.2)

end_push : (from : ℕ) (chunks : List Chunk) (c : Chunk) → EndBy from chunks → (c.at < c.at + c.len) × (c.at + c.len ≤ from) →
    EndBy from (chunks ++ c ∷ [])
end_push from [] c h last = (last.0, last.1, tt)
end_push from (d ∷ rest) c h last = (h.0, h.1, end_push from rest c h.2 last)

none_share : (from : ℕ) (chunks : List Chunk) (c : Chunk) → EndBy from chunks → from ≤ c.at → list_any (shares c) chunks ≡ false
none_share from [] c h le = refl
none_share from (d ∷ rest) c h le = rw (le-ltb c.at (d.at + d.len) (omega arith)) (none_share from rest c h.2 le)

placed_last : (from : ℕ) (chunks : List Chunk) (c : Chunk) → EndBy from chunks → from ≤ c.at → placed c chunks ≡ chunks ++ c ∷ []
placed_last from [] c h le = refl
placed_last from (d ∷ rest) c h le = rw (le-ltb c.at d.at (omega arith)) (ap (λ (cs : List Chunk). d ∷ cs) (placed_last from rest c h.2 le))

rising_unshared : (from : ℕ) (earlier chunks : List Chunk) → EndBy from earlier → AreRising from chunks → first_shared earlier chunks ≡ None
rising_unshared from earlier [] h rising = refl
rising_unshared from earlier (c ∷ rest) h rising =
    let some = rising.1.some in
    rw (none_share from earlier c h rising.0)
    (rising_unshared (c.at + c.len) (earlier ++ c ∷ []) rest
    (end_push (c.at + c.len) earlier c (end_later from (c.at + c.len) earlier (omega arith) h) (omega arith, omega arith)) rising.2)

rising_placed : (from : ℕ) (earlier chunks : List Chunk) → EndBy from earlier → AreRising from chunks →
    all_placed earlier chunks ≡ earlier ++ chunks
rising_placed from earlier [] h rising = sym (append-nil earlier)
rising_placed from earlier (c ∷ rest) h rising =
    let some = rising.1.some in
    rw (placed_last from earlier c h rising.0)
    (rising_placed (c.at + c.len) (earlier ++ c ∷ []) rest
    (end_push (c.at + c.len) earlier c (end_later from (c.at + c.len) earlier (omega arith) h) (omega arith, omega arith)) rising.2
    ∙ append_assoc earlier (c ∷ []) rest)

chunk_aligned : (c : Chunk) → IsChunk c → is_aligned c ≡ true
chunk_aligned c is =
    let some = is.some in
    rw (is.at_aligned, is.len_aligned, lt-ltb 0 c.len (omega arith), le-leb (c.at + c.len) (2 ^ 32) is.ends) refl

all_aligned : (from : ℕ) (pairs : List (ℕ × ℕ)) → AreRising from (listed pairs) →
    prefix_len (λ (pair : ℕ × ℕ). not (not (is_aligned (pair_chunk pair)))) pairs ≡ length pairs
all_aligned from [] rising = refl
all_aligned from (pair ∷ pairs) rising =
    let rest = all_aligned (pair.0 + pair.1) pairs rising.2 in
    rw (chunk_aligned (pair_chunk pair) rising.1, rest) (omega arith)

rising_aligned : (from : ℕ) (pairs : List (ℕ × ℕ)) → AreRising from (listed pairs) →
    position (λ (pair : ℕ × ℕ). not (is_aligned (pair_chunk pair))) pairs ≡ None
rising_aligned from pairs rising = rw (all_aligned from pairs rising, le-ltb (length pairs) (length pairs) (omega arith)) refl

pub rising_taken : (pairs : List (ℕ × ℕ)) → AreRising 0 (listed pairs) → length pairs ≤ 4096 → total (listed pairs) ≤ 2 ^ 24 →
    taken_chunks pairs ≡ Ok (listed pairs)
rising_taken pairs rising few small =
    rw (
      le-ltb 4096 (length pairs) few,
      le-ltb (2 ^ 24) (total (listed pairs)) small,
      rising_aligned 0 pairs rising,
      rising_unshared 0 [] (listed pairs) tt rising,
      rising_placed 0 [] (listed pairs) tt rising,
    ) refl

pub taken_is : (pairs : List (ℕ × ℕ)) (grants : List Chunk) → AreRising 0 (listed pairs) → length pairs ≤ 4096 →
    total (listed pairs) ≤ 2 ^ 24 → taken_chunks pairs ≡ Ok grants → grants ≡ listed pairs
taken_is pairs grants rising few small e = cc (rising_taken pairs rising few small)

pub not_taken : (pairs : List (ℕ × ℕ)) (fault : PageFault) → AreRising 0 (listed pairs) → length pairs ≤ 4096 →
    total (listed pairs) ≤ 2 ^ 24 → Answers (taken_chunks pairs) (Err fault) → (fault ≡ Memory → ⊥) → ⊥
not_taken pairs Memory rising few small e other = other refl
not_taken pairs TooMany rising few small e other = cc (rising_taken pairs rising few small, e)
not_taken pairs (Unaligned i) rising few small e other = cc (rising_taken pairs rising few small, e)
not_taken pairs (Twice i) rising few small e other = cc (rising_taken pairs rising few small, e)

-- ---- what is read

pub totals_small : (layout : Layout) (count : ℕ) (chunks : List Chunk) → count ≤ 4096 → Totals layout 0 count chunks → total chunks ≤ 2 ^ 24
totals_small Paged count chunks few h = omega arith
totals_small Chunked count chunks few h = omega arith

pub listed_length : (pairs : List (ℕ × ℕ)) → length pairs ≡ length (listed pairs)
listed_length [] = refl
listed_length (pair ∷ pairs) = ap suc (listed_length pairs)
