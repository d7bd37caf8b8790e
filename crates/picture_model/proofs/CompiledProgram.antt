-- The compiled program of a valid description can be made.
use Rattle.std.proofs.Common.{◌≡◌, ℕ, suc, ◌+◌, ◌*◌, ◌^◌, ◌<◌, ◌≤◌, Bool, true, false, List, [], ◌∷◌, ◌++◌, length, length-append, Option}
use Rattle.std.proofs.Common.{Some, None, refl, sym, ap, ◌∙◌, subst, arith, ⊎_elim}
use Rattle.std.specs.Prelude.{IfSome}
use Rattle.std.specs.List.{All, list_any}
use Rattle.std.proofs.lemmas.Bool.{cases_Bool, cond-true, or_parts}
use Rattle.std.proofs.lemmas.Grind.{flat_map-append}
use Rattle.risc_word.specs.Words.{encoded}
use Rattle.pixel_layout.specs.declared.Parity.{Parity}
use Rattle.pixel_layout.specs.declared.Parity.TheVariants.{Top, Bottom}
use Rattle.page_table.specs.Grants.{AreGrants, AreRising, Chunk, total}
use Rattle.page_table.specs.Taken.{all_placed, first_shared, in_order, is_aligned, listed, placed, shares}
use Rattle.page_table.proofs.Gathering.{IsGathered, chunk_from_test, none_gathered, one_more}
use Rattle.page_table.proofs.Pages.{total-pages}
use Rattle.page_table.proofs.Placing.{length-placed, total-cons, total-placed}
use Rattle.machine_model.specs.Paths.{IsProgram, RiscProgram, shares_byte}
use Rattle.machine_model.proofs.OneSpan.{one_span-made}
use Rattle.capture_desc.specs.declared.desc.Desc.{Desc}
use Rattle.capture_desc.specs.declared.desc.Fields.{Fields}
use Rattle.capture_desc.specs.declared.desc.Fields.TheVariants as fields
use Rattle.picture_model.specs.Described.{IsDescription, describes, memory_from, memory_of}
use Rattle.picture_model.specs.Geometry.{IsValid}
use Rattle.picture_model.specs.Programs.{body, closing, compiled, compiled_words, opening, section, section_length, sections_by, words_of}
use Rattle.picture_model.proofs.Each.{Each, each_All, each_append, each_flat_map, each_only}
use Rattle.picture_model.proofs.FaultlessLines.{AreWords, IsGoodInstr}
use Rattle.picture_model.proofs.Limit.{memory_few, sections_few}
use Rattle.picture_model.proofs.Places.{any-in_order}
use Rattle.picture_model.proofs.FaultlessGeometry.{IsFrame-IsRight, IsRight, IsValid-HasRoom, IsValid-IsFrame}
use Rattle.picture_model.proofs.Sections.{closing_words, good_body, section_long}

-- chunks in rising order

length-all_placed : (rising rest : List Chunk) → length (all_placed rising rest) ≡ length rising + length rest
length-all_placed rising [] = omega arith
length-all_placed rising (c ∷ rest) =
    let more = length-all_placed (placed c rising) rest in let one = length-placed c rising in omega arith

total-all_placed : (rising rest : List Chunk) → total (all_placed rising rest) ≡ total rising + total rest
total-all_placed rising [] = let none : total [] ≡ 0 = refl in omega arith
total-all_placed rising (c ∷ rest) =
    let more = total-all_placed (placed c rising) rest in
    let one = total-placed c rising in
    let first = total-cons c rest in omega arith

unshared : (earlier : List Chunk) (c : Chunk) (rest : List Chunk) → first_shared earlier (c ∷ rest) ≡ None →
    list_any (shares c) earlier ≡ false
unshared earlier c rest none =
    ⊎_elim
    (λ yes. let some : Some (length earlier) ≡ None =
    sym (cond-true (list_any (shares c) earlier) (Some (length earlier)) (first_shared (earlier ++ c ∷ []) rest) yes) ∙ none in cc)
    (λ no. no)
    (cases_Bool (list_any (shares c) earlier))

rising_gathered : (rising earlier rest all : List Chunk) → IsGathered rising earlier rest all → Each (λ c. is_aligned c ≡ true) rest →
    first_shared [] all ≡ None → AreRising 0 (in_order all)
rising_gathered rising earlier [] all so_far aligned none = subst (AreRising 0) so_far.order so_far.rises
rising_gathered rising earlier (c ∷ rest) all so_far aligned none =
    let apart = unshared earlier c rest (so_far.first ∙ none) in
    rising_gathered (placed c rising) (earlier ++ c ∷ []) rest all
    (one_more rising earlier rest all c so_far (chunk_from_test c aligned.0) (so_far.same c ∙ apart)) aligned.1 none

each_of : (chunks : List Chunk) → All (λ c. is_aligned c ≡ true) chunks → Each (λ c. is_aligned c ≡ true) chunks
each_of [] all = tt
each_of (c ∷ rest) all = (all 0 c (omega arith), each_of rest (λ k d below. all (suc k) d (omega arith)))

total_few : (chunks : Option (List (ℕ × ℕ))) (pages : List ℕ) → length pages ≤ 4096 → IfSome chunks (λ cs. total (listed cs) ≤ 16777216) →
    total (memory_from chunks pages) ≤ 2 ^ 24
total_few None pages few bytes = let all = total-pages pages in omega arith
total_few (Some pairs) pages few bytes = bytes

-- chunks without a fault, put into rising order, are granted memory
pub chunks_grants : (memory : List Chunk) → length memory ≤ 4096 → total memory ≤ 2 ^ 24 → All (λ c. is_aligned c ≡ true) memory →
    first_shared [] memory ≡ None → AreGrants (in_order memory)
chunks_grants memory few small aligned apart =
    let same = length-all_placed [] memory in
    let bytes = total-all_placed [] memory in
    let none : total [] ≡ 0 = refl in
    record {
      few = omega arith;
      small = omega arith;
      rising = rising_gathered [] [] memory memory (none_gathered memory) (each_of memory aligned) apart;
    }

pub memory_grants : (d : Desc) → IsDescription d → IsRight d → AreGrants (in_order (memory_of d))
memory_grants d is right =
    chunks_grants (memory_of d) (memory_few d is)
    (total_few d.chunks d.pages is.formed.pages is.formed.bytes) right.aligned right.chunks_apart

pub none_shares : (test : Chunk → Bool) (chunks : List Chunk) → list_any test chunks ≡ false → Each (λ c. test c ≡ false) chunks
none_shares test [] none = tt
none_shares test (c ∷ rest) none =
    let parts = or_parts (test c) (list_any test rest) none in (parts.0, none_shares test rest parts.1)

-- the words

module _ (d : Desc) (program : RiscProgram) where
  section_words : (field : Parity) (target : ℕ) → target < 2 ^ 32 → Each (IsGoodInstr program) (opening field ∷ body d field) →
      AreWords (words_of (section d field target))
  section_words field target small good =
      each_flat_map (λ i. AreWords (encoded i)) (λ word. word < 2 ^ 32) encoded (section d field target) (λ i words. words)
      (each_append (λ i. AreWords (encoded i)) (opening field ∷ body d field) (closing field target ∷ [])
      (each_only (IsGoodInstr program) (λ i. AreWords (encoded i)) (opening field ∷ body d field) (λ i g. g.words) good)
      (closing_words field target small, tt))

  words_by : (which : Fields) (base : ℕ) →
      ((field : Parity) → describes which field ≡ true → Each (IsGoodInstr program) (opening field ∷ body d field)) →
      base + 4 * length (words_of (sections_by which d base base)) ≤ 2 ^ 32 → AreWords (words_of (sections_by which d base base))
  words_by fields.Top base good ends = section_words Top base (omega arith) (good Top refl)
  words_by fields.Bottom base good ends = section_words Bottom base (omega arith) (good Bottom refl)
  words_by fields.Both base good ends =
      let mid = base + 4 * section_length d Top in
      let first = section d Top mid in
      let last = section d Bottom base in
      let parts = flat_map-append encoded first last in
      let all = ap length parts ∙ length-append (words_of first) (words_of last) in
      let long = section_long d Top mid in
      subst AreWords (sym parts)
      (each_append (λ word. word < 2 ^ 32) (words_of first) (words_of last)
      (section_words Top mid (omega arith) (good Top refl))
      (section_words Bottom base (omega arith) (good Bottom refl)))

-- there are words, whatever is described
some_words : (which : Fields) (d : Desc) (base : ℕ) → 0 < length (words_of (sections_by which d base base))
some_words fields.Top d base = omega arith
some_words fields.Bottom d base = omega arith
some_words fields.Both d base = omega arith

pub compiled_program : (d : Desc) → IsDescription d → IsValid d → IsProgram (compiled d)
compiled_program d is valid =
    let right = IsFrame-IsRight d is (IsValid-IsFrame d valid) in
    let room = IsValid-HasRoom d valid in
    let ends = room.ends in
    let some = some_words d.fields d d.base in
    let few = sections_few d d.base d.base is right in
    one_span-made d.base (compiled_words d) (compiled d).grants room.base (omega arith) (omega arith) ends
    (each_All (λ word. word < 2 ^ 32) (compiled_words d)
    (words_by d (compiled d) d.fields d.base (good_body d right (compiled d) refl) ends))
    (memory_grants d is right)
    (each_All (λ c. shares_byte (compiled d) c ≡ false) (compiled d).grants
    (none_shares (shares_byte (compiled d)) (compiled d).grants (any-in_order (shares_byte (compiled d)) (memory_of d) ∙ room.apart)))
