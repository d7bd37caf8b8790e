-- A description that is read meets what every description meets.
use Rattle.std.proofs.Common.{◌≡◌, ℕ, ◌≤◌, Bool, true, false, not, ◌&&◌, ◌==◌, nat_le, List, [], length, get_or, Option, Some, None, Result}
use Rattle.std.proofs.Common.{Ok, Err, inl, inr, ◌⊎◌, arith}
use Rattle.std.specs.Prelude.{IfSome, IfOk}
use Rattle.std.specs.List.{All, list_all}
use Rattle.std.proofs.lemmas.Bool.{and_parts, leb-true, not-true}
use Rattle.std.proofs.lemmas.List.Sums.{AllPass-from_list_all}
use Rattle.std.proofs.lemmas.Bool.Decides.{nat_tests}
use Rattle.toml.specs.Data.{Members, get_member}
use Rattle.toml_keys.specs.Keys.{document_of, is_there, least, unknown_names}
use Rattle.toml_keys.specs.Values as keys
use Rattle.toml_keys.specs.Values.{each, is_integer, is_row, list, list_typed, two_of, u32_of}
use Rattle.toml_keys.proofs.Chains.{told-ok}
use Rattle.toml_keys.proofs.Fitting.{absent_list, list_fits}
use Rattle.pixel_layout.specs.Layouts.{layout, planes_of}
use Rattle.page_table.specs.Grants.{max_bytes, max_chunks, total}
use Rattle.page_table.specs.Taken.{listed}
use Rattle.capture_desc.specs.declared.desc.Desc.{Desc}
use Rattle.capture_desc.specs.declared.desc.Fields.{Fields}
use Rattle.capture_desc.specs.declared.fault.Key.{Key}
use Rattle.capture_desc.specs.declared.fault.DescError.{DescError}
use Rattle.capture_desc.specs.declared.fault.Key.TheVariants as key
use Rattle.capture_desc.specs.Keys.{is_known, name_of}
use Rattle.capture_desc.specs.Values.{Reading, fault_of}
use Rattle.capture_desc.specs.WellFormed.{IsWellFormed, count, last_first, max_skip_lines}
use Rattle.capture_desc.specs.Description.{Answers, values, field_numbers, fit_fields, plane_numbers, pages, pages_beside, chunks}
use Rattle.capture_desc.specs.Description.{chunks_fit, described, described_in, unless_unknown}
use Rattle.capture_desc.proofs.Parts.{HasLists, values-lists}

some_map : {A : Type 0} (P Q : A → Type 0) (o : Option A) → ((a : A) → P a → Q a) → IfSome o P → IfSome o Q
some_map P Q None f h = tt
some_map P Q (Some a) f h = f a h

equal_from_test : (a b : ℕ) → (a == b) ≡ true → a ≡ b
equal_from_test a b h = grind (arith, nat_tests)

pub HasPlanes-read : (ms : Members) (d : Desc) (k : Key) (read : Option (List ℕ)) → plane_numbers d.format k ms ≡ Ok read →
    IfSome read (λ ns. length ns ≡ planes_of (layout d.format))
HasPlanes-read ms d k read h =
    some_map _ _ read (λ ns fits. equal_from_test _ _ fits)
    (list_fits is_integer u32_of (λ ns. length ns == planes_of (layout d.format)) (name_of k) ms read (told-ok (fault_of k) _ read h))

fit_fields-HasFields : (which : Fields) (most : ℕ) (ns : List ℕ) → fit_fields which most ns ≡ true →
    (length ns ≡ count which) × All (λ n. n ≤ most) ns
fit_fields-HasFields which most ns h =
    let parts = and_parts (length ns == count which) (list_all (λ n. nat_le n most) ns) h in (
      equal_from_test _ _ parts.0,
      λ k e below. leb-true (get_or ns k e) most (AllPass-from_list_all (λ n. nat_le n most) ns parts.1 k e below),
    )

HasFields-read : (ms : Members) (which : Fields) (most : ℕ) (k : Key) (read : Option (List ℕ)) → field_numbers which most k ms ≡ Ok read →
    IfSome read (λ ns. (length ns ≡ count which) × All (λ n. n ≤ most) ns)
HasFields-read ms which most k read h =
    some_map _ _ read (fit_fields-HasFields which most)
    (list_fits is_integer u32_of (fit_fields which most) (name_of k) ms read (told-ok (fault_of k) _ read h))

-- pages that are read are those of the key, or none beside chunks
pages_read : (has_chunks : Bool) (reading : keys.Reading (Option (List ℕ))) (read : List ℕ) → pages_beside has_chunks reading ≡ Ok read →
    (reading ≡ Ok (Some read)) ⊎ (read ≡ [])
pages_read true (Ok (Some ns)) read h = inl (cc)
pages_read true (Ok None) read h = inr (cc)
pages_read true (Err fault) read h = absurd (cc)
pages_read false (Ok (Some ns)) read h = inl (cc)
pages_read false (Ok None) read h = absurd (cc)
pages_read false (Err fault) read h = absurd (cc)

page_list : Members → keys.Reading (Option (List ℕ))
page_list ms = list is_integer u32_of (λ ns. nat_le (length ns) max_chunks) (name_of key.Pages) ms

few_pages : (ms : Members) (read : List ℕ) → pages ms ≡ Ok read → length read ≤ max_chunks
unfolding page_list
few_pages ms read h =
    elim (pages_read (is_there (name_of key.Chunks) ms) (page_list ms) read (told-ok (fault_of key.Pages) _ read h)) [
      | inl there ↦ (let fits : nat_le (length read) max_chunks ≡ true = list_fits is_integer u32_of (λ ns. nat_le (length ns) max_chunks)
          (name_of key.Pages) ms (Some read) there in grind (arith, nat_tests))
      | inr none ↦ rw none (omega arith)
    ]

no_pages : (ms : Members) (read : List ℕ) → is_there (name_of key.Pages) ms ≡ false → pages ms ≡ Ok read → read ≡ []
unfolding page_list
no_pages ms read absent h =
    elim (pages_read (is_there (name_of key.Chunks) ms) (page_list ms) read (told-ok (fault_of key.Pages) _ read h)) [
      | inl there ↦ (let none : page_list ms ≡ Ok None = absent_list (list_typed is_integer) (each u32_of)
          (λ ns. nat_le (length ns) max_chunks) (get_member (name_of key.Pages) ms) absent in absurd (cc))
      | inr none ↦ none
    ]

-- chunks that fit
record Fit (has_pages : Bool) (list : List (ℕ × ℕ)) : Type 0 where
  few : length list ≤ max_chunks
  small : total (listed list) ≤ max_bytes
  alone : has_pages ≡ false

fit : (has_pages : Bool) (list : List (ℕ × ℕ)) → chunks_fit has_pages list ≡ true → Fit has_pages list
fit has_pages list h =
    let (sizes, alone) = and_parts (nat_le (length list) max_chunks && nat_le (total (listed list)) max_bytes) (not has_pages) h in
    let (few, small) = and_parts (nat_le (length list) max_chunks) (nat_le (total (listed list)) max_bytes) sizes in
    record { few = grind (arith, nat_tests); small = grind (arith, nat_tests); alone = not-true has_pages alone }

chunks_read : (ms : Members) (read : Option (List (ℕ × ℕ))) → chunks ms ≡ Ok read → IfSome read (Fit (is_there (name_of key.Pages) ms))
chunks_read ms read h =
    some_map _ _ read (λ cs fits. fit (is_there (name_of key.Pages) ms) cs fits)
    (list_fits is_row two_of (chunks_fit (is_there (name_of key.Pages) ms)) (name_of key.Chunks) ms read
    (told-ok (fault_of key.Chunks) _ read h))

pub HasLists-IsWellFormed : (ms : Members) (d : Desc) → HasLists ms d → IsWellFormed d
HasLists-IsWellFormed ms d has =
    let fits = chunks_read ms d.chunks has.chunks in
    record {
      stride = HasPlanes-read ms d key.Stride d.stride has.stride;
      offset = HasPlanes-read ms d key.Offset d.offset has.offset;
      chroma_first = HasFields-read ms d.fields (last_first d.format) key.ChromaFirst d.chroma_first has.chroma_first;
      vbi_skip = HasFields-read ms d.fields max_skip_lines key.VbiSkip d.vbi_skip has.vbi_skip;
      pages = few_pages ms d.pages has.pages;
      no_pages = some_map _ _ d.chunks (λ cs fit. no_pages ms d.pages fit.alone has.pages) fits;
      chunks = some_map _ _ d.chunks (λ cs fit. fit.few) fits;
      bytes = some_map _ _ d.chunks (λ cs fit. fit.small) fits;
    }

unless_known : (unknown : Option (List ℕ)) (reading : Reading Desc) (d : Desc) → unless_unknown unknown reading ≡ Ok d → reading ≡ Ok d
unless_known None reading d is = is
unless_known (Some name) reading d is = absurd (cc)

document-IsWellFormed : (document : Option Members) (d : Desc) → described_in document ≡ Ok d → IsWellFormed d
document-IsWellFormed None d is = absurd (cc)
document-IsWellFormed (Some ms) d is =
    HasLists-IsWellFormed ms d (values-lists ms d (unless_known (least (unknown_names is_known ms)) (values ms) d is))

pub described-IsWellFormed : (text : List ℕ) (d : Desc) → described text ≡ Ok d → IsWellFormed d
described-IsWellFormed text d is = document-IsWellFormed (document_of text) d is

pub answered-IsWellFormed : (text : List ℕ) (answer : Result Desc DescError) → Answers (described text) answer → IfOk answer IsWellFormed
answered-IsWellFormed text (Ok d) is = described-IsWellFormed text d is
answered-IsWellFormed text (Err error) is = tt
