-- What a fault of the keys shows of the table.
use Rattle.std.proofs.Common.{◌≡◌, ℕ, Bool, true, false, List, [], Option, Some, None, Result, Ok, Err, length, nat_le, ◌==◌, refl, sym}
use Rattle.std.specs.Prelude.{IfErr}
use Rattle.toml.specs.Data.{Members, as_str}
use Rattle.toml_keys.specs.declared.KeyFault.TheVariants as key_fault
use Rattle.toml_keys.specs.Keys.{document_of, is_there, least, unknown_names}
use Rattle.toml_keys.specs.Values as keys
use Rattle.toml_keys.specs.Values.{◌>>=◌, four_of, is_integer, is_row, list, number, otherwise, required, told, two_of, u32_max, u32_of}
use Rattle.toml_keys.specs.Values.{word}
use Rattle.toml_keys.proofs.Chains.{chain}
use Rattle.toml_keys.proofs.Least.{least-IsLeastUnknown}
use Rattle.toml_keys.proofs.Shown as keys_shown
use Rattle.pixel_layout.specs.declared.Format.{Format}
use Rattle.pixel_layout.specs.Layouts.{format_named, layout, planes_of}
use Rattle.capture_desc.specs.declared.desc.Desc.{Desc}
use Rattle.capture_desc.specs.declared.desc.Fields.{Fields}
use Rattle.capture_desc.specs.declared.desc.Fields.TheVariants.{Both}
use Rattle.capture_desc.specs.WellFormed.{last_first, max_skip_lines}
use Rattle.capture_desc.specs.declared.fault.Key.{Key}
use Rattle.capture_desc.specs.declared.fault.Key.TheVariants as key
use Rattle.capture_desc.specs.declared.fault.DescError.{DescError}
use Rattle.capture_desc.specs.declared.fault.DescError.TheVariants.{Bad, Memory}
use Rattle.capture_desc.specs.declared.fault.DescFault.{DescFault}
use Rattle.capture_desc.specs.Keys.{is_known, name_of}
use Rattle.capture_desc.specs.Values.{Reading, fault_of, number_or, optional_number, required_number, required_word, word_or}
use Rattle.capture_desc.specs.Description.{Answers, chroma_first, values, vbi_lines, field_numbers, fields_named, fit_fields, plane_numbers}
use Rattle.capture_desc.specs.Description.{clips, pages, pages_beside, chunks, chunks_fit, described, described_in, unless_unknown}
use Rattle.capture_desc.specs.Faults.{Explains, Shows}

module _ (ms : Members) where
  -- a fault of a reading shows this
  abbrev pub Says : {A : Type 0} → Reading A → Type 0
  Says reading = IfErr reading (Shows (Some ms))

  then : {A B : Type 0} (r : Reading A) (next : A → Reading B) → Says r → ((a : A) → r ≡ Ok a → Says (next a)) → Says (r >>= next)
  then r next = chain (Shows (Some ms)) r next

  module _ (k : Key) where
    told_says : {A : Type 0} (r : keys.Reading A) → keys_shown.Says (name_of k) ms r → Says (told (fault_of k) r)
    told_says (Ok a) says = tt
    told_says (Err key_fault.Missing) says = says
    told_says (Err key_fault.WrongKind) says = says
    told_says (Err key_fault.OutOfRange) says = says

    required_word_says : {A : Type 0} (named : List ℕ → Option A) → Says (required_word named k ms)
    required_word_says named =
        told_says (required (word named (name_of k) ms))
        (keys_shown.required_says (name_of k) ms (word named (name_of k) ms) (keys_shown.at_none (name_of k) ms as_str named)
        (keys_shown.at_says (name_of k) ms as_str named))

    word_or_says : {A : Type 0} (default : A) (named : List ℕ → Option A) → Says (word_or default named k ms)
    word_or_says default named =
        told_says (otherwise default (word named (name_of k) ms))
        (keys_shown.otherwise_says (name_of k) ms default (word named (name_of k) ms) (keys_shown.at_says (name_of k) ms as_str named))

    required_number_says : Says (required_number k ms)
    required_number_says =
        told_says (required (number 0 u32_max (name_of k) ms)) (keys_shown.required_number_says (name_of k) ms 0 u32_max)

    optional_number_says : Says (optional_number k ms)
    optional_number_says =
        told_says (number 0 u32_max (name_of k) ms) (keys_shown.number_says (name_of k) ms 0 u32_max)

    number_or_says : (default most : ℕ) → Says (number_or default most k ms)
    number_or_says default most =
        told_says (otherwise default (number 0 most (name_of k) ms)) (keys_shown.number_or_says (name_of k) ms default most)

    plane_numbers_says : (format : Format) → Says (plane_numbers format k ms)
    plane_numbers_says format =
        let fits : List ℕ → Bool = λ ns. length ns == planes_of (layout format) in
        told_says (list is_integer u32_of fits (name_of k) ms) (keys_shown.list_says (name_of k) ms is_integer u32_of fits)

    field_numbers_says : (fields : Fields) (most : ℕ) → Says (field_numbers fields most k ms)
    field_numbers_says fields most =
        told_says (list is_integer u32_of (fit_fields fields most) (name_of k) ms)
        (keys_shown.list_says (name_of k) ms is_integer u32_of (fit_fields fields most))

  clips_says : Says (clips ms)
  clips_says =
      let few : List (ℕ × ℕ × ℕ × ℕ) → Bool = λ rows. nat_le (length rows) 64 in
      let name = name_of key.Clip in
      let read = otherwise [] (list is_row four_of few name ms) in
      let says =
      told_says key.Clip read
      (keys_shown.otherwise_says name ms [] (list is_row four_of few name ms) (keys_shown.list_says name ms is_row four_of few)) in
      then (told (fault_of key.Clip) read) _ says (λ rows _. tt)

  module _ (reading : keys.Reading (Option (List ℕ))) where
    beside_says : (has_chunks : Bool) → (reading ≡ Ok None → is_there (name_of key.Pages) ms ≡ false) →
        keys_shown.Says (name_of key.Pages) ms reading → keys_shown.Says (name_of key.Pages) ms (pages_beside has_chunks reading)
    beside_says true absent says = keys_shown.otherwise_says (name_of key.Pages) ms [] reading says
    beside_says false absent says = keys_shown.required_says (name_of key.Pages) ms reading absent says

  pages_says : Says (pages ms)
  pages_says =
      let few : List ℕ → Bool = λ ns. nat_le (length ns) 4096 in
      let name = name_of key.Pages in
      let read = list is_integer u32_of few name ms in
      let has_chunks = is_there (name_of key.Chunks) ms in
      told_says key.Pages (pages_beside has_chunks read)
      (beside_says read has_chunks (keys_shown.list_none name ms is_integer u32_of few)
      (keys_shown.list_says name ms is_integer u32_of few))

  chunks_says : Says (chunks ms)
  chunks_says =
      let fits = chunks_fit (is_there (name_of key.Pages) ms) in
      told_says key.Chunks (list is_row two_of fits (name_of key.Chunks) ms)
      (keys_shown.list_says (name_of key.Chunks) ms is_row two_of fits)

vbi_lines_says : (fields : Fields) (ms : Members) → Says ms (vbi_lines fields ms)
vbi_lines_says fields ms =
    then ms (number_or 0 u32_max key.VbiLines ms) _ (number_or_says ms key.VbiLines 0 u32_max) (λ lines _.
    then ms (number_or 2044 u32_max key.VbiBytes ms) _ (number_or_says ms key.VbiBytes 2044 u32_max) (λ bytes _.
    then ms (optional_number key.VbiOffset ms) _ (optional_number_says ms key.VbiOffset) (λ offset _.
    then ms (field_numbers fields max_skip_lines key.VbiSkip ms) _ (field_numbers_says ms key.VbiSkip fields max_skip_lines) (λ skip _.
    then ms (optional_number key.VbiStride ms) _ (optional_number_says ms key.VbiStride) (λ stride _. tt)))))

values_says : (ms : Members) → Says ms (values ms)
values_says ms =
    then ms (required_word format_named key.Format ms) _ (required_word_says ms key.Format format_named) (λ format _.
    then ms (required_number key.Width ms) _ (required_number_says ms key.Width) (λ width _.
    then ms (required_number key.Height ms) _ (required_number_says ms key.Height) (λ height _.
    then ms (word_or Both fields_named key.Fields ms) _ (word_or_says ms key.Fields Both fields_named) (λ fields _.
    then ms (plane_numbers format key.Stride ms) _ (plane_numbers_says ms key.Stride format) (λ stride _.
    then ms (plane_numbers format key.Offset ms) _ (plane_numbers_says ms key.Offset format) (λ offset _.
    then ms (chroma_first format fields ms) _ (field_numbers_says ms key.ChromaFirst fields (last_first format)) (λ chroma_first _.
    then ms (number_or 0 255 key.SkipLines ms) _ (number_or_says ms key.SkipLines 0 255) (λ skip_lines _.
    then ms (vbi_lines fields ms) _ (vbi_lines_says fields ms) (λ vbi _.
    then ms (clips ms) _ (clips_says ms) (λ clip _.
    then ms (number_or 4096 u32_max key.Base ms) _ (number_or_says ms key.Base 4096 u32_max) (λ base _.
    then ms (pages ms) _ (pages_says ms) (λ all_pages _.
    then ms (chunks ms) _ (chunks_says ms) (λ all_chunks _.
    then ms (number_or 0 255 key.Fill ms) _ (number_or_says ms key.Fill 0 255) (λ fill _. tt))))))))))))))

known_says : (ms : Members) (unknown : Option (List ℕ)) → unknown ≡ least (unknown_names is_known ms) →
    Says ms (unless_unknown unknown (values ms))
known_says ms None is = values_says ms
known_says ms (Some name) is = least-IsLeastUnknown is_known ms name (sym is)

document_says : (document : Option Members) → IfErr (described_in document) (Shows document)
document_says None = refl
document_says (Some ms) = known_says ms (least (unknown_names is_known ms)) refl

-- a fault shows in the document
pub described-shows : (text : List ℕ) → IfErr (described text) (Shows (document_of text))
described-shows text = document_says (document_of text)

pub fault-shows : (text : List ℕ) (fault : DescFault) → described text ≡ Err fault → Shows (document_of text) fault
fault-shows text fault is = let shows = described-shows text in rw is at shows

pub answered-shown : (text : List ℕ) (answer : Result Desc DescError) → Answers (described text) answer →
    IfErr answer (Explains (document_of text))
answered-shown text (Ok d) is = tt
answered-shown text (Err (Bad fault)) is = fault-shows text fault is
answered-shown text (Err Memory) is = tt
