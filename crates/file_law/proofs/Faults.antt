-- Where a program file is at fault: the bytes before the field, and those up to and with it.
use Rattle.std.proofs.Common.{◌≡◌, ℕ, zero, suc, ◌+◌, ◌-◌, ◌≤◌, inl, inr, Bool, true, false, List, [], ◌∷◌, ◌++◌, length, take, drop}
use Rattle.std.proofs.Common.{Option, Some, None, Result, Ok, Err, refl, sym, ap, subst, ◌∙◌, arith, append_assoc, length-append}
use Rattle.std.proofs.lemmas.List.{append-nil, length-take-le, take-append-drop}
use Rattle.std.proofs.Math.Seq.{take-append-add, take-append_seam}
use Rattle.capture_file.specs.declared.FileKind.{FileKind}
use Rattle.capture_file.specs.declared.FileKind.TheVariants as fault
use Rattle.capture_file.specs.declared.FileFault.{FileFault}
use Rattle.capture_file.specs.declared.program.ProgramFile.{ProgramFile}
use Rattle.capture_file.specs.declared.program.ProgramForm.{ProgramForm}
use Rattle.capture_file.specs.declared.program.ProgramForm.TheVariants.{Based, Spanned}
use Rattle.capture_file.specs.Streams.{fault_at, number_at}
use Rattle.capture_file.specs.Programs.{◌>>=◌, HasProgram, form_field, form_of, form_or_magic, number_or_cut, program_of}
use Rattle.capture_file.proofs.Chunks.{IsBytes}
use Rattle.capture_file.proofs.Faults.{program_and_fault}
use Rattle.capture_file.proofs.Spelled.{field_by_field}
use Rattle.capture_file.proofs.Unspelled.{file_read}
use Rattle.file_law.specs.ProgramBeginnings.{BeginsFile, IsWhole, before_field, field_width, form_named, has_good_beginning, is_based}
use Rattle.file_law.specs.ProgramBeginnings.{with_field}
use Rattle.file_law.proofs.Judging.{CanEnd, EndsWell, FaultAt, FileGoes, IsBytes-append, Missed}
use Rattle.file_law.proofs.Readings.{based_file_goes, file_goes, file_of}

-- ---- bytes of a part

IsBytes-take : (n : ℕ) (bytes : List ℕ) → IsBytes bytes → IsBytes (take n bytes)
IsBytes-take zero bytes fits i = omega arith
IsBytes-take (suc n) [] fits i = omega arith
IsBytes-take (suc n) (byte ∷ rest) fits zero = fits 0
IsBytes-take (suc n) (byte ∷ rest) fits (suc i) = IsBytes-take n rest (λ k. fits (suc k)) i

-- ---- where a fault is

abbrev Held : List ℕ → FileFault → Type 0
Held bytes found = FaultAt ProgramFile file_of (EndsWell false ProgramFile file_of) (length bytes) bytes found

standing : (bytes : List ℕ) (found : FileFault) → IsBytes bytes → program_of bytes ≡ Err found →
    Missed ProgramFile file_of (EndsWell false ProgramFile file_of) (length bytes) bytes found
standing bytes found fits e =
    subst (λ (r : Result ProgramFile FileFault). FileGoes false ProgramFile file_of (length bytes) bytes r)
    (sym (field_by_field (length bytes) bytes) ∙ e) (file_goes (length bytes) bytes fits)

abbrev kind_of : FileFault → FileKind
kind_of found = found.kind

abbrev place_of : FileFault → ℕ
place_of found = found.at

held : (bytes : List ℕ) (found : FileFault) → IsBytes bytes → IsWhole found.kind → program_of bytes ≡ Err found → Held bytes found
held bytes found fits whole e =
    elim (standing bytes found fits e) [
      | inl short ↦ absurd (whole (ap kind_of short))
      | inr at ↦ at
    ]

module _ (bytes : List ℕ) (found : FileFault) (at : Held bytes found) where
  kind_is : found.kind ≡ at.kind
  kind_is = ap kind_of at.is

  place_is : found.at ≡ length at.before
  place_is =
      let parts : length bytes ≡ length at.before + length (at.field ++ at.rest) =
      ap length at.parts ∙ length-append at.before (at.field ++ at.rest) in
      let place : found.at ≡ length bytes - length (at.field ++ at.rest) = ap place_of at.is in
      omega (arith, parts, place)

  found_is : found ≡ fault_at (length at.before) at.kind
  found_is = ap (λ (n : ℕ). fault_at n found.kind) place_is ∙ ap (fault_at (length at.before)) kind_is

  before_is : before_field found bytes ≡ at.before
  before_is =
      ap (λ (n : ℕ). take n bytes) place_is ∙ ap (take (length at.before)) at.parts ∙ take-append_seam at.before (at.field ++ at.rest)

  with_is : with_field found bytes ≡ at.before ++ at.field
  with_is =
      let width : field_width found.kind ≡ length at.field = ap field_width kind_is ∙ sym at.width in
      let far : found.at + field_width found.kind ≡ length at.before + length at.field = omega (arith, place_is, width) in
      ap (λ (n : ℕ). take n bytes) far
      ∙ ap (take (length at.before + length at.field)) at.parts
      ∙ take-append-add at.before (at.field ++ at.rest) (length at.field)
      ∙ ap (λ (zs : List ℕ). at.before ++ zs) (take-append_seam at.field at.rest)

  -- whatever follows the field
  stays : (more : List ℕ) → program_of (at.before ++ (at.field ++ more)) ≡ Err found
  stays more =
      let n : ℕ = length (at.before ++ (at.field ++ more)) in
      let place : n - length (at.field ++ more) ≡ length at.before = omega (arith, length-append at.before (at.field ++ more)) in
      field_by_field n (at.before ++ (at.field ++ more)) ∙ at.again n more
      ∙ ap (λ (m : ℕ). Err (fault_at m at.kind)) place ∙ ap (λ (f : FileFault). Err f) (sym found_is)

-- ---- the laws

pub fault_is_decided : (bytes more : List ℕ) (found : FileFault) → IsBytes bytes → IsWhole found.kind → program_of bytes ≡ Err found →
    program_of (with_field found bytes ++ more) ≡ Err found
fault_is_decided bytes more found fits whole e =
    let at = held bytes found fits whole e in
    ap (λ (zs : List ℕ). program_of (zs ++ more)) (with_is bytes found at)
    ∙ ap program_of (append_assoc at.before at.field more) ∙ stays bytes found at more

pub none_begins_so : (bytes : List ℕ) (found : FileFault) → IsBytes bytes → IsWhole found.kind → program_of bytes ≡ Err found →
    BeginsFile (with_field found bytes) → ⊥
none_begins_so bytes found fits whole e begins =
    program_and_fault (with_field found bytes ++ begins.0) begins.1 (found, fault_is_decided bytes begins.0 found fits whole e)

pub right_before : (bytes : List ℕ) (found : FileFault) → IsBytes bytes → IsWhole found.kind → (found.kind ≡ fault.AfterEnd → ⊥) →
    program_of bytes ≡ Err found →
    program_of (before_field found bytes) ≡ Err (fault_at found.at fault.Short)
right_before bytes found fits whole other e =
    let at = held bytes found fits whole e in
    let same = kind_is bytes found at in
    ap program_of (before_is bytes found at)
    ∙ field_by_field (length at.before) at.before
    ∙ at.cut_before (λ late. other (same ∙ late)) (length at.before)
    ∙ ap (λ (n : ℕ). Err (fault_at n fault.Short)) (sym (place_is bytes found at))

read_to_file : (bytes : List ℕ) (file : ProgramFile) → IsBytes bytes → file_of (length bytes) bytes ≡ Ok file → HasProgram bytes
read_to_file bytes file fits e = (file, file_read bytes file fits (field_by_field (length bytes) bytes ∙ e))

pub whole_before : (bytes : List ℕ) (found : FileFault) → IsBytes bytes → found.kind ≡ fault.AfterEnd → program_of bytes ≡ Err found →
    HasProgram (before_field found bytes)
whole_before bytes found fits late e =
    let at = held bytes found fits (λ short. absurd (let no : fault.Short ≡ fault.AfterEnd = sym short ∙ late in cc)) e in
    let same = kind_is bytes found at in
    let done = at.done_before (sym same ∙ late) (length at.before) in
    let low : IsBytes at.before = subst IsBytes (before_is bytes found at) (IsBytes-take found.at bytes fits) in
    subst HasProgram (sym (before_is bytes found at)) (read_to_file at.before done.0 low done.1)

-- the field at fault is behind the beginning of a good file
begins_at : (based : Bool) (bytes : List ℕ)
    (found : FileFault) (at : FaultAt ProgramFile file_of (EndsWell based ProgramFile file_of) (length bytes) bytes found) → IsBytes bytes →
    before_field found bytes ≡ at.before →
    has_good_beginning based at.kind ≡ true → BeginsFile (before_field found bytes)
begins_at based bytes found at fits same sure =
    let can : CanEnd ProgramFile file_of at.before = at.noted sure in
    let low : IsBytes at.before = subst IsBytes same (IsBytes-take found.at bytes fits) in
    let all : List ℕ = at.before ++ can.more in
    subst BeginsFile (sym same)
    (can.more, read_to_file all (can.ends (length all)).0 (IsBytes-append at.before can.more low can.fits) (can.ends (length all)).1)

-- where it is
before_at : (based : Bool) (bytes : List ℕ)
    (found : FileFault) (at : FaultAt ProgramFile file_of (EndsWell based ProgramFile file_of) (length bytes) bytes found) →
    before_field found bytes ≡ at.before
before_at based bytes found at =
    let parts : length bytes ≡ length at.before + length (at.field ++ at.rest) =
    ap length at.parts ∙ length-append at.before (at.field ++ at.rest) in
    let place : found.at ≡ length bytes - length (at.field ++ at.rest) = ap place_of at.is in
    let stands : found.at ≡ length at.before = omega (arith, parts, place) in
    ap (λ (n : ℕ). take n bytes) stands ∙ ap (take (length at.before)) at.parts ∙ take-append_seam at.before (at.field ++ at.rest)

begins_by : (based : Bool) (bytes : List ℕ) (found : FileFault) → IsBytes bytes → has_good_beginning based found.kind ≡ true →
    Missed ProgramFile file_of (EndsWell based ProgramFile file_of) (length bytes) bytes found →
    BeginsFile (before_field found bytes)
begins_by based bytes found fits sure (inl short) =
    absurd (let no : false ≡ true = sym (ap (λ (f : FileFault). has_good_beginning based f.kind) short) ∙ sure in cc)
begins_by based bytes found fits sure (inr at) =
    begins_at based bytes found at fits (before_at based bytes found at)
    (sym (ap (λ (f : FileFault). has_good_beginning based f.kind) at.is) ∙ sure)

named_word : (size : ℕ) (bytes rest : List ℕ) (o : Option ℕ) (form : ProgramForm) →
    elim o as (λ _. Option ProgramForm) [ None ↦ None | Some word ↦ form_of word ] ≡ Some form →
    (number_or_cut size o rest >>= λ word. form_or_magic size bytes (form_of word.0) word.1) ≡ Ok (form, rest)
named_word size bytes rest None form e = absurd (cc)
named_word size bytes rest (Some word) form e = ap (λ (o : Option ProgramForm). form_or_magic size bytes o rest) e

named_form : (size : ℕ) (bytes : List ℕ) (form : ProgramForm) → form_named bytes ≡ Some form →
    form_field size bytes ≡ Ok (form, drop 4 bytes)
unfolding form_field
named_form size bytes form e = named_word size bytes (drop 4 bytes) (number_at bytes) form e

pub begins_before : (bytes : List ℕ) (found : FileFault) → IsBytes bytes → has_good_beginning (is_based (form_named bytes)) found.kind
    ≡ true → program_of bytes ≡ Err found → BeginsFile (before_field found bytes)
begins_before bytes found fits sure e = by_form (form_named bytes) refl sure
  where
    by_form : (o : Option ProgramForm) → form_named bytes ≡ o → has_good_beginning (is_based o) found.kind ≡ true →
        BeginsFile (before_field found bytes)
    by_form None is sure = begins_by false bytes found fits sure (standing bytes found fits e)
    by_form (Some Spanned) is sure = begins_by false bytes found fits sure (standing bytes found fits e)
    by_form (Some (Based layout)) is sure =
        begins_by true bytes found fits sure
        (subst (λ (r : Result ProgramFile FileFault). FileGoes true ProgramFile file_of (length bytes) bytes r)
        (sym (field_by_field (length bytes) bytes) ∙ e)
        (based_file_goes (length bytes) bytes layout (drop 4 bytes) fits (named_form (length bytes) bytes (Based layout) is)))

-- ---- files that are cut

pub short_at_its_end : (bytes : List ℕ) (found : FileFault) → IsBytes bytes → found.kind ≡ fault.Short → program_of bytes ≡ Err found →
    found.at ≡ length bytes
short_at_its_end bytes found fits short e =
    elim (standing bytes found fits e) [
      | inl is ↦ ap place_of is
      | inr at ↦ absurd (at.whole (sym (ap kind_of at.is) ∙ short))
    ]

abbrev failed : FileFault → Result ProgramFile FileFault
failed found = Err found

same_fault : (found other : FileFault) → failed found ≡ failed other → found ≡ other
same_fault found other e = cc

not_late : (found : FileFault) (place : ℕ) → found.kind ≡ fault.Short → failed (fault_at place fault.AfterEnd) ≡ failed found → ⊥
not_late found place short e =
    let late : fault.AfterEnd ≡ fault.Short = ap kind_of (same_fault (fault_at place fault.AfterEnd) found e) ∙ short in cc

module _ (front rest : List ℕ) (found : FileFault) (fits : IsBytes front) (short : found.kind ≡ fault.Short)
    (e : program_of (front ++ rest) ≡ Err found) where
  not_good : (file : ProgramFile) → program_of front ≡ Ok file → (rest : List ℕ) → program_of (front ++ rest) ≡ Err found → ⊥
  not_good file good [] bad =
      let both : failed found ≡ Ok file = sym bad ∙ ap program_of (append-nil front) ∙ good in cc
  not_good file good (byte ∷ more) bad =
      let n : ℕ = length (front ++ byte ∷ more) in
      let after =
      subst (λ (r : Result ProgramFile FileFault). FileGoes false ProgramFile file_of (length front) front r)
      (sym (field_by_field (length front) front) ∙ good) (file_goes (length front) front fits) in
      not_late found (n - length (byte ∷ more)) short (sym (after n byte more) ∙ sym (field_by_field n (front ++ byte ∷ more)) ∙ bad)

  not_wrong : (other : FileFault) → Held front other → ⊥
  not_wrong other at =
      let parts : front ++ rest ≡ at.before ++ (at.field ++ (at.rest ++ rest)) =
      ap (λ (zs : List ℕ). zs ++ rest) at.parts
      ∙ append_assoc at.before (at.field ++ at.rest) rest ∙ ap (λ (zs : List ℕ). at.before ++ zs) (append_assoc at.field at.rest rest) in
      let same : other ≡ found = same_fault other found (sym (stays front other at (at.rest ++ rest)) ∙ sym (ap program_of parts) ∙ e) in
      at.whole (sym (kind_is front other at) ∙ ap kind_of same ∙ short)

  front_is_short : (r : Result ProgramFile FileFault) → program_of front ≡ r → program_of front ≡ Err (fault_at (length front) fault.Short)
  front_is_short (Ok file) good = absurd (not_good file good rest e)
  front_is_short (Err other) bad =
      elim (standing front other fits bad) [
        | inl is ↦ bad ∙ ap failed is
        | inr at ↦ absurd (not_wrong other at)
      ]

pub beginnings_are_short : (bytes : List ℕ) (found : FileFault) (count : ℕ) → IsBytes bytes → found.kind ≡ fault.Short →
    program_of bytes ≡ Err found → count ≤ length bytes →
    program_of (take count bytes) ≡ Err (fault_at count fault.Short)
beginnings_are_short bytes found count fits short e few =
    front_is_short (take count bytes) (drop count bytes) found (IsBytes-take count bytes fits) short
    (ap program_of (take-append-drop count bytes) ∙ e) (program_of (take count bytes)) refl
    ∙ ap (λ (n : ℕ). Err (fault_at n fault.Short)) (length-take-le count bytes few)
