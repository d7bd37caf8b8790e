-- The first fault of a file is decided by its field, and a good file begins with the bytes before it.
use Rattle.std.proofs.Common.{◌≡◌, ℕ, zero, suc, ◌+◌, ◌<◌, ◌≤◌, ◌⊎◌, inl, inr, Bool, true, false, IsOk, List, [], ◌∷◌, ◌++◌, length, take}
use Rattle.std.proofs.Common.{drop, Option, Some, None, Result, Ok, Err, refl, sym, ap, subst, ◌∙◌, arith}
use Rattle.std.specs.Prelude.{nat_lt}
use Rattle.std.proofs.lemmas.Bool.{lt-ltb, ltb-true}
use Rattle.std.proofs.lemmas.List.{length-take, length-take-le, take-append-drop, take-append-le}
use Rattle.std.proofs.lemmas.List.Elements.{All-nil}
use Rattle.std.proofs.Math.Seq.{take-add}
use Rattle.byteorder.specs.Endian.{little_number, little_bytes}
use Rattle.capture_file.specs.declared.FileKind.{FileKind}
use Rattle.capture_file.specs.declared.FileKind.TheVariants as fault
use Rattle.capture_file.specs.declared.FileFault.{FileFault}
use Rattle.capture_file.specs.declared.Step.{Step}
use Rattle.capture_file.specs.declared.records.Form.{Form}
use Rattle.capture_file.specs.declared.records.Form.TheVariants.{Bfs1, Bfs2, Bfs3}
use Rattle.capture_file.specs.Streams.{Ending, Unfinished, Ended, Bad, Reading, GoesOn, IsFinal, fault_at, form_of, judged, opened, records}
use Rattle.capture_file.specs.Streams.{steps_of, stream_of, too_long, whole_file, within_if}
use Rattle.capture_file.proofs.Chunks.{IsBytes, IsBytes-drop}
use Rattle.capture_file.proofs.FourBytes.{four_back}
use Rattle.capture_file.proofs.Growing.{stream-goes}
use Rattle.file_law.specs.StreamBeginnings.{BeginsSome, BeginsStream, IsWhole, before_field, field_width, has_good_beginning, with_field}
use Rattle.file_law.specs.StreamSpellings.{AreRecords, IsRecord, form_name, is_chained, spelled}
use Rattle.file_law.proofs.StreamFiles.{Names, name_back, word_names}
use Rattle.file_law.proofs.FirstFaults.{IsFirstFault, first_fault, is_bad}
use Rattle.file_law.proofs.ReadBack.{spelled_back, stream_back}

-- ---- a file without a limit

-- the field at fault is whole in it and decides the fault, and a good file begins with the bytes before it
record IsFileFault (chained : Bool) (bytes : List ℕ) (found : FileFault) : Type 0 where
  reach : found.at + field_width found.kind ≤ length bytes
  decided : (judged chained (take (found.at + field_width found.kind) bytes)).ending ≡ Bad found
  form : Form
  steps : List Step
  more : List ℕ
  records : AreRecords form steps
  begins : take found.at bytes ++ more ≡ spelled form steps
  kind : is_chained form ≡ chained

same_fault : (one other : FileFault) → Bad one ≡ Bad other → one ≡ other
same_fault one other e = cc

form_ending : (form : Form) (rest : List ℕ) → (opened (Some form) rest).ending ≡ (records form 0 4 0 rest).ending
form_ending Bfs1 rest = refl
form_ending Bfs2 rest = refl
form_ending Bfs3 rest = refl

module _ (chained : Bool) (a b c d : ℕ) (rest : List ℕ) (found : FileFault) (fits : IsBytes (a ∷ b ∷ c ∷ d ∷ rest)) where
  abbrev word : ℕ
  word = little_number 4 (a ∷ b ∷ c ∷ d ∷ [])

  -- a form's name without records
  none_named : (form : Form) → is_chained form ≡ chained → form_of chained word ≡ None → found ≡ fault_at 0 fault.Magic →
      IsFileFault chained (a ∷ b ∷ c ∷ d ∷ rest) found
  none_named form is none same =
      subst (IsFileFault chained (a ∷ b ∷ c ∷ d ∷ rest)) (sym same)
      record {
        reach = omega arith;
        decided = ap (λ (f : Option Form). (opened f []).ending) none;
        form = form;
        steps = [];
        more = spelled form [];
        records = record { each = All-nil (IsRecord form); few = omega arith };
        begins = refl;
        kind = is;
      }

  chained_none : (which : Bool) → chained ≡ which → form_of chained word ≡ None → found ≡ fault_at 0 fault.Magic →
      IsFileFault chained (a ∷ b ∷ c ∷ d ∷ rest) found
  chained_none true is none same = none_named Bfs3 (sym is) none same
  chained_none false is none same = none_named Bfs1 (sym is) none same

  -- behind the first word
  named : (form : Form) → form_of chained word ≡ Some form → (is_chained form ≡ chained) × (word ≡ little_number 4 (form_name form)) →
      IsFirstFault form 0 4 rest found →
      IsFileFault chained (a ∷ b ∷ c ∷ d ∷ rest) found
  named form is names first =
      let bytes : List ℕ = a ∷ b ∷ c ∷ d ∷ rest in
      let w : ℕ = field_width found.kind in
      let at = first.at in
      let reach = first.reach in
      let few = first.spelled.few in
      let name : a ∷ b ∷ c ∷ d ∷ [] ≡ form_name form = sym (four_back a b c d rest fits) ∙ ap (little_bytes 4) names.1 ∙ name_back form in
      record {
        reach = omega (arith, at, reach);
        decided =
            ap (λ (count : ℕ). (judged chained (take count bytes)).ending)
            (let e : found.at + w ≡ 4 + (first.n + w) = omega (arith, at) in e)
            ∙ ap (λ (zs : List ℕ). (judged chained zs).ending) (take-add 4 (first.n + w) bytes)
            ∙ ap (λ (f : Option Form). (opened f (take (first.n + w) rest)).ending) is
            ∙ form_ending form (take (first.n + w) rest)
            ∙ first.decided;
        form = form;
        steps = first.steps;
        more = first.more;
        records = record { each = first.spelled.each; few = omega (arith, few) };
        begins =
            ap (λ (zs : List ℕ). zs ++ first.more) (ap (λ (count : ℕ). take count bytes) at ∙ take-add 4 first.n bytes)
            ∙ ap (λ (zs : List ℕ). zs ++ (take first.n rest ++ first.more)) name
            ∙ ap (λ (zs : List ℕ). form_name form ++ zs) first.spelled.same;
        kind = names.0;
      }

  opened_fault : (form : Option Form) → form_of chained word ≡ form → Names chained word form → (opened form rest).ending ≡ Bad found →
      IsFileFault chained (a ∷ b ∷ c ∷ d ∷ rest) found
  opened_fault None is names bad = chained_none chained refl is (sym (same_fault (fault_at 0 fault.Magic) found bad))
  opened_fault (Some form) is names bad =
      named form is names
      (first_fault form (length rest) 0 4 rest found (omega arith) (omega arith) (IsBytes-drop 4 (a ∷ b ∷ c ∷ d ∷ rest) fits)
      (sym (form_ending form rest) ∙ bad))

file_fault : (chained : Bool) (bytes : List ℕ) (found : FileFault) → IsBytes bytes → (judged chained bytes).ending ≡ Bad found →
    IsFileFault chained bytes found
file_fault chained [] found fits bad = absurd (let no : false ≡ true = ap is_bad bad in cc)
file_fault chained (a ∷ []) found fits bad = absurd (let no : false ≡ true = ap is_bad bad in cc)
file_fault chained (a ∷ b ∷ []) found fits bad = absurd (let no : false ≡ true = ap is_bad bad in cc)
file_fault chained (a ∷ b ∷ c ∷ []) found fits bad = absurd (let no : false ≡ true = ap is_bad bad in cc)
file_fault chained (a ∷ b ∷ c ∷ d ∷ rest) found fits bad =
    let word : ℕ = little_number 4 (a ∷ b ∷ c ∷ d ∷ []) in
    opened_fault chained a b c d rest found fits (form_of chained word) refl (word_names chained word) bad

-- ---- the limit

IsBytes-take : (n : ℕ) (bytes : List ℕ) → IsBytes bytes → IsBytes (take n bytes)
IsBytes-take zero bytes fits i = omega arith
IsBytes-take (suc n) [] fits i = omega arith
IsBytes-take (suc n) (byte ∷ rest) fits zero = fits 0
IsBytes-take (suc n) (byte ∷ rest) fits (suc i) = IsBytes-take n rest (λ k. fits (suc k)) i

-- a byte is at the limit, and no field below it is at fault
record IsTooLong (limit : ℕ) (chained : Bool) (bytes : List ℕ) (found : FileFault) : Type 0 where
  over : limit < length bytes
  is : found ≡ fault_at limit fault.TooLong
  below : too_long limit (judged chained (take limit bytes)).ending ≡ Bad found

abbrev HasFault : ℕ → Bool → List ℕ → FileFault → Type 0
HasFault limit chained bytes found = IsFileFault chained (take limit bytes) found ⊎ IsTooLong limit chained bytes found

below_limit : (limit : ℕ) (chained : Bool) (bytes : List ℕ) (found : FileFault) → IsBytes bytes →
    (judged chained (take limit bytes)).ending ≡ Bad found → HasFault limit chained bytes found
below_limit limit chained bytes found fits bad = inl (file_fault chained (take limit bytes) found (IsBytes-take limit bytes fits) bad)

at_limit : (limit : ℕ) (chained : Bool) (bytes : List ℕ) (found : FileFault) (ending : Ending) → IsBytes bytes → limit < length bytes →
    (judged chained (take limit bytes)).ending ≡ ending →
    too_long limit ending ≡ Bad found → HasFault limit chained bytes found
at_limit limit chained bytes found Unfinished fits over is bad =
    inr (record { over = over; is = sym (same_fault (fault_at limit fault.TooLong) found bad); below = ap (too_long limit) is ∙ bad })
at_limit limit chained bytes found Ended fits over is bad =
    inr (record { over = over; is = sym (same_fault (fault_at limit fault.TooLong) found bad); below = ap (too_long limit) is ∙ bad })
at_limit limit chained bytes found (Bad below) fits over is bad = below_limit limit chained bytes found fits (is ∙ bad)

within_fault : (limit : ℕ) (chained : Bool) (bytes : List ℕ) (found : FileFault) (test : Bool) → IsBytes bytes →
    nat_lt limit (length bytes) ≡ test →
    (within_if test limit (judged chained (take limit bytes))).ending ≡ Bad found → HasFault limit chained bytes found
within_fault limit chained bytes found true fits over bad =
    at_limit limit chained bytes found (judged chained (take limit bytes)).ending fits (ltb-true limit (length bytes) over) refl bad
within_fault limit chained bytes found false fits over bad = below_limit limit chained bytes found fits bad

has_fault : (limit : ℕ) (chained : Bool) (bytes : List ℕ) (found : FileFault) → IsBytes bytes →
    (stream_of limit chained bytes).ending ≡ Bad found → HasFault limit chained bytes found
unfolding stream_of
has_fault limit chained bytes found fits bad = within_fault limit chained bytes found (nat_lt limit (length bytes)) fits refl bad

over_ending : (limit : ℕ) (chained : Bool) (bytes : List ℕ) → limit < length bytes →
    (stream_of limit chained bytes).ending ≡ too_long limit (judged chained (take limit bytes)).ending
unfolding stream_of
over_ending limit chained bytes over =
    ap (λ (test : Bool). (within_if test limit (judged chained (take limit bytes))).ending) (lt-ltb limit (length bytes) over)

-- of the bytes of a front, these
front_of_front : (limit count : ℕ) (bytes : List ℕ) → count ≤ length (take limit bytes) → take count (take limit bytes) ≡ take count bytes
front_of_front limit count bytes within =
    sym (take-append-le count (take limit bytes) (drop limit bytes) within) ∙ ap (take count) (take-append-drop limit bytes)

-- the field decides
field_decides : (limit : ℕ) (chained : Bool) (bytes : List ℕ) (found : FileFault) → HasFault limit chained bytes found →
    (stream_of limit chained (with_field found bytes)).ending ≡ Bad found
field_decides limit chained bytes found (inl is) =
    let count : ℕ = found.at + field_width found.kind in
    let reach = is.reach in
    let low = length-take limit bytes in
    let same = front_of_front limit count bytes is.reach in
    let short : length (take count bytes) ≤ limit = let first = length-take count bytes in omega (arith, first, reach, low) in
    ap (λ (r : Reading). r.ending) (stream_back limit chained (take count bytes) short)
    ∙ ap (λ (zs : List ℕ). (judged chained zs).ending) (sym same)
    ∙ is.decided
field_decides limit chained bytes found (inr is) =
    let over = is.over in
    let long : length (take (limit + 1) bytes) ≡ limit + 1 = length-take-le (limit + 1) bytes (omega (arith, over)) in
    ap (λ (f : FileFault). (stream_of limit chained (with_field f bytes)).ending) is.is
    ∙ over_ending limit chained (take (limit + 1) bytes) (omega (arith, long))
    ∙ ap (λ (zs : List ℕ). too_long limit (judged chained zs).ending) (again limit bytes over)
    ∙ is.below
  where
    again : (limit : ℕ) (bytes : List ℕ) → limit < length bytes → take limit (take (limit + 1) bytes) ≡ take limit bytes
    again limit bytes over =
        front_of_front (limit + 1) limit bytes (let long = length-take-le (limit + 1) bytes (omega arith) in omega (arith, long))

-- ---- the answers of a whole file

abbrev fault_in : Result (List Step) FileFault → Option FileFault
fault_in (Ok steps) = None
fault_in (Err found) = Some found

some_same : (one other : Option FileFault) (a b : FileFault) → one ≡ Some a → other ≡ Some b → one ≡ other → a ≡ b
some_same one other a b is also same = cc

whole_bad : (count : ℕ) (steps : List Step) (ending : Ending) (found : FileFault) → IsWhole found.kind →
    whole_file count steps ending ≡ Err found → ending ≡ Bad found
whole_bad count steps Unfinished found whole e =
    absurd (whole (ap (λ (f : FileFault). f.kind) (sym (some_same (fault_in (whole_file count steps Unfinished)) (fault_in (Err found))
    (fault_at count fault.Short) found refl refl (ap fault_in e)))))
whole_bad count steps Ended found whole e = absurd (let no : None ≡ Some found = ap fault_in e in cc)
whole_bad count steps (Bad other) found whole e =
    ap Bad (some_same (fault_in (whole_file count steps (Bad other))) (fault_in (Err found)) other found refl refl (ap fault_in e))

bad_ending : (limit : ℕ) (chained : Bool) (bytes : List ℕ) (found : FileFault) → IsWhole found.kind →
    steps_of limit chained bytes ≡ Err found → (stream_of limit chained bytes).ending ≡ Bad found
bad_ending limit chained bytes found whole e =
    whole_bad (length bytes) (stream_of limit chained bytes).steps (stream_of limit chained bytes).ending found whole e

-- a fault stays the first
stays_bad : (first more : Reading) (found : FileFault) → first.ending ≡ Bad found → GoesOn first more → more.ending ≡ Bad found
stays_bad first more found bad on =
    let same : more ≡ first = subst (λ (e : Ending). IsFinal e first more) bad on.1 in ap (λ (r : Reading). r.ending) same ∙ bad

pub faults_decided : (limit : ℕ) (chained : Bool) (bytes more : List ℕ) (found : FileFault) → IsBytes bytes → IsWhole found.kind →
    steps_of limit chained bytes ≡ Err found →
    steps_of limit chained (with_field found bytes ++ more) ≡ Err found
faults_decided limit chained bytes more found fits whole e =
    let front : List ℕ = with_field found bytes in
    let all : Reading = stream_of limit chained (front ++ more) in
    let bad =
    field_decides limit chained bytes found (has_fault limit chained bytes found fits (bad_ending limit chained bytes found whole e)) in
    ap (whole_file (length (front ++ more)) all.steps)
    (stays_bad (stream_of limit chained front) all found bad (stream-goes limit chained front more))

pub no_good_beginning : (limit : ℕ) (chained : Bool) (bytes : List ℕ) (found : FileFault) → IsBytes bytes → IsWhole found.kind →
    steps_of limit chained bytes ≡ Err found →
    BeginsStream limit chained (with_field found bytes) → ⊥
no_good_beginning limit chained bytes found fits whole e begun =
    let no : false ≡ true = subst IsOk (faults_decided limit chained bytes begun.0 found fits whole e) begun.1 in cc

not_short : (kind : FileKind) → has_good_beginning kind ≡ true → IsWhole kind
not_short kind good short = let no : has_good_beginning fault.Short ≡ true = sym (ap has_good_beginning short) ∙ good in cc

good_before : (limit : ℕ) (chained : Bool) (bytes : List ℕ) (found : FileFault) → has_good_beginning found.kind ≡ true →
    HasFault limit chained bytes found → BeginsSome chained (before_field found bytes)
good_before limit chained bytes found good (inl is) =
    let reach = is.reach in
    let same : take found.at (take limit bytes) ≡ take found.at bytes = front_of_front limit found.at bytes (omega (arith, reach)) in
    let all : take found.at bytes ++ is.more ≡ spelled is.form is.steps = ap (λ (zs : List ℕ). zs ++ is.more) (sym same) ∙ is.begins in
    let most : ℕ = length (spelled is.form is.steps) in
    let read =
    ap (λ (which : Bool). steps_of most which (spelled is.form is.steps)) (sym is.kind)
    ∙ spelled_back is.form is.steps most is.records (omega arith) in
    (most, (is.more, subst IsOk (sym (ap (steps_of most chained) all ∙ read)) refl))
good_before limit chained bytes found good (inr is) =
    absurd (let no : has_good_beginning fault.TooLong ≡ true = sym (ap (λ (f : FileFault). has_good_beginning f.kind) is.is) ∙ good in cc)

pub good_beginning : (limit : ℕ) (chained : Bool) (bytes : List ℕ) (found : FileFault) → IsBytes bytes →
    has_good_beginning found.kind ≡ true → steps_of limit chained bytes ≡ Err found →
    BeginsSome chained (before_field found bytes)
good_beginning limit chained bytes found fits good e =
    good_before limit chained bytes found good
    (has_fault limit chained bytes found fits (bad_ending limit chained bytes found (not_short found.kind good) e))
