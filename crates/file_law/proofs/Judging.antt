-- Fields that are read one after another: each fault is decided by the bytes up to and with its field.
use Rattle.std.proofs.Common.{◌≡◌, ℕ, zero, suc, ◌⊎◌, inl, inr, Bool, true, false, List, [], ◌∷◌, ◌++◌, length, drop, Result, Ok, Err, refl}
use Rattle.std.proofs.Common.{sym, ap, subst, ◌∙◌, append_assoc}
use Rattle.std.proofs.Math.Seq.{drop-append_seam}
use Rattle.capture_file.specs.declared.FileKind.{FileKind}
use Rattle.capture_file.specs.declared.FileKind.TheVariants as fault
use Rattle.capture_file.specs.declared.FileFault.{FileFault}
use Rattle.capture_file.specs.Programs.{Field, ◌>>=◌, cut, wrong}
use Rattle.capture_file.proofs.Chunks.{IsBytes, IsBytes-drop}
use Rattle.file_law.specs.ProgramBeginnings.{IsWhole, field_width, has_good_beginning}

-- what reads the last bytes of a file of some size
abbrev pub Reader : Type 0 → Type 0
Reader B = ℕ → List ℕ → Result B FileFault

-- a field at fault, and what is known of the bytes before it
pub record FaultAt (B : Type 0) (read : Reader B) (Noted : List ℕ → FileKind → Type 0) (size : ℕ) (bytes : List ℕ)
    (found : FileFault) : Type 0 where
  pub before : List ℕ
  pub field : List ℕ
  pub rest : List ℕ
  pub kind : FileKind
  pub parts : bytes ≡ before ++ (field ++ rest)
  pub width : length field ≡ field_width kind
  pub is : found ≡ wrong size (field ++ rest) kind
  pub whole : IsWhole kind
  pub again : (n : ℕ) (more : List ℕ) → read n (before ++ (field ++ more)) ≡ Err (wrong n (field ++ more) kind)
  pub cut_before : (kind ≡ fault.AfterEnd → ⊥) → (n : ℕ) → read n before ≡ Err (cut n)
  pub done_before : kind ≡ fault.AfterEnd → (n : ℕ) → (y : B) × (read n before ≡ Ok y)
  pub noted : Noted before kind

abbrev pub Missed : (B : Type 0) → Reader B → (List ℕ → FileKind → Type 0) → ℕ → List ℕ → FileFault → Type 0
Missed B read Noted size bytes found = (found ≡ cut size) ⊎ FaultAt B read Noted size bytes found

-- a field that is right: whatever follows
pub record FieldRead (A : Type 0) (read : Reader (A × List ℕ)) (Known : A → Type 0) (bytes : List ℕ) (x : A × List ℕ) : Type 0 where
  pub front : List ℕ
  pub parts : bytes ≡ front ++ x.1
  pub again : (n : ℕ) (more : List ℕ) → read n (front ++ more) ≡ Ok (x.0, more)
  pub known : Known x.0

abbrev pub FieldGoes : (A : Type 0) → Reader (A × List ℕ) → (A → Type 0) → (List ℕ → FileKind → Type 0) → ℕ → List ℕ → Field A → Type 0
FieldGoes A read Known Noted size bytes (Ok x) = FieldRead A read Known bytes x
FieldGoes A read Known Noted size bytes (Err found) = Missed (A × List ℕ) read Noted size bytes found

abbrev pub IsField : (A : Type 0) → Reader (A × List ℕ) → (A → Type 0) → (List ℕ → FileKind → Type 0) → Type 0
IsField A read Known Noted = (size : ℕ) (bytes : List ℕ) → IsBytes bytes → FieldGoes A read Known Noted size bytes (read size bytes)

-- bytes that can go on to the end of a good file
pub record CanEnd (B : Type 0) (read : Reader B) (before : List ℕ) : Type 0 where
  pub more : List ℕ
  pub fits : IsBytes more
  pub ends : (n : ℕ) → (y : B) × (read n (before ++ more) ≡ Ok y)

abbrev pub EndsWell : Bool → (B : Type 0) → Reader B → List ℕ → FileKind → Type 0
EndsWell based B read before kind = has_good_beginning based kind ≡ true → CanEnd B read before

-- the fields up to the end of the file
abbrev pub FileGoes : Bool → (B : Type 0) → Reader B → ℕ → List ℕ → Result B FileFault → Type 0
FileGoes based B read size bytes (Ok y) =
    (n byte : ℕ) (more : List ℕ) → read n (bytes ++ byte ∷ more) ≡ Err (wrong n (byte ∷ more) fault.AfterEnd)
FileGoes based B read size bytes (Err found) = Missed B read (EndsWell based B read) size bytes found

abbrev pub IsReader : Bool → (B : Type 0) → Reader B → Type 0
IsReader based B read = (size : ℕ) (bytes : List ℕ) → IsBytes bytes → FileGoes based B read size bytes (read size bytes)

-- a reader that reads as another
module _ (B : Type 0) (read other : Reader B) (same : (n : ℕ) (bytes : List ℕ) → read n bytes ≡ other n bytes) where
  pub ends_alike : (before : List ℕ) → CanEnd B read before → CanEnd B other before
  ends_alike before can =
      record { more = can.more; fits = can.fits; ends = λ n. ((can.ends n).0, sym (same n (before ++ can.more)) ∙ (can.ends n).1) }

  goes_alike : (based : Bool) (size : ℕ) (bytes : List ℕ) (r : Result B FileFault) → FileGoes based B read size bytes r →
      FileGoes based B other size bytes r
  goes_alike based size bytes (Ok y) ended = λ n byte more. sym (same n (bytes ++ byte ∷ more)) ∙ ended n byte more
  goes_alike based size bytes (Err found) (inl short) = inl short
  goes_alike based size bytes (Err found) (inr at) =
      inr
      (record {
        before = at.before;
        field = at.field;
        rest = at.rest;
        kind = at.kind;
        parts = at.parts;
        width = at.width;
        is = at.is;
        whole = at.whole;
        again = λ n more. sym (same n (at.before ++ (at.field ++ more))) ∙ at.again n more;
        cut_before = λ early n. sym (same n at.before) ∙ at.cut_before early n;
        done_before = λ late n. ((at.done_before late n).0, sym (same n at.before) ∙ (at.done_before late n).1);
        noted = λ sure. ends_alike at.before (at.noted sure);
      })

  pub reads_alike : (based : Bool) → IsReader based B read → IsReader based B other
  reads_alike based is size bytes fits =
      subst (λ (r : Result B FileFault). FileGoes based B other size bytes r) (same size bytes)
      (goes_alike based size bytes (read size bytes) (is size bytes fits))

-- what is sure in all files is sure in those with a base
sure_of_all : (kind : FileKind) → has_good_beginning false kind ≡ true → has_good_beginning true kind ≡ true
sure_of_all fault.Base sure = refl
sure_of_all fault.Count sure = refl
sure_of_all fault.Magic sure = refl
sure_of_all fault.AfterEnd sure = refl
sure_of_all fault.Short sure = sure
sure_of_all fault.Page sure = sure
sure_of_all fault.Order sure = sure
sure_of_all fault.Overlap sure = sure
sure_of_all (fault.Tag n) sure = sure
sure_of_all (fault.Status n) sure = sure
sure_of_all (fault.Code n) sure = sure
sure_of_all (fault.Enable n) sure = sure
sure_of_all fault.TooLong sure = sure
sure_of_all fault.TooManyTurns sure = sure
sure_of_all (fault.Trigger n) sure = sure
sure_of_all fault.Length sure = sure
sure_of_all fault.Pages sure = sure
sure_of_all (fault.Slot n) sure = sure
sure_of_all (fault.Buffer n) sure = sure
sure_of_all fault.Entry sure = sure

goes_loosely : (B : Type 0) (read : Reader B) (size : ℕ) (bytes : List ℕ) (r : Result B FileFault) → FileGoes true B read size bytes r →
    FileGoes false B read size bytes r
goes_loosely B read size bytes (Ok y) ended = ended
goes_loosely B read size bytes (Err found) (inl short) = inl short
goes_loosely B read size bytes (Err found) (inr at) =
    inr
    (record {
      before = at.before;
      field = at.field;
      rest = at.rest;
      kind = at.kind;
      parts = at.parts;
      width = at.width;
      is = at.is;
      whole = at.whole;
      again = at.again;
      cut_before = at.cut_before;
      done_before = at.done_before;
      noted = λ sure. at.noted (sure_of_all at.kind sure);
    })

pub reads_loosely : (B : Type 0) (read : Reader B) → IsReader true B read → IsReader false B read
reads_loosely B read is size bytes fits = goes_loosely B read size bytes (read size bytes) (is size bytes fits)

-- the bytes behind a field
pub IsBytes-behind : (front rest bytes : List ℕ) → bytes ≡ front ++ rest → IsBytes bytes → IsBytes rest
IsBytes-behind front rest bytes parts fits =
    subst IsBytes (ap (drop (length front)) parts ∙ drop-append_seam front rest) (IsBytes-drop (length front) bytes fits)

-- two parts
pub IsBytes-append : (front more : List ℕ) → IsBytes front → IsBytes more → IsBytes (front ++ more)
IsBytes-append [] more low fits i = fits i
IsBytes-append (byte ∷ front) more low fits zero = low 0
IsBytes-append (byte ∷ front) more low fits (suc i) = IsBytes-append front more (λ k. low (suc k)) fits i

-- a byte after the last field is no fault of a field
abbrev pub Inside : (List ℕ → FileKind → Type 0) → Type 0
Inside Noted = (before : List ℕ) (kind : FileKind) → Noted before kind → kind ≡ fault.AfterEnd → ⊥

-- ---- a field, and what is read after it

module _ (A B : Type 0) (field : Reader (A × List ℕ)) (next : A → Reader B) where
  abbrev pub both : Reader B
  both size bytes = field size bytes >>= λ x. next x.0 size x.1

  abbrev onward : ℕ → A × List ℕ → Result B FileFault
  onward size x = next x.0 size x.1

  -- a fault behind the field
  module _ (Known : A → Type 0) (Noted Later : List ℕ → FileKind → Type 0) (size : ℕ) (bytes : List ℕ) (x : A × List ℕ)
      (read : FieldRead A field Known bytes x) (found : FileFault) where
    fault_later : ((before : List ℕ) (kind : FileKind) → Later before kind → Noted (read.front ++ before) kind) →
        FaultAt B (next x.0) Later size x.1 found → FaultAt B both Noted size bytes found
    fault_later turn at =
        let front = read.front in
        record {
          before = front ++ at.before;
          field = at.field;
          rest = at.rest;
          kind = at.kind;
          parts = read.parts ∙ ap (λ (zs : List ℕ). front ++ zs) at.parts ∙ sym (append_assoc front at.before (at.field ++ at.rest));
          width = at.width;
          is = at.is;
          whole = at.whole;
          again =
              λ n more. ap (both n) (append_assoc front at.before (at.field ++ more))
              ∙ ap (λ (r : Field A). r >>= λ y. next y.0 n y.1) (read.again n (at.before ++ (at.field ++ more))) ∙ at.again n more;
          cut_before = λ other n. ap (λ (r : Field A). r >>= λ y. next y.0 n y.1) (read.again n at.before) ∙ at.cut_before other n;
          done_before = λ late n. (
            (at.done_before late n).0,
            ap (λ (r : Field A). r >>= λ y. next y.0 n y.1) (read.again n at.before) ∙ (at.done_before late n).1,
          );
          noted = turn at.before at.kind at.noted;
        }

  -- a fault of the field
  fault_first : (Early Noted : List ℕ → FileKind → Type 0) (size : ℕ) (bytes : List ℕ) (found : FileFault) →
      ((before : List ℕ) (kind : FileKind) → Early before kind → Noted before kind) →
      Inside Early → FaultAt (A × List ℕ) field Early size bytes found → FaultAt B both Noted size bytes found
  fault_first Early Noted size bytes found turn inside at =
      record {
        before = at.before;
        field = at.field;
        rest = at.rest;
        kind = at.kind;
        parts = at.parts;
        width = at.width;
        is = at.is;
        whole = at.whole;
        again = λ n more. ap (λ (r : Field A). r >>= λ y. next y.0 n y.1) (at.again n more);
        cut_before = λ other n. ap (λ (r : Field A). r >>= λ y. next y.0 n y.1) (at.cut_before other n);
        done_before = λ late n. absurd (inside at.before at.kind at.noted late);
        noted = turn at.before at.kind at.noted;
      }

  -- a field, and all that follows it
  module _ (based : Bool) (Known : A → Type 0) (Noted : List ℕ → FileKind → Type 0) where
    ends_later : (bytes : List ℕ) (x : A × List ℕ) (read : FieldRead A field Known bytes x) (before : List ℕ) (kind : FileKind) →
        EndsWell based B (next x.0) before kind → EndsWell based B both (read.front ++ before) kind
    ends_later bytes x read before kind well sure =
        let can = well sure in
        record {
          more = can.more;
          fits = can.fits;
          ends =
              λ n. (
                (can.ends n).0,
                ap (both n) (append_assoc read.front before can.more)
                    ∙ ap (λ (r : Field A). r >>= λ y. next y.0 n y.1) (read.again n (before ++ can.more)) ∙ (can.ends n).1,
              );
        }

    pub after_field : (size : ℕ) (bytes : List ℕ) (x : A × List ℕ) (read : FieldRead A field Known bytes x) (r : Result B FileFault) →
        FileGoes based B (next x.0) size x.1 r → FileGoes based B both size bytes r
    after_field size bytes x read (Ok y) ended =
        λ n byte more. ap (λ (zs : List ℕ). both n (zs ++ byte ∷ more)) read.parts
        ∙ ap (both n) (append_assoc read.front x.1 (byte ∷ more))
        ∙ ap (λ (r : Field A). r >>= λ y. next y.0 n y.1) (read.again n (x.1 ++ byte ∷ more)) ∙ ended n byte more
    after_field size bytes x read (Err found) (inl short) = inl short
    after_field size bytes x read (Err found) (inr at) =
        inr (fault_later Known (EndsWell based B both) (EndsWell based B (next x.0)) size bytes x read found (ends_later bytes x read) at)

    pub file_then : IsField A field Known Noted → ((x : A) → Known x → IsReader based B (next x)) →
        ((before : List ℕ) (kind : FileKind) → Noted before kind → EndsWell based B both before kind) → Inside Noted → IsReader based B both
    file_then first later ends inside size bytes fits = by_field (field size bytes) (first size bytes fits)
      where
        by_field : (r : Field A) → FieldGoes A field Known Noted size bytes r →
            FileGoes based B both size bytes (r >>= λ x. next x.0 size x.1)
        by_field (Ok x) read =
            after_field size bytes x read (next x.0 size x.1)
            (later x.0 read.known size x.1 (IsBytes-behind read.front x.1 bytes read.parts fits))
        by_field (Err found) (inl short) = inl short
        by_field (Err found) (inr at) = inr (fault_first Noted (EndsWell based B both) size bytes found ends inside at)

-- two fields
module _ (A C : Type 0) (field : Reader (A × List ℕ)) (next : A → Reader (C × List ℕ)) (Known : A → Type 0) (Later : C → Type 0)
    (Noted : List ℕ → FileKind → Type 0) where
  abbrev both_fields : Reader (C × List ℕ)
  both_fields = both A (C × List ℕ) field next

  second_read : (n : ℕ) (bytes : List ℕ) (x : A × List ℕ) (y : C × List ℕ) → FieldRead A field Known bytes x →
      FieldRead C (next x.0) Later x.1 y → FieldRead C both_fields Later bytes y
  second_read n bytes x y read second =
      record {
        front = read.front ++ second.front;
        parts = read.parts ∙ ap (λ (zs : List ℕ). read.front ++ zs) second.parts ∙ sym (append_assoc read.front second.front y.1);
        again =
            λ m more. ap (both_fields m) (append_assoc read.front second.front more)
            ∙ ap (λ (r : Field A). r >>= λ z. next z.0 m z.1) (read.again m (second.front ++ more)) ∙ second.again m more;
        known = second.known;
      }

  pub field_then : IsField A field Known Noted → ((x : A) → Known x → IsField C (next x) Later Noted) →
      ((front before : List ℕ) (kind : FileKind) → Noted before kind → Noted (front ++ before) kind) → Inside Noted →
      IsField C both_fields Later Noted
  field_then first later turn inside size bytes fits = by_field (field size bytes) (first size bytes fits)
    where
      by_next : (x : A × List ℕ) (read : FieldRead A field Known bytes x) (r : Field C) → FieldGoes C (next x.0) Later Noted size x.1 r →
          FieldGoes C both_fields Later Noted size bytes r
      by_next x read (Ok y) second = second_read size bytes x y read second
      by_next x read (Err found) (inl short) = inl short
      by_next x read (Err found) (inr at) =
          inr (fault_later A (C × List ℕ) field next Known Noted Noted size bytes x read found (turn read.front) at)

      by_field : (r : Field A) → FieldGoes A field Known Noted size bytes r →
          FieldGoes C both_fields Later Noted size bytes (r >>= λ x. next x.0 size x.1)
      by_field (Ok x) read =
          by_next x read (next x.0 size x.1) (later x.0 read.known size x.1 (IsBytes-behind read.front x.1 bytes read.parts fits))
      by_field (Err found) (inl short) = inl short
      by_field (Err found) (inr at) =
          inr (fault_first A (C × List ℕ) field next Noted Noted size bytes found (λ before kind noted. noted) inside at)
