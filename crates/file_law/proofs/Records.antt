-- Bytes that are read as records without a fault spell these records.
use Rattle.std.proofs.Common.{◌≡◌, ℕ, zero, suc, ◌+◌, ◌<◌, ◌≤◌, ◌⊎◌, inl, inr, Bool, true, false, cond, not, ◌||◌, List, [], ◌∷◌, ◌++◌}
use Rattle.std.proofs.Common.{length, length-drop, drop, Option, Some, None, refl, sym, ap, subst, ◌∙◌, arith}
use Rattle.std.specs.Prelude.{nat_lt, nat_le, ◌==◌}
use Rattle.std.specs.List.{All, flat_map}
use Rattle.std.proofs.lemmas.Bool.{and_parts, ltb-true, leb-true, eqb-true, not-true}
use Rattle.std.proofs.lemmas.List.{append_assoc}
use Rattle.std.proofs.lemmas.List.Elements.{All-nil, All-cons}
use Rattle.byteorder.specs.Endian.{little_number, little_bytes}
use Rattle.risc_word.specs.declared.Code.{Code}
use Rattle.risc_word.specs.declared.Code.TheVariants.{Vre, Vro, Fm1, Fm3}
use Rattle.risc_word.specs.Words.{code_number, code_numbered}
use Rattle.sync_status.specs.Statuses.{is_control, kind_of}
use Rattle.fifo_model.specs.declared.Queue.{Queue}
use Rattle.fifo_model.specs.declared.Queue.TheVariants.{One, Two, Three}
use Rattle.capture_file.specs.declared.Step.{Step}
use Rattle.capture_file.specs.declared.records.Form.{Form}
use Rattle.capture_file.specs.declared.records.Form.TheVariants.{Bfs1, Bfs2, Bfs3}
use Rattle.capture_file.specs.declared.records.RecordKind.{RecordKind}
use Rattle.capture_file.specs.declared.records.RecordKind.TheVariants as kind
use Rattle.capture_file.specs.declared.records.Found.{Found}
use Rattle.capture_file.specs.declared.records.Found.TheVariants.{Cut, Wrong, Last, Whole}
use Rattle.capture_file.specs.Records.{Spans}
use Rattle.capture_file.specs.Streams.{Ending, Unfinished, Ended, Bad, Reading, ack_with, after_end, buffer_if, control_at, control_with}
use Rattle.capture_file.specs.Streams.{data_with, enable_at, enable_if, fields_at, is_buffer}
use Rattle.capture_file.specs.Streams.{is_data, kind_of_tag, most_turns, number_at, patch_at, patch_in, push_at, push_if, record_at}
use Rattle.capture_file.specs.Streams.{records, slot_if, trigger_at, trigger_if, trigger_in, turns_if}
use Rattle.capture_file.specs.Streams.{turns_of, turns_with}
use Rattle.capture_file.proofs.Chunks.{IsBytes, IsBytes-drop}
use Rattle.capture_file.proofs.Fields.{record_at-spans}
use Rattle.capture_file.proofs.Readings.{front_of, records-front}
use Rattle.capture_file.proofs.FourBytes.{four_back, number_low}
use Rattle.file_law.specs.StreamSpellings.{IsRecord, has_patches, has_triggers, push_tag, record_bytes, turns_in}
use Rattle.file_law.proofs.ReadBack.{turns_same}

-- ---- the tag

-- the tag of a kind of record
abbrev pub IsTagged : Form → RecordKind → ℕ → Type 0
IsTagged form kind.End tag = tag ≡ 0
IsTagged form (kind.Push queue) tag = tag ≡ push_tag queue
IsTagged form kind.Control tag = tag ≡ 4
IsTagged form kind.Turns tag = tag ≡ 5
IsTagged form kind.Ack tag = tag ≡ 6
IsTagged form kind.Enable tag = tag ≡ 7
IsTagged form kind.Trigger tag = (tag ≡ 8) × (has_triggers form ≡ true)
IsTagged form kind.Patch tag = (tag ≡ 9) × (has_patches form ≡ true)
IsTagged form kind.Unknown tag = Unit {0}

tagged_if : (form : Form) (tag : ℕ) (here rest : RecordKind) (test : Bool) → (test ≡ true → IsTagged form here tag) →
    IsTagged form rest tag →
    IsTagged form (cond test here rest) tag
tagged_if form tag here rest true at_true at_false = at_true refl
tagged_if form tag here rest false at_true at_false = at_false

tagged_trigger : (form : Form) (tag : ℕ) → tag ≡ 8 → IsTagged form (trigger_in form) tag
tagged_trigger Bfs1 tag is = tt
tagged_trigger Bfs2 tag is = (is, refl)
tagged_trigger Bfs3 tag is = (is, refl)

tagged_patch : (form : Form) (tag : ℕ) → tag ≡ 9 → IsTagged form (patch_in form) tag
tagged_patch Bfs1 tag is = tt
tagged_patch Bfs2 tag is = tt
tagged_patch Bfs3 tag is = (is, refl)

pub tagged : (form : Form) (tag : ℕ) → IsTagged form (kind_of_tag form tag) tag
tagged form tag =
    tagged_if form tag kind.End _ (tag == 0) (eqb-true tag 0)
    (tagged_if form tag (kind.Push One) _ (tag == 1) (eqb-true tag 1)
    (tagged_if form tag (kind.Push Two) _ (tag == 2) (eqb-true tag 2)
    (tagged_if form tag (kind.Push Three) _ (tag == 3) (eqb-true tag 3)
    (tagged_if form tag kind.Control _ (tag == 4) (eqb-true tag 4)
    (tagged_if form tag kind.Turns _ (tag == 5) (eqb-true tag 5)
    (tagged_if form tag kind.Ack _ (tag == 6) (eqb-true tag 6)
    (tagged_if form tag kind.Enable _ (tag == 7) (eqb-true tag 7)
    (tagged_if form tag (trigger_in form) _ (tag == 8) (λ e. tagged_trigger form tag (eqb-true tag 8 e))
    (tagged_if form tag (patch_in form) kind.Unknown (tag == 9) (λ e. tagged_patch form tag (eqb-true tag 9 e)) tt)))))))))

-- ---- one record

-- the record at the front of some bytes, which are its encoding and the bytes after it
pub record IsFront (form : Form) (turns : ℕ) (bytes : List ℕ) (step : Step) (len : ℕ) : Type 0 where
  pub parts : bytes ≡ record_bytes step ++ drop len bytes
  pub is : IsRecord form step
  pub few : turns + turns_of step ≤ most_turns

-- what follows for the bytes from a record that was found
abbrev pub Fronts : Form → ℕ → List ℕ → Found → Type 0
Fronts form turns bytes Cut = Unit {0}
Fronts form turns bytes (Wrong from to fault) = Unit {0}
Fronts form turns bytes Last = bytes ≡ 0 ∷ drop 1 bytes
Fronts form turns bytes (Whole step len) = (turns ≤ most_turns) → IsFront form turns bytes step len

-- bytes in front of four bytes of a number
number_front : (front : List ℕ) (a b c d : ℕ) (rest : List ℕ) → IsBytes (a ∷ b ∷ c ∷ d ∷ rest) →
    front ++ (a ∷ b ∷ c ∷ d ∷ rest) ≡ front ++ (little_bytes 4 (little_number 4 (a ∷ b ∷ c ∷ d ∷ [])) ++ rest)
number_front front a b c d rest fits = ap (λ (four : List ℕ). front ++ (four ++ rest)) (sym (four_back a b c d rest fits))

data_status : (status : ℕ) → is_data status ≡ true → (status < 16) × (is_control (kind_of status) ≡ false)
data_status status is =
    let parts = and_parts (nat_lt status 16) (not (is_control (kind_of status))) is in
    (ltb-true status 16 parts.0, not-true (is_control (kind_of status)) parts.1)

push_four : (form : Form) (queue : Queue) (status turns : ℕ) (more : List ℕ) → (status < 16) × (is_control (kind_of status) ≡ false) →
    IsBytes more →
    Fronts form turns (push_tag queue ∷ status ∷ more) (data_with queue status (number_at more))
push_four form queue status turns [] is fits = tt
push_four form queue status turns (a ∷ []) is fits = tt
push_four form queue status turns (a ∷ b ∷ []) is fits = tt
push_four form queue status turns (a ∷ b ∷ c ∷ []) is fits = tt
push_four form queue status turns (a ∷ b ∷ c ∷ d ∷ rest) is fits =
    λ few. record {
      parts = number_front (push_tag queue ∷ status ∷ []) a b c d rest fits;
      is = (is.0, is.1, number_low a b c d rest fits);
      few = omega arith;
    }

push_front : (form : Form) (queue : Queue) (status turns : ℕ) (more : List ℕ) (test : Bool) → is_data status ≡ test → IsBytes more →
    Fronts form turns (push_tag queue ∷ status ∷ more) (push_if test queue status more)
push_front form queue status turns more true is fits = push_four form queue status turns more (data_status status is) fits
push_front form queue status turns more false is fits = tt

push_fronts : (form : Form) (queue : Queue) (turns : ℕ) (rest : List ℕ) → IsBytes rest →
    Fronts form turns (push_tag queue ∷ rest) (push_at queue rest)
push_fronts form queue turns [] fits = tt
push_fronts form queue turns (status ∷ more) fits =
    push_front form queue status turns more (is_data status) refl (IsBytes-drop 1 (status ∷ more) fits)

turns_front : (form : Form) (turns count : ℕ) (a b c d : ℕ) (rest : List ℕ) (test : Bool) → count ≡ little_number 4 (a ∷ b ∷ c ∷ d ∷ []) →
    nat_le (turns + count) most_turns ≡ test →
    IsBytes (a ∷ b ∷ c ∷ d ∷ rest) → Fronts form turns (5 ∷ a ∷ b ∷ c ∷ d ∷ rest) (turns_if test count)
turns_front form turns count a b c d rest true is few fits =
    λ most. record {
      parts = number_front (5 ∷ []) a b c d rest fits ∙ ap (λ (n : ℕ). 5 ∷ (little_bytes 4 n ++ rest)) (sym is);
      is = let low = number_low a b c d rest fits in omega arith;
      few = leb-true (turns + count) most_turns few;
    }
turns_front form turns count a b c d rest false is few fits = tt

turns_fronts : (form : Form) (turns : ℕ) (rest : List ℕ) → IsBytes rest → Fronts form turns (5 ∷ rest) (turns_with turns (number_at rest))
turns_fronts form turns [] fits = tt
turns_fronts form turns (a ∷ []) fits = tt
turns_fronts form turns (a ∷ b ∷ []) fits = tt
turns_fronts form turns (a ∷ b ∷ c ∷ []) fits = tt
turns_fronts form turns (a ∷ b ∷ c ∷ d ∷ rest) fits =
    let count : ℕ = little_number 4 (a ∷ b ∷ c ∷ d ∷ []) in
    turns_front form turns count a b c d rest (nat_le (turns + count) most_turns) refl refl fits

ack_fronts : (form : Form) (turns : ℕ) (rest : List ℕ) → IsBytes rest → Fronts form turns (6 ∷ rest) (ack_with (number_at rest))
ack_fronts form turns [] fits = tt
ack_fronts form turns (a ∷ []) fits = tt
ack_fronts form turns (a ∷ b ∷ []) fits = tt
ack_fronts form turns (a ∷ b ∷ c ∷ []) fits = tt
ack_fronts form turns (a ∷ b ∷ c ∷ d ∷ rest) fits =
    λ few. record { parts = number_front (6 ∷ []) a b c d rest fits; is = number_low a b c d rest fits; few = omega arith }

enables_front : (form : Form) (turns enables : ℕ) (more : List ℕ) → enables < 4 →
    Fronts form turns (7 ∷ enables ∷ more) (enable_if true enables)
enables_front form turns zero more low = λ few. record { parts = refl; is = tt; few = omega arith }
enables_front form turns (suc zero) more low = λ few. record { parts = refl; is = tt; few = omega arith }
enables_front form turns (suc (suc zero)) more low = λ few. record { parts = refl; is = tt; few = omega arith }
enables_front form turns (suc (suc (suc zero))) more low = λ few. record { parts = refl; is = tt; few = omega arith }
enables_front form turns (suc (suc (suc (suc n)))) more low = absurd (omega arith)

enable_front : (form : Form) (turns enables : ℕ) (more : List ℕ) (test : Bool) → nat_lt enables 4 ≡ test →
    Fronts form turns (7 ∷ enables ∷ more) (enable_if test enables)
enable_front form turns enables more true low = enables_front form turns enables more (ltb-true enables 4 low)
enable_front form turns enables more false low = tt

enable_fronts : (form : Form) (turns : ℕ) (rest : List ℕ) → Fronts form turns (7 ∷ rest) (enable_at rest)
enable_fronts form turns [] = tt
enable_fronts form turns (enables ∷ more) = enable_front form turns enables more (nat_lt enables 4) refl

trigger_front : (form : Form) (turns number : ℕ) (more : List ℕ) (test : Bool) → has_triggers form ≡ true → nat_lt number 4 ≡ test →
    Fronts form turns (8 ∷ number ∷ more) (trigger_if test number)
trigger_front form turns number more true has low = λ few. record { parts = refl; is = (has, ltb-true number 4 low); few = omega arith }
trigger_front form turns number more false has low = tt

trigger_fronts : (form : Form) (turns : ℕ) (rest : List ℕ) → has_triggers form ≡ true → Fronts form turns (8 ∷ rest) (trigger_at rest)
trigger_fronts form turns [] has = tt
trigger_fronts form turns (number ∷ more) has = trigger_front form turns number more (nat_lt number 4) has refl

is_one : (buffer : ℕ) (test : Bool) → nat_lt buffer 2 ≡ test → (test || buffer == 255) ≡ true → (buffer < 2) ⊎ (buffer ≡ 255)
is_one buffer true low is = inl (ltb-true buffer 2 low)
is_one buffer false low is = inr (eqb-true buffer 255 is)

buffer_front : (form : Form) (turns slot buffer : ℕ) (more : List ℕ) (test : Bool) → has_patches form ≡ true → slot < 2 →
    is_buffer buffer ≡ test →
    Fronts form turns (9 ∷ slot ∷ buffer ∷ more) (buffer_if test slot buffer)
buffer_front form turns slot buffer more true has low is =
    λ few. record { parts = refl; is = (has, low, is_one buffer (nat_lt buffer 2) refl is); few = omega arith }
buffer_front form turns slot buffer more false has low is = tt

slot_front : (form : Form) (turns slot : ℕ) (more : List ℕ) (test : Bool) → has_patches form ≡ true → nat_lt slot 2 ≡ test →
    Fronts form turns (9 ∷ slot ∷ more) (slot_if test slot more)
slot_front form turns slot [] true has low = tt
slot_front form turns slot (buffer ∷ more) true has low =
    buffer_front form turns slot buffer more (is_buffer buffer) has (ltb-true slot 2 low) refl
slot_front form turns slot [] false has low = tt
slot_front form turns slot (buffer ∷ more) false has low = tt

patch_fronts : (form : Form) (turns : ℕ) (rest : List ℕ) → has_patches form ≡ true → Fronts form turns (9 ∷ rest) (patch_at rest)
patch_fronts form turns [] has = tt
patch_fronts form turns (slot ∷ more) has = slot_front form turns slot more (nat_lt slot 2) has refl

-- a number that names a code is that code's
abbrev NamesCode : ℕ → Option Code → Type 0
NamesCode number None = Unit {0}
NamesCode number (Some code) = code_number code ≡ number

named_if : (number : ℕ) (code : Code) (rest : Option Code) (test : Bool) → (test ≡ true → code_number code ≡ number) →
    NamesCode number rest →
    NamesCode number (cond test (Some code) rest)
named_if number code rest true at_true at_false = at_true refl
named_if number code rest false at_true at_false = at_false

code_named : (number : ℕ) → NamesCode number (code_numbered number)
code_named number =
    named_if number Vre _ (number == 4) (λ e. sym (eqb-true number 4 e))
    (named_if number Fm1 _ (number == 6) (λ e. sym (eqb-true number 6 e))
    (named_if number Vro _ (number == 12) (λ e. sym (eqb-true number 12 e))
    (named_if number Fm3 None (number == 14) (λ e. sym (eqb-true number 14 e)) tt)))

code_front : (form : Form) (turns number : ℕ) (more : List ℕ) (found : Option Code) → NamesCode number found →
    Fronts form turns (4 ∷ number ∷ more) (control_with number found)
code_front form turns number more (Some code) same =
    λ few. record { parts = ap (λ (n : ℕ). 4 ∷ n ∷ more) (sym same); is = tt; few = omega arith }
code_front form turns number more None same = tt

code_fronts : (form : Form) (turns : ℕ) (rest : List ℕ) → Fronts form turns (4 ∷ rest) (control_at rest)
code_fronts form turns [] = tt
code_fronts form turns (number ∷ more) = code_front form turns number more (code_numbered number) (code_named number)

-- a record by its kind
kind_fronts : (form : Form) (kind : RecordKind) (tag turns : ℕ) (rest : List ℕ) → IsTagged form kind tag → IsBytes rest →
    Fronts form turns (tag ∷ rest) (fields_at kind tag turns rest)
kind_fronts form kind.End tag turns rest is fits = ap (λ (n : ℕ). n ∷ rest) is
kind_fronts form (kind.Push queue) tag turns rest is fits =
    subst (λ (n : ℕ). Fronts form turns (n ∷ rest) (push_at queue rest)) (sym is) (push_fronts form queue turns rest fits)
kind_fronts form kind.Control tag turns rest is fits =
    subst (λ (n : ℕ). Fronts form turns (n ∷ rest) (control_at rest)) (sym is) (code_fronts form turns rest)
kind_fronts form kind.Turns tag turns rest is fits =
    subst (λ (n : ℕ). Fronts form turns (n ∷ rest) (turns_with turns (number_at rest))) (sym is) (turns_fronts form turns rest fits)
kind_fronts form kind.Ack tag turns rest is fits =
    subst (λ (n : ℕ). Fronts form turns (n ∷ rest) (ack_with (number_at rest))) (sym is) (ack_fronts form turns rest fits)
kind_fronts form kind.Enable tag turns rest is fits =
    subst (λ (n : ℕ). Fronts form turns (n ∷ rest) (enable_at rest)) (sym is) (enable_fronts form turns rest)
kind_fronts form kind.Trigger tag turns rest is fits =
    subst (λ (n : ℕ). Fronts form turns (n ∷ rest) (trigger_at rest)) (sym is.0) (trigger_fronts form turns rest is.1)
kind_fronts form kind.Patch tag turns rest is fits =
    subst (λ (n : ℕ). Fronts form turns (n ∷ rest) (patch_at rest)) (sym is.0) (patch_fronts form turns rest is.1)
kind_fronts form kind.Unknown tag turns rest is fits = tt

pub record_fronts : (form : Form) (turns : ℕ) (bytes : List ℕ) → IsBytes bytes → Fronts form turns bytes (record_at form turns bytes)
record_fronts form turns [] fits = tt
record_fronts form turns (tag ∷ rest) fits =
    kind_fronts form (kind_of_tag form tag) tag turns rest (tagged form tag) (IsBytes-drop 1 (tag ∷ rest) fits)

-- ---- all records

-- bytes that spell some records and the end record, behind records of so many turns
pub record AreSpelled (form : Form) (turns : ℕ) (bytes : List ℕ) (steps : List Step) : Type 0 where
  pub each : All (IsRecord form) steps
  pub few : turns + turns_in steps ≤ most_turns
  pub same : bytes ≡ flat_map record_bytes steps ++ 0 ∷ []

abbrev IsEnded : Ending → Bool
IsEnded Unfinished = false
IsEnded Ended = true
IsEnded (Bad fault) = false

last_spells : (form : Form) (turns place : ℕ) (bytes rest : List ℕ) → turns ≤ most_turns → bytes ≡ 0 ∷ rest → after_end place rest ≡ Ended →
    AreSpelled form turns bytes []
last_spells form turns place bytes [] few is ended =
    record { each = All-nil (IsRecord form); few = omega arith; same = is }
last_spells form turns place bytes (byte ∷ rest) few is ended = absurd (let no : false ≡ true = ap IsEnded ended in cc)

-- the record at the front, and those after it
found_spells : (form : Form) (turns place : ℕ) (bytes : List ℕ) (found : Found) → turns ≤ most_turns → Fronts form turns bytes found →
    ((step : Step) (len : ℕ) → found ≡ Whole step len →
    (records form (turns + turns_of step) (place + len) 0 (drop len bytes)).ending ≡ Ended → turns + turns_of step ≤ most_turns →
    AreSpelled form (turns + turns_of step) (drop len bytes)
    (records form (turns + turns_of step) (place + len) 0 (drop len bytes)).steps) →
    (front_of found form turns place bytes).ending ≡ Ended → AreSpelled form turns bytes (front_of found form turns place bytes).steps
found_spells form turns place bytes Cut few fronts later ended = absurd (let no : false ≡ true = ap IsEnded ended in cc)
found_spells form turns place bytes (Wrong from to fault) few fronts later ended = absurd (let no : false ≡ true = ap IsEnded ended in cc)
found_spells form turns place bytes Last few fronts later ended = last_spells form turns (place + 1) bytes (drop 1 bytes) few fronts ended
found_spells form turns place bytes (Whole step len) few fronts later ended =
    let front = fronts few in
    let rest : Reading = records form (turns + turns_of step) (place + len) 0 (drop len bytes) in
    let spelled = later step len refl ended front.few in
    let sum = turns_same step rest.steps in
    record {
      each = All-cons (IsRecord form) step rest.steps front.is spelled.each;
      few = let more = spelled.few in omega (arith, sum, more);
      same =
          front.parts ∙ ap (λ (zs : List ℕ). record_bytes step ++ zs) spelled.same
          ∙ sym (append_assoc (record_bytes step) (flat_map record_bytes rest.steps) (0 ∷ []));
    }

-- a record that was found has a byte, and no more than there are
pub whole_spans : (found : Found) (step : Step) (len count : ℕ) → found ≡ Whole step len → Spans found count → (0 < len) × (len ≤ count)
whole_spans found step len count is spans =
    let P : Found → Type 0 = λ f. Spans f count in
    let h = subst P is spans in (h.0, h.1)

pub records_spell : (form : Form) (most turns place : ℕ) (bytes : List ℕ) → length bytes ≤ most → turns ≤ most_turns → IsBytes bytes →
    (records form turns place 0 bytes).ending ≡ Ended → AreSpelled form turns bytes (records form turns place 0 bytes).steps
records_spell form zero turns place bytes short few fits ended =
    let front = records-front form turns place bytes in
    subst (λ (r : Reading). AreSpelled form turns bytes r.steps) (sym front)
    (found_spells form turns place bytes (record_at form turns bytes) few (record_fronts form turns bytes fits)
    (λ step len is later fewer. absurd
    (let within = whole_spans (record_at form turns bytes) step len (length bytes) is (record_at-spans form turns bytes) in omega arith))
    (sym (ap (λ (r : Reading). r.ending) front) ∙ ended))
records_spell form (suc most) turns place bytes short few fits ended =
    let front = records-front form turns place bytes in
    subst (λ (r : Reading). AreSpelled form turns bytes r.steps) (sym front)
    (found_spells form turns place bytes (record_at form turns bytes) few (record_fronts form turns bytes fits)
    (λ step len is later fewer.
    let within = whole_spans (record_at form turns bytes) step len (length bytes) is (record_at-spans form turns bytes) in
    records_spell form most (turns + turns_of step) (place + len) (drop len bytes)
    (omega (arith, length-drop len bytes, within.0, within.1)) fewer (IsBytes-drop len bytes fits) later)
    (sym (ap (λ (r : Reading). r.ending) front) ∙ ended))
