-- The first fault of a file is decided by its field, and a good file begins with the bytes before it.
use Rattle.std.proofs.Common.{◌≡◌, ℕ, zero, suc, ◌+◌, ◌<◌, ◌≤◌, inl, inr, Bool, true, false, List, [], ◌∷◌, ◌++◌, length, length-append}
use Rattle.std.proofs.Common.{length-drop, take, drop, Option, Some, None, refl, sym, ap, subst, ◌∙◌, arith}
use Rattle.std.specs.Prelude.{nat_lt, nat_le}
use Rattle.std.specs.List.{flat_map}
use Rattle.std.proofs.lemmas.Bool.{ltb-true}
use Rattle.std.proofs.lemmas.List.{append_assoc, drop-take, length-take-le, take-append-drop}
use Rattle.std.proofs.lemmas.List.Elements.{All-nil, All-cons}
use Rattle.std.proofs.Math.Seq.{take-add, take-append_seam}
use Rattle.risc_word.specs.declared.Code.{Code}
use Rattle.risc_word.specs.declared.Code.TheVariants.{Vre}
use Rattle.risc_word.specs.Words.{code_numbered}
use Rattle.fifo_model.specs.declared.Queue.{Queue}
use Rattle.irq_status.specs.declared.HostWrite.TheVariants.{Enable, Trigger}
use Rattle.capture_file.specs.declared.FileKind.{FileKind}
use Rattle.capture_file.specs.declared.FileKind.TheVariants as fault
use Rattle.capture_file.specs.declared.FileFault.{FileFault}
use Rattle.capture_file.specs.declared.Step.{Step}
use Rattle.capture_file.specs.declared.Step.TheVariants.{Push, Control, Turns, Host, Patch}
use Rattle.capture_file.specs.declared.records.Form.{Form}
use Rattle.capture_file.specs.declared.records.RecordKind.{RecordKind}
use Rattle.capture_file.specs.declared.records.RecordKind.TheVariants as kind
use Rattle.capture_file.specs.declared.records.Found.{Found}
use Rattle.capture_file.specs.declared.records.Found.TheVariants.{Cut, Wrong, Last, Whole}
use Rattle.capture_file.specs.Records.{Passes, Spans}
use Rattle.capture_file.specs.Streams.{Ending, Unfinished, Ended, Bad, Reading, after_end, buffer_if, control_at, control_with, data_with}
use Rattle.capture_file.specs.Streams.{enable_at, enable_if, fault_at, fields_at, is_buffer, is_data, kind_of_tag}
use Rattle.capture_file.specs.Streams.{most_turns, number_at, patch_at, push_at, push_if, record_at, records, slot_if, trigger_at}
use Rattle.capture_file.specs.Streams.{trigger_if, turns_if, turns_of, turns_with, ack_with}
use Rattle.capture_file.proofs.Chunks.{IsBytes, IsBytes-drop}
use Rattle.capture_file.proofs.Fields.{record_at-append, record_at-passes, record_at-spans}
use Rattle.capture_file.proofs.Readings.{front_of, records-front}
use Rattle.file_law.specs.StreamBeginnings.{field_width}
use Rattle.file_law.specs.StreamSpellings.{IsRecord, has_patches, has_triggers, push_tag, record_bytes}
use Rattle.file_law.proofs.ReadBack.{turns_same}
use Rattle.file_law.proofs.Records.{AreSpelled, Fronts, IsTagged, record_fronts, tagged, whole_spans}

-- ---- the bytes of a record before the field at fault

-- the field's first byte is there, and its last before the next; some records begin with the bytes before it
record IsBegun (form : Form) (turns : ℕ) (bytes : List ℕ) (from to : ℕ) (found : FileKind) : Type 0 where
  width : to ≡ from + field_width found
  more : List ℕ
  steps : List Step
  spelled : AreSpelled form turns (take from bytes ++ more) steps

abbrev Begins : Form → ℕ → List ℕ → Found → Type 0
Begins form turns bytes (Wrong from to found) = IsBegun form turns bytes from to found
Begins form turns bytes _ = Unit {0}

-- a record without turns, and the end record
one_spelled : (form : Form) (turns : ℕ) (step : Step) → turns ≤ most_turns → IsRecord form step → turns_of step ≡ 0 →
    AreSpelled form turns (record_bytes step ++ 0 ∷ []) (step ∷ [])
one_spelled form turns step few is none =
    record {
      each = All-cons (IsRecord form) step [] is (All-nil (IsRecord form));
      few = let same = turns_same step [] in omega (arith, same, none, few);
      same = ap (λ (zs : List ℕ). zs ++ 0 ∷ []) (append-none (record_bytes step));
    }
  where
    append-none : (xs : List ℕ) → xs ≡ xs ++ []
    append-none [] = refl
    append-none (x ∷ xs) = ap (λ (zs : List ℕ). x ∷ zs) (append-none xs)

module _ (form : Form) (turns : ℕ) (few : turns ≤ most_turns) where
  push_begins : (queue : Queue) (status : ℕ) (more : List ℕ) (test : Bool) →
      Begins form turns (push_tag queue ∷ status ∷ more) (push_if test queue status more)
  push_begins queue status more true = data_begins (number_at more)
    where
      data_begins : (dword : Option ℕ) → Begins form turns (push_tag queue ∷ status ∷ more) (data_with queue status dword)
      data_begins None = tt
      data_begins (Some dword) = tt
  push_begins queue status more false =
      record {
        width = refl;
        more = 0 ∷ 0 ∷ 0 ∷ 0 ∷ 0 ∷ 0 ∷ [];
        steps = Push queue (record { status = 0; dword = 0 }) ∷ [];
        spelled = one_spelled form turns (Push queue (record { status = 0; dword = 0 })) few (omega arith, refl, omega arith) refl;
      }

  pushes_begin : (queue : Queue) (rest : List ℕ) → Begins form turns (push_tag queue ∷ rest) (push_at queue rest)
  pushes_begin queue [] = tt
  pushes_begin queue (status ∷ more) = push_begins queue status more (is_data status)

  code_begins : (number : ℕ) (more : List ℕ) (found : Option Code) → Begins form turns (4 ∷ number ∷ more) (control_with number found)
  code_begins number more (Some code) = tt
  code_begins number more None =
      record { width = refl; more = 4 ∷ 0 ∷ []; steps = Control Vre ∷ []; spelled = one_spelled form turns (Control Vre) few tt refl }

  codes_begin : (rest : List ℕ) → Begins form turns (4 ∷ rest) (control_at rest)
  codes_begin [] = tt
  codes_begin (number ∷ more) = code_begins number more (code_numbered number)

  turns_begin : (rest : List ℕ) (count : Option ℕ) → Begins form turns (5 ∷ rest) (turns_with turns count)
  turns_begin rest None = tt
  turns_begin rest (Some count) = few_begin (nat_le (turns + count) most_turns)
    where
      few_begin : (test : Bool) → Begins form turns (5 ∷ rest) (turns_if test count)
      few_begin true = tt
      few_begin false =
          record {
            width = refl;
            more = 0 ∷ 0 ∷ 0 ∷ 0 ∷ 0 ∷ [];
            steps = Turns 0 ∷ [];
            spelled = one_spelled form turns (Turns 0) few (omega arith) refl;
          }

  ack_begins : (rest : List ℕ) (mask : Option ℕ) → Begins form turns (6 ∷ rest) (ack_with mask)
  ack_begins rest None = tt
  ack_begins rest (Some mask) = tt

  enable_begins : (enables : ℕ) (more : List ℕ) (test : Bool) → Begins form turns (7 ∷ enables ∷ more) (enable_if test enables)
  enable_begins enables more true = tt
  enable_begins enables more false =
      record {
        width = refl;
        more = 0 ∷ 0 ∷ [];
        steps = Host (Enable false false) ∷ [];
        spelled = one_spelled form turns (Host (Enable false false)) few tt refl;
      }

  enables_begin : (rest : List ℕ) → Begins form turns (7 ∷ rest) (enable_at rest)
  enables_begin [] = tt
  enables_begin (enables ∷ more) = enable_begins enables more (nat_lt enables 4)

  trigger_begins : (number : ℕ) (more : List ℕ) (test : Bool) → has_triggers form ≡ true →
      Begins form turns (8 ∷ number ∷ more) (trigger_if test number)
  trigger_begins number more true has = tt
  trigger_begins number more false has =
      record {
        width = refl;
        more = 0 ∷ 0 ∷ [];
        steps = Host (Trigger 0) ∷ [];
        spelled = one_spelled form turns (Host (Trigger 0)) few (has, omega arith) refl;
      }

  triggers_begin : (rest : List ℕ) → has_triggers form ≡ true → Begins form turns (8 ∷ rest) (trigger_at rest)
  triggers_begin [] has = tt
  triggers_begin (number ∷ more) has = trigger_begins number more (nat_lt number 4) has

  buffer_begins : (slot buffer : ℕ) (more : List ℕ) (test : Bool) → has_patches form ≡ true → slot < 2 →
      Begins form turns (9 ∷ slot ∷ buffer ∷ more) (buffer_if test slot buffer)
  buffer_begins slot buffer more true has low = tt
  buffer_begins slot buffer more false has low =
      record {
        width = refl;
        more = 0 ∷ 0 ∷ [];
        steps = Patch slot 0 ∷ [];
        spelled = one_spelled form turns (Patch slot 0) few (has, low, inl (omega arith)) refl;
      }

  slot_begins : (slot : ℕ) (more : List ℕ) (test : Bool) → nat_lt slot 2 ≡ test → has_patches form ≡ true →
      Begins form turns (9 ∷ slot ∷ more) (slot_if test slot more)
  slot_begins slot [] true low has = tt
  slot_begins slot (buffer ∷ more) true low has = buffer_begins slot buffer more (is_buffer buffer) has (ltb-true slot 2 low)
  slot_begins slot more false low has =
      record {
        width = refl;
        more = 0 ∷ 0 ∷ 0 ∷ [];
        steps = Patch 0 0 ∷ [];
        spelled = one_spelled form turns (Patch 0 0) few (has, omega arith, inl (omega arith)) refl;
      }

  patches_begin : (rest : List ℕ) → has_patches form ≡ true → Begins form turns (9 ∷ rest) (patch_at rest)
  patches_begin [] has = tt
  patches_begin (slot ∷ more) has = slot_begins slot more (nat_lt slot 2) refl has

  none_spelled : AreSpelled form turns (0 ∷ []) []
  none_spelled = record { each = All-nil (IsRecord form); few = omega (arith, few); same = refl }

  kind_begins : (found : RecordKind) (tag : ℕ) (rest : List ℕ) → IsTagged form found tag →
      Begins form turns (tag ∷ rest) (fields_at found tag turns rest)
  kind_begins kind.End tag rest is = tt
  kind_begins (kind.Push queue) tag rest is =
      subst (λ (n : ℕ). Begins form turns (n ∷ rest) (push_at queue rest)) (sym is) (pushes_begin queue rest)
  kind_begins kind.Control tag rest is = subst (λ (n : ℕ). Begins form turns (n ∷ rest) (control_at rest)) (sym is) (codes_begin rest)
  kind_begins kind.Turns tag rest is =
      subst (λ (n : ℕ). Begins form turns (n ∷ rest) (turns_with turns (number_at rest))) (sym is) (turns_begin rest (number_at rest))
  kind_begins kind.Ack tag rest is =
      subst (λ (n : ℕ). Begins form turns (n ∷ rest) (ack_with (number_at rest))) (sym is) (ack_begins rest (number_at rest))
  kind_begins kind.Enable tag rest is = subst (λ (n : ℕ). Begins form turns (n ∷ rest) (enable_at rest)) (sym is) (enables_begin rest)
  kind_begins kind.Trigger tag rest is =
      subst (λ (n : ℕ). Begins form turns (n ∷ rest) (trigger_at rest)) (sym is.0) (triggers_begin rest is.1)
  kind_begins kind.Patch tag rest is = subst (λ (n : ℕ). Begins form turns (n ∷ rest) (patch_at rest)) (sym is.0) (patches_begin rest is.1)
  kind_begins kind.Unknown tag rest is = record { width = refl; more = 0 ∷ []; steps = []; spelled = none_spelled }

  record_begins : (bytes : List ℕ) → Begins form turns bytes (record_at form turns bytes)
  record_begins [] = tt
  record_begins (tag ∷ rest) = kind_begins (kind_of_tag form tag) tag rest (tagged form tag)

-- ---- what is found is found in its own bytes

-- as many bytes of the record as these, of which the fault or the record is found
found_in : (form : Form) (turns count : ℕ) (bytes : List ℕ) (found : Found) → record_at form turns bytes ≡ found → count ≤ length bytes →
    (Passes found count → ⊥) → record_at form turns (take count bytes) ≡ found
found_in form turns count bytes found is within enough =
    elim (record_at-append form turns (take count bytes) (drop count bytes)) [
      | inl cut ↦
          (let passes = record_at-passes form turns (take count bytes) (drop count bytes) cut in
          let all : record_at form turns (take count bytes ++ drop count bytes) ≡ found =
          ap (record_at form turns) (take-append-drop count bytes) ∙ is in
          let few = length-take-le count bytes within in
          absurd (enough (subst (Passes found) few (subst (λ (f : Found). Passes f (length (take count bytes))) all passes))))
      | inr same ↦ sym same ∙ ap (record_at form turns) (take-append-drop count bytes) ∙ is
    ]

-- ---- all records

-- the field at fault is `n` bytes on; it is decided by the bytes up to and with it, and some records begin with those before it
pub record IsFirstFault (form : Form) (turns place : ℕ) (bytes : List ℕ) (found : FileFault) : Type 0 where
  pub n : ℕ
  pub at : found.at ≡ place + n
  pub reach : n + field_width found.kind ≤ length bytes
  pub decided : (records form turns place 0 (take (n + field_width found.kind) bytes)).ending ≡ Bad found
  pub more : List ℕ
  pub steps : List Step
  pub spelled : AreSpelled form turns (take n bytes ++ more) steps

abbrev pub bad_in : Ending → Option FileFault
bad_in Unfinished = None
bad_in Ended = None
bad_in (Bad found) = Some found

abbrev pub is_bad : Ending → Bool
is_bad Unfinished = false
is_bad Ended = false
is_bad (Bad found) = true

-- a fault at the front
wrong_first : (form : Form) (turns place : ℕ) (bytes : List ℕ) (from to : ℕ) (kind : FileKind) →
    record_at form turns bytes ≡ Wrong from to kind → Spans (Wrong from to kind) (length bytes) →
    IsBegun form turns bytes from to kind → IsFirstFault form turns place bytes (fault_at (place + from) kind)
wrong_first form turns place bytes from to kind is spans begun =
    record {
      n = from;
      at = refl;
      reach = let width = begun.width in let within = spans.1 in omega (arith, width, within);
      decided =
          ap (λ (count : ℕ). (records form turns place 0 (take count bytes)).ending) (sym begun.width)
          ∙ ap (λ (r : Reading). r.ending) (records-front form turns place (take to bytes))
          ∙ ap (λ (found : Found). (front_of found form turns place (take to bytes)).ending)
          (found_in form turns to bytes (Wrong from to kind) is spans.1 (λ passes. omega arith));
      more = begun.more;
      steps = begun.steps;
      spelled = begun.spelled;
    }

-- a byte behind the end record
end_first : (form : Form) (turns place : ℕ) (bytes rest : List ℕ) (found : FileFault) → turns ≤ most_turns → bytes ≡ 0 ∷ rest →
    after_end (place + 1) rest ≡ Bad found → IsFirstFault form turns place bytes found
end_first form turns place bytes [] found few is bad = absurd (let no : false ≡ true = ap is_bad bad in cc)
end_first form turns place bytes (byte ∷ rest) found few is bad =
    let P : List ℕ → FileFault → Type 0 = λ (zs : List ℕ) (f : FileFault). IsFirstFault form turns place zs f in
    let same : fault_at (place + 1) fault.AfterEnd ≡ found = some_same (fault_at (place + 1) fault.AfterEnd) found (ap bad_in bad) in
    subst (λ (zs : List ℕ). P zs found) (sym is)
    (subst (P (0 ∷ byte ∷ rest)) same
    record {
      n = 1;
      at = refl;
      reach = omega arith;
      decided = ap (λ (r : Reading). r.ending) (records-front form turns place (0 ∷ byte ∷ []));
      more = [];
      steps = [];
      spelled = none_spelled form turns few;
    })
  where
    some_same : (one other : FileFault) → (let wrap : FileFault → Option FileFault = Some in wrap one ≡ wrap other) → one ≡ other
    some_same one other e = cc

-- a record in front of those of which one is at fault
after_record : (form : Form) (turns place : ℕ) (bytes : List ℕ) (step : Step) (len : ℕ) (found : FileFault) →
    record_at form turns bytes ≡ Whole step len → Spans (Whole step len) (length bytes) →
    turns ≤ most_turns → Fronts form turns bytes (Whole step len) →
    IsFirstFault form (turns + turns_of step) (place + len) (drop len bytes) found → IsFirstFault form turns place bytes found
after_record form turns place bytes step len found is spans few fronts later =
    let front = fronts few in
    let w : ℕ = field_width found.kind in
    let n : ℕ = len + later.n in
    let within : len ≤ length bytes = spans.1 in
    let left = length-drop len bytes in
    let reach = later.reach in
    let rest : List ℕ = drop len bytes in
    let whole : record_at form turns (take (n + w) bytes) ≡ Whole step len =
    found_in form turns (n + w) bytes (Whole step len) is (omega (arith, left, reach, within)) (λ passes. omega arith)
    in
    let cut : drop len (take (n + w) bytes) ≡ take (later.n + w) rest =
    ap (λ (count : ℕ). drop len (take count bytes)) (let e : n + w ≡ len + (later.n + w) = omega arith in e)
    ∙ drop-take len (later.n + w) bytes
    in
    let long : length (record_bytes step) ≡ len =
    let sum = length-append (record_bytes step) rest in
    let all : length bytes ≡ length (record_bytes step ++ rest) = ap length front.parts in omega (arith, sum, all, left, within)
    in
    let first : take len bytes ≡ record_bytes step =
    ap (λ (count : ℕ). take count bytes) (sym long) ∙ ap (take (length (record_bytes step))) front.parts
    ∙ take-append_seam (record_bytes step) rest
    in
    let spelled = later.spelled in
    let same = turns_same step later.steps in
    record {
      n = n;
      at = later.at ∙ (let e : place + len + later.n ≡ place + n = omega arith in e);
      reach = omega (arith, left, reach, within);
      decided =
          ap (λ (r : Reading). r.ending) (records-front form turns place (take (n + w) bytes))
          ∙ ap (λ (f : Found). (front_of f form turns place (take (n + w) bytes)).ending) whole
          ∙ ap (λ (zs : List ℕ). (records form (turns + turns_of step) (place + len) 0 zs).ending) cut
          ∙ later.decided;
      more = later.more;
      steps = step ∷ later.steps;
      spelled =
          record {
            each = All-cons (IsRecord form) step later.steps front.is spelled.each;
            few = let sum = spelled.few in omega (arith, sum, same);
            same =
                ap (λ (zs : List ℕ). zs ++ later.more) (take-add len later.n bytes ∙ ap (λ (zs : List ℕ). zs ++ take later.n rest) first)
                ∙ append_assoc (record_bytes step) (take later.n rest) later.more
                ∙ ap (λ (zs : List ℕ). record_bytes step ++ zs) spelled.same
                ∙ sym (append_assoc (record_bytes step) (flat_map record_bytes later.steps) (0 ∷ []));
          };
    }

-- by the record at the front
found_first : (form : Form) (turns place : ℕ) (bytes : List ℕ) (front : Found) (found : FileFault) → record_at form turns bytes ≡ front →
    Spans front (length bytes) → turns ≤ most_turns →
    Begins form turns bytes front → Fronts form turns bytes front →
    ((step : Step) (len : ℕ) → front ≡ Whole step len → turns + turns_of step ≤ most_turns →
    (records form (turns + turns_of step) (place + len) 0 (drop len bytes)).ending ≡ Bad found →
    IsFirstFault form (turns + turns_of step) (place + len) (drop len bytes) found) →
    (front_of front form turns place bytes).ending ≡ Bad found → IsFirstFault form turns place bytes found
found_first form turns place bytes Cut found is spans few begins fronts later bad = absurd (let no : false ≡ true = ap is_bad bad in cc)
found_first form turns place bytes (Wrong from to kind) found is spans few begins fronts later bad =
    subst (IsFirstFault form turns place bytes) (let e : fault_at (place + from) kind ≡ found = cc in e)
    (wrong_first form turns place bytes from to kind is spans begins)
found_first form turns place bytes Last found is spans few begins fronts later bad =
    end_first form turns place bytes (drop 1 bytes) found few fronts bad
found_first form turns place bytes (Whole step len) found is spans few begins fronts later bad =
    after_record form turns place bytes step len found is spans few fronts (later step len refl (fronts few).few bad)

pub first_fault : (form : Form) (most turns place : ℕ) (bytes : List ℕ) (found : FileFault) → length bytes ≤ most → turns ≤ most_turns →
    IsBytes bytes →
    (records form turns place 0 bytes).ending ≡ Bad found → IsFirstFault form turns place bytes found
first_fault form zero turns place bytes found short few fits bad =
    found_first form turns place bytes (record_at form turns bytes) found refl (record_at-spans form turns bytes) few
    (record_begins form turns few bytes) (record_fronts form turns bytes fits)
    (λ step len is fewer later. absurd
    (let within = whole_spans (record_at form turns bytes) step len (length bytes) is (record_at-spans form turns bytes) in omega arith))
    (sym (ap (λ (r : Reading). r.ending) (records-front form turns place bytes)) ∙ bad)
first_fault form (suc most) turns place bytes found short few fits bad =
    found_first form turns place bytes (record_at form turns bytes) found refl (record_at-spans form turns bytes) few
    (record_begins form turns few bytes) (record_fronts form turns bytes fits)
    (λ step len is fewer later.
    let within = whole_spans (record_at form turns bytes) step len (length bytes) is (record_at-spans form turns bytes) in
    first_fault form most (turns + turns_of step) (place + len) (drop len bytes) found
    (omega (arith, length-drop len bytes, within.0, within.1)) fewer (IsBytes-drop len bytes fits) later)
    (sym (ap (λ (r : Reading). r.ending) (records-front form turns place bytes)) ∙ bad)
