-- A record's fields: how many bytes they are, and that the bytes after them change nothing.
use Rattle.std.proofs.Common.{◌≡◌, ℕ, suc, ◌+◌, ◌-◌, ◌<◌, ◌≤◌, ◌⊎◌, inl, inr, Bool, true, false, List, [], ◌∷◌, ◌++◌, length, take, Option}
use Rattle.std.proofs.Common.{Some, None, refl, sym, ap, ◌∙◌, arith, drop, get_or, length-take, take-append-drop}
use Rattle.std.proofs.lemmas.List.{take_all}
use Rattle.risc_word.specs.declared.Code.{Code}
use Rattle.risc_word.specs.Words.{code_numbered}
use Rattle.fifo_model.specs.declared.Queue.{Queue}
use Rattle.capture_file.specs.declared.records.Form.{Form}
use Rattle.capture_file.specs.declared.records.RecordKind.{RecordKind}
use Rattle.capture_file.specs.declared.records.RecordKind.TheVariants as kind
use Rattle.capture_file.specs.declared.records.Found.{Found}
use Rattle.capture_file.specs.declared.records.Found.TheVariants.{Cut, Wrong, Last, Whole}
use Rattle.capture_file.specs.declared.Step.{Step}
use Rattle.capture_file.specs.Streams.{number_at, kind_of_tag, is_data, push_if, push_at, data_with, control_with, control_at, turns_if}
use Rattle.capture_file.specs.Streams.{turns_with, most_turns, ack_with, enable_if, enable_at}
use Rattle.capture_file.specs.Streams.{trigger_if, trigger_at, is_buffer, buffer_if, slot_if, patch_at, fields_at, record_at}
use Rattle.capture_file.specs.Records.{HasFour, Spans, Passes, Sums, FoundFits}
use Rattle.std.specs.Prelude.{nat_lt, nat_le, not, ◌&&◌, ◌||◌, ◌==◌}
use Rattle.std.proofs.lemmas.Bool.{ltb-true, leb-true, eqb-true}
use Rattle.sync_status.specs.Statuses.{kind_of, is_control}

-- the bytes after a number
pub number_at-append : (bytes more : List ℕ) → (number_at bytes ≡ None) ⊎ (number_at (bytes ++ more) ≡ number_at bytes)
number_at-append [] more = inl refl
number_at-append (a ∷ []) more = inl refl
number_at-append (a ∷ b ∷ []) more = inl refl
number_at-append (a ∷ b ∷ c ∷ []) more = inl refl
number_at-append (a ∷ b ∷ c ∷ d ∷ rest) more = inr refl

pub number_at-four : (bytes : List ℕ) → HasFour (number_at bytes) (length bytes)
number_at-four [] = omega arith
number_at-four (a ∷ []) = omega arith
number_at-four (a ∷ b ∷ []) = omega arith
number_at-four (a ∷ b ∷ c ∷ []) = omega arith
number_at-four (a ∷ b ∷ c ∷ d ∷ rest) = omega arith

pub number_at-six : (bytes : List ℕ) → number_at (take 6 bytes) ≡ number_at bytes
number_at-six [] = refl
number_at-six (a ∷ []) = refl
number_at-six (a ∷ b ∷ []) = refl
number_at-six (a ∷ b ∷ c ∷ []) = refl
number_at-six (a ∷ b ∷ c ∷ d ∷ rest) = refl

-- What is found needs no more bytes than it uses.

abbrev pub Keeps : Found → Found → Type 0
Keeps found longer = (found ≡ Cut) ⊎ (longer ≡ found)

keeps_number : (f : Option ℕ → Found) (short long : Option ℕ) → f None ≡ Cut → (short ≡ None) ⊎ (long ≡ short) → Keeps (f short) (f long)
keeps_number f short long cut (inl e) = inl (ap f e ∙ cut)
keeps_number f short long cut (inr e) = inr (ap f e)

keeps_push_if : (b : Bool) (queue : Queue) (status : ℕ) (rest more : List ℕ) →
    Keeps (push_if b queue status rest) (push_if b queue status (rest ++ more))
keeps_push_if true queue status rest more =
    keeps_number (data_with queue status) (number_at rest) (number_at (rest ++ more)) refl (number_at-append rest more)
keeps_push_if false queue status rest more = inr refl

keeps_push : (queue : Queue) (rest more : List ℕ) → Keeps (push_at queue rest) (push_at queue (rest ++ more))
keeps_push queue [] more = inl refl
keeps_push queue (status ∷ rest) more = keeps_push_if (is_data status) queue status rest more

keeps_control : (rest more : List ℕ) → Keeps (control_at rest) (control_at (rest ++ more))
keeps_control [] more = inl refl
keeps_control (number ∷ rest) more = inr refl

keeps_enable : (rest more : List ℕ) → Keeps (enable_at rest) (enable_at (rest ++ more))
keeps_enable [] more = inl refl
keeps_enable (number ∷ rest) more = inr refl

keeps_trigger : (rest more : List ℕ) → Keeps (trigger_at rest) (trigger_at (rest ++ more))
keeps_trigger [] more = inl refl
keeps_trigger (number ∷ rest) more = inr refl

keeps_slot : (b : Bool) (slot : ℕ) (rest more : List ℕ) → Keeps (slot_if b slot rest) (slot_if b slot (rest ++ more))
keeps_slot true slot [] more = inl refl
keeps_slot true slot (buffer ∷ rest) more = inr refl
keeps_slot false slot [] more = inr refl
keeps_slot false slot (buffer ∷ rest) more = inr refl

keeps_patch : (rest more : List ℕ) → Keeps (patch_at rest) (patch_at (rest ++ more))
keeps_patch [] more = inl refl
keeps_patch (slot ∷ rest) more = keeps_slot (nat_lt slot 2) slot rest more

keeps_fields : (k : RecordKind) (tag turns : ℕ) (rest more : List ℕ) →
    Keeps (fields_at k tag turns rest) (fields_at k tag turns (rest ++ more))
keeps_fields kind.End tag turns rest more = inr refl
keeps_fields (kind.Push queue) tag turns rest more = keeps_push queue rest more
keeps_fields kind.Control tag turns rest more = keeps_control rest more
keeps_fields kind.Turns tag turns rest more =
    keeps_number (turns_with turns) (number_at rest) (number_at (rest ++ more)) refl (number_at-append rest more)
keeps_fields kind.Ack tag turns rest more =
    keeps_number ack_with (number_at rest) (number_at (rest ++ more)) refl (number_at-append rest more)
keeps_fields kind.Enable tag turns rest more = keeps_enable rest more
keeps_fields kind.Trigger tag turns rest more = keeps_trigger rest more
keeps_fields kind.Patch tag turns rest more = keeps_patch rest more
keeps_fields kind.Unknown tag turns rest more = inr refl

pub record_at-append : (form : Form) (turns : ℕ) (bytes more : List ℕ) →
    Keeps (record_at form turns bytes) (record_at form turns (bytes ++ more))
record_at-append form turns [] more = inl refl
record_at-append form turns (tag ∷ rest) more = keeps_fields (kind_of_tag form tag) tag turns rest more

-- What is found is within the bytes, and a record that is cut has fewer than six.

spans_data : (queue : Queue) (status : ℕ) (n : Option ℕ) (count : ℕ) → HasFour n count → Spans (data_with queue status n) (suc (suc count))
spans_data queue status None count h = omega arith
spans_data queue status (Some n) count h = (omega arith, omega arith, omega arith)

spans_push_if : (b : Bool) (queue : Queue) (status : ℕ) (rest : List ℕ) → Spans (push_if b queue status rest) (suc (suc (length rest)))
spans_push_if true queue status rest = spans_data queue status (number_at rest) (length rest) (number_at-four rest)
spans_push_if false queue status rest = (omega arith, omega arith, omega arith)

spans_push : (queue : Queue) (rest : List ℕ) → Spans (push_at queue rest) (suc (length rest))
spans_push queue [] = omega arith
spans_push queue (status ∷ rest) = spans_push_if (is_data status) queue status rest

spans_control_with : (number : ℕ) (code : Option Code) (count : ℕ) → Spans (control_with number code) (suc (suc count))
spans_control_with number (Some code) count = (omega arith, omega arith, omega arith)
spans_control_with number None count = (omega arith, omega arith, omega arith)

spans_control : (rest : List ℕ) → Spans (control_at rest) (suc (length rest))
spans_control [] = omega arith
spans_control (number ∷ rest) = spans_control_with number (code_numbered number) (length rest)

spans_enable_if : (b : Bool) (number count : ℕ) → Spans (enable_if b number) (suc (suc count))
spans_enable_if true number count = (omega arith, omega arith, omega arith)
spans_enable_if false number count = (omega arith, omega arith, omega arith)

spans_enable : (rest : List ℕ) → Spans (enable_at rest) (suc (length rest))
spans_enable [] = omega arith
spans_enable (number ∷ rest) = spans_enable_if (nat_lt number 4) number (length rest)

spans_trigger_if : (b : Bool) (number count : ℕ) → Spans (trigger_if b number) (suc (suc count))
spans_trigger_if true number count = (omega arith, omega arith, omega arith)
spans_trigger_if false number count = (omega arith, omega arith, omega arith)

spans_trigger : (rest : List ℕ) → Spans (trigger_at rest) (suc (length rest))
spans_trigger [] = omega arith
spans_trigger (number ∷ rest) = spans_trigger_if (nat_lt number 4) number (length rest)

spans_turns_if : (b : Bool) (n count : ℕ) → 4 ≤ count → Spans (turns_if b n) (suc count)
spans_turns_if true n count h = (omega arith, omega arith, omega arith)
spans_turns_if false n count h = (omega arith, omega arith, omega arith)

spans_turns : (before : ℕ) (n : Option ℕ) (count : ℕ) → HasFour n count → Spans (turns_with before n) (suc count)
spans_turns before None count h = omega arith
spans_turns before (Some n) count h = spans_turns_if (nat_le (before + n) most_turns) n count h

spans_ack : (n : Option ℕ) (count : ℕ) → HasFour n count → Spans (ack_with n) (suc count)
spans_ack None count h = omega arith
spans_ack (Some n) count h = (omega arith, omega arith, omega arith)

spans_buffer : (b : Bool) (slot buffer count : ℕ) → Spans (buffer_if b slot buffer) (suc (suc (suc count)))
spans_buffer true slot buffer count = (omega arith, omega arith, omega arith)
spans_buffer false slot buffer count = (omega arith, omega arith, omega arith)

spans_slot : (b : Bool) (slot : ℕ) (rest : List ℕ) → Spans (slot_if b slot rest) (suc (suc (length rest)))
spans_slot true slot [] = omega arith
spans_slot true slot (buffer ∷ rest) = spans_buffer (is_buffer buffer) slot buffer (length rest)
spans_slot false slot rest = (omega arith, omega arith, omega arith)

spans_patch : (rest : List ℕ) → Spans (patch_at rest) (suc (length rest))
spans_patch [] = omega arith
spans_patch (slot ∷ rest) = spans_slot (nat_lt slot 2) slot rest

spans_fields : (k : RecordKind) (tag turns : ℕ) (rest : List ℕ) → Spans (fields_at k tag turns rest) (suc (length rest))
spans_fields kind.End tag turns rest = omega arith
spans_fields (kind.Push queue) tag turns rest = spans_push queue rest
spans_fields kind.Control tag turns rest = spans_control rest
spans_fields kind.Turns tag turns rest = spans_turns turns (number_at rest) (length rest) (number_at-four rest)
spans_fields kind.Ack tag turns rest = spans_ack (number_at rest) (length rest) (number_at-four rest)
spans_fields kind.Enable tag turns rest = spans_enable rest
spans_fields kind.Trigger tag turns rest = spans_trigger rest
spans_fields kind.Patch tag turns rest = spans_patch rest
spans_fields kind.Unknown tag turns rest = (omega arith, omega arith, omega arith)

pub record_at-spans : (form : Form) (turns : ℕ) (bytes : List ℕ) → Spans (record_at form turns bytes) (length bytes)
record_at-spans form turns [] = omega arith
record_at-spans form turns (tag ∷ rest) = spans_fields (kind_of_tag form tag) tag turns rest

-- A record that is cut after some bytes ends behind them.

passes_data : (queue : Queue) (status : ℕ) (n : Option ℕ) (count : ℕ) → count < 6 → Passes (data_with queue status n) count
passes_data queue status None count h = tt
passes_data queue status (Some n) count h = h

passes_push_if : (b : Bool) (queue : Queue) (status : ℕ) (rest more : List ℕ) → push_if b queue status rest ≡ Cut →
    Passes (push_if b queue status (rest ++ more)) (suc (suc (length rest)))
passes_push_if true queue status rest more cut =
    let short = spans_push_if true queue status rest in
    passes_data queue status (number_at (rest ++ more)) (suc (suc (length rest))) (rw cut at short)
passes_push_if false queue status rest more cut = absurd (cc)

passes_push_start : (b : Bool) (queue : Queue) (status : ℕ) (rest : List ℕ) → Passes (push_if b queue status rest) 1
passes_push_start true queue status rest = passes_data queue status (number_at rest) 1 (omega arith)
passes_push_start false queue status rest = omega arith

passes_push : (queue : Queue) (rest more : List ℕ) → push_at queue rest ≡ Cut → Passes (push_at queue (rest ++ more)) (suc (length rest))
passes_push queue [] [] cut = tt
passes_push queue [] (status ∷ more) cut = passes_push_start (is_data status) queue status more
passes_push queue (status ∷ rest) more cut = passes_push_if (is_data status) queue status rest more cut

passes_control_with : (number : ℕ) (code : Option Code) → Passes (control_with number code) 1
passes_control_with number (Some code) = omega arith
passes_control_with number None = omega arith

whole_control : (number : ℕ) (code : Option Code) → control_with number code ≡ Cut → ⊥
whole_control number (Some code) cut = cc
whole_control number None cut = cc

passes_control : (rest more : List ℕ) → control_at rest ≡ Cut → Passes (control_at (rest ++ more)) (suc (length rest))
passes_control [] [] cut = tt
passes_control [] (number ∷ more) cut = passes_control_with number (code_numbered number)
passes_control (number ∷ rest) more cut = absurd (whole_control number (code_numbered number) cut)

passes_enable_if : (b : Bool) (number : ℕ) → Passes (enable_if b number) 1
passes_enable_if true number = omega arith
passes_enable_if false number = omega arith

whole_enable : (b : Bool) (number : ℕ) → enable_if b number ≡ Cut → ⊥
whole_enable true number cut = cc
whole_enable false number cut = cc

passes_enable : (rest more : List ℕ) → enable_at rest ≡ Cut → Passes (enable_at (rest ++ more)) (suc (length rest))
passes_enable [] [] cut = tt
passes_enable [] (number ∷ more) cut = passes_enable_if (nat_lt number 4) number
passes_enable (number ∷ rest) more cut = absurd (whole_enable (nat_lt number 4) number cut)

passes_trigger_if : (b : Bool) (number : ℕ) → Passes (trigger_if b number) 1
passes_trigger_if true number = omega arith
passes_trigger_if false number = omega arith

whole_trigger : (b : Bool) (number : ℕ) → trigger_if b number ≡ Cut → ⊥
whole_trigger true number cut = cc
whole_trigger false number cut = cc

passes_trigger : (rest more : List ℕ) → trigger_at rest ≡ Cut → Passes (trigger_at (rest ++ more)) (suc (length rest))
passes_trigger [] [] cut = tt
passes_trigger [] (number ∷ more) cut = passes_trigger_if (nat_lt number 4) number
passes_trigger (number ∷ rest) more cut = absurd (whole_trigger (nat_lt number 4) number cut)

passes_turns_if : (b : Bool) (n count : ℕ) → count < 5 → Passes (turns_if b n) count
passes_turns_if true n count h = h
passes_turns_if false n count h = h

passes_turns_with : (before : ℕ) (n : Option ℕ) (count : ℕ) → count < 5 → Passes (turns_with before n) count
passes_turns_with before None count h = tt
passes_turns_with before (Some n) count h = passes_turns_if (nat_le (before + n) most_turns) n count h

whole_turns_if : (b : Bool) (n : ℕ) → turns_if b n ≡ Cut → ⊥
whole_turns_if true n cut = cc
whole_turns_if false n cut = cc

short_turns : (before : ℕ) (n : Option ℕ) (count : ℕ) → HasFour n count → turns_with before n ≡ Cut → count < 4
short_turns before None count h cut = h
short_turns before (Some n) count h cut = absurd (whole_turns_if (nat_le (before + n) most_turns) n cut)

passes_turns : (before : ℕ) (rest more : List ℕ) → turns_with before (number_at rest) ≡ Cut →
    Passes (turns_with before (number_at (rest ++ more))) (suc (length rest))
passes_turns before rest more cut =
    let short = short_turns before (number_at rest) (length rest) (number_at-four rest) cut in
    passes_turns_with before (number_at (rest ++ more)) (suc (length rest)) (omega arith)

passes_ack_with : (n : Option ℕ) (count : ℕ) → count < 5 → Passes (ack_with n) count
passes_ack_with None count h = tt
passes_ack_with (Some n) count h = h

short_ack : (n : Option ℕ) (count : ℕ) → HasFour n count → ack_with n ≡ Cut → count < 4
short_ack None count h cut = h
short_ack (Some n) count h cut = absurd (cc)

passes_ack : (rest more : List ℕ) → ack_with (number_at rest) ≡ Cut → Passes (ack_with (number_at (rest ++ more))) (suc (length rest))
passes_ack rest more cut =
    let short = short_ack (number_at rest) (length rest) (number_at-four rest) cut in
    passes_ack_with (number_at (rest ++ more)) (suc (length rest)) (omega arith)

passes_buffer : (b : Bool) (slot buffer : ℕ) → Passes (buffer_if b slot buffer) 2
passes_buffer true slot buffer = omega arith
passes_buffer false slot buffer = omega arith

passes_buffer_start : (b : Bool) (slot buffer : ℕ) → Passes (buffer_if b slot buffer) 1
passes_buffer_start true slot buffer = omega arith
passes_buffer_start false slot buffer = omega arith

whole_buffer : (b : Bool) (slot buffer : ℕ) → buffer_if b slot buffer ≡ Cut → ⊥
whole_buffer true slot buffer cut = cc
whole_buffer false slot buffer cut = cc

passes_slot : (b : Bool) (slot : ℕ) (rest more : List ℕ) → slot_if b slot rest ≡ Cut →
    Passes (slot_if b slot (rest ++ more)) (suc (suc (length rest)))
passes_slot true slot [] [] cut = tt
passes_slot true slot [] (buffer ∷ more) cut = passes_buffer (is_buffer buffer) slot buffer
passes_slot true slot (buffer ∷ rest) more cut = absurd (whole_buffer (is_buffer buffer) slot buffer cut)
passes_slot false slot rest more cut = absurd (cc)

passes_slot_start : (b : Bool) (slot : ℕ) (more : List ℕ) → Passes (slot_if b slot more) 1
passes_slot_start true slot [] = tt
passes_slot_start true slot (buffer ∷ more) = passes_buffer_start (is_buffer buffer) slot buffer
passes_slot_start false slot more = omega arith

passes_patch : (rest more : List ℕ) → patch_at rest ≡ Cut → Passes (patch_at (rest ++ more)) (suc (length rest))
passes_patch [] [] cut = tt
passes_patch [] (slot ∷ more) cut = passes_slot_start (nat_lt slot 2) slot more
passes_patch (slot ∷ rest) more cut = passes_slot (nat_lt slot 2) slot rest more cut

passes_fields : (k : RecordKind) (tag turns : ℕ) (rest more : List ℕ) → fields_at k tag turns rest ≡ Cut →
    Passes (fields_at k tag turns (rest ++ more)) (suc (length rest))
passes_fields kind.End tag turns rest more cut = absurd (cc)
passes_fields (kind.Push queue) tag turns rest more cut = passes_push queue rest more cut
passes_fields kind.Control tag turns rest more cut = passes_control rest more cut
passes_fields kind.Turns tag turns rest more cut = passes_turns turns rest more cut
passes_fields kind.Ack tag turns rest more cut = passes_ack rest more cut
passes_fields kind.Enable tag turns rest more cut = passes_enable rest more cut
passes_fields kind.Trigger tag turns rest more cut = passes_trigger rest more cut
passes_fields kind.Patch tag turns rest more cut = passes_patch rest more cut
passes_fields kind.Unknown tag turns rest more cut = absurd (cc)

-- whatever is found has a byte at least
passes_none : (found : Found) (count : ℕ) → Spans found count → Passes found 0
passes_none Cut count h = tt
passes_none (Wrong from to fault) count h = omega arith
passes_none Last count h = omega arith
passes_none (Whole step len) count h = h.0

pub record_at-passes : (form : Form) (turns : ℕ) (bytes more : List ℕ) → record_at form turns bytes ≡ Cut →
    Passes (record_at form turns (bytes ++ more)) (length bytes)
record_at-passes form turns [] more cut = passes_none (record_at form turns more) (length more) (record_at-spans form turns more)
record_at-passes form turns (tag ∷ rest) more cut = passes_fields (kind_of_tag form tag) tag turns rest more cut

-- six bytes are enough
pub record_at-six : (form : Form) (turns : ℕ) (bytes : List ℕ) → record_at form turns (take 6 bytes) ≡ record_at form turns bytes
record_at-six form turns bytes =
    elim (record_at-append form turns (take 6 bytes) (drop 6 bytes)) [
      | inl cut ↦
          (let spans = record_at-spans form turns (take 6 bytes) in
          let short : length (take 6 bytes) < 6 = rw cut at spans in
          let all : length bytes ≤ 6 = omega (arith, length-take 6 bytes, short) in
          rw (take_all 6 bytes all) refl)
      | inr same ↦ sym same ∙ ap (record_at form turns) (take-append-drop 6 bytes)
    ]

-- The turns of a record and those before it are not too many.

sums_turns_if : (before n : ℕ) (b : Bool) → nat_le (before + n) most_turns ≡ b → Sums (turns_if b n) before
sums_turns_if before n true is = leb-true (before + n) most_turns is
sums_turns_if before n false is = tt

sums_turns : (before : ℕ) (n : Option ℕ) → Sums (turns_with before n) before
sums_turns before None = tt
sums_turns before (Some n) = sums_turns_if before n (nat_le (before + n) most_turns) refl

sums_data : (before : ℕ) (queue : Queue) (status : ℕ) (n : Option ℕ) → before ≤ most_turns → Sums (data_with queue status n) before
sums_data before queue status None h = tt
sums_data before queue status (Some n) h = omega arith

sums_push_if : (before : ℕ) (b : Bool) (queue : Queue) (status : ℕ) (rest : List ℕ) → before ≤ most_turns →
    Sums (push_if b queue status rest) before
sums_push_if before true queue status rest h = sums_data before queue status (number_at rest) h
sums_push_if before false queue status rest h = tt

sums_push : (before : ℕ) (queue : Queue) (rest : List ℕ) → before ≤ most_turns → Sums (push_at queue rest) before
sums_push before queue [] h = tt
sums_push before queue (status ∷ rest) h = sums_push_if before (is_data status) queue status rest h

sums_control_with : (before number : ℕ) (code : Option Code) → before ≤ most_turns → Sums (control_with number code) before
sums_control_with before number (Some code) h = omega arith
sums_control_with before number None h = tt

sums_control : (before : ℕ) (rest : List ℕ) → before ≤ most_turns → Sums (control_at rest) before
sums_control before [] h = tt
sums_control before (number ∷ rest) h = sums_control_with before number (code_numbered number) h

sums_ack : (before : ℕ) (n : Option ℕ) → before ≤ most_turns → Sums (ack_with n) before
sums_ack before None h = tt
sums_ack before (Some n) h = omega arith

sums_enable_if : (before : ℕ) (b : Bool) (number : ℕ) → before ≤ most_turns → Sums (enable_if b number) before
sums_enable_if before true number h = omega arith
sums_enable_if before false number h = tt

sums_enable : (before : ℕ) (rest : List ℕ) → before ≤ most_turns → Sums (enable_at rest) before
sums_enable before [] h = tt
sums_enable before (number ∷ rest) h = sums_enable_if before (nat_lt number 4) number h

sums_trigger_if : (before : ℕ) (b : Bool) (number : ℕ) → before ≤ most_turns → Sums (trigger_if b number) before
sums_trigger_if before true number h = omega arith
sums_trigger_if before false number h = tt

sums_trigger : (before : ℕ) (rest : List ℕ) → before ≤ most_turns → Sums (trigger_at rest) before
sums_trigger before [] h = tt
sums_trigger before (number ∷ rest) h = sums_trigger_if before (nat_lt number 4) number h

sums_buffer : (before : ℕ) (b : Bool) (slot buffer : ℕ) → before ≤ most_turns → Sums (buffer_if b slot buffer) before
sums_buffer before true slot buffer h = omega arith
sums_buffer before false slot buffer h = tt

sums_slot : (before : ℕ) (b : Bool) (slot : ℕ) (rest : List ℕ) → before ≤ most_turns → Sums (slot_if b slot rest) before
sums_slot before true slot [] h = tt
sums_slot before true slot (buffer ∷ rest) h = sums_buffer before (is_buffer buffer) slot buffer h
sums_slot before false slot rest h = tt

sums_patch : (before : ℕ) (rest : List ℕ) → before ≤ most_turns → Sums (patch_at rest) before
sums_patch before [] h = tt
sums_patch before (slot ∷ rest) h = sums_slot before (nat_lt slot 2) slot rest h

sums_fields : (k : RecordKind) (tag turns : ℕ) (rest : List ℕ) → turns ≤ most_turns → Sums (fields_at k tag turns rest) turns
sums_fields kind.End tag turns rest h = tt
sums_fields (kind.Push queue) tag turns rest h = sums_push turns queue rest h
sums_fields kind.Control tag turns rest h = sums_control turns rest h
sums_fields kind.Turns tag turns rest h = sums_turns turns (number_at rest)
sums_fields kind.Ack tag turns rest h = sums_ack turns (number_at rest) h
sums_fields kind.Enable tag turns rest h = sums_enable turns rest h
sums_fields kind.Trigger tag turns rest h = sums_trigger turns rest h
sums_fields kind.Patch tag turns rest h = sums_patch turns rest h
sums_fields kind.Unknown tag turns rest h = tt

pub record_at-sums : (form : Form) (turns : ℕ) (bytes : List ℕ) → turns ≤ most_turns → Sums (record_at form turns bytes) turns
record_at-sums form turns [] h = tt
record_at-sums form turns (tag ∷ rest) h = sums_fields (kind_of_tag form tag) tag turns rest h

-- A step's numbers are those of their fields.

fits_data : (queue : Queue) (status : ℕ) (n : Option ℕ) → is_control (kind_of status) ≡ false → FoundFits (data_with queue status n)
fits_data queue status None h = tt
fits_data queue status (Some n) h = h

fits_status : (low control : Bool) → (low && not control) ≡ true → control ≡ false
fits_status true true h = cc
fits_status true false h = refl
fits_status false control h = cc

fits_push_if : (b : Bool) (queue : Queue) (status : ℕ) (rest : List ℕ) → is_data status ≡ b → FoundFits (push_if b queue status rest)
fits_push_if true queue status rest h =
    fits_data queue status (number_at rest) (fits_status (nat_lt status 16) (is_control (kind_of status)) h)
fits_push_if false queue status rest h = tt

fits_push : (queue : Queue) (rest : List ℕ) → FoundFits (push_at queue rest)
fits_push queue [] = tt
fits_push queue (status ∷ rest) = fits_push_if (is_data status) queue status rest refl

fits_control_with : (number : ℕ) (code : Option Code) → FoundFits (control_with number code)
fits_control_with number (Some code) = tt
fits_control_with number None = tt

fits_control : (rest : List ℕ) → FoundFits (control_at rest)
fits_control [] = tt
fits_control (number ∷ rest) = fits_control_with number (code_numbered number)

fits_turns_if : (b : Bool) (n : ℕ) → FoundFits (turns_if b n)
fits_turns_if true n = tt
fits_turns_if false n = tt

fits_turns : (before : ℕ) (n : Option ℕ) → FoundFits (turns_with before n)
fits_turns before None = tt
fits_turns before (Some n) = fits_turns_if (nat_le (before + n) most_turns) n

fits_ack : (n : Option ℕ) → FoundFits (ack_with n)
fits_ack None = tt
fits_ack (Some n) = tt

fits_enable_if : (b : Bool) (number : ℕ) → FoundFits (enable_if b number)
fits_enable_if true number = tt
fits_enable_if false number = tt

fits_enable : (rest : List ℕ) → FoundFits (enable_at rest)
fits_enable [] = tt
fits_enable (number ∷ rest) = fits_enable_if (nat_lt number 4) number

fits_trigger_if : (number : ℕ) (b : Bool) → nat_lt number 4 ≡ b → FoundFits (trigger_if b number)
fits_trigger_if number true is = ltb-true number 4 is
fits_trigger_if number false is = tt

fits_trigger : (rest : List ℕ) → FoundFits (trigger_at rest)
fits_trigger [] = tt
fits_trigger (number ∷ rest) = fits_trigger_if number (nat_lt number 4) refl

is_buffer-true : (buffer : ℕ) (low high : Bool) → nat_lt buffer 2 ≡ low → (buffer == 255) ≡ high → (low || high) ≡ true →
    (buffer < 2) ⊎ (buffer ≡ 255)
is_buffer-true buffer true high is same h = inl (ltb-true buffer 2 is)
is_buffer-true buffer false true is same h = inr (eqb-true buffer 255 same)
is_buffer-true buffer false false is same h = absurd (cc)

fits_buffer : (slot buffer : ℕ) (b : Bool) → slot < 2 → is_buffer buffer ≡ b → FoundFits (buffer_if b slot buffer)
fits_buffer slot buffer true low is = (low, is_buffer-true buffer (nat_lt buffer 2) (buffer == 255) refl refl is)
fits_buffer slot buffer false low is = tt

fits_slot : (slot : ℕ) (b : Bool) (rest : List ℕ) → nat_lt slot 2 ≡ b → FoundFits (slot_if b slot rest)
fits_slot slot true [] is = tt
fits_slot slot true (buffer ∷ rest) is = fits_buffer slot buffer (is_buffer buffer) (ltb-true slot 2 is) refl
fits_slot slot false rest is = tt

fits_patch : (rest : List ℕ) → FoundFits (patch_at rest)
fits_patch [] = tt
fits_patch (slot ∷ rest) = fits_slot slot (nat_lt slot 2) rest refl

fits_fields : (k : RecordKind) (tag turns : ℕ) (rest : List ℕ) → FoundFits (fields_at k tag turns rest)
fits_fields kind.End tag turns rest = tt
fits_fields (kind.Push queue) tag turns rest = fits_push queue rest
fits_fields kind.Control tag turns rest = fits_control rest
fits_fields kind.Turns tag turns rest = fits_turns turns (number_at rest)
fits_fields kind.Ack tag turns rest = fits_ack (number_at rest)
fits_fields kind.Enable tag turns rest = fits_enable rest
fits_fields kind.Trigger tag turns rest = fits_trigger rest
fits_fields kind.Patch tag turns rest = fits_patch rest
fits_fields kind.Unknown tag turns rest = tt

pub record_at-fits : (form : Form) (turns : ℕ) (bytes : List ℕ) → FoundFits (record_at form turns bytes)
record_at-fits form turns [] = tt
record_at-fits form turns (tag ∷ rest) = fits_fields (kind_of_tag form tag) tag turns rest

-- the record of a push has six bytes
data-six : (queue : Queue) (status : ℕ) (dword : Option ℕ) (step : Step) (len : ℕ) → data_with queue status dword ≡ Whole step len → len ≡ 6
data-six queue status None step len e = absurd cc
data-six queue status (Some number) step len e = cc

push_if-six : (right : Bool) (queue : Queue) (status : ℕ) (rest : List ℕ) (step : Step) (len : ℕ) →
    push_if right queue status rest ≡ Whole step len → len ≡ 6
push_if-six true queue status rest step len e = data-six queue status (number_at rest) step len e
push_if-six false queue status rest step len e = absurd cc

pub push_six : (queue : Queue) (rest : List ℕ) (step : Step) (len : ℕ) → push_at queue rest ≡ Whole step len → len ≡ 6
push_six queue [] step len e = absurd cc
push_six queue (status ∷ rest) step len e = push_if-six (is_data status) queue status rest step len e

pub tagged_push : (form : Form) (turns : ℕ) (bytes : List ℕ) (queue : Queue) → 1 ≤ length bytes →
    kind_of_tag form (get_or bytes 0 0) ≡ kind.Push queue →
    record_at form turns bytes ≡ push_at queue (take (length bytes - 1) (drop 1 bytes))
tagged_push form turns [] queue some e = absurd (omega arith)
tagged_push form turns (tag ∷ rest) queue some e =
    ap (λ k. fields_at k tag turns rest) e ∙ ap (push_at queue) (sym (take_all (length (tag ∷ rest) - 1) rest (omega arith)))
