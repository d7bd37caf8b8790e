-- A stream without a fault has no more turns than a stream may have.
use Rattle.std.proofs.Common.{◌≡◌, ℕ, zero, suc, ◌+◌, ◌-◌, ◌≤◌, true, false, Bool, List, [], ◌∷◌, length, take, drop, Option, Some, None}
use Rattle.std.proofs.Common.{Ok, arith, refl, subst}
use Rattle.std.specs.Prelude.{⊤, nat_le, nat_lt}
use Rattle.std.proofs.lemmas.Bool.{leb-true}
use Rattle.risc_word.specs.declared.Code.{Code}
use Rattle.risc_word.specs.Words.{code_numbered}
use Rattle.fifo_model.specs.declared.Queue.{Queue}
use Rattle.capture_file.specs.declared.Step.{Step}
use Rattle.capture_file.specs.declared.records.Form.{Form}
use Rattle.capture_file.specs.declared.records.Form.TheVariants.{Bfs1, Bfs2, Bfs3}
use Rattle.capture_file.specs.declared.records.RecordKind.{RecordKind}
use Rattle.capture_file.specs.declared.records.RecordKind.TheVariants as kind
use Rattle.capture_file.specs.declared.records.Found.{Found}
use Rattle.capture_file.specs.declared.records.Found.TheVariants.{Cut, Wrong, Last, Whole}
use Rattle.capture_file.specs.Streams.{Reading, reading, with_step, Unfinished, Bad, after_end, ack_with, buffer_if, control_with}
use Rattle.capture_file.specs.Streams.{data_with, enable_if, fault_at, fields_at, form_of, is_buffer}
use Rattle.capture_file.specs.Streams.{is_data, judged, kind_of_tag, most_turns, number_at, opened, opened_by, patch_at, push_at, push_if}
use Rattle.capture_file.specs.Streams.{record_at, records, slot_if, steps_of, stream_of, trigger_if}
use Rattle.capture_file.specs.Streams.{turns_if, turns_of, turns_with, within_if}
use Rattle.stream_play.specs.Runs.{turns_in}
use Rattle.stream_play.proofs.Fitting.{whole_steps}

-- ---- a record

module _ (turns : ℕ) where
  -- the record that was found leaves room for its turns
  abbrev Leaves : Found → Type 0
  Leaves (Whole step len) = turns ≤ most_turns → turns + turns_of step ≤ most_turns
  Leaves _ = ⊤

  without : (step : Step) (len : ℕ) → turns_of step ≡ 0 → Leaves (Whole step len)
  without step len none few = omega (arith, none, few)

  push_leaves : (q : Queue) (status : ℕ) (o : Option ℕ) → Leaves (data_with q status o)
  push_leaves q status None = tt
  push_leaves q status (Some dword) = λ few. omega (arith, few)

  push_if_leaves : (b : Bool) (q : Queue) (status : ℕ) (rest : List ℕ) → Leaves (push_if b q status rest)
  push_if_leaves true q status rest = push_leaves q status (number_at rest)
  push_if_leaves false q status rest = tt

  push_at_leaves : (q : Queue) (rest : List ℕ) → Leaves (push_at q rest)
  push_at_leaves q [] = tt
  push_at_leaves q (status ∷ rest) = push_if_leaves (is_data status) q status rest

  control_leaves : (n : ℕ) (o : Option Code) → Leaves (control_with n o)
  control_leaves n None = tt
  control_leaves n (Some code) = λ few. omega (arith, few)

  turns_if_leaves : (n : ℕ) (b : Bool) → nat_le (turns + n) most_turns ≡ b → Leaves (turns_if b n)
  turns_if_leaves n true is = λ few. leb-true (turns + n) most_turns is
  turns_if_leaves n false is = tt

  turns_leave : (o : Option ℕ) → Leaves (turns_with turns o)
  turns_leave None = tt
  turns_leave (Some n) = turns_if_leaves n (nat_le (turns + n) most_turns) refl

  ack_leaves : (o : Option ℕ) → Leaves (ack_with o)
  ack_leaves None = tt
  ack_leaves (Some mask) = λ few. omega (arith, few)

  enable_leaves : (b : Bool) (n : ℕ) → Leaves (enable_if b n)
  enable_leaves true n = λ few. omega (arith, few)
  enable_leaves false n = tt

  trigger_leaves : (b : Bool) (n : ℕ) → Leaves (trigger_if b n)
  trigger_leaves true n = λ few. omega (arith, few)
  trigger_leaves false n = tt

  buffer_leaves : (b : Bool) (slot buffer : ℕ) → Leaves (buffer_if b slot buffer)
  buffer_leaves true slot buffer = λ few. omega (arith, few)
  buffer_leaves false slot buffer = tt

  slot_leaves : (b : Bool) (slot : ℕ) (rest : List ℕ) → Leaves (slot_if b slot rest)
  slot_leaves true slot [] = tt
  slot_leaves true slot (buffer ∷ rest) = buffer_leaves (is_buffer buffer) slot buffer
  slot_leaves false slot rest = tt

  patch_leaves : (rest : List ℕ) → Leaves (patch_at rest)
  patch_leaves [] = tt
  patch_leaves (slot ∷ rest) = slot_leaves (nat_lt slot 2) slot rest

  fields_leave : (k : RecordKind) (tag : ℕ) (rest : List ℕ) → Leaves (fields_at k tag turns rest)
  fields_leave kind.End tag rest = tt
  fields_leave (kind.Push q) tag rest = push_at_leaves q rest
  fields_leave kind.Control tag [] = tt
  fields_leave kind.Control tag (number ∷ rest) = control_leaves number (code_numbered number)
  fields_leave kind.Turns tag rest = turns_leave (number_at rest)
  fields_leave kind.Ack tag rest = ack_leaves (number_at rest)
  fields_leave kind.Enable tag [] = tt
  fields_leave kind.Enable tag (enables ∷ rest) = enable_leaves (nat_lt enables 4) enables
  fields_leave kind.Trigger tag [] = tt
  fields_leave kind.Trigger tag (number ∷ rest) = trigger_leaves (nat_lt number 4) number
  fields_leave kind.Patch tag rest = patch_leaves rest
  fields_leave kind.Unknown tag rest = tt

  record_leaves : (form : Form) (bytes : List ℕ) → Leaves (record_at form turns bytes)
  record_leaves form [] = tt
  record_leaves form (tag ∷ rest) = fields_leave (kind_of_tag form tag) tag rest

-- ---- all records

abbrev AreFew : ℕ → Reading → Type 0
AreFew turns r = turns + turns_in r.steps ≤ most_turns

found_few : (found : Found) (form : Form) (turns place : ℕ) (rest : List ℕ) → turns ≤ most_turns → Leaves turns found →
    ((t n : ℕ) → t ≤ most_turns → AreFew t (records form t (place + 1) n rest)) →
    AreFew turns
    (elim found as (λ _. Reading) [
      | Cut ↦ reading [] Unfinished
      | Wrong from to kind ↦ reading [] (Bad (fault_at (place + from) kind))
      | Last ↦ reading [] (after_end (place + 1) rest)
      | Whole step len ↦ with_step step (records form (turns + turns_of step) (place + 1) (len - 1) rest)
    ])
found_few Cut form turns place rest few leaves later = omega (arith, few)
found_few (Wrong from to kind) form turns place rest few leaves later = omega (arith, few)
found_few Last form turns place rest few leaves later = omega (arith, few)
found_few (Whole step len) form turns place rest few leaves later =
    let more = later (turns + turns_of step) (len - 1) (leaves few) in
    omega (arith, more)

records_few : (form : Form) (turns place skip : ℕ) (bytes : List ℕ) → turns ≤ most_turns →
    AreFew turns (records form turns place skip bytes)
unfolding records
records_few form turns place zero [] few = omega (arith, few)
records_few form turns place (suc skip) [] few = omega (arith, few)
records_few form turns place (suc skip) (_ ∷ rest) few = records_few form turns (place + 1) skip rest few
records_few form turns place zero (tag ∷ rest) few =
    found_few (record_at form turns (tag ∷ rest)) form turns place rest few (record_leaves turns form (tag ∷ rest))
    (λ t n less. records_few form t (place + 1) n rest less)

opened_few : (form : Option Form) (rest : List ℕ) → AreFew 0 (opened form rest)
opened_few None rest = omega arith
opened_few (Some Bfs1) rest = records_few Bfs1 0 4 0 rest (omega arith)
opened_few (Some Bfs2) rest = let few = records_few Bfs2 0 4 0 rest (omega arith) in omega (arith, few)
opened_few (Some Bfs3) rest = let few = records_few Bfs3 0 4 0 rest (omega arith) in omega (arith, few)

word_few : (chained : Bool) (word : Option ℕ) (rest : List ℕ) → AreFew 0 (opened_by chained word rest)
word_few chained None rest = omega arith
word_few chained (Some word) rest = opened_few (form_of chained word) rest

within_few : (over : Bool) (limit : ℕ) (below : Reading) → AreFew 0 below → AreFew 0 (within_if over limit below)
within_few true limit below h = h
within_few false limit below h = h

stream_few : (limit : ℕ) (chained : Bool) (bytes : List ℕ) → AreFew 0 (stream_of limit chained bytes)
unfolding stream_of
stream_few limit chained bytes =
    within_few (nat_lt limit (length bytes)) limit (judged chained (take limit bytes))
    (word_few chained (number_at (take limit bytes)) (drop 4 (take limit bytes)))

pub turns_few : (limit : ℕ) (chained : Bool) (bytes : List ℕ) (steps : List Step) → steps_of limit chained bytes ≡ Ok steps →
    turns_in steps ≤ most_turns
turns_few limit chained bytes steps is =
    let r : Reading = stream_of limit chained bytes in
    let few = stream_few limit chained bytes in
    let fewer : turns_in r.steps ≤ most_turns = omega (arith, few) in
    subst (λ found. turns_in found ≤ most_turns) (whole_steps (length bytes) r.steps steps r.ending is) fewer
