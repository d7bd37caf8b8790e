-- The bytes of a generated stream, read back.
use Rattle.std.proofs.Common.{◌≡◌, ℕ, zero, suc, ◌+◌, ◌-◌, ◌*◌, ◌≤◌, Bool, true, false, not, ◌&&◌, List, [], ◌∷◌, ◌++◌, length, take}
use Rattle.std.proofs.Common.{replicate, Some, Ok, refl, sym, ap, ◌∙◌, arith, length-append}
use Rattle.std.specs.Prelude.{codes, nat_le}
use Rattle.std.proofs.lemmas.Bool.{le-ltb, lt-ltb}
use Rattle.std.proofs.lemmas.Bool.Decides.{nat_tests}
use Rattle.std.proofs.lemmas.List.{append_assoc, take_all}
use Rattle.byteorder.specs.Endian.{little_number}
use Rattle.risc_word.specs.declared.Code.{Code}
use Rattle.risc_word.specs.declared.Code.TheVariants.{Vre, Vro, Fm1, Fm3}
use Rattle.risc_word.specs.Words.{code_number}
use Rattle.sync_status.specs.Statuses.{is_control, kind_of, valid_bytes}
use Rattle.fifo_model.specs.declared.Queue.{Queue}
use Rattle.fifo_model.specs.declared.Queue.TheVariants.{One, Two, Three}
use Rattle.machine_model.specs.Steps as machine
use Rattle.capture_file.specs.declared.Step.{Step}
use Rattle.capture_file.specs.declared.Step.TheVariants.{Push, Control, Turns}
use Rattle.capture_file.specs.declared.records.Form.TheVariants.{Bfs1}
use Rattle.capture_file.specs.declared.records.Found.{Found}
use Rattle.capture_file.specs.declared.records.Found.TheVariants.{Whole}
use Rattle.capture_file.specs.Streams as file
use Rattle.capture_file.specs.Streams.{Ended, Reading, atomic, data_with, is_data, judged, most_turns, number_at, push_if, reading}
use Rattle.capture_file.specs.Streams.{record_at, steps_of, steps_run, stream_of, turns_if, whole_file, with_step, within_if}
use Rattle.capture_file.proofs.Readings.{cons_of, records-cons, records-skip}
use Rattle.field_law.proofs.Lines.{valid-most}
use Rattle.field_stream.specs.Generator.{lanes}
use Rattle.field_stream.specs.Made.{after, push_record, records, records_of, tag_of, turns_record}
use Rattle.field_stream.specs.Pushes as pushes
use Rattle.field_stream.specs.Pushes.{Mark, Fill}
use Rattle.generated_law.specs.Drawn.{drawn_step, drawn_steps}
use Rattle.generated_law.proofs.Cutting.{drop_first}
use Rattle.generated_law.proofs.Steps.{AreData, IsData}

-- the step of a record, and the steps of the records of some pushes
abbrev file_step : ℕ → pushes.Push → Step
file_step number (Mark code) = Control code
file_step number (Fill queue status) = Push queue (record { status = status; dword = little_number 4 (lanes number (valid_bytes status)) })

abbrev pub file_steps : ℕ → List pushes.Push → List Step
file_steps number [] = []
file_steps number (push ∷ rest) = file_step number push ∷ Turns 16 ∷ file_steps (after number push) rest

steps_same : (number : ℕ) (push : pushes.Push) → atomic (file_step number push) ≡ drawn_step number push ∷ []
steps_same number (Mark code) = refl
steps_same number (Fill queue status) = refl

pub run_same : (number : ℕ) (all : List pushes.Push) → steps_run (file_steps number all) ≡ drawn_steps number all
run_same number [] = refl
run_same number (push ∷ rest) =
    let turns = replicate 16 machine.Turn in
    ap (λ (first : List machine.Step). first ++ (turns ++ steps_run (file_steps (after number push) rest))) (steps_same number push)
    ∙ ap (λ (later : List machine.Step). drawn_step number push ∷ (turns ++ later)) (run_same (after number push) rest)

-- ---- one record

-- a whole record in front of other bytes
front_read : (turns place tag len : ℕ) (step : Step) (first rest : List ℕ) →
    record_at Bfs1 turns (tag ∷ (first ++ rest)) ≡ Whole step (suc len) → length first ≡ len →
    file.records Bfs1 turns place 0 (tag ∷ (first ++ rest))
    ≡ with_step step (file.records Bfs1 (turns + file.turns_of step) (place + 1 + len) 0 rest)
front_read turns place tag len step first rest is long =
    let less : suc len - 1 ≡ len = omega arith in
    records-cons Bfs1 turns place tag (first ++ rest)
    ∙ ap (λ (found : Found). cons_of found Bfs1 turns place (first ++ rest)) is
    ∙ ap (λ (n : ℕ). with_step step (file.records Bfs1 (turns + file.turns_of step) (place + 1) n (first ++ rest))) less
    ∙ ap (with_step step) (records-skip Bfs1 (turns + file.turns_of step) (place + 1) len (first ++ rest))
    ∙ ap (λ (bytes : List ℕ). with_step step (file.records Bfs1 (turns + file.turns_of step) (place + 1 + len) 0 bytes))
    (drop_first len first rest long)

turns_fit : (turns : ℕ) → turns + 16 ≤ most_turns → nat_le (turns + 16) most_turns ≡ true
turns_fit turns few = grind (arith, nat_tests)

read_turns : (turns place : ℕ) (rest : List ℕ) → turns + 16 ≤ most_turns →
    file.records Bfs1 turns place 0 (turns_record ++ rest) ≡ with_step (Turns 16) (file.records Bfs1 (turns + 16) (place + 1 + 4) 0 rest)
read_turns turns place rest few =
    front_read turns place 5 4 (Turns 16) (16 ∷ 0 ∷ 0 ∷ 0 ∷ []) rest (ap (λ (fits : Bool). turns_if fits 16) (turns_fit turns few)) refl

code_read : (turns : ℕ) (code : Code) (rest : List ℕ) → record_at Bfs1 turns (4 ∷ code_number code ∷ rest) ≡ Whole (Control code) 2
code_read turns Vre rest = refl
code_read turns Vro rest = refl
code_read turns Fm1 rest = refl
code_read turns Fm3 rest = refl

-- an entry has four lanes
record AreFour (bytes : List ℕ) : Type 0 where
  a : ℕ
  b : ℕ
  c : ℕ
  e : ℕ
  same : bytes ≡ a ∷ b ∷ c ∷ e ∷ []

four_lanes : (number valid : ℕ) → valid ≤ 4 → AreFour (lanes number valid)
four_lanes number zero few = record { a = _; b = _; c = _; e = _; same = refl }
four_lanes number (suc zero) few = record { a = _; b = _; c = _; e = _; same = refl }
four_lanes number (suc (suc zero)) few = record { a = _; b = _; c = _; e = _; same = refl }
four_lanes number (suc (suc (suc zero))) few = record { a = _; b = _; c = _; e = _; same = refl }
four_lanes number (suc (suc (suc (suc zero)))) few = record { a = _; b = _; c = _; e = _; same = refl }
four_lanes number (suc (suc (suc (suc (suc valid))))) few = absurd (omega arith)

lanes_read : (bytes rest : List ℕ) → AreFour bytes → number_at (bytes ++ rest) ≡ Some (little_number 4 bytes)
lanes_read bytes rest four =
    ap (λ (bytes : List ℕ). number_at (bytes ++ rest)) four.same ∙ sym (ap (λ (bytes : List ℕ). Some (little_number 4 bytes)) four.same)

is_data_status : (status : ℕ) → IsData status → is_data status ≡ true
is_data_status status is =
    ap (λ (test : Bool). test && not (is_control (kind_of status))) (lt-ltb status 16 is.0) ∙ ap not is.1

entry_read : (turns : ℕ) (queue : Queue) (status number : ℕ) (rest : List ℕ) → IsData status →
    push_if (is_data status) queue status (lanes number (valid_bytes status) ++ rest) ≡ Whole (file_step number (Fill queue status)) 6
entry_read turns queue status number rest is =
    ap (λ (test : Bool). push_if test queue status (lanes number (valid_bytes status) ++ rest)) (is_data_status status is)
    ∙ ap (data_with queue status)
    (lanes_read (lanes number (valid_bytes status)) rest (four_lanes number (valid_bytes status) (valid-most status)))

tag_read : (turns : ℕ) (queue : Queue) (status number : ℕ) (rest : List ℕ) → IsData status →
    record_at Bfs1 turns (tag_of queue ∷ status ∷ (lanes number (valid_bytes status) ++ rest))
    ≡ Whole (file_step number (Fill queue status)) 6
tag_read turns One status number rest is = entry_read turns One status number rest is
tag_read turns Two status number rest is = entry_read turns Two status number rest is
tag_read turns Three status number rest is = entry_read turns Three status number rest is

lanes_long : (number valid : ℕ) → valid ≤ 4 → length (lanes number valid) ≡ 4
lanes_long number valid few = ap (λ (bytes : List ℕ). length bytes) (four_lanes number valid few).same

-- ---- all records

abbrev IsPushData : pushes.Push → Type 0
IsPushData (Mark code) = Unit {0}
IsPushData (Fill queue status) = IsData status

abbrev len_of : pushes.Push → ℕ
len_of (Mark code) = 1
len_of (Fill queue status) = 5

read_push : (turns place number : ℕ) (push : pushes.Push) (rest : List ℕ) → IsPushData push →
    file.records Bfs1 turns place 0 (push_record number push ++ rest)
    ≡ with_step (file_step number push) (file.records Bfs1 (turns + 0) (place + 1 + len_of push) 0 rest)
read_push turns place number (Mark code) rest is =
    front_read turns place 4 1 (Control code) (code_number code ∷ []) rest (code_read turns code rest) refl
read_push turns place number (Fill queue status) rest is =
    let valid = lanes number (valid_bytes status) in
    let long = lanes_long number (valid_bytes status) (valid-most status) in
    front_read turns place (tag_of queue) 5 (file_step number (Fill queue status)) (status ∷ valid) rest
    (tag_read turns queue status number rest is) (omega arith)

read_both : (turns place number : ℕ) (push : pushes.Push) (rest : List ℕ) → IsPushData push → turns + 16 ≤ most_turns →
    file.records Bfs1 turns place 0 (records_of number push ++ rest)
    ≡ with_step (file_step number push) (with_step (Turns 16) (file.records Bfs1 (turns + 16) (place + 1 + len_of push + 1 + 4) 0 rest))
read_both turns place number push rest is few =
    let same : turns + 0 ≡ turns = omega arith in
    let step = file_step number push in
    let on = place + 1 + len_of push in
    ap (file.records Bfs1 turns place 0) (append_assoc (push_record number push) turns_record rest)
    ∙ read_push turns place number push (turns_record ++ rest) is
    ∙ ap (λ (n : ℕ). with_step step (file.records Bfs1 n on 0 (turns_record ++ rest))) same
    ∙ ap (with_step step) (read_turns turns on rest few)

data_parts : (push : pushes.Push) (rest : List pushes.Push) → AreData (push ∷ rest) → IsPushData push × AreData rest
data_parts (Mark code) rest are = (tt, are)
data_parts (Fill queue status) rest are = are

read_all : (turns place number : ℕ) (all : List pushes.Push) → AreData all → turns + 16 * length all ≤ most_turns →
    file.records Bfs1 turns place 0 (records number all ++ 0 ∷ []) ≡ reading (file_steps number all) Ended
read_all turns place number [] are few = records-cons Bfs1 turns place 0 []
read_all turns place number (push ∷ rest) are few =
    let parts = data_parts push rest are in
    let later = records (after number push) rest in
    ap (file.records Bfs1 turns place 0) (append_assoc (records_of number push) later (0 ∷ []))
    ∙ read_both turns place number push (later ++ 0 ∷ []) parts.0 (omega arith)
    ∙ ap (λ (read : Reading). with_step (file_step number push) (with_step (Turns 16) read))
    (read_all (turns + 16) (place + 1 + len_of push + 1 + 4) (after number push) rest parts.1 (omega arith))

-- ---- the whole stream

stream_read : (limit number : ℕ) (all : List pushes.Push) → AreData all → 16 * length all ≤ most_turns →
    length (codes "BFS1" ++ records number all ++ 0 ∷ []) ≤ limit →
    stream_of limit false (codes "BFS1" ++ records number all ++ 0 ∷ []) ≡ reading (file_steps number all) Ended
unfolding stream_of
stream_read limit number all are few short =
    let bytes = codes "BFS1" ++ records number all ++ 0 ∷ [] in
    ap (λ (within : Bool). within_if within limit (judged false (take limit bytes))) (le-ltb limit (length bytes) short)
    ∙ ap (judged false) (take_all limit bytes short)
    ∙ read_all 0 4 number all are (omega arith)

pub read_back : (limit number : ℕ) (all : List pushes.Push) → AreData all → 16 * length all ≤ most_turns →
    length (codes "BFS1" ++ records number all ++ 0 ∷ []) ≤ limit →
    steps_of limit false (codes "BFS1" ++ records number all ++ 0 ∷ []) ≡ Ok (file_steps number all)
read_back limit number all are few short =
    ap (λ (read : Reading). whole_file (length (codes "BFS1" ++ records number all ++ 0 ∷ [])) read.steps read.ending)
    (stream_read limit number all are few short)

-- how long the records are
push_long : (number : ℕ) (push : pushes.Push) → length (records_of number push) ≤ 11
push_long number (Mark code) = omega arith
push_long number (Fill queue status) =
    let long = lanes_long number (valid_bytes status) (valid-most status) in
    omega (arith, length-append (lanes number (valid_bytes status)) turns_record)

pub records_long : (number : ℕ) (all : List pushes.Push) → length (records number all) ≤ 11 * length all
records_long number [] = omega arith
records_long number (push ∷ rest) =
    let here = push_long number push in
    let more = records_long (after number push) rest in
    omega (arith, length-append (records_of number push) (records (after number push) rest))
