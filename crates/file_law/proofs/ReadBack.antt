-- What is spelled is read back.
use Rattle.std.proofs.Common.{◌≡◌, ℕ, ◌+◌, ◌^◌, ◌<◌, ◌≤◌, ◌⊎◌, inl, inr, Bool, true, false, not, ◌&&◌, ◌||◌, List, [], ◌∷◌, ◌++◌, length}
use Rattle.std.proofs.Common.{take, Some, Ok, refl, ap, ◌∙◌, arith}
use Rattle.std.specs.Prelude.{nat_le, ◌==◌}
use Rattle.std.specs.List.{All, flat_map}
use Rattle.std.proofs.lemmas.Bool.{lt-ltb}
use Rattle.std.proofs.lemmas.Bool.Decides.{nat_tests}
use Rattle.std.proofs.lemmas.List.{append_assoc, take_all}
use Rattle.std.proofs.Math.Seq.{drop-append_seam}
use Rattle.std.proofs.lemmas.List.Elements.{All-head, All-tail}
use Rattle.byteorder.specs.Endian.{little_number, little_bytes}
use Rattle.risc_word.specs.declared.Code.TheVariants.{Vre, Vro, Fm1, Fm3}
use Rattle.sync_status.specs.Statuses.{is_control, kind_of}
use Rattle.fifo_model.specs.declared.Entry.{Entry}
use Rattle.fifo_model.specs.declared.Queue.{Queue}
use Rattle.fifo_model.specs.declared.Queue.TheVariants.{One, Two, Three}
use Rattle.irq_status.specs.declared.HostWrite.TheVariants.{Ack, Enable, Trigger}
use Rattle.capture_file.specs.declared.Step.{Step}
use Rattle.capture_file.specs.declared.Step.TheVariants.{Push, Control, Turns, Host, Patch}
use Rattle.capture_file.specs.declared.records.Form.{Form}
use Rattle.capture_file.specs.declared.records.Form.TheVariants.{Bfs1, Bfs2, Bfs3}
use Rattle.capture_file.specs.declared.records.Found.{Found}
use Rattle.capture_file.specs.declared.records.Found.TheVariants.{Whole}
use Rattle.capture_file.specs.Streams.{Ended, Reading, data_with, is_buffer, is_data, judged, most_turns, number_at, push_if, reading}
use Rattle.capture_file.specs.Streams.{record_at, records, slot_if, steps_of, stream_of, trigger_if}
use Rattle.capture_file.specs.Streams.{turns_if, turns_of, whole_file, with_step, ack_with, turns_with, buffer_if}
use Rattle.capture_file.proofs.Readings.{front_of, records-front}
use Rattle.capture_file.proofs.Answered.{not-over}
use Rattle.file_law.specs.StreamSpellings.{AreRecords, IsRecord, first_steps, is_chained, record_bytes, spelled, turns_in}

-- ---- one record

number_back : (n : ℕ) (rest : List ℕ) → n < 2 ^ 32 → number_at (little_bytes 4 n ++ rest) ≡ Some n
number_back n rest fits = let same : little_number 4 (little_bytes 4 n) ≡ n = omega arith in ap Some same

is_data_status : (status : ℕ) → status < 16 → is_control (kind_of status) ≡ false → is_data status ≡ true
is_data_status status low none =
    ap (λ (test : Bool). test && not (is_control (kind_of status))) (lt-ltb status 16 low) ∙ ap not none

pushed_back : (queue : Queue) (entry : Entry) (rest : List ℕ) → entry.status < 16 → is_control (kind_of entry.status) ≡ false →
    entry.dword < 2 ^ 32 →
    push_if (is_data entry.status) queue entry.status (little_bytes 4 entry.dword ++ rest) ≡ Whole (Push queue entry) 6
pushed_back queue entry rest low none fits =
    ap (λ (test : Bool). push_if test queue entry.status (little_bytes 4 entry.dword ++ rest)) (is_data_status entry.status low none)
    ∙ ap (data_with queue entry.status) (number_back entry.dword rest fits)

buffer_back : (slot buffer : ℕ) → (buffer < 2) ⊎ (buffer ≡ 255) → buffer_if (is_buffer buffer) slot buffer ≡ Whole (Patch slot buffer) 3
buffer_back slot buffer (inl low) = ap (λ (test : Bool). buffer_if (test || buffer == 255) slot buffer) (lt-ltb buffer 2 low)
buffer_back slot buffer (inr none) =
    ap (λ (test : Bool). buffer_if test slot buffer) (let same : is_buffer 255 ≡ true = refl in ap is_buffer none ∙ same)

turns_fit : (turns : ℕ) → turns ≤ most_turns → nat_le turns most_turns ≡ true
turns_fit turns few = grind (arith, nat_tests)

-- a record in front of other bytes
record_back : (form : Form) (turns : ℕ) (step : Step) (rest : List ℕ) → IsRecord form step → turns + turns_of step ≤ most_turns →
    record_at form turns (record_bytes step ++ rest) ≡ Whole step (length (record_bytes step))
record_back form turns (Push One entry) rest is few = pushed_back One entry rest is.0 is.1 is.2
record_back form turns (Push Two entry) rest is few = pushed_back Two entry rest is.0 is.1 is.2
record_back form turns (Push Three entry) rest is few = pushed_back Three entry rest is.0 is.1 is.2
record_back form turns (Control Vre) rest is few = refl
record_back form turns (Control Vro) rest is few = refl
record_back form turns (Control Fm1) rest is few = refl
record_back form turns (Control Fm3) rest is few = refl
record_back form turns (Turns count) rest is few =
    ap (turns_with turns) (number_back count rest is)
    ∙ ap (λ (test : Bool). turns_if test count) (turns_fit (turns + count) few)
record_back form turns (Host (Ack mask)) rest is few = ap ack_with (number_back mask rest is)
record_back form turns (Host (Enable false false)) rest is few = refl
record_back form turns (Host (Enable false true)) rest is few = refl
record_back form turns (Host (Enable true false)) rest is few = refl
record_back form turns (Host (Enable true true)) rest is few = refl
record_back Bfs1 turns (Host (Trigger number)) rest is few = absurd (let no = is.0 in cc)
record_back Bfs2 turns (Host (Trigger number)) rest is few = ap (λ (test : Bool). trigger_if test number) (lt-ltb number 4 is.1)
record_back Bfs3 turns (Host (Trigger number)) rest is few = ap (λ (test : Bool). trigger_if test number) (lt-ltb number 4 is.1)
record_back Bfs1 turns (Patch slot buffer) rest is few = absurd (let no = is.0 in cc)
record_back Bfs2 turns (Patch slot buffer) rest is few = absurd (let no = is.0 in cc)
record_back Bfs3 turns (Patch slot buffer) rest is few =
    ap (λ (test : Bool). slot_if test slot (buffer ∷ rest)) (lt-ltb slot 2 is.1) ∙ buffer_back slot buffer is.2

-- ---- all records

-- its turns are counted alike
pub turns_same : (step : Step) (steps : List Step) → turns_in (step ∷ steps) ≡ turns_of step + turns_in steps
turns_same (Push queue entry) steps = refl
turns_same (Control code) steps = refl
turns_same (Turns count) steps = refl
turns_same (Host write) steps = refl
turns_same (Patch slot buffer) steps = refl

records_back : (form : Form) (turns place : ℕ) (steps : List Step) → All (IsRecord form) steps → turns + turns_in steps ≤ most_turns →
    records form turns place 0 (flat_map record_bytes steps ++ 0 ∷ []) ≡ reading steps Ended
records_back form turns place [] are few = records-front form turns place (0 ∷ [])
records_back form turns place (step ∷ steps) are few =
    let later : List ℕ = flat_map record_bytes steps ++ 0 ∷ [] in
    let same = turns_same step steps in
    let now : turns + turns_of step ≤ most_turns = omega (arith, same, few) in
    let on : turns + turns_of step + turns_in steps ≤ most_turns = omega (arith, same, few) in
    let len : ℕ = length (record_bytes step) in
    ap (records form turns place 0) (append_assoc (record_bytes step) (flat_map record_bytes steps) (0 ∷ []))
    ∙ records-front form turns place (record_bytes step ++ later)
    ∙ ap (λ (found : Found). front_of found form turns place (record_bytes step ++ later))
    (record_back form turns step later (All-head (IsRecord form) step steps are) now)
    ∙ ap (λ (bytes : List ℕ). with_step step (records form (turns + turns_of step) (place + len) 0 bytes))
    (drop-append_seam (record_bytes step) later)
    ∙ ap (with_step step) (records_back form (turns + turns_of step) (place + len) steps (All-tail (IsRecord form) step steps are) on)

-- ---- the file

judged_back : (form : Form) (steps : List Step) → AreRecords form steps →
    judged (is_chained form) (spelled form steps) ≡ reading (first_steps form ++ steps) Ended
judged_back Bfs1 steps are = records_back Bfs1 0 4 steps are.each (let few = are.few in omega (arith, few))
judged_back Bfs2 steps are =
    ap (with_step (Host (Trigger 0))) (records_back Bfs2 0 4 steps are.each (let few = are.few in omega (arith, few)))
judged_back Bfs3 steps are =
    ap (with_step (Host (Trigger 0))) (records_back Bfs3 0 4 steps are.each (let few = are.few in omega (arith, few)))

pub stream_back : (limit : ℕ) (chained : Bool) (bytes : List ℕ) → length bytes ≤ limit →
    stream_of limit chained bytes ≡ judged chained bytes
unfolding stream_of
stream_back limit chained bytes short =
    not-over limit (length bytes) (judged chained (take limit bytes)) short ∙ ap (judged chained) (take_all limit bytes short)

pub spelled_back : (form : Form) (steps : List Step) (limit : ℕ) → AreRecords form steps → length (spelled form steps) ≤ limit →
    steps_of limit (is_chained form) (spelled form steps) ≡ Ok (first_steps form ++ steps)
spelled_back form steps limit are short =
    ap (λ (found : Reading). whole_file (length (spelled form steps)) found.steps found.ending)
    (stream_back limit (is_chained form) (spelled form steps) short ∙ judged_back form steps are)
