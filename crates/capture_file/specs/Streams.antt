-- What the bytes of a stream stand for.
use Rattle.std.specs.Prelude.{◌≡◌, ℕ, zero, suc, ◌+◌, ◌-◌, ◌/◌, ◌%◌, ◌^◌, Bool, true, false, not, ◌&&◌, ◌||◌, List, [], ◌∷◌, ◌++◌, length}
use Rattle.std.specs.Prelude.{take, drop, replicate, Option, Some, None, Result, Ok, Err}
use Rattle.std.specs.Prelude.{if◌then◌else◌, ◌==◌, nat_lt, nat_le, codes}
use Rattle.std.specs.List.{flat_map}
use Rattle.byteorder.specs.Endian.{little_number}
use Rattle.risc_word.specs.declared.Code.{Code}
use Rattle.risc_word.specs.Words.{code_numbered}
use Rattle.sync_status.specs.Statuses.{kind_of, is_control}
use Rattle.fifo_model.specs.declared.Queue.{Queue}
use Rattle.fifo_model.specs.declared.Queue.TheVariants.{One, Two, Three}
use Rattle.irq_status.specs.declared.HostWrite.TheVariants.{Ack, Enable, Trigger}
use Rattle.machine_model.specs.Steps as machine
use Rattle.capture_file.specs.declared.FileKind.{FileKind}
use Rattle.capture_file.specs.declared.FileKind.TheVariants as fault
use Rattle.capture_file.specs.declared.FileFault.{FileFault}
use Rattle.capture_file.specs.declared.Step.{Step}
use Rattle.capture_file.specs.declared.Step.TheVariants.{Push, Control, Turns, Host, Patch}
use Rattle.capture_file.specs.declared.records.Form.{Form}
use Rattle.capture_file.specs.declared.records.Form.TheVariants.{Bfs1, Bfs2, Bfs3}
use Rattle.capture_file.specs.declared.records.RecordKind.{RecordKind}
use Rattle.capture_file.specs.declared.records.RecordKind.TheVariants as kind
use Rattle.capture_file.specs.declared.records.Found.{Found}
use Rattle.capture_file.specs.declared.records.Found.TheVariants.{Cut, Wrong, Last, Whole}

abbrev pub fault_at : ℕ → FileKind → FileFault
fault_at at kind = record { at = at; kind = kind }

-- the number in the first four bytes, the lowest first, if they are there
abbrev pub number_at : List ℕ → Option ℕ
number_at (a ∷ b ∷ c ∷ d ∷ _) = Some (little_number 4 (a ∷ b ∷ c ∷ d ∷ []))
number_at _ = None

-- the form that a first word names: BFS3 alone for a chain, else BFS1 and BFS2
abbrev pub form_of : Bool → ℕ → Option Form
form_of true word = if word == little_number 4 (codes "BFS3") then Some Bfs3 else None
form_of false word =
    if word == little_number 4 (codes "BFS1") then Some Bfs1
    else (if word == little_number 4 (codes "BFS2") then Some Bfs2 else None)

-- the record that a tag begins
abbrev pub trigger_in : Form → RecordKind
trigger_in Bfs1 = kind.Unknown
trigger_in Bfs2 = kind.Trigger
trigger_in Bfs3 = kind.Trigger

abbrev pub patch_in : Form → RecordKind
patch_in Bfs1 = kind.Unknown
patch_in Bfs2 = kind.Unknown
patch_in Bfs3 = kind.Patch

abbrev pub kind_of_tag : Form → ℕ → RecordKind
kind_of_tag form tag =
    if tag == 0 then kind.End
    else (if tag == 1 then kind.Push One
    else (if tag == 2 then kind.Push Two
    else (if tag == 3 then kind.Push Three
    else (if tag == 4 then kind.Control
    else (if tag == 5 then kind.Turns
    else (if tag == 6 then kind.Ack
    else (if tag == 7 then kind.Enable
    else (if tag == 8 then trigger_in form
    else (if tag == 9 then patch_in form
    else kind.Unknown)))))))))

-- a record's fields: what the bytes after its tag give. `Whole` holds the step and the bytes of the
-- record with its tag; `Wrong` the first byte of the field at fault and the first byte after it,
-- both counted from the tag; `Cut` means that the bytes end within the record and none of its
-- fields that are whole is at fault
abbrev pub data_with : Queue → ℕ → Option ℕ → Found
data_with queue status None = Cut
data_with queue status (Some dword) = Whole (Push queue (record { status = status; dword = dword })) 6

abbrev pub is_data : ℕ → Bool
is_data status = nat_lt status 16 && not (is_control (kind_of status))

abbrev pub push_if : Bool → Queue → ℕ → List ℕ → Found
push_if true queue status rest = data_with queue status (number_at rest)
push_if false queue status rest = Wrong 1 2 (fault.Status status)

abbrev pub push_at : Queue → List ℕ → Found
push_at queue [] = Cut
push_at queue (status ∷ rest) = push_if (is_data status) queue status rest

abbrev pub control_with : ℕ → Option Code → Found
control_with number (Some code) = Whole (Control code) 2
control_with number None = Wrong 1 2 (fault.Code number)

abbrev pub control_at : List ℕ → Found
control_at [] = Cut
control_at (number ∷ _) = control_with number (code_numbered number)

-- how many turns a stream may have
abbrev pub most_turns : ℕ
most_turns = 2 ^ 30

abbrev pub turns_if : Bool → ℕ → Found
turns_if true count = Whole (Turns count) 5
turns_if false count = Wrong 1 5 fault.TooManyTurns

abbrev pub turns_with : ℕ → Option ℕ → Found
turns_with before None = Cut
turns_with before (Some count) = turns_if (nat_le (before + count) most_turns) count

abbrev pub ack_with : Option ℕ → Found
ack_with None = Cut
ack_with (Some mask) = Whole (Host (Ack mask)) 5

abbrev pub enable_if : Bool → ℕ → Found
enable_if true enables = Whole (Host (Enable (enables % 2 == 1) (enables / 2 == 1))) 2
enable_if false enables = Wrong 1 2 (fault.Enable enables)

abbrev pub enable_at : List ℕ → Found
enable_at [] = Cut
enable_at (enables ∷ _) = enable_if (nat_lt enables 4) enables

abbrev pub trigger_if : Bool → ℕ → Found
trigger_if true number = Whole (Host (Trigger number)) 2
trigger_if false number = Wrong 1 2 (fault.Trigger number)

abbrev pub trigger_at : List ℕ → Found
trigger_at [] = Cut
trigger_at (number ∷ _) = trigger_if (nat_lt number 4) number

abbrev pub buffer_if : Bool → ℕ → ℕ → Found
buffer_if true slot buffer = Whole (Patch slot buffer) 3
buffer_if false slot buffer = Wrong 2 3 (fault.Buffer buffer)

abbrev pub is_buffer : ℕ → Bool
is_buffer buffer = nat_lt buffer 2 || buffer == 255

abbrev pub slot_if : Bool → ℕ → List ℕ → Found
slot_if true slot [] = Cut
slot_if true slot (buffer ∷ _) = buffer_if (is_buffer buffer) slot buffer
slot_if false slot _ = Wrong 1 2 (fault.Slot slot)

abbrev pub patch_at : List ℕ → Found
patch_at [] = Cut
patch_at (slot ∷ rest) = slot_if (nat_lt slot 2) slot rest

-- a record by its kind: its tag, the turns of the records before it, and the bytes after the tag
abbrev pub fields_at : RecordKind → ℕ → ℕ → List ℕ → Found
fields_at kind.End tag turns rest = Last
fields_at (kind.Push queue) tag turns rest = push_at queue rest
fields_at kind.Control tag turns rest = control_at rest
fields_at kind.Turns tag turns rest = turns_with turns (number_at rest)
fields_at kind.Ack tag turns rest = ack_with (number_at rest)
fields_at kind.Enable tag turns rest = enable_at rest
fields_at kind.Trigger tag turns rest = trigger_at rest
fields_at kind.Patch tag turns rest = patch_at rest
fields_at kind.Unknown tag turns rest = Wrong 0 1 (fault.Tag tag)

-- the record at the front of some bytes
abbrev pub record_at : Form → ℕ → List ℕ → Found
record_at form turns [] = Cut
record_at form turns (tag ∷ rest) = fields_at (kind_of_tag form tag) tag turns rest

-- where the bytes of a stream end: before its end record, with it, or at a fault
pub data Ending : Type 0 where
  Unfinished : Ending
  Ended : Ending
  Bad : FileFault → Ending

-- what the bytes of a stream stand for as far as they reach: the steps of its records, and where
-- they end
pub record Reading : Type 0 where
  pub steps : List Step
  pub ending : Ending

abbrev pub reading : List Step → Ending → Reading
reading steps ending = record { steps = steps; ending = ending }

abbrev pub with_step : Step → Reading → Reading
with_step step rest = reading (step ∷ rest.steps) rest.ending

abbrev pub turns_of : Step → ℕ
turns_of (Turns count) = count
turns_of _ = 0

-- a byte after the end record is one too many
abbrev pub after_end : ℕ → List ℕ → Ending
after_end place [] = Ended
after_end place (_ ∷ _) = Bad (fault_at place fault.AfterEnd)

-- the records from a place on, after records of so many turns. `skip` bytes are passed over: those of
-- the record that was read last
unfoldable pub records : Form → ℕ → ℕ → ℕ → List ℕ → Reading
records form turns place skip [] = reading [] Unfinished
records form turns place (suc skip) (_ ∷ rest) = records form turns (place + 1) skip rest
records form turns place zero (tag ∷ rest) =
    elim (record_at form turns (tag ∷ rest)) [
      | Cut ↦ reading [] Unfinished
      | Wrong from to kind ↦ reading [] (Bad (fault_at (place + from) kind))
      | Last ↦ reading [] (after_end (place + 1) rest)
      | Whole step len ↦ with_step step (records form (turns + turns_of step) (place + 1) (len - 1) rest)
    ]

-- the first word of BFS2 and BFS3 sets the trigger point 4
abbrev pub first_trigger : Step
first_trigger = Host (Trigger 0)

abbrev pub opened : Option Form → List ℕ → Reading
opened None rest = reading [] (Bad (fault_at 0 fault.Magic))
opened (Some Bfs1) rest = records Bfs1 0 4 0 rest
opened (Some Bfs2) rest = with_step first_trigger (records Bfs2 0 4 0 rest)
opened (Some Bfs3) rest = with_step first_trigger (records Bfs3 0 4 0 rest)

abbrev pub opened_by : Bool → Option ℕ → List ℕ → Reading
opened_by chained None rest = reading [] Unfinished
opened_by chained (Some word) rest = opened (form_of chained word) rest

abbrev pub judged : Bool → List ℕ → Reading
judged chained bytes = opened_by chained (number_at bytes) (drop 4 bytes)

-- a stream by how its bytes below the limit are read: where no field of these is at fault, a byte at
-- the limit is
abbrev pub too_long : ℕ → Ending → Ending
too_long limit (Bad fault) = Bad fault
too_long limit _ = Bad (fault_at limit fault.TooLong)

abbrev pub within_if : Bool → ℕ → Reading → Reading
within_if true limit below = reading below.steps (too_long limit below.ending)
within_if false limit below = below

abbrev pub within : ℕ → ℕ → Reading → Reading
within limit count below = within_if (nat_lt limit count) limit below

-- what the bytes of a stream stand for as far as they reach
unfoldable pub stream_of : ℕ → Bool → List ℕ → Reading
stream_of limit chained bytes = within limit (length bytes) (judged chained (take limit bytes))

-- What a stream's first bytes stand for, and what more of its bytes do: the steps stay, and a fault
-- stays the first, whatever follows it.
abbrev pub IsFinal : Ending → Reading → Reading → Type 0
IsFinal (Bad fault) first more = more ≡ first
IsFinal _ first more = Unit {0}

abbrev pub GoesOn : Reading → Reading → Type 0
GoesOn first more =
    ((steps : List Step) × (more.steps ≡ first.steps ++ steps)) × IsFinal first.ending first more

-- the steps of a stream file, or its first fault
abbrev pub whole_file : ℕ → List Step → Ending → Result (List Step) FileFault
whole_file count steps Unfinished = Err (fault_at count fault.Short)
whole_file count steps Ended = Ok steps
whole_file count steps (Bad fault) = Err fault

abbrev pub steps_of : ℕ → Bool → List ℕ → Result (List Step) FileFault
steps_of limit chained bytes =
    let found = stream_of limit chained bytes in whole_file (length bytes) found.steps found.ending

-- the machine's steps that a record stands for; a patch is none, since it changes the program
abbrev pub atomic : Step → List machine.Step
atomic (Push queue entry) = machine.Push queue entry ∷ []
atomic (Control code) = machine.Control code ∷ []
atomic (Turns count) = replicate count machine.Turn
atomic (Host write) = machine.Host write ∷ []
atomic (Patch slot buffer) = []

abbrev pub steps_run : List Step → List machine.Step
steps_run steps = flat_map atomic steps
