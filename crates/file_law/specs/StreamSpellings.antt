-- The canonical encoding of a stream file: the form's name, the records one after another, and the end record.
use Rattle.std.specs.Prelude.{◌≡◌, ℕ, ◌+◌, ◌^◌, ◌<◌, ◌≤◌, ◌⊎◌, Bool, true, false, All, List, [], ◌∷◌, ◌++◌, length, if◌then◌else◌, codes}
use Rattle.std.specs.List.{flat_map}
use Rattle.byteorder.specs.Endian.{little_bytes}
use Rattle.risc_word.specs.Words.{code_number}
use Rattle.sync_status.specs.Statuses.{kind_of, is_control}
use Rattle.fifo_model.specs.declared.Queue.{Queue}
use Rattle.fifo_model.specs.declared.Queue.TheVariants.{One, Two, Three}
use Rattle.irq_status.specs.declared.HostWrite.TheVariants.{Ack, Enable, Trigger}
use Rattle.capture_file.specs.declared.Step.{Step}
use Rattle.capture_file.specs.declared.Step.TheVariants.{Push, Control, Turns, Host, Patch}
use Rattle.capture_file.specs.declared.records.Form.{Form}
use Rattle.capture_file.specs.declared.records.Form.TheVariants.{Bfs1, Bfs2, Bfs3}

-- a record: its tag and its fields, a number with its lowest byte first
abbrev pub push_tag : Queue → ℕ
push_tag One = 1
push_tag Two = 2
push_tag Three = 3

abbrev pub enable_bits : Bool → Bool → ℕ
enable_bits fifo risc = (if fifo then 1 else 0) + (if risc then 2 else 0)

abbrev pub record_bytes : Step → List ℕ
record_bytes (Push queue entry) = push_tag queue ∷ entry.status ∷ little_bytes 4 entry.dword
record_bytes (Control code) = 4 ∷ code_number code ∷ []
record_bytes (Turns count) = 5 ∷ little_bytes 4 count
record_bytes (Host (Ack mask)) = 6 ∷ little_bytes 4 mask
record_bytes (Host (Enable fifo risc)) = 7 ∷ enable_bits fifo risc ∷ []
record_bytes (Host (Trigger number)) = 8 ∷ number ∷ []
record_bytes (Patch slot buffer) = 9 ∷ slot ∷ buffer ∷ []

abbrev pub form_name : Form → List ℕ
form_name Bfs1 = codes "BFS1"
form_name Bfs2 = codes "BFS2"
form_name Bfs3 = codes "BFS3"

abbrev pub spelled : Form → List Step → List ℕ
spelled form steps = form_name form ++ (flat_map record_bytes steps ++ 0 ∷ [])

-- which records a form has
abbrev pub has_triggers : Form → Bool
has_triggers Bfs1 = false
has_triggers Bfs2 = true
has_triggers Bfs3 = true

abbrev pub has_patches : Form → Bool
has_patches Bfs1 = false
has_patches Bfs2 = false
has_patches Bfs3 = true

-- a record of a form, each field in its range; a buffer of 255 stands for none
abbrev pub IsRecord : Form → Step → Type 0
IsRecord form (Push queue entry) =
    (entry.status < 16) × (is_control (kind_of entry.status) ≡ false) × (entry.dword < 2 ^ 32)
IsRecord form (Control code) = Unit {0}
IsRecord form (Turns count) = count < 2 ^ 32
IsRecord form (Host (Ack mask)) = mask < 2 ^ 32
IsRecord form (Host (Enable fifo risc)) = Unit {0}
IsRecord form (Host (Trigger number)) = (has_triggers form ≡ true) × (number < 4)
IsRecord form (Patch slot buffer) =
    (has_patches form ≡ true) × (slot < 2) × ((buffer < 2) ⊎ (buffer ≡ 255))

-- all turns of a stream
abbrev pub turns_of_record : Step → ℕ
turns_of_record (Turns count) = count
turns_of_record _ = 0

abbrev pub turns_in : List Step → ℕ
turns_in [] = 0
turns_in (step ∷ steps) = turns_of_record step + turns_in steps

-- records of a form, with few enough turns
pub record AreRecords (form : Form) (steps : List Step) : Type 0 where
  pub each : All (IsRecord form) steps
  pub few : turns_in steps ≤ 1073741824

-- BFS1 and BFS2 are read where no chain runs, BFS3 for a chain; the last two begin with trigger point 4
abbrev pub is_chained : Form → Bool
is_chained Bfs1 = false
is_chained Bfs2 = false
is_chained Bfs3 = true

abbrev pub first_steps : Form → List Step
first_steps Bfs1 = []
first_steps Bfs2 = Host (Trigger 0) ∷ []
first_steps Bfs3 = Host (Trigger 0) ∷ []

-- a file of bytes, read as some steps, spells records of a form
pub record Spells (limit : ℕ) (chained : Bool) (bytes : List ℕ) (read : List Step) (form : Form) (steps : List Step) : Type 0 where
  pub records : AreRecords form steps
  pub same : bytes ≡ spelled form steps
  pub kind : is_chained form ≡ chained
  pub stands_for : read ≡ first_steps form ++ steps
  pub short : length bytes ≤ limit

abbrev pub HasSpelling : ℕ → Bool → List ℕ → List Step → Type 0
HasSpelling limit chained bytes read = (form : Form) × (steps : List Step) × Spells limit chained bytes read form steps
