-- What holds of the records that are found.
use Rattle.std.specs.Prelude.{◌≡◌, ℕ, ◌+◌, ◌<◌, ◌≤◌, ◌⊎◌, false, Option, Some, None}
use Rattle.sync_status.specs.Statuses.{kind_of, is_control}
use Rattle.fifo_model.specs.declared.Entry.{Entry}
use Rattle.fifo_model.specs.declared.Queue.{Queue}
use Rattle.irq_status.specs.Writes.{IsWrite}
use Rattle.capture_file.specs.declared.Step.{Step}
use Rattle.capture_file.specs.declared.Step.TheVariants.{Push, Turns, Host, Patch}
use Rattle.capture_file.specs.declared.records.Found.{Found}
use Rattle.capture_file.specs.declared.records.Found.TheVariants.{Cut, Wrong, Last, Whole}
use Rattle.capture_file.specs.Streams.{turns_of, most_turns}

-- the data push, or the count of turns, that a record stands for
abbrev pub push_in : Found → Option (Queue × Entry)
push_in (Whole (Push queue entry) len) = Some (queue, entry)
push_in _ = None

abbrev pub turns_in : Found → Option ℕ
turns_in (Whole (Turns count) len) = Some count
turns_in _ = None

-- a number has four bytes
abbrev pub HasFour : Option ℕ → ℕ → Type 0
HasFour None count = count < 4
HasFour (Some n) count = 4 ≤ count

-- it lies within so many bytes, and one that is cut has fewer than six
abbrev pub Spans : Found → ℕ → Type 0
Spans Cut count = count < 6
Spans (Wrong from to fault) count = (from < to) × (to ≤ count) × (to ≤ 5)
Spans Last count = 0 < count
Spans (Whole step len) count = (0 < len) × (len ≤ count) × (len ≤ 6)

-- it ends behind so many bytes, in which it was cut
abbrev pub Passes : Found → ℕ → Type 0
Passes Cut count = Unit {0}
Passes (Wrong from to fault) count = count < to
Passes Last count = count < 1
Passes (Whole step len) count = count < len

-- its turns and those before it are not too many
abbrev pub Sums : Found → ℕ → Type 0
Sums (Whole step len) before = before + turns_of step ≤ most_turns
Sums _ before = Unit {0}

-- a data entry has no control code, and the numbers are those of their fields
abbrev pub StepFits : Step → Type 0
StepFits (Push queue entry) = is_control (kind_of entry.status) ≡ false
StepFits (Host write) = IsWrite write
StepFits (Patch slot buffer) = (slot < 2) × ((buffer < 2) ⊎ (buffer ≡ 255))
StepFits _ = Unit {0}

abbrev pub FoundFits : Found → Type 0
FoundFits (Whole step len) = StepFits step
FoundFits _ = Unit {0}
