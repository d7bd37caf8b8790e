-- Three queues as lists, and what each call does to them.
use Rattle.std.specs.Prelude.{◌≡◌, ◌<◌, ◌≤◌, ◌⊎◌, ℕ, ◌+◌, ◌-◌, ◌/◌, ◌%◌, ◌^◌, min, Bool, ◌||◌, List, [], ◌∷◌, ◌++◌, length, take, drop}
use Rattle.std.specs.Prelude.{if◌then◌else◌, ◌==◌, nat_le, Option, Some, None}
use Rattle.std.specs.List.{list_any}
use Rattle.risc_word.specs.declared.Code.{Code}
use Rattle.risc_word.specs.Words.{code_number}
use Rattle.sync_status.specs.Statuses.{kind_of, valid_bytes, is_end, is_control}
use Rattle.sync_status.specs.declared.StatusKind.{StatusKind}
use Rattle.sync_status.specs.declared.StatusKind.TheVariants.{Control}
use Rattle.fifo_model.specs.declared.Queue.{Queue}
use Rattle.fifo_model.specs.declared.Queue.TheVariants.{One, Two, Three}
use Rattle.fifo_model.specs.declared.Entry.{Entry}
use Rattle.fifo_model.specs.declared.Pushed.{Pushed}
use Rattle.fifo_model.specs.declared.Pushed.TheVariants.{Held, Overrun}

-- one queue: its entries with the front first, how many entries it has room for, the bytes taken of
-- its front already, and how often a push to it was lost
pub record QueueState : Type 0 where
  pub entries : List Entry
  pub capacity : ℕ
  pub taken : ℕ
  pub overruns : ℕ

-- the three queues, and how often a control push was lost
pub record Queues : Type 0 where
  pub one : QueueState
  pub two : QueueState
  pub three : QueueState
  pub control_overruns : ℕ

-- a count that stands still at the greatest number of 64 bits
abbrev pub more : ℕ → ℕ → ℕ
more count by = min (count + by) (2 ^ 64 - 1)

abbrev pub queue_state : Queue → Queues → QueueState
queue_state One queues = queues.one
queue_state Two queues = queues.two
queue_state Three queues = queues.three

-- the queues with one of them changed
abbrev pub with_queue_state : Queue → QueueState → Queues → Queues
with_queue_state One held queues = record queues { one = held }
with_queue_state Two held queues = record queues { two = held }
with_queue_state Three held queues = record queues { three = held }

abbrev pub empty_queue : ℕ → QueueState
empty_queue capacity = record { entries = []; capacity = capacity; taken = 0; overruns = 0 }

-- how many entries a queue may have room for
abbrev pub max_capacity : ℕ
max_capacity = 4096

-- the room of the chip's queues, in entries: that of queue 1, and that of queues 2 and 3
abbrev pub luma_capacity : ℕ
luma_capacity = 70

abbrev pub chroma_capacity : ℕ
chroma_capacity = 35

abbrev pub empty_queues : ℕ → ℕ → ℕ → Queues
empty_queues one two three =
    record { one = empty_queue one; two = empty_queue two; three = empty_queue three; control_overruns = 0 }

-- the chip's queues
abbrev pub empty_fifo : Queues
empty_fifo = empty_queues luma_capacity chroma_capacity chroma_capacity

abbrev pub is_full : QueueState → Bool
is_full held = length held.entries == held.capacity

abbrev pub entered : Entry → QueueState → QueueState
entered entry held = record held { entries = held.entries ++ entry ∷ [] }

abbrev pub overrun : QueueState → QueueState
overrun held = record held { overruns = more held.overruns 1 }

-- a data push
abbrev pub push_answer : Queue → Queues → Pushed
push_answer queue queues = if is_full (queue_state queue queues) then Overrun else Held

abbrev pub pushed : Queue → Entry → Queues → Queues
pushed queue entry queues =
    if is_full (queue_state queue queues)
    then with_queue_state queue (overrun (queue_state queue queues)) queues
    else with_queue_state queue (entered entry (queue_state queue queues)) queues

-- a control push: all three queues or none
abbrev pub control_entry : Code → Entry
control_entry code = record { status = code_number code; dword = 0 }

abbrev pub some_full : Queues → Bool
some_full queues = is_full queues.one || is_full queues.two || is_full queues.three

abbrev pub control_answer : Queues → Pushed
control_answer queues = if some_full queues then Overrun else Held

abbrev pub all_entered : Entry → Queues → Queues
all_entered entry queues =
    record queues
    { one = entered entry queues.one; two = entered entry queues.two; three = entered entry queues.three }

abbrev pub control_pushed : Code → Queues → Queues
control_pushed code queues =
    if some_full queues
    then record queues { control_overruns = more queues.control_overruns 1 }
    else all_entered (control_entry code) queues

-- the front entry
abbrev pub first : List Entry → Option Entry
first [] = None
first (entry ∷ _) = Some entry

abbrev pub front : QueueState → Option Entry
front held = first held.entries

-- a queue without its front entry
abbrev pub removed : QueueState → QueueState
removed held = record held { entries = drop 1 held.entries; taken = 0 }

-- a queue after some more bytes of its front were taken; the front goes when all are
abbrev pub taken_more : ℕ → QueueState → List Entry → QueueState
taken_more count held [] = held
taken_more count held (entry ∷ _) =
    if held.taken + count == valid_bytes entry.status
    then removed held
    else record held { taken = held.taken + count }

abbrev pub taken_from : ℕ → QueueState → QueueState
taken_from count held = taken_more count held held.entries

-- the bytes of a DWORD, lane 0 first
abbrev pub lane_bytes : ℕ → List ℕ
lane_bytes dword =
    dword % 256 ∷ dword / 2 ^ 8 % 256 ∷ dword / 2 ^ 16 % 256 ∷ dword / 2 ^ 24 % 256 ∷ []

-- the valid bytes of the front entry, 0 where there is none
abbrev pub valid_of : Option Entry → ℕ
valid_of None = 0
valid_of (Some entry) = valid_bytes entry.status

abbrev pub front_valid : QueueState → ℕ
front_valid held = valid_of (front held)

-- the bytes that taking `count` of a front gives, from the `taken` that were taken before
abbrev pub bytes_taken : Entry → ℕ → ℕ → List ℕ
bytes_taken entry taken count = take count (drop taken (lane_bytes entry.dword))

abbrev pub bytes_of_front : Option Entry → ℕ → ℕ → List ℕ
bytes_of_front None taken count = []
bytes_of_front (Some entry) taken count = bytes_taken entry taken count

-- the bytes that taking `count` of a queue's front gives
abbrev pub front_bytes : ℕ → QueueState → List ℕ
front_bytes count held = bytes_of_front (front held) held.taken count

-- whether a queue holds so many entries, or an entry that is an end or a control code
abbrev pub wakes : StatusKind → Bool
wakes kind = is_end kind || is_control kind

abbrev pub is_ready : ℕ → QueueState → Bool
is_ready trigger held =
    nat_le trigger (length held.entries) || list_any (λ entry. wakes (kind_of entry.status)) held.entries

-- the control code of a front entry, if it is one
abbrev pub code_of_kind : StatusKind → Option Code
code_of_kind (Control code) = Some code
code_of_kind _ = None

abbrev pub front_code_of : Option Entry → Option Code
front_code_of None = None
front_code_of (Some entry) = code_of_kind (kind_of entry.status)

abbrev pub front_code : QueueState → Option Code
front_code held = front_code_of (front held)

abbrev pub code_before : Option Code → List Code → List Code
code_before None codes = codes
code_before (Some code) codes = code ∷ codes

-- the control codes of a queue, in order
abbrev pub codes_of : List Entry → List Code
codes_of [] = []
codes_of (entry ∷ rest) = code_before (code_of_kind (kind_of entry.status)) (codes_of rest)

-- the queues without their fronts
abbrev pub all_removed : Queues → Queues
all_removed queues =
    record queues { one = removed queues.one; two = removed queues.two; three = removed queues.three }

-- a queue emptied; its count of overruns stays
abbrev pub emptied : QueueState → QueueState
emptied held = record held { entries = []; taken = 0 }

abbrev pub cleared : Queues → Queues
cleared queues =
    record queues { one = emptied queues.one; two = emptied queues.two; three = emptied queues.three }

-- the counts of lost pushes: of queues 1 to 3, and of control pushes
abbrev pub overruns_of : Queues → List ℕ
overruns_of queues =
    queues.one.overruns ∷ queues.two.overruns ∷ queues.three.overruns ∷ queues.control_overruns ∷ []

-- what holds of each queue: it has room for 1 to 4,096 entries and holds no more than that, and of its
-- front fewer bytes are taken than are valid, none where none are
pub record IsQueue (held : QueueState) : Type 0 where
  pub some_room : 1 ≤ held.capacity
  pub most_room : held.capacity ≤ max_capacity
  pub within : length held.entries ≤ held.capacity
  pub part : (held.taken ≡ 0) ⊎ (held.taken < front_valid held)

-- what holds of the three: the control codes in them are the same, in the same order
pub record IsFifo (queues : Queues) : Type 0 where
  pub one : IsQueue queues.one
  pub two : IsQueue queues.two
  pub three : IsQueue queues.three
  pub second : codes_of queues.two.entries ≡ codes_of queues.one.entries
  pub third : codes_of queues.three.entries ≡ codes_of queues.one.entries
