-- How the code keeps the three queues.
use Rattle.std.specs.Prelude.{◌≡◌, ◌≤◌, ℕ, List, length, count_by, get_or}
use Rattle.sync_status.specs.Statuses.{kind_of}
use Rattle.fifo_model.specs.declared.Entry.{Entry}
use Rattle.fifo_model.specs.declared.Queue.{Queue}
use Rattle.fifo_model.specs.declared.Queue.TheVariants.{One, Two, Three}
use Rattle.fifo_model.specs.Queues.{QueueState, Queues, empty_queue, max_capacity, wakes, IsFifo}

-- how many entries of a list are an end or a control code
abbrev pub waking : List Entry → ℕ
waking entries = count_by (λ entry. wakes (kind_of entry.status)) entries

-- the place of a queue in the list of the three
abbrev pub place_of : Queue → ℕ
place_of One = 0
place_of Two = 1
place_of Three = 2

abbrev pub queue_at : List QueueState → ℕ → QueueState
queue_at states place = get_or states place (empty_queue 0)

abbrev pub queues_of : List QueueState → ℕ → Queues
queues_of states lost =
    record { one = queue_at states 0; two = queue_at states 1; three = queue_at states 2; control_overruns = lost }

-- what holds of the fields of a `Ring`, beside its queue's value
pub record IsRing (entries : List Entry) (capacity wakers : ℕ) : Type 0 where
  pub most : capacity ≤ max_capacity
  pub within : length entries ≤ capacity
  pub counted : wakers ≡ waking entries

-- what holds of the fields of a `Fifo`
pub record AreRings (states : List QueueState) (lost : ℕ) : Type 0 where
  pub three : length states ≡ 3
  pub facts : IsFifo (queues_of states lost)
