-- Data pushes with the status PixelsValid, one behind the other.
use Rattle.std.specs.Prelude.{◌≡◌, ℕ, ◌+◌, ◌*◌, ◌≤◌, List, [], ◌∷◌, ◌++◌, length, drop}
use Rattle.fifo_model.specs.declared.Entry.{Entry}
use Rattle.fifo_model.specs.declared.Queue.{Queue}
use Rattle.fifo_model.specs.declared.Queue.TheVariants.{One, Two, Three}
use Rattle.machine_model.specs.PlainEntries.{plain_entry}
use Rattle.capture_file.specs.declared.Step.{Step}
use Rattle.capture_file.specs.declared.Step.TheVariants.{Push}
use Rattle.capture_file.specs.declared.records.Form.{Form}
use Rattle.capture_file.specs.declared.records.Found.TheVariants.{Whole}
use Rattle.capture_file.specs.Readers.{Reader, behind, resumed}
use Rattle.capture_file.specs.Streams.{record_at}

-- a push of a plain entry lies whole at the front of some bytes
pub record IsPlainPush (queue : Queue) (entry : Entry) (bytes : List ℕ) : Type 0 where
  pub push : (form : Form) (before : ℕ) → record_at form before bytes ≡ Whole (Push queue entry) 6
  pub plain : entry ≡ plain_entry entry.dword
  pub whole : 6 ≤ length bytes

-- and none does
abbrev pub NoPlainPush : List ℕ → Type 0
NoPlainPush bytes = (queue : Queue) (entry : Entry) → IsPlainPush queue entry bytes → ⊥

-- and so do others behind it
abbrev pub ArePlainPushes : List ℕ → List (Queue × Entry) → Type 0
ArePlainPushes bytes [] = Unit {0}
ArePlainPushes bytes (pushed ∷ later) = IsPlainPush pushed.0 pushed.1 bytes × ArePlainPushes (drop 6 bytes) later

-- their steps
abbrev pub push_steps : List (Queue × Entry) → List Step
push_steps [] = []
push_steps (pushed ∷ later) = Push pushed.0 pushed.1 ∷ push_steps later

-- 1 where the two are one queue
abbrev pub counts_for : Queue → Queue → ℕ
counts_for One One = 1
counts_for Two Two = 1
counts_for Three Three = 1
counts_for _ _ = 0

-- how many of them are to a queue
abbrev pub pushes_to : Queue → List (Queue × Entry) → ℕ
pushes_to queue [] = 0
pushes_to queue (pushed ∷ later) = counts_for queue pushed.0 + pushes_to queue later

-- the place of a queue among the three
abbrev pub place_of : Queue → ℕ
place_of One = 0
place_of Two = 1
place_of Three = 2

-- to queues 1, 2 and 3
abbrev pub counts_of : List (Queue × Entry) → List ℕ
counts_of pushes = pushes_to One pushes ∷ pushes_to Two pushes ∷ pushes_to Three pushes ∷ []

-- so many pushes were taken off the front of a piece
pub record TakesPushes (count : ℕ) (counts : List ℕ) (r : Reader) (piece : List ℕ) (after : Reader) (pushes : List (Queue × Entry)) : Type 0
  where
    pub there : ArePlainPushes piece pushes
    pub many : length pushes ≡ count
    pub counted : counts_of pushes ≡ counts
    pub whole : (more : List ℕ) → resumed r (piece ++ more) ≡ behind (push_steps pushes) (resumed after (drop (6 * count) piece ++ more))
    pub within : 6 * count ≤ length piece
    pub exact : after ≡ record r { place = r.place + 6 * count }
