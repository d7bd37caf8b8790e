-- Pairs of records: a data push with the status PixelsValid, and turns behind it.
use Rattle.std.specs.Prelude.{◌≡◌, ℕ, ◌+◌, ◌*◌, ◌^◌, ◌<◌, ◌≤◌, ◌⊎◌, List, [], ◌∷◌, ◌++◌, length, take, drop}
use Rattle.fifo_model.specs.declared.Queue.{Queue}
use Rattle.fifo_model.specs.declared.Queue.TheVariants.{One, Two, Three}
use Rattle.machine_model.specs.PlainEntries.{dwords_of, plain_entry, turns_behind}
use Rattle.capture_file.specs.declared.Step.{Step}
use Rattle.capture_file.specs.declared.Step.TheVariants.{Push, Turns}
use Rattle.capture_file.specs.declared.records.Form.{Form}
use Rattle.capture_file.specs.declared.records.Found.TheVariants.{Whole}
use Rattle.capture_file.specs.Streams.{record_at}
use Rattle.capture_file.specs.Readers.{Reader, Records, behind, resumed}

-- the tag of a push
abbrev pub push_tag : Queue → ℕ
push_tag One = 1
push_tag Two = 2
push_tag Three = 3

-- the steps of pairs, each of which is its DWORD and its turns
abbrev pub pair_steps : Queue → List (ℕ × ℕ) → List Step
pair_steps queue [] = []
pair_steps queue (pair ∷ pairs) = Push queue (plain_entry pair.0) ∷ Turns pair.1 ∷ pair_steps queue pairs

-- a pair lies whole at the front of some bytes, behind records of so many turns, and has a turn or more
pub record IsPair (queue : Queue) (before : ℕ) (bytes : List ℕ) (dword count : ℕ) : Type 0 where
  pub push : (form : Form) → record_at form before bytes ≡ Whole (Push queue (plain_entry dword)) 6
  pub turned : (form : Form) → record_at form before (drop 6 bytes) ≡ Whole (Turns count) 5
  pub whole : 11 ≤ length bytes
  pub some : 1 ≤ count
  pub fits : dword < 2 ^ 32

-- and none does
abbrev pub NoPair : Queue → ℕ → List ℕ → Type 0
NoPair queue before bytes = (dword count : ℕ) → IsPair queue before bytes dword count → ⊥

-- and so do others behind it
abbrev pub ArePairs : Queue → ℕ → List ℕ → List (ℕ × ℕ) → Type 0
ArePairs queue before bytes [] = Unit {0}
ArePairs queue before bytes (pair ∷ pairs) =
    IsPair queue before bytes pair.0 pair.1 × ArePairs queue (before + pair.1) (drop 11 bytes) pairs

-- so many pairs, and the sum of their turns; their DWORDs are the first of the copied bytes, one behind the other
pub record AreCopied (queue : Queue) (before count sum : ℕ) (bytes dwords : List ℕ) (pairs : List (ℕ × ℕ)) : Type 0 where
  pub there : ArePairs queue before bytes pairs
  pub many : length pairs ≡ count
  pub turned : turns_behind pairs ≡ sum
  pub copied : take (4 * count) dwords ≡ dwords_of pairs

-- behind so many of them there is no other, or no room for one
abbrev pub AreAll : Queue → ℕ → ℕ → List ℕ → ℕ → Type 0
AreAll queue before count bytes room = NoPair queue before (drop (11 * count) bytes) ⊎ (room < 4 * (count + 1))

-- a reader is between two records, and the limit isn't within the piece
pub record IsBetween (r : Reader) (piece : List ℕ) : Type 0 where
  pub form : Form
  pub at : r.phase ≡ Records form
  pub nothing : r.held ≡ []
  pub within : r.place + length piece ≤ r.limit

-- so many pairs were taken off the front of a piece
pub record TakesPairs (queue : Queue) (count sum : ℕ) (dwords : List ℕ) (r : Reader) (piece : List ℕ) (after : Reader)
    (pairs : List (ℕ × ℕ)) : Type 0 where
  pub copied : AreCopied queue r.turns count sum piece dwords pairs
  pub whole : (more : List ℕ) →
      resumed r (piece ++ more) ≡ behind (pair_steps queue pairs) (resumed after (drop (11 * count) piece ++ more))
  pub within : 11 * count ≤ length piece
  pub exact : after ≡ record r { place = r.place + 11 * count; turns = r.turns + sum }
