-- Runs over a ring: what arrives in it, and what its blocks hold.
use Rattle.std.specs.List.{All, flat_map}
use Rattle.std.specs.Prelude.{List, None, Option, Some, [], drop, if◌then◌else◌, length, map, slice_index, suc, take, true, zero, ℕ, ◌%◌}
use Rattle.std.specs.Prelude.{◌*◌, ◌++◌, ◌+◌, ◌<◌, ◌==◌, ◌∷◌, ◌≡◌, ◌≤◌}
use Rattle.field_law.specs.Arrivals.{AreKept, HasCode, meeting, pushed_in}
use Rattle.field_law.specs.Fields.{Brings, IsLine, Mark, Row, Token}
use Rattle.fifo_model.specs.declared.Entry.{Entry}
use Rattle.risc_word.specs.declared.Code.TheVariants.{Fm1}
use Rattle.fifo_model.specs.declared.Queue.TheVariants.{One, Three, Two}
use Rattle.fifo_model.specs.declared.Queue.{Queue}
use Rattle.ring_model.specs.Rings.{Ring, bytes_of, memory_of, ring_program}
use Rattle.machine_model.specs.States.{State}
use Rattle.machine_model.specs.Steps.{Step}
use Rattle.machine_model.specs.declared.Job.TheVariants.{Waiting}
use Rattle.page_table.specs.Scattered.{address_at}
use Rattle.page_table.specs.Blocks.{byte_at}
use Rattle.irq_status.specs.Register.{has, risc_status, risci}
use Rattle.picture_model.specs.Programs.{no_control}
use Rattle.fifo_model.specs.Queues.{queue_state}

-- what arrives

-- entries that begin a line of so many bytes and don't finish it: at least its last entry is still to come
pub record IsUnfinished (bytes : ℕ) (entries : List Entry) : Type 0 where
  pub missing : List Entry
  pub some : 0 < length missing
  pub line : List ℕ
  pub is : IsLine line (entries ++ missing)
  pub long : length line ≡ bytes

-- queue 1 is brought the lines; each queue is brought the code first
abbrev pub tokens_on : List (List ℕ) → Queue → List Token
tokens_on lines One = Mark Fm1 ∷ map Row lines
tokens_on lines Two = Mark Fm1 ∷ []
tokens_on lines Three = Mark Fm1 ∷ []

-- the entries of a line that is unfinished are on queue 1
abbrev pub left_on : List Entry → Queue → List Entry
left_on entries One = entries
left_on entries Two = []
left_on entries Three = []

-- from a machine that waits in the ring's SYNC: no push is lost or ignored, the host acknowledges or sets the trigger
-- point, and what the queues hold and are brought is some entries without FM1, FM1, and on queue 1 lines of the ring's
-- length, of which the last may be unfinished
pub record IsRingRun (r : Ring) (lines : List (List ℕ)) (m : State) (steps : List Step) : Type 0 where
  pub program : m.program ≡ ring_program r
  pub fifo_on : m.fifo_on ≡ true
  pub risc_on : m.risc_on ≡ true
  pub waits : m.job ≡ Waiting no_control true Fm1
  pub there : m.pc ≡ r.base + 8
  pub kept : AreKept m (meeting m.program steps)
  pub before : Queue → List Entry
  pub entries : Queue → List Entry
  pub unfinished : List Entry
  pub order : (q : Queue) → (queue_state q m.queues).entries ++ pushed_in steps q ≡ before q ++ (entries q ++ left_on unfinished q)
  pub unmarked : (q : Queue) → All (λ entry. HasCode Fm1 entry → ⊥) (before q)
  pub brings : (q : Queue) → Brings (tokens_on lines q) (entries q)
  pub long : All (λ line. length line ≡ r.line_bytes) lines
  pub last : IsUnfinished r.line_bytes unfinished

-- what the blocks hold

-- the bytes of the lines that the block end of a number brings; block ends are counted from 0
abbrev pub brought : Ring → List (List ℕ) → ℕ → List ℕ
brought r lines number = flat_map (λ line. line) (take r.lines (drop (number * r.lines) lines))

-- the bytes of a block's last block end among the first so many; none where it had none
abbrev pub held : Ring → List (List ℕ) → ℕ → ℕ → Option (List ℕ)
held r lines block zero = None
held r lines block (suc number) =
    if number % r.blocks == block then Some (brought r lines number) else held r lines block number

-- the address of byte x of a block
abbrev pub block_address : Ring → ℕ → ℕ → ℕ
block_address r block x = address_at (memory_of r) (block * (r.lines * r.line_bytes) + x)

-- byte x of a block, where it holds these bytes or, without any, what memory held
abbrev pub byte_of : Option (List ℕ) → ℕ → ℕ → ℕ
byte_of (Some bytes) x old = slice_index bytes x
byte_of None x old = old

-- an address of no byte of the ring's blocks
abbrev pub IsOutside : Ring → ℕ → Type 0
IsOutside r address = (offset : ℕ) → offset < bytes_of r → (address ≡ address_at (memory_of r) offset) → ⊥

-- after the block end of a number: as many lines came whole; the signal, the blocks, and the rest of memory
pub record ShowsBlocks (r : Ring) (lines : List (List ℕ)) (number : ℕ) (m now : State) : Type 0 where
  pub came : (number + 1) * r.lines ≤ length lines
  pub raised : has risci now.interrupts ≡ true
  pub status : risc_status now.interrupts ≡ number % r.blocks
  pub blocks : (block x : ℕ) → block < r.blocks → x < r.lines * r.line_bytes →
      byte_at now.memory (block_address r block x)
      ≡ byte_of (held r lines block (suc number)) x (byte_at m.memory (block_address r block x))
  pub rest : (address : ℕ) → IsOutside r address → byte_at now.memory address ≡ byte_at m.memory address
