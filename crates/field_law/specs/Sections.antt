-- A section of a program: what it asks of the queues, and what it stores.
use Rattle.std.specs.Prelude.{◌≡◌, ℕ, ◌+◌, ◌*◌, ◌<◌, ◌≤◌, Bool, true, false, List, [], ◌∷◌, ◌++◌, length, take, drop, All, Option, Some}
use Rattle.std.specs.Prelude.{None, Ok, ◌==◌}
use Rattle.std.specs.List.{list_any}
use Rattle.risc_word.specs.declared.Code.{Code}
use Rattle.risc_word.specs.declared.Ctl.{Ctl}
use Rattle.risc_word.specs.declared.Instr.{Instr}
use Rattle.risc_word.specs.declared.Instr.TheVariants.{Write, WriteC, Jump, Sync, Write123, Write1S23}
use Rattle.risc_word.specs.Words.{encoded}
use Rattle.fifo_model.specs.declared.Queue.{Queue}
use Rattle.page_table.specs.Grants.{granted}
use Rattle.page_table.specs.Blocks.{Block, chunks_of, byte_at}
use Rattle.machine_model.specs.declared.Demand.{Demand}
use Rattle.machine_model.specs.Paths.{RiscProgram, is_word, fetch, demands_of, demands_cause}
use Rattle.machine_model.specs.Turns.{Store, demand_on}
use Rattle.field_law.specs.Fields.{Token, Mark, Row}

-- an opening SYNC, the instructions after it, and the closing JUMP
pub record Section : Type 0 where
  -- the control bits and the code of the opening, which waits without FDSR
  pub opening : Ctl
  pub code : Code
  -- the address after the opening
  pub at : ℕ
  pub body : List Instr
  -- the control bits and the target of the closing
  pub closing : Ctl
  pub target : ℕ

-- the words of instructions, and the address of the closing
abbrev pub words_in : List Instr → ℕ
words_in [] = 0
words_in (instr ∷ rest) = length (encoded instr) + words_in rest

abbrev pub closing_at : Section → ℕ
closing_at s = s.at + 4 * words_in s.body

-- an instruction of a body: no JUMP and no WRITEC, and no lane is off
abbrev pub IsPlain : Instr → Type 0
IsPlain (Write ctl ends off count addr) = off ≡ 0
IsPlain (Write123 ctl ends off counts addrs) = off ≡ 0
IsPlain (Write1S23 ctl ends off counts addr) = off ≡ 0
IsPlain (WriteC ctl ends off count) = ⊥
IsPlain (Jump ctl addr) = ⊥
IsPlain _ = Unit {0}

-- a program holds a section: its instructions are there from `at` on, the ranges that they write are granted, and a word
-- is at the target
abbrev pub HoldsFrom : RiscProgram → ℕ → List Instr → Ctl → ℕ → Type 0
HoldsFrom program at [] closing target =
    (fetch program at ≡ Ok (Jump closing target, 2)) × (is_word program target ≡ true)
HoldsFrom program at (instr ∷ rest) closing target =
    (fetch program at ≡ Ok (instr, length (encoded instr))) × IsPlain instr
    × (demands_cause program.grants (demands_of instr None) ≡ None)
    × HoldsFrom program (at + 4 * length (encoded instr)) rest closing target

abbrev pub Holds : Section → RiscProgram → Type 0
Holds s program = HoldsFrom program s.at s.body s.closing s.target

-- its instructions are there, whether or not the program grants what they write
abbrev pub StandsFrom : RiscProgram → ℕ → List Instr → Ctl → ℕ → Type 0
StandsFrom program at [] closing target = fetch program at ≡ Ok (Jump closing target, 2)
StandsFrom program at (instr ∷ rest) closing target =
    (fetch program at ≡ Ok (instr, length (encoded instr))) × IsPlain instr
    × StandsFrom program (at + 4 * length (encoded instr)) rest closing target

abbrev pub Stands : Section → RiscProgram → Type 0
Stands s program = StandsFrom program s.at s.body s.closing s.target

-- what an instruction asks of one queue: a control code, or so many bytes, which go to memory from an address on or
-- nowhere; the first of them begin a line, or all go on in the line that is under way
pub data Ask : Type 0 where
  Await : Code → Ask
  Begin : ℕ → Option ℕ → Ask
  GoOn : ℕ → Option ℕ → Ask

abbrev pub ask : Bool → ℕ → Option ℕ → Ask
ask true count address = Begin count address
ask false count address = GoOn count address

abbrev pub ask_of : Demand → Ask
ask_of d = ask d.needs_sol d.rest d.address

abbrev pub asked : Queue → Instr → Ask
asked q (Sync ctl resync code) = Await code
asked q instr = ask_of (demand_on q (demands_of instr None))

abbrev pub asks : Queue → List Instr → List Ask
asks q [] = []
asks q (instr ∷ rest) = asked q instr ∷ asks q rest

-- asks use up what comes, the bytes that are left of the line under way and then the tokens, to an end that is left
abbrev pub UsesTo : (List ℕ → List Token → Type 0) → List Ask → List ℕ → List Token → Type 0
UsesTo Ends [] line tokens = Ends line tokens
UsesTo Ends (Await code ∷ rest) line (Mark seen ∷ tokens) = (line ≡ []) × (seen ≡ code) × UsesTo Ends rest [] tokens
UsesTo Ends (Await code ∷ rest) line _ = ⊥
UsesTo Ends (Begin count address ∷ rest) line (Row bytes ∷ tokens) =
    (line ≡ []) × (0 < count) × (count ≤ length bytes) × UsesTo Ends rest (drop count bytes) tokens
UsesTo Ends (Begin count address ∷ rest) line _ = ⊥
UsesTo Ends (GoOn count address ∷ rest) line tokens = (count ≤ length line) × UsesTo Ends rest (drop count line) tokens

-- exactly: nothing is left
abbrev pub IsUsedUp : List ℕ → List Token → Type 0
IsUsedUp line tokens = (line ≡ []) × (tokens ≡ [])

abbrev pub UsesUp : List Ask → List ℕ → List Token → Type 0
UsesUp asks line tokens = UsesTo IsUsedUp asks line tokens

-- bytes one after another from an address on, where there is one
abbrev pub laid_from : ℕ → List ℕ → List Store
laid_from address [] = []
laid_from address (byte ∷ bytes) = record { address = address; byte = byte } ∷ laid_from (address + 1) bytes

abbrev pub laid : Option ℕ → List ℕ → List Store
laid None bytes = []
laid (Some address) bytes = laid_from address bytes

-- the stores that asks make of what comes
abbrev pub planned : List Ask → List ℕ → List Token → List Store
planned [] line tokens = []
planned (Await code ∷ rest) line [] = []
planned (Await code ∷ rest) line (token ∷ tokens) = planned rest [] tokens
planned (Begin count address ∷ rest) line (Row bytes ∷ tokens) =
    laid address (take count bytes) ++ planned rest (drop count bytes) tokens
planned (Begin count address ∷ rest) line _ = []
planned (GoOn count address ∷ rest) line tokens =
    laid address (take count line) ++ planned rest (drop count line) tokens

abbrev pub is_stored : ℕ → List Store → Bool
is_stored address stores = list_any (λ store. store.address == address) stores

-- instructions use up a field on every queue
abbrev pub UsesField : List Instr → (Queue → List Token) → Type 0
UsesField body field = (q : Queue) → UsesUp (asks q body) [] (field q)

-- the stores of instructions for a field, by the queue that brings their bytes
abbrev pub body_stores : List Instr → (Queue → List Token) → Queue → List Store
body_stores body field q = planned (asks q body) [] (field q)

-- Memory as it is to be in the end, a byte for each address: each store goes to a granted byte and has the byte that is
-- to be there, and where nothing is stored, the byte that is there stays
pub record PaintsField (body : List Instr) (field : Queue → List Token) (memory : List Block) (final : ℕ → ℕ) : Type 0 where
  pub within : (q : Queue) → All (λ store. granted (chunks_of memory) store.address ≡ true) (body_stores body field q)
  pub agree : (q : Queue) → All (λ store. final store.address ≡ store.byte) (body_stores body field q)
  pub others : (address : ℕ) → ((q : Queue) → is_stored address (body_stores body field q) ≡ false) →
      byte_at memory address ≡ final address

-- a section does so by its body
abbrev pub Uses : Section → (Queue → List Token) → Type 0
Uses s field = UsesField s.body field

abbrev pub section_stores : Section → (Queue → List Token) → Queue → List Store
section_stores s field q = body_stores s.body field q

abbrev pub Paints : Section → (Queue → List Token) → List Block → (ℕ → ℕ) → Type 0
Paints s field memory final = PaintsField s.body field memory final
