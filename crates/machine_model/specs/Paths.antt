-- The path of a program, and when a program is sound.
use Rattle.std.specs.Prelude.{◌≡◌, ℕ, zero, suc, ◌+◌, ◌-◌, ◌*◌, ◌/◌, ◌%◌, ◌^◌, ◌<◌, ◌≤◌, Bool, true, false, not, ◌&&◌, IsTrue, All, List}
use Rattle.std.specs.Prelude.{[], ◌∷◌, ◌++◌, length, Option, Some, None, Ok, Err, option_map}
use Rattle.std.specs.Prelude.{if◌then◌else◌, ◌==◌, nat_lt, nat_le, slice_index}
use Rattle.risc_word.specs.declared.Instr.{Instr}
use Rattle.risc_word.specs.declared.Instr.TheVariants.{Write, Skip, WriteC, Jump, Sync, Write123, Skip123, Write1S23}
use Rattle.risc_word.specs.declared.WordFault.{WordFault}
use Rattle.risc_word.specs.declared.WordFault.TheVariants as fault
use Rattle.risc_word.specs.Parts.{instr_ends}
use Rattle.std.specs.List.{list_any}
use Rattle.risc_word.specs.Words.{Reading, first_instr}
use Rattle.page_table.specs.Grants.{Chunk, AreGrants, granted, first_ungranted, is_met}
use Rattle.machine_model.specs.declared.Cause.{Cause}
use Rattle.machine_model.specs.declared.Cause.TheVariants.{Cut, Reserved, SyncCode, JumpOut, NoTarget, Wrap, Ungranted}
use Rattle.machine_model.specs.declared.Demand.{Demand}
use Rattle.machine_model.specs.declared.Demands.{Demands}

-- words one after another from an address on
pub record Span : Type 0 where
  pub at : ℕ
  pub words : List ℕ

abbrev pub span : ℕ → List ℕ → Span
span at words = record { at = at; words = words }

-- a program: the address at which its path begins, its words, and the memory that it may write
pub record RiscProgram : Type 0 where
  pub base : ℕ
  pub spans : List Span
  pub grants : List Chunk

-- the address behind a span
abbrev pub end_of : Span → ℕ
end_of s = s.at + 4 * length s.words

-- whether a chunk shares a byte with the program
abbrev pub shares_byte : RiscProgram → Chunk → Bool
shares_byte program c = list_any (λ s. is_met s.at (end_of s) c) program.spans

-- all words of a program, in the order of their addresses
abbrev pub words_of : List Span → List ℕ
words_of [] = []
words_of (s ∷ rest) = s.words ++ words_of rest

abbrev pub all_words : RiscProgram → List ℕ
all_words program = words_of program.spans

-- the word at an address, and whether there is one
abbrev pub stands_in : Span → ℕ → Bool
stands_in s address = nat_le s.at address && (address - s.at) % 4 == 0 && nat_lt ((address - s.at) / 4) (length s.words)

abbrev pub word_among : List Span → ℕ → Option ℕ
word_among [] address = None
word_among (s ∷ rest) address =
    if stands_in s address then Some (slice_index s.words ((address - s.at) / 4)) else word_among rest address

abbrev pub word_at : RiscProgram → ℕ → Option ℕ
word_at program address = word_among program.spans address

abbrev pub is_there : Option ℕ → Bool
is_there None = false
is_there (Some word) = true

abbrev pub is_word : RiscProgram → ℕ → Bool
is_word program address = is_there (word_at program address)

-- how many words a program may have, and how many spans
abbrev pub max_words : ℕ
max_words = 1048576

abbrev pub max_spans : ℕ
max_spans = 4096

-- a span that can be on the bus: it has a word
pub record IsSpan (s : Span) : Type 0 where
  pub aligned : s.at % 4 ≡ 0
  pub some : 0 < length s.words
  pub ends : end_of s ≤ 2 ^ 32
  pub fit : All (λ word. word < 2 ^ 32) s.words

-- spans in rising order from an address on that don't touch
abbrev pub AreApart : ℕ → List Span → Type 0
AreApart from [] = Unit {0}
AreApart from (s ∷ rest) = (from ≤ s.at) × IsSpan s × AreApart (end_of s + 1) rest

-- a path begins at a word, where there are words
abbrev pub BeginsAtWord : ℕ → List Span → Type 0
BeginsAtWord base [] = Unit {0}
BeginsAtWord base (s ∷ rest) = IsTrue (is_there (word_among (s ∷ rest) base))

-- a program as it can be made
pub record IsProgram (program : RiscProgram) : Type 0 where
  pub aligned : program.base % 4 ≡ 0
  pub low : program.base < 2 ^ 32
  pub begins : BeginsAtWord program.base program.spans
  pub spans : AreApart 0 program.spans
  pub many : length program.spans ≤ max_spans
  pub few : length (all_words program) ≤ max_words
  pub grants : AreGrants program.grants
  pub apart : All (λ c. shares_byte program c ≡ false) program.grants

-- the program whose words are one after another from its base on
abbrev pub spans_of : ℕ → List ℕ → List Span
spans_of base [] = []
spans_of base (word ∷ words) = span base (word ∷ words) ∷ []

abbrev pub one_span : ℕ → List ℕ → List Chunk → RiscProgram
one_span base words grants = record { base = base; spans = spans_of base words; grants = grants }

-- whether all words are one after another from the address on at which the path begins
abbrev pub begins_at : ℕ → List Span → Bool
begins_at entry [] = true
begins_at entry (s ∷ []) = s.at == entry
begins_at entry (s ∷ other ∷ rest) = false

abbrev pub begins_at_base : RiscProgram → Bool
begins_at_base program = begins_at program.base program.spans

-- a state of a path: where the next instruction is, and where a WRITEC would go on
pub record Place : Type 0 where
  pub pc : ℕ
  pub target : Option ℕ

-- the words from an address on, as far as there are any, and at most so many
abbrev pub words_from : ℕ → RiscProgram → ℕ → List ℕ
words_from zero program address = []
words_from (suc count) program address =
    elim (word_at program address) [ None ↦ [] | Some word ↦ word ∷ words_from count program (address + 4) ]

-- the instruction at an address: no instruction has more than five words
abbrev pub fetch : RiscProgram → ℕ → Reading
fetch program pc = first_instr (words_from 5 program pc)

-- whether an instruction is one of data
abbrev pub is_data : Instr → Bool
is_data (Jump ctl target) = false
is_data (Sync ctl resync code) = false
is_data _ = true

-- what is asked of a queue: so many bytes, to be written from an address on or only taken
abbrev pub demand : Bool → ℕ → Option ℕ → Demand
demand sol count address = record { rest = count; address = address; needs_sol = sol && not (count == 0) }

abbrev pub no_demand : Demand
no_demand = record { rest = 0; address = None; needs_sol = false }

abbrev pub no_demands : Demands
no_demands = record { one = no_demand; two = no_demand; three = no_demand }

abbrev pub first_demand : Bool → ℕ → Option ℕ → Demands
first_demand sol count address = record no_demands { one = demand sol count address }

abbrev pub three_demands : Bool → List ℕ → Option ℕ → Option ℕ → Option ℕ → Demands
three_demands sol counts first second third =
    record {
      one = demand sol (slice_index counts 0) first;
      two = demand sol (slice_index counts 1) second;
      three = demand sol (slice_index counts 2) third;
    }

-- what an instruction asks of the queues; a WRITEC writes at the target
abbrev pub demands_of : Instr → Option ℕ → Demands
demands_of (Write ctl ends off count addr) target = first_demand ends.sol count (Some addr)
demands_of (Skip ctl ends count) target = first_demand ends.sol count None
demands_of (WriteC ctl ends off count) target = first_demand ends.sol count target
demands_of (Jump ctl addr) target = no_demands
demands_of (Sync ctl resync code) target = no_demands
demands_of (Write123 ctl ends off counts addrs) target =
    three_demands ends.sol counts (Some (slice_index addrs 0)) (Some (slice_index addrs 1)) (Some (slice_index addrs 2))
demands_of (Skip123 ctl ends counts) target = three_demands ends.sol counts None None None
demands_of (Write1S23 ctl ends off counts addr) target = three_demands ends.sol counts (Some addr) None None

-- the target as an instruction acts: SOL makes it none
abbrev pub target_before : Instr → Option ℕ → Option ℕ
target_before instr target = if (instr_ends instr).sol then None else target

-- the target as the instruction moves it, and after its end: EOL makes it none
abbrev pub target_moved : Instr → Option ℕ → Option ℕ
target_moved (Write ctl ends off count addr) target = Some (addr + count)
target_moved (Skip ctl ends count) target = target
target_moved (WriteC ctl ends off count) target = option_map (λ at. at + count) target
target_moved _ target = None

abbrev pub target_after : Instr → Option ℕ → Option ℕ
target_after instr target = if (instr_ends instr).eol then None else target_moved instr target

-- the first of two causes
abbrev pub first_cause : Option Cause → Option Cause → Option Cause
first_cause None other = other
first_cause (Some cause) other = Some cause

-- why a range can't be written: it passes 2^32, or else its first byte that isn't granted
abbrev pub written_cause : List Chunk → ℕ → ℕ → Option Cause
written_cause grants address count =
    if nat_lt (2 ^ 32) (address + count) then Some Wrap
    else option_map Ungranted (first_ungranted grants address count)

abbrev pub range_cause : List Chunk → Option ℕ → ℕ → Option Cause
range_cause grants None count = None
range_cause grants (Some address) count = written_cause grants address count

abbrev pub demand_cause : List Chunk → Demand → Option Cause
demand_cause grants d = range_cause grants d.address d.rest

abbrev pub demands_cause : List Chunk → Demands → Option Cause
demands_cause grants ds =
    first_cause (demand_cause grants ds.one)
    (first_cause (demand_cause grants ds.two) (demand_cause grants ds.three))

-- a WRITEC needs a target
abbrev pub target_cause : Instr → Option ℕ → Option Cause
target_cause (WriteC ctl ends off count) None = Some NoTarget
target_cause _ target = None

-- why a data instruction can't begin with this target, SOL seen to already
abbrev pub data_cause : List Chunk → Instr → Option ℕ → Option Cause
data_cause grants instr target =
    first_cause (target_cause instr target) (demands_cause grants (demands_of instr target))

-- whatever the first grant, the second grant too
abbrev pub AreWithin : List Chunk → List Chunk → Type 0
AreWithin grants wider = (address : ℕ) → IsTrue (granted grants address) → IsTrue (granted wider address)

-- why an instruction isn't fine
abbrev pub instr_cause : RiscProgram → Instr → Option ℕ → Option Cause
instr_cause program (Jump ctl addr) target = if is_word program addr then None else Some (JumpOut addr)
instr_cause program (Sync ctl resync code) target = None
instr_cause program instr target = data_cause program.grants instr (target_before instr target)

abbrev pub fault_cause : WordFault → Cause
fault_cause (fault.Reserved opcode) = Reserved opcode
fault_cause (fault.SyncCode number) = SyncCode number
fault_cause fault.Cut = Cut

abbrev pub reading_cause : RiscProgram → Option ℕ → Reading → Option Cause
reading_cause program target (Err f) = Some (fault_cause f)
reading_cause program target (Ok (instr, length_in_words)) = instr_cause program instr target

-- the first fault of a place
abbrev pub cause_at : RiscProgram → Place → Option Cause
cause_at program place = reading_cause program place.target (fetch program place.pc)

-- the place after an instruction of so many words
abbrev pub place_after : Instr → ℕ → Place → Place
place_after (Jump ctl addr) count place = record { pc = addr; target = None }
place_after instr count place =
    record { pc = place.pc + 4 * count; target = target_after instr (target_before instr place.target) }

abbrev pub place_read : Reading → Place → Place
place_read (Err f) place = place
place_read (Ok (instr, count)) place = place_after instr count place

abbrev pub next_by : Option Cause → RiscProgram → Place → Place
next_by (Some cause) program place = place
next_by None program place = place_read (fetch program place.pc) place

-- the next place, which is the same again where a place isn't fine
abbrev pub next_place : RiscProgram → Place → Place
next_place program place = next_by (cause_at program place) program place

-- the path, without end
abbrev pub path : RiscProgram → ℕ → Place
path program zero = record { pc = program.base; target = None }
path program (suc number) = next_place program (path program number)

-- every state of the path is fine
abbrev pub IsSound : RiscProgram → Type 0
IsSound program = (number : ℕ) → cause_at program (path program number) ≡ None

-- the first state of the path that isn't fine: its number, its address and its cause
pub record IsFirstBad (program : RiscProgram) (address number : ℕ) (cause : Cause) : Type 0 where
  pub fine : (k : ℕ) → k < number → cause_at program (path program k) ≡ None
  pub bad : cause_at program (path program number) ≡ Some cause
  pub there : (path program number).pc ≡ address
