-- The bits of an instruction's words that no field names.
use Rattle.std.specs.Prelude.{◌≡◌, ℕ, Bool, ◌&&◌, ◌==◌, List, IfOk, slice_index}
use Rattle.bit_field.specs.Bits.{bits}
use Rattle.risc_word.specs.Words.{instr_at}
use Rattle.risc_word.specs.declared.Instr.{Instr}
use Rattle.risc_word.specs.declared.Instr.TheVariants.{Write, Skip, WriteC, Jump, Sync, Write123, Skip123, Write1S23}

-- a field that holds 0
abbrev pub is_zero : ℕ → ℕ → ℕ → Bool
is_zero low width word = bits low width word == 0

-- a first word that has a bit for each lane to leave out, and one that has no such bits
abbrev pub are_unnamed_zero_in_data : ℕ → Bool
are_unnamed_zero_in_data word = is_zero 25 1 word

abbrev pub are_unnamed_zero_in_skip : ℕ → Bool
are_unnamed_zero_in_skip word = is_zero 25 1 word && is_zero 12 4 word

-- the first word of a JUMP, and that of a SYNC
abbrev pub are_unnamed_zero_in_jump : ℕ → Bool
are_unnamed_zero_in_jump word = is_zero 25 3 word && is_zero 0 16 word

abbrev pub are_unnamed_zero_in_sync : ℕ → Bool
are_unnamed_zero_in_sync word = is_zero 25 3 word && is_zero 4 11 word

-- the word with the counts of queues 2 and 3
abbrev pub are_unnamed_zero_in_counts : ℕ → Bool
are_unnamed_zero_in_counts word = is_zero 12 4 word && is_zero 28 4 word

-- each bit that no field names is 0, in the first two words of an instruction
abbrev pub are_unnamed_zero : Instr → ℕ → ℕ → Bool
are_unnamed_zero (Write ctl ends off count addr) first second = are_unnamed_zero_in_data first
are_unnamed_zero (Skip ctl ends count) first second = are_unnamed_zero_in_skip first
are_unnamed_zero (WriteC ctl ends off count) first second = are_unnamed_zero_in_data first
are_unnamed_zero (Jump ctl target) first second = are_unnamed_zero_in_jump first
are_unnamed_zero (Sync ctl resync code) first second = are_unnamed_zero_in_sync first && second == 0
are_unnamed_zero (Write123 ctl ends off counts addrs) first second = are_unnamed_zero_in_data first && are_unnamed_zero_in_counts second
are_unnamed_zero (Skip123 ctl ends counts) first second = are_unnamed_zero_in_skip first && are_unnamed_zero_in_counts second
are_unnamed_zero (Write1S23 ctl ends off counts addr) first second = are_unnamed_zero_in_data first && are_unnamed_zero_in_counts second

-- the test is whether each of these bits is 0 in the instruction that the words begin with, where they begin with one
abbrev pub TellsPlain : Bool → List ℕ → Type 0
TellsPlain test words =
    IfOk (instr_at words 0) (λ read. are_unnamed_zero read.0 (slice_index words 0) (slice_index words 1) ≡ test)
