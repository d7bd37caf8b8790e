-- The text of an instruction. One space is before each field.
use Rattle.std.specs.Prelude.{ℕ, ◌+◌, ◌-◌, ◌/◌, ◌%◌, ◌^◌, Bool, true, false, List, [], ◌∷◌, ◌++◌, codes, if◌then◌else◌, ◌==◌, slice_index}
use Rattle.std.specs.Fmt.{decimal, digits, padded_integral, format_spec}
use Rattle.risc_word.specs.declared.Code.{Code}
use Rattle.risc_word.specs.declared.Code.TheVariants.{Vre, Vro, Fm1, Fm3}
use Rattle.risc_word.specs.declared.Ctl.{Ctl}
use Rattle.risc_word.specs.declared.Ends.{Ends}
use Rattle.risc_word.specs.declared.Instr.{Instr}
use Rattle.risc_word.specs.declared.Instr.TheVariants.{Write, Skip, WriteC, Jump, Sync, Write123, Skip123, Write1S23}

-- hexadecimal digits, so many at least
abbrev pub hex : ℕ → ℕ → List ℕ
hex width n = padded_integral (format_spec 32 0 4 width (2 ^ 64 - 1)) false [] (digits 16 false n)

abbrev pub address_text : ℕ → List ℕ
address_text n = hex 8 n

-- a word that is there only where its bit is set
abbrev pub flag_text : List ℕ → Bool → List ℕ
flag_text name true = name
flag_text name false = []

-- a field of four bits that is there only where it isn't 0
abbrev pub nibble_text : List ℕ → ℕ → List ℕ
nibble_text name n = if n == 0 then [] else name ++ digits 16 false n

abbrev pub control_text : Ctl → List ℕ
control_text ctl =
    flag_text (codes " irq") ctl.irq ++ (nibble_text (codes " set=") ctl.set ++ nibble_text (codes " reset=") ctl.reset)

abbrev pub data_text : Ctl → Ends → ℕ → List ℕ
data_text ctl ends off =
    flag_text (codes " sol") ends.sol ++ (flag_text (codes " eol") ends.eol
    ++ (control_text ctl ++ nibble_text (codes " off=") off))

abbrev pub code_name : Code → List ℕ
code_name Vre = codes "vre"
code_name Vro = codes "vro"
code_name Fm1 = codes "fm1"
code_name Fm3 = codes "fm3"

abbrev pub count_text : ℕ → List ℕ
count_text n = codes " " ++ decimal n

-- the last four decimal digits of a number
abbrev pub last_four : ℕ → List ℕ
last_four n = (48 + n / 1000 % 10) ∷ (48 + n / 100 % 10) ∷ (48 + n / 10 % 10) ∷ (48 + n % 10) ∷ []

abbrev pub counts_text : List ℕ → List ℕ
counts_text counts =
    count_text (slice_index counts 0) ++ (count_text (slice_index counts 1) ++ count_text (slice_index counts 2))

abbrev pub at_text : ℕ → List ℕ
at_text address = codes " " ++ address_text address

abbrev pub addresses_text : List ℕ → List ℕ
addresses_text addrs =
    at_text (slice_index addrs 0) ++ (at_text (slice_index addrs 1) ++ at_text (slice_index addrs 2))

-- an instruction: its name, its fields, its counts and its addresses
abbrev pub instr_text : Instr → List ℕ
instr_text (Write ctl ends off count addr) =
    codes "write" ++ (data_text ctl ends off ++ (count_text count ++ at_text addr))
instr_text (Skip ctl ends count) = codes "skip" ++ (data_text ctl ends 0 ++ count_text count)
instr_text (WriteC ctl ends off count) = codes "writec" ++ (data_text ctl ends off ++ count_text count)
instr_text (Jump ctl target) = codes "jump" ++ (control_text ctl ++ at_text target)
instr_text (Sync ctl resync code) =
    codes "sync " ++ (code_name code ++ (flag_text (codes " resync") resync ++ control_text ctl))
instr_text (Write123 ctl ends off counts addrs) =
    codes "write123" ++ (data_text ctl ends off ++ (counts_text counts ++ addresses_text addrs))
instr_text (Skip123 ctl ends counts) = codes "skip123" ++ (data_text ctl ends 0 ++ counts_text counts)
instr_text (Write1S23 ctl ends off counts addr) =
    codes "write1s23" ++ (data_text ctl ends off ++ (counts_text counts ++ at_text addr))

abbrev pub line_end : List ℕ
line_end = 10 ∷ []

-- the line of an instruction at an address
abbrev pub instr_line : ℕ → Instr → List ℕ
instr_line at instr = address_text at ++ (codes " " ++ (instr_text instr ++ line_end))

-- the line of a word that begins no instruction
abbrev pub word_line : ℕ → ℕ → List ℕ
word_line at word = address_text at ++ (codes " word " ++ (address_text word ++ line_end))
