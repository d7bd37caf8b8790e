-- Which instruction is at a word of a program, and the words that stand for an instruction.
use Rattle.std.specs.Prelude.{◌≡◌, IsTrue, length, ◌++◌, ℕ, ◌+◌, ◌*◌, ◌^◌, Bool, true, false, ◌&&◌, List, [], ◌∷◌, drop, Option, Some, None}
use Rattle.std.specs.Prelude.{Result, Ok, Err, if◌then◌else◌, ◌==◌, nat_lt}
use Rattle.std.specs.List.{list_all}
use Rattle.bit_field.specs.Bits.{bits}
use Rattle.risc_word.specs.declared.Code.{Code}
use Rattle.risc_word.specs.declared.Code.TheVariants.{Vre, Vro, Fm1, Fm3}
use Rattle.risc_word.specs.declared.Ctl.{Ctl}
use Rattle.risc_word.specs.declared.Ends.{Ends}
use Rattle.risc_word.specs.declared.Instr.{Instr}
use Rattle.risc_word.specs.declared.Instr.TheVariants.{Write, Skip, WriteC, Jump, Sync, Write123, Skip123, Write1S23}
use Rattle.risc_word.specs.declared.WordFault.{WordFault}
use Rattle.risc_word.specs.declared.WordFault.TheVariants.{Reserved, SyncCode, Cut}

-- the number of a control code
abbrev pub code_number : Code → ℕ
code_number Vre = 4
code_number Fm1 = 6
code_number Vro = 12
code_number Fm3 = 14

-- the control code of a number
abbrev pub code_numbered : ℕ → Option Code
code_numbered n =
    if n == 4 then Some Vre
    else (if n == 6 then Some Fm1
    else (if n == 12 then Some Vro
    else (if n == 14 then Some Fm3
    else None)))

-- the fields of a first word
abbrev pub control_bits : ℕ → Ctl
control_bits word = record { irq = bits 24 1 word == 1; set = bits 16 4 word; reset = bits 20 4 word }

abbrev pub line_ends : ℕ → Ends
line_ends word = record { sol = bits 27 1 word == 1; eol = bits 26 1 word == 1 }

abbrev pub lanes_off : ℕ → ℕ
lanes_off word = bits 12 4 word

abbrev pub first_count : ℕ → ℕ
first_count word = bits 0 12 word

-- the counts of the three queues, from the first word and the word after it
abbrev pub three_counts : ℕ → ℕ → List ℕ
three_counts word counts = first_count word ∷ bits 0 12 counts ∷ bits 16 12 counts ∷ []

-- an instruction and its length in words, or why there is none
abbrev pub Reading : Type 0
Reading = Result (Instr × ℕ) WordFault

-- what is at a first word of each opcode, by the words after it
abbrev pub write_at : ℕ → List ℕ → Reading
write_at word (address ∷ _) =
    Ok (Write (control_bits word) (line_ends word) (lanes_off word) (first_count word) address, 2)
write_at word [] = Err Cut

abbrev pub skip_at : ℕ → Reading
skip_at word = Ok (Skip (control_bits word) (line_ends word) (first_count word), 1)

abbrev pub write_c_at : ℕ → Reading
write_c_at word =
    Ok (WriteC (control_bits word) (line_ends word) (lanes_off word) (first_count word), 1)

abbrev pub jump_at : ℕ → List ℕ → Reading
jump_at word (target ∷ _) = Ok (Jump (control_bits word) target, 2)
jump_at word [] = Err Cut

abbrev pub sync_for : ℕ → Option Code → Reading
sync_for word (Some code) = Ok (Sync (control_bits word) (bits 15 1 word == 1) code, 2)
sync_for word None = Err (SyncCode (bits 0 4 word))

abbrev pub sync_at : ℕ → List ℕ → Reading
sync_at word (_ ∷ _) = sync_for word (code_numbered (bits 0 4 word))
sync_at word [] = Err Cut

abbrev pub write_123_at : ℕ → List ℕ → Reading
write_123_at word (counts ∷ first ∷ second ∷ third ∷ _) =
    Ok (
      Write123 (control_bits word) (line_ends word) (lanes_off word) (three_counts word counts)
          (first ∷ second ∷ third ∷ []),
      5,
    )
write_123_at word _ = Err Cut

abbrev pub skip_123_at : ℕ → List ℕ → Reading
skip_123_at word (counts ∷ _) =
    Ok (Skip123 (control_bits word) (line_ends word) (three_counts word counts), 2)
skip_123_at word [] = Err Cut

abbrev pub write_1_s_23_at : ℕ → List ℕ → Reading
write_1_s_23_at word (counts ∷ address ∷ _) =
    Ok (
      Write1S23 (control_bits word) (line_ends word) (lanes_off word) (three_counts word counts)
          address,
      3,
    )
write_1_s_23_at word _ = Err Cut

abbrev pub by_opcode : ℕ → ℕ → List ℕ → Reading
by_opcode opcode word rest =
    if opcode == 1 then write_at word rest
    else (if opcode == 2 then skip_at word
    else (if opcode == 5 then write_c_at word
    else (if opcode == 7 then jump_at word rest
    else (if opcode == 8 then sync_at word rest
    else (if opcode == 9 then write_123_at word rest
    else (if opcode == 10 then skip_123_at word rest
    else (if opcode == 11 then write_1_s_23_at word rest
    else Err (Reserved opcode))))))))

-- the instruction that begins a list of words
abbrev pub first_instr : List ℕ → Reading
first_instr [] = Err Cut
first_instr (word ∷ rest) = by_opcode (bits 28 4 word) word rest

-- the instruction at a word of a program, counted from 0
abbrev pub instr_at : List ℕ → ℕ → Reading
instr_at words at = first_instr (drop at words)

-- the length in words of an instruction with this opcode; 0 where the opcode is reserved
abbrev pub opcode_length : ℕ → ℕ
opcode_length opcode =
    if opcode == 2 then 1
    else (if opcode == 5 then 1
    else (if opcode == 1 then 2
    else (if opcode == 7 then 2
    else (if opcode == 8 then 2
    else (if opcode == 10 then 2
    else (if opcode == 11 then 3
    else (if opcode == 9 then 5
    else 0)))))))

-- a bit of the first word
abbrev pub flag : ℕ → Bool → ℕ
flag place true = 2 ^ place
flag place false = 0

-- the opcode and control bits of a first word
abbrev pub head_word : ℕ → Ctl → ℕ
head_word opcode ctl = opcode * 2 ^ 28 + flag 24 ctl.irq + ctl.reset * 2 ^ 20 + ctl.set * 2 ^ 16

-- the first word of a SYNC
abbrev pub sync_word : Ctl → Bool → Code → ℕ
sync_word ctl resync code = head_word 8 ctl + flag 15 resync + code_number code

-- the first word of a data instruction
abbrev pub data_word : ℕ → Ctl → Ends → ℕ → ℕ → ℕ
data_word opcode ctl ends off count =
    head_word opcode ctl + flag 27 ends.sol + flag 26 ends.eol + off * 2 ^ 12 + count

-- the word with the counts of queues 2 and 3
abbrev pub counts_word : ℕ → ℕ → ℕ
counts_word second third = third * 2 ^ 16 + second

-- the words of an instruction whose counts and addresses are three each
abbrev pub planar_words : ℕ → Ctl → Ends → ℕ → List ℕ → List ℕ → List ℕ
planar_words opcode ctl ends off (first ∷ second ∷ third ∷ []) addresses =
    data_word opcode ctl ends off first ∷ counts_word second third ∷ addresses
planar_words opcode ctl ends off _ addresses = []

-- the canonical encoding of an instruction: every bit that no field names is 0
abbrev pub encoded : Instr → List ℕ
encoded (Write ctl ends off count addr) = data_word 1 ctl ends off count ∷ addr ∷ []
encoded (Skip ctl ends count) = data_word 2 ctl ends 0 count ∷ []
encoded (WriteC ctl ends off count) = data_word 5 ctl ends off count ∷ []
encoded (Jump ctl target) = head_word 7 ctl ∷ target ∷ []
encoded (Sync ctl resync code) = sync_word ctl resync code ∷ 0 ∷ []
encoded (Write123 ctl ends off counts addrs) = planar_words 9 ctl ends off counts addrs
encoded (Skip123 ctl ends counts) = planar_words 10 ctl ends 0 counts []
encoded (Write1S23 ctl ends off counts addr) = planar_words 11 ctl ends off counts (addr ∷ [])

-- whether the fields of an instruction fit their bits
abbrev pub control_fits : Ctl → Bool
control_fits ctl = nat_lt ctl.set 16 && nat_lt ctl.reset 16

abbrev pub counts_fit : List ℕ → Bool
counts_fit counts = list_all (λ count. nat_lt count 4096) counts

abbrev pub fits : Instr → Bool
fits (Write ctl ends off count addr) = control_fits ctl && nat_lt off 16 && nat_lt count 4096
fits (Skip ctl ends count) = control_fits ctl && nat_lt count 4096
fits (WriteC ctl ends off count) = control_fits ctl && nat_lt off 16 && nat_lt count 4096
fits (Jump ctl target) = control_fits ctl
fits (Sync ctl resync code) = control_fits ctl
fits (Write123 ctl ends off counts addrs) = control_fits ctl && nat_lt off 16 && counts_fit counts
fits (Skip123 ctl ends counts) = control_fits ctl && counts_fit counts
fits (Write1S23 ctl ends off counts addr) = control_fits ctl && nat_lt off 16 && counts_fit counts

-- three counts and three addresses where an instruction has lists of them
abbrev pub HasThree : Instr → Type 0
HasThree (Write123 ctl ends off counts addrs) = (length counts ≡ 3) × (length addrs ≡ 3)
HasThree (Skip123 ctl ends counts) = length counts ≡ 3
HasThree (Write1S23 ctl ends off counts addr) = length counts ≡ 3
HasThree _ = Unit {0}

-- an instruction that words can stand for
abbrev pub IsInstr : Instr → Type 0
IsInstr instr = IsTrue (fits instr) × HasThree instr

-- an instruction is read where its words are, whatever is before and after them
abbrev pub IsReadBack : Instr → Type 0
IsReadBack instr =
    (before after : List ℕ) → instr_at (before ++ encoded instr ++ after) (length before) ≡ Ok (instr, length (encoded instr))
