-- An instruction is read where its words are.
use Rattle.std.proofs.Common.{ℕ, ◌≡◌, ◌<◌, Bool, true, List, [], ◌∷◌, ◌++◌, length, Some, Ok, refl, arith, append_assoc}
use Rattle.std.specs.Prelude.{IsTrue, nat_lt, ◌&&◌}
use Rattle.std.proofs.lemmas.Bool.{and_parts, ltb-true}
use Rattle.std.proofs.Math.Seq.{drop-append_seam}
use Rattle.bit_field.specs.Bits.{bits}
use Rattle.risc_word.specs.declared.Code.{Code}
use Rattle.risc_word.specs.declared.Code.TheVariants.{Vre, Vro, Fm1, Fm3}
use Rattle.risc_word.specs.declared.Ctl.{Ctl}
use Rattle.risc_word.specs.declared.Ends.{Ends}
use Rattle.risc_word.specs.declared.Instr.{Instr}
use Rattle.risc_word.specs.declared.Instr.TheVariants.{Write, Skip, WriteC, Jump, Sync, Write123, Skip123, Write1S23}
use Rattle.risc_word.specs.Words.{by_opcode, code_number, code_numbered, control_fits, counts_fit, counts_word, data_word, encoded}
use Rattle.risc_word.specs.Words.{first_instr, head_word, sync_word, three_counts, IsInstr, IsReadBack}
use Rattle.risc_word.proofs.FirstWord.{Reads, ReadsLine, bit_of, bit_test, data_reads, head_reads, line_reads, sync_code, sync_reads}
use Rattle.risc_word.proofs.FirstWord.{sync_resync}

-- what begins a list of words
abbrev pub Begins : Instr → Type 0
Begins instr = (after : List ℕ) → first_instr (encoded instr ++ after) ≡ Ok (instr, length (encoded instr))

pub code_numbered-number : (code : Code) → code_numbered (code_number code) ≡ Some code
code_numbered-number Vre = refl
code_numbered-number Vro = refl
code_numbered-number Fm1 = refl
code_numbered-number Fm3 = refl

-- a word that is read as an opcode, its control bits, its line ends, lanes and count
module _ (word : ℕ) (ctl : Ctl) (rest : List ℕ) where
  pub jump_begins : (target : ℕ) → Reads word 7 ctl → by_opcode (bits 28 4 word) word (target ∷ rest) ≡ Ok (Jump ctl target, 2)
  jump_begins target reads = rw (reads.opcode_is, reads.ctl_is) refl

  pub sync_begins : (resync : Bool) (code : Code) (second : ℕ) → Reads word 8 ctl → bits 15 1 word ≡ bit_of resync →
      bits 0 4 word ≡ code_number code → by_opcode (bits 28 4 word) word (second ∷ rest) ≡ Ok (Sync ctl resync code, 2)
  sync_begins resync code second reads resync_is code_is =
      rw (reads.opcode_is, code_is, code_numbered-number code, reads.ctl_is, resync_is, bit_test resync) refl

  module _ (ends : Ends) (off count : ℕ) (line : ReadsLine word ends off count) where
    pub write_begins : (addr : ℕ) → Reads word 1 ctl → by_opcode (bits 28 4 word) word (addr ∷ rest) ≡ Ok (Write ctl ends off count addr, 2)
    write_begins addr reads = rw (reads.opcode_is, reads.ctl_is, line.ends_is, line.off_is, line.count_is) refl

    pub skip_begins : Reads word 2 ctl → by_opcode (bits 28 4 word) word rest ≡ Ok (Skip ctl ends count, 1)
    skip_begins reads = rw (reads.opcode_is, reads.ctl_is, line.ends_is, line.count_is) refl

    pub write_c_begins : Reads word 5 ctl → by_opcode (bits 28 4 word) word rest ≡ Ok (WriteC ctl ends off count, 1)
    write_c_begins reads = rw (reads.opcode_is, reads.ctl_is, line.ends_is, line.off_is, line.count_is) refl

    module _ (second third : ℕ) (second_small : second < 4096) (third_small : third < 4096) where
      counts_read : three_counts word (counts_word second third) ≡ count ∷ second ∷ third ∷ []
      counts_read =
          let second_is : bits 0 12 (counts_word second third) ≡ second = omega arith
          in let third_is : bits 16 12 (counts_word second third) ≡ third = omega arith
          in rw (line.count_is, second_is, third_is) refl

      pub write_123_begins : (a b c : ℕ) → Reads word 9 ctl → by_opcode (bits 28 4 word) word (counts_word second third ∷ a ∷ b ∷ c ∷ rest)
          ≡ Ok (Write123 ctl ends off (count ∷ second ∷ third ∷ []) (a ∷ b ∷ c ∷ []), 5)
      write_123_begins a b c reads = rw (reads.opcode_is, reads.ctl_is, line.ends_is, line.off_is, counts_read) refl

      pub skip_123_begins : Reads word 10 ctl →
          by_opcode (bits 28 4 word) word (counts_word second third ∷ rest) ≡ Ok (Skip123 ctl ends (count ∷ second ∷ third ∷ []), 2)
      skip_123_begins reads = rw (reads.opcode_is, reads.ctl_is, line.ends_is, counts_read) refl

      pub write_1_s_23_begins : (a : ℕ) → Reads word 11 ctl → by_opcode (bits 28 4 word) word (counts_word second third ∷ a ∷ rest)
          ≡ Ok (Write1S23 ctl ends off (count ∷ second ∷ third ∷ []) a, 3)
      write_1_s_23_begins a reads = rw (reads.opcode_is, reads.ctl_is, line.ends_is, line.off_is, counts_read) refl

-- a list of three
pub record Three (numbers : List ℕ) : Type 0 where
  pub first : ℕ
  pub second : ℕ
  pub third : ℕ
  pub list_is : numbers ≡ first ∷ second ∷ third ∷ []

pub three_of : (numbers : List ℕ) → length numbers ≡ 3 → Three numbers
three_of [] h = absurd (omega arith)
three_of (a ∷ []) h = absurd (omega arith)
three_of (a ∷ b ∷ []) h = absurd (omega arith)
three_of (a ∷ b ∷ c ∷ []) h = record { first = a; second = b; third = c; list_is = refl }
three_of (a ∷ b ∷ c ∷ d ∷ rest) h = absurd (omega arith)

-- the parts of a test that an instruction fits
pub record FitsLine (ctl : Ctl) (off count : ℕ) : Type 0 where
  pub control : IsTrue (control_fits ctl)
  pub lanes : off < 16
  pub bytes : count < 4096

pub line_parts : (ctl : Ctl) (off count : ℕ) → IsTrue (control_fits ctl && nat_lt off 16 && nat_lt count 4096) → FitsLine ctl off count
line_parts ctl off count h =
    let most = and_parts (control_fits ctl && nat_lt off 16) (nat_lt count 4096) h
    in let control = and_parts (control_fits ctl) (nat_lt off 16) most.0
    in record { control = control.0; lanes = ltb-true off 16 control.1; bytes = ltb-true count 4096 most.1 }

pub record FitsThree (counts : List ℕ) (three : Three counts) : Type 0 where
  pub first_small : three.first < 4096
  pub second_small : three.second < 4096
  pub third_small : three.third < 4096

pub counts_parts : (counts : List ℕ) (three : Three counts) → IsTrue (counts_fit counts) → FitsThree counts three
counts_parts counts three h =
    let tests = rw three.list_is at h
    in let one = and_parts (nat_lt three.first 4096) (nat_lt three.second 4096 && (nat_lt three.third 4096 && true)) tests
    in let two = and_parts (nat_lt three.second 4096) (nat_lt three.third 4096 && true) one.1
    in let last = and_parts (nat_lt three.third 4096) true two.1
    in
    record {
      first_small = ltb-true three.first 4096 one.0;
      second_small = ltb-true three.second 4096 two.0;
      third_small = ltb-true three.third 4096 last.0;
    }

pub begins : (instr : Instr) → IsInstr instr → Begins instr
begins (Write ctl ends off count addr) is after =
    let f = line_parts ctl off count is.0
    in
    write_begins (data_word 1 ctl ends off count) ctl after ends off count
    (line_reads 1 ctl ends off count (omega arith) f.control f.lanes f.bytes) addr
    (data_reads 1 ctl ends off count (omega arith) f.control f.lanes f.bytes)
begins (Skip ctl ends count) is after =
    let parts = and_parts (control_fits ctl) (nat_lt count 4096) is.0
    in let bytes = ltb-true count 4096 parts.1
    in
    skip_begins
    (data_word 2 ctl ends 0 count) ctl after ends 0 count (line_reads 2 ctl ends 0 count (omega arith) parts.0 (omega arith) bytes)
    (data_reads 2 ctl ends 0 count (omega arith) parts.0 (omega arith) bytes)
begins (WriteC ctl ends off count) is after =
    let f = line_parts ctl off count is.0
    in
    write_c_begins
    (data_word 5 ctl ends off count) ctl after ends off count (line_reads 5 ctl ends off count (omega arith) f.control f.lanes f.bytes)
    (data_reads 5 ctl ends off count (omega arith) f.control f.lanes f.bytes)
begins (Jump ctl target) is after = jump_begins (head_word 7 ctl) ctl after target (head_reads 7 ctl (omega arith) is.0)
begins (Sync ctl resync code) is after =
    sync_begins (sync_word ctl resync code) ctl after resync code 0 (sync_reads ctl resync code is.0) (sync_resync ctl resync code is.0)
    (sync_code ctl resync code is.0)
begins (Write123 ctl ends off counts addrs) is after =
    let parts = and_parts (control_fits ctl && nat_lt off 16) (counts_fit counts) is.0
    in let control = and_parts (control_fits ctl) (nat_lt off 16) parts.0
    in let lanes = ltb-true off 16 control.1
    in let three = three_of counts is.1.0
    in let small = counts_parts counts three parts.1
    in let addresses = three_of addrs is.1.1
    in rw (three.list_is, addresses.list_is)
    (write_123_begins (data_word 9 ctl ends off three.first) ctl after ends off three.first
    (line_reads 9 ctl ends off three.first (omega arith) control.0 lanes small.first_small)
    three.second three.third small.second_small small.third_small addresses.first addresses.second addresses.third
    (data_reads 9 ctl ends off three.first (omega arith) control.0 lanes small.first_small))
begins (Skip123 ctl ends counts) is after =
    let parts = and_parts (control_fits ctl) (counts_fit counts) is.0
    in let three = three_of counts is.1
    in let small = counts_parts counts three parts.1
    in rw three.list_is
    (skip_123_begins (data_word 10 ctl ends 0 three.first) ctl after ends 0 three.first
    (line_reads 10 ctl ends 0 three.first (omega arith) parts.0 (omega arith) small.first_small)
    three.second three.third small.second_small small.third_small
    (data_reads 10 ctl ends 0 three.first (omega arith) parts.0 (omega arith) small.first_small))
begins (Write1S23 ctl ends off counts addr) is after =
    let parts = and_parts (control_fits ctl && nat_lt off 16) (counts_fit counts) is.0
    in let control = and_parts (control_fits ctl) (nat_lt off 16) parts.0
    in let lanes = ltb-true off 16 control.1
    in let three = three_of counts is.1
    in let small = counts_parts counts three parts.1
    in rw three.list_is
    (write_1_s_23_begins (data_word 11 ctl ends off three.first) ctl after ends off three.first
    (line_reads 11 ctl ends off three.first (omega arith) control.0 lanes small.first_small)
    three.second three.third small.second_small small.third_small addr
    (data_reads 11 ctl ends off three.first (omega arith) control.0 lanes small.first_small))

-- the law
pub reads_back : (instr : Instr) → IsInstr instr → IsReadBack instr
reads_back instr is before after = rw (append_assoc, drop-append_seam) (begins instr is after)
