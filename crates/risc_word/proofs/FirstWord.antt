-- The fields that are read from a first word are those that it was made of.
use Rattle.std.proofs.Common.{ℕ, ◌+◌, ◌*◌, ◌/◌, ◌^◌, ◌≡◌, ◌≤◌, ◌<◌, Bool, true, false, refl, arith}
use Rattle.std.proofs.lemmas.Bool.{and_parts, ltb-true}
use Rattle.std.specs.Prelude.{IsTrue, ◌==◌, nat_lt}
use Rattle.risc_word.specs.declared.Code.{Code}
use Rattle.risc_word.specs.declared.Code.TheVariants.{Vre, Vro, Fm1, Fm3}
use Rattle.bit_field.specs.Bits.{bits}
use Rattle.risc_word.specs.declared.Ctl.{Ctl}
use Rattle.risc_word.specs.declared.Ends.{Ends}
use Rattle.risc_word.specs.Words.{control_bits, control_fits, data_word, flag, head_word, line_ends, lanes_off, first_count, sync_word}
use Rattle.risc_word.specs.Words.{code_number}

abbrev pub bit_of : Bool → ℕ
bit_of true = 1
bit_of false = 0

pub bit_small : (b : Bool) → bit_of b ≤ 1
bit_small true = omega arith
bit_small false = omega arith

pub bit_test : (b : Bool) → (bit_of b == 1) ≡ b
bit_test true = refl
bit_test false = refl

pub flag_bit : (place : ℕ) (b : Bool) → flag place b ≡ bit_of b * 2 ^ place
flag_bit place true = omega arith
flag_bit place false = omega arith

-- a first word by its fields
abbrev pub word_of : ℕ → ℕ → ℕ → ℕ → ℕ → ℕ → ℕ → ℕ → ℕ
word_of opcode sol eol irq reset set off count =
    opcode * 2 ^ 28 + sol * 2 ^ 27 + eol * 2 ^ 26 + irq * 2 ^ 24 + reset * 2 ^ 20 + set * 2 ^ 16 + off * 2 ^ 12 + count

pub record Small (opcode sol eol irq reset set off count : ℕ) : Type 0 where
  pub opcode_small : opcode < 16
  pub sol_small : sol ≤ 1
  pub eol_small : eol ≤ 1
  pub irq_small : irq ≤ 1
  pub reset_small : reset < 16
  pub set_small : set < 16
  pub off_small : off < 16
  pub count_small : count < 4096

module _ (opcode sol eol irq reset set off count : ℕ) (small : Small opcode sol eol irq reset set off count) where
  pub opcode_read : bits 28 4 (word_of opcode sol eol irq reset set off count) ≡ opcode
  opcode_read = omega arith

  pub sol_read : bits 27 1 (word_of opcode sol eol irq reset set off count) ≡ sol
  sol_read = omega arith

  pub eol_read : bits 26 1 (word_of opcode sol eol irq reset set off count) ≡ eol
  eol_read = omega arith

  pub irq_read : bits 24 1 (word_of opcode sol eol irq reset set off count) ≡ irq
  irq_read = omega arith

  pub reset_read : bits 20 4 (word_of opcode sol eol irq reset set off count) ≡ reset
  reset_read = omega arith

  pub set_read : bits 16 4 (word_of opcode sol eol irq reset set off count) ≡ set
  set_read = omega arith

  pub off_read : bits 12 4 (word_of opcode sol eol irq reset set off count) ≡ off
  off_read = omega arith

  pub count_read : bits 0 12 (word_of opcode sol eol irq reset set off count) ≡ count
  count_read = omega arith

  pub resync_read : bits 15 1 (word_of opcode sol eol irq reset set off count) ≡ off / 8
  resync_read = omega arith

  pub code_read : count < 16 → bits 0 4 (word_of opcode sol eol irq reset set off count) ≡ count
  code_read h = omega arith

-- what is read of a first word
pub record Reads (word opcode : ℕ) (ctl : Ctl) : Type 0 where
  pub opcode_is : bits 28 4 word ≡ opcode
  pub ctl_is : control_bits word ≡ ctl

pub record ReadsLine (word : ℕ) (ends : Ends) (off count : ℕ) : Type 0 where
  pub ends_is : line_ends word ≡ ends
  pub off_is : lanes_off word ≡ off
  pub count_is : first_count word ≡ count

pub control_parts : (ctl : Ctl) → IsTrue (control_fits ctl) → (ctl.set < 16) × (ctl.reset < 16)
control_parts ctl h =
    let parts = and_parts (nat_lt ctl.set 16) (nat_lt ctl.reset 16) h
    in (ltb-true ctl.set 16 parts.0, ltb-true ctl.reset 16 parts.1)

pub small_word : (opcode : ℕ) (ctl : Ctl) (sol eol : Bool) (off count : ℕ) → opcode < 16 → IsTrue (control_fits ctl) → off < 16 →
    count < 4096 → Small opcode (bit_of sol) (bit_of eol) (bit_of ctl.irq) ctl.reset ctl.set off count
small_word opcode ctl sol eol off count opcode_small fits off_small count_small =
    let parts = control_parts ctl fits
    in
    record {
      opcode_small = opcode_small;
      sol_small = bit_small sol;
      eol_small = bit_small eol;
      irq_small = bit_small ctl.irq;
      reset_small = parts.1;
      set_small = parts.0;
      off_small = off_small;
      count_small = count_small;
    }

-- the control bits of a word that is made of its fields
pub control_read : (opcode sol eol : ℕ) (ctl : Ctl) (off count : ℕ) → Small opcode sol eol (bit_of ctl.irq) ctl.reset ctl.set off count →
    Reads (word_of opcode sol eol (bit_of ctl.irq) ctl.reset ctl.set off count) opcode ctl
control_read opcode sol eol ctl off count small = record {
  opcode_is = opcode_read opcode sol eol (bit_of ctl.irq) ctl.reset ctl.set off count small;
  ctl_is = rw (
    irq_read opcode sol eol (bit_of ctl.irq) ctl.reset ctl.set off count small,
    reset_read opcode sol eol (bit_of ctl.irq) ctl.reset ctl.set off count small,
    set_read opcode sol eol (bit_of ctl.irq) ctl.reset ctl.set off count small,
    bit_test ctl.irq,
  ) refl;
}

pub data_word_of : (opcode : ℕ) (ctl : Ctl) (ends : Ends) (off count : ℕ) →
    data_word opcode ctl ends off count ≡ word_of opcode (bit_of ends.sol) (bit_of ends.eol) (bit_of ctl.irq) ctl.reset ctl.set off count
data_word_of opcode ctl ends off count =
    omega (arith, flag_bit 27 ends.sol, flag_bit 26 ends.eol, flag_bit 24 ctl.irq)

pub head_word_of : (opcode : ℕ) (ctl : Ctl) → head_word opcode ctl ≡ word_of opcode 0 0 (bit_of ctl.irq) ctl.reset ctl.set 0 0
head_word_of opcode ctl = omega (arith, flag_bit 24 ctl.irq)

pub sync_word_of : (ctl : Ctl) (resync : Bool) (code : Code) →
    sync_word ctl resync code ≡ word_of 8 0 0 (bit_of ctl.irq) ctl.reset ctl.set (8 * bit_of resync) (code_number code)
sync_word_of ctl resync code = omega (arith, flag_bit 15 resync, flag_bit 24 ctl.irq)

pub head_reads : (opcode : ℕ) (ctl : Ctl) → opcode < 16 → IsTrue (control_fits ctl) → Reads (head_word opcode ctl) opcode ctl
head_reads opcode ctl opcode_small fits =
    rw (head_word_of opcode ctl)
    (control_read opcode 0 0 ctl 0 0 (small_word opcode ctl false false 0 0 opcode_small fits (omega arith) (omega arith)))

module _ (opcode : ℕ) (ctl : Ctl) (ends : Ends) (off count : ℕ) (opcode_small : opcode < 16) (fits : IsTrue (control_fits ctl))
    (off_small : off < 16) (count_small : count < 4096) where
  pub data_small : Small opcode (bit_of ends.sol) (bit_of ends.eol) (bit_of ctl.irq) ctl.reset ctl.set off count
  data_small = small_word opcode ctl ends.sol ends.eol off count opcode_small fits off_small count_small

  pub data_reads : Reads (data_word opcode ctl ends off count) opcode ctl
  data_reads =
      rw (data_word_of opcode ctl ends off count) (control_read opcode (bit_of ends.sol) (bit_of ends.eol) ctl off count data_small)

  pub line_reads : ReadsLine (data_word opcode ctl ends off count) ends off count
  line_reads = rw (data_word_of opcode ctl ends off count) (record {
    ends_is = rw (
      sol_read opcode (bit_of ends.sol) (bit_of ends.eol) (bit_of ctl.irq) ctl.reset ctl.set off count data_small,
      eol_read opcode (bit_of ends.sol) (bit_of ends.eol) (bit_of ctl.irq) ctl.reset ctl.set off count data_small,
      bit_test ends.sol,
      bit_test ends.eol,
    ) refl;
    off_is = off_read opcode (bit_of ends.sol) (bit_of ends.eol) (bit_of ctl.irq) ctl.reset ctl.set off count data_small;
    count_is = count_read opcode (bit_of ends.sol) (bit_of ends.eol) (bit_of ctl.irq) ctl.reset ctl.set off count data_small;
  })

module _ (ctl : Ctl) (resync : Bool) (code : Code) (fits : IsTrue (control_fits ctl)) where
  pub code_small : code_number code < 16
  code_small = elim code as (λ c. code_number c < 16) [ Vre ↦ omega arith | Vro ↦ omega arith | Fm1 ↦ omega arith | Fm3 ↦ omega arith ]

  pub sync_small : Small 8 0 0 (bit_of ctl.irq) ctl.reset ctl.set (8 * bit_of resync) (code_number code)
  sync_small =
      small_word 8 ctl false false (8 * bit_of resync) (code_number code) (omega arith) fits (omega (arith, bit_small resync))
      (omega (arith, code_small))

  pub sync_reads : Reads (sync_word ctl resync code) 8 ctl
  sync_reads = rw (sync_word_of ctl resync code) (control_read 8 0 0 ctl (8 * bit_of resync) (code_number code) sync_small)

  pub sync_resync : bits 15 1 (sync_word ctl resync code) ≡ bit_of resync
  sync_resync = rw (
    sync_word_of ctl resync code,
    resync_read 8 0 0 (bit_of ctl.irq) ctl.reset ctl.set (8 * bit_of resync) (code_number code) sync_small,
  ) (omega arith)

  pub sync_code : bits 0 4 (sync_word ctl resync code) ≡ code_number code
  sync_code =
      rw (sync_word_of ctl resync code)
      (code_read 8 0 0 (bit_of ctl.irq) ctl.reset ctl.set (8 * bit_of resync) (code_number code) sync_small code_small)
