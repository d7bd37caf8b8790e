-- The interrupt status register INT_STAT: which bits it has, and what each write does to them.
use Rattle.std.specs.Prelude.{ℕ, ◌+◌, ◌-◌, ◌*◌, ◌/◌, ◌%◌, ◌^◌, Bool, true, false, ◌==◌, bit_and, bit_or, ◌≡◌}
use Rattle.risc_word.specs.declared.Ctl.{Ctl}

abbrev pub risci : ℕ
risci = 2 ^ 11

abbrev pub fbus : ℕ
fbus = 2 ^ 12

abbrev pub fdsr : ℕ
fdsr = 2 ^ 14

abbrev pub ocerr : ℕ
ocerr = 2 ^ 18

-- whether a register has one of these four
abbrev pub has : ℕ → ℕ → Bool
has flag register = register / flag % 2 == 1

abbrev pub has_ocerr : ℕ → Bool
has_ocerr register = has ocerr register

-- the bits that the host can clear
abbrev pub interrupts : ℕ
interrupts = risci + fbus + fdsr + ocerr

-- the RISC status, four bits, and what is below it
abbrev pub risc_status : ℕ → ℕ
risc_status register = register / 2 ^ 28

abbrev pub below_status : ℕ → ℕ
below_status register = register % 2 ^ 28

-- the register has no other bits
abbrev pub IsKnown : ℕ → Type 0
IsKnown register = bit_and register (15 * 2 ^ 28 + interrupts) ≡ register

abbrev pub raised : ℕ → ℕ → ℕ
raised register bits = bit_or register bits

-- the bits of `interrupts` that are 1 in the mask become 0
abbrev pub acknowledged : ℕ → ℕ → ℕ
acknowledged register mask = bit_and register (2 ^ 32 - 1 - bit_and mask interrupts)

-- the RISC status becomes (old and not reset) or set
abbrev pub status_after : ℕ → ℕ → ℕ → ℕ
status_after status set reset = bit_or (bit_and status (15 - reset)) set

abbrev pub irq_bit : Bool → ℕ
irq_bit true = risci
irq_bit false = 0

-- the register after control bits were applied
abbrev pub applied : Ctl → ℕ → ℕ
applied ctl register =
    status_after (risc_status register) ctl.set ctl.reset * 2 ^ 28
    + bit_or (below_status register) (irq_bit ctl.irq)
