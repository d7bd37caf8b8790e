-- Laws of the interrupt status register.
use Rattle.std.proofs.Common.{ℕ, ◌+◌, ◌-◌, ◌*◌, ◌/◌, ◌%◌, ◌^◌, ◌<◌, max, Bool, true, false, ◌==◌, ◌||◌, bit_and, bit_or, ◌≡◌, refl, sym, ap}
use Rattle.std.proofs.Common.{◌∙◌, arith}
use Rattle.std.proofs.lemmas.Nat.{and_mask, and_block, or_block, or_lt}
use Rattle.std.proofs.lemmas.Nat.Bits.{bit_at_and, bit_at_or, bit_at-lt, bit_at_cat_low, same_from_bits}
use Rattle.std.specs.Int.{bit_at}
use Rattle.std.specs.Int.Bits.{or_zero_r}
use Rattle.risc_word.specs.declared.Ctl.{Ctl}
use Rattle.irq_status.specs.Register.{IsKnown, acknowledged, applied, below_status, fdsr, has, has_ocerr, interrupts, irq_bit, ocerr}
use Rattle.irq_status.specs.Register.{raised, risc_status, risci, status_after}

-- ---- which bits there are

-- the bits of a mask are kept by `or` and by `and`
or_within : (m a b : ℕ) → bit_and a m ≡ a → bit_and b m ≡ b → bit_and (bit_or a b) m ≡ bit_or a b
or_within m a b ha hb =
    same_from_bits _ _ (λ i.
    let ea = sym (bit_at_and a m i) ∙ ap (λ x. bit_at x i) ha in
    let eb = sym (bit_at_and b m i) ∙ ap (λ x. bit_at x i) hb in
    omega (arith, ea, eb, bit_at_and (bit_or a b) m i, bit_at_or a b i))

and_within : (m a b : ℕ) → bit_and a m ≡ a → bit_and (bit_and a b) m ≡ bit_and a b
and_within m a b ha =
    same_from_bits _ _ (λ i.
    let ea = sym (bit_at_and a m i) ∙ ap (λ x. bit_at x i) ha in
    omega (arith, ea, bit_at_and (bit_and a b) m i, bit_at_and a b i))

pub IsKnown-raised : (register flags : ℕ) → IsKnown register → IsKnown flags → IsKnown (raised register flags)
IsKnown-raised register flags h k = or_within _ register flags h k

pub IsKnown-acknowledged : (register mask : ℕ) → IsKnown register → IsKnown (acknowledged register mask)
IsKnown-acknowledged register mask h = and_within _ register _ h

-- the RISC status is known, whatever it is
known_status : (s : ℕ) → s < 16 → IsKnown (s * 2 ^ 28)
known_status s h =
    let e : bit_and (s * 2 ^ 28 + 0) (15 * 2 ^ 28 + interrupts) ≡ bit_and s 15 * 2 ^ 28 + bit_and 0 interrupts =
    and_block 28 s 15 0 interrupts (omega arith) (omega arith) in
    let low : bit_and s 15 ≡ s % 2 ^ 4 = and_mask s 4 in
    let none : bit_and 0 interrupts ≡ 0 = refl in
    let whole : s * 2 ^ 28 + 0 ≡ s * 2 ^ 28 = omega arith in
    ap (λ x. bit_and x (15 * 2 ^ 28 + interrupts)) (sym whole) ∙ e ∙ omega (arith, low, none)

known_irq : (b : Bool) → IsKnown (irq_bit b)
known_irq true = refl
known_irq false = refl

small_irq : (b : Bool) → irq_bit b < 2 ^ 28
small_irq true = omega arith
small_irq false = omega arith

-- ---- control bits, as the register's code applies them

-- the register without the status bits of `reset` and with those of `set`
abbrev pub stated : ℕ → ℕ → ℕ → ℕ
stated register set reset = bit_or (bit_and register (2 ^ 32 - 1 - reset * 2 ^ 28)) (set * 2 ^ 28)

IsKnown-stated : (register set reset : ℕ) → IsKnown register → set < 16 → IsKnown (stated register set reset)
IsKnown-stated register set reset h s = or_within _ _ (set * 2 ^ 28) (and_within _ register _ h) (known_status set s)

stated_blocks : (register set reset : ℕ) → reset < 16 →
    stated register set reset ≡ status_after (risc_status register) set reset * 2 ^ 28 + below_status register
stated_blocks register set reset h =
    let high = register / 2 ^ 28 in
    let low = register % 2 ^ 28 in
    let parts : register ≡ high * 2 ^ 28 + low = omega arith in
    let mask : 2 ^ 32 - 1 - reset * 2 ^ 28 ≡ (15 - reset) * 2 ^ 28 + (2 ^ 28 - 1) = omega arith in
    let cleared : bit_and (high * 2 ^ 28 + low) ((15 - reset) * 2 ^ 28 + (2 ^ 28 - 1))
    ≡ bit_and high (15 - reset) * 2 ^ 28 + bit_and low (2 ^ 28 - 1) =
    and_block 28 high (15 - reset) low (2 ^ 28 - 1) (omega arith) (omega arith) in
    let kept : bit_and low (2 ^ 28 - 1) ≡ low = and_mask low 28 ∙ omega arith in
    let whole : set * 2 ^ 28 ≡ set * 2 ^ 28 + 0 = omega arith in
    let joined : bit_or (bit_and high (15 - reset) * 2 ^ 28 + low) (set * 2 ^ 28 + 0)
    ≡ bit_or (bit_and high (15 - reset)) set * 2 ^ 28 + bit_or low 0 =
    or_block 28 (bit_and high (15 - reset)) set low 0 (omega arith) (omega arith) in
    let none : bit_or low 0 ≡ low = or_zero_r low in
    let first : bit_and register (2 ^ 32 - 1 - reset * 2 ^ 28) ≡ bit_and high (15 - reset) * 2 ^ 28 + low =
    ap (λ x. bit_and x (2 ^ 32 - 1 - reset * 2 ^ 28)) parts ∙ ap (bit_and (high * 2 ^ 28 + low)) mask ∙ cleared
    ∙ ap (λ x. bit_and high (15 - reset) * 2 ^ 28 + x) kept in
    ap (λ x. bit_or x (set * 2 ^ 28)) first ∙ ap (bit_or (bit_and high (15 - reset) * 2 ^ 28 + low)) whole ∙ joined
    ∙ ap (λ x. bit_or (bit_and high (15 - reset)) set * 2 ^ 28 + x) none

applied_irq : (irq : Bool) (register set reset : ℕ) → reset < 16 →
    bit_or (stated register set reset) (irq_bit irq)
    ≡ status_after (risc_status register) set reset * 2 ^ 28 + bit_or (below_status register) (irq_bit irq)
applied_irq irq register set reset h =
    let status = status_after (risc_status register) set reset in
    let low = below_status register in
    let whole : irq_bit irq ≡ 0 * 2 ^ 28 + irq_bit irq = omega arith in
    let joined : bit_or (status * 2 ^ 28 + low) (0 * 2 ^ 28 + irq_bit irq) ≡ bit_or status 0 * 2 ^ 28 + bit_or low (irq_bit irq) =
    or_block 28 status 0 low (irq_bit irq) (omega arith) (small_irq irq) in
    ap (λ x. bit_or x (irq_bit irq)) (stated_blocks register set reset h) ∙ ap (bit_or (status * 2 ^ 28 + low)) whole ∙ joined
    ∙ ap (λ x. x * 2 ^ 28 + bit_or low (irq_bit irq)) (or_zero_r status)

applied_stated : (ctl : Ctl) (register : ℕ) → ctl.reset < 16 →
    bit_or (stated register ctl.set ctl.reset) (irq_bit ctl.irq) ≡ applied ctl register
applied_stated ctl register h = applied_irq ctl.irq register ctl.set ctl.reset h

-- the register by the calls on its flags: without the bits of `reset`, with those of `set`, with RISCI or not
pub applied_by : (ctl : Ctl) (irq : Bool) (register set reset removed inserted : ℕ) →
    ctl.set < 16 → ctl.reset < 16 → ctl.irq ≡ irq → set ≡ ctl.set → reset ≡ ctl.reset →
    removed ≡ bit_and register (2 ^ 32 - 1 - reset * 2 ^ 28 % 2 ^ 32) → inserted ≡ bit_or removed (set * 2 ^ 28 % 2 ^ 32) →
    bit_or inserted (irq_bit irq) ≡ applied ctl register
applied_by ctl irq register set reset removed inserted hs hr hi es er e f =
    let a : reset * 2 ^ 28 % 2 ^ 32 ≡ ctl.reset * 2 ^ 28 = omega arith in
    let b : set * 2 ^ 28 % 2 ^ 32 ≡ ctl.set * 2 ^ 28 = omega arith in
    let both : inserted ≡ stated register ctl.set ctl.reset =
    f ∙ ap (bit_or removed) b ∙ ap (λ x. bit_or x (ctl.set * 2 ^ 28)) (e ∙ ap (λ x. bit_and register (2 ^ 32 - 1 - x)) a) in
    ap (λ x. bit_or x (irq_bit irq)) both ∙ ap (λ x. bit_or (stated register ctl.set ctl.reset) (irq_bit x)) (sym hi)
    ∙ applied_stated ctl register hr

pub IsKnown-applied : (ctl : Ctl) (register : ℕ) → ctl.set < 16 → ctl.reset < 16 → IsKnown register → IsKnown (applied ctl register)
IsKnown-applied ctl register s r h =
    let known : IsKnown (bit_or (stated register ctl.set ctl.reset) (irq_bit ctl.irq)) =
    or_within _ _ (irq_bit ctl.irq) (IsKnown-stated register ctl.set ctl.reset h s) (known_irq ctl.irq) in
    rw (applied_stated ctl register r) at known

-- ---- the RISC status

pub risc_status-applied : (ctl : Ctl) (register : ℕ) →
    risc_status (applied ctl register) ≡ status_after (risc_status register) ctl.set ctl.reset
risc_status-applied ctl register = omega (arith, or_lt 28 (below_status register) (irq_bit ctl.irq) (omega arith) (small_irq ctl.irq))

-- ---- one bit

bit_at-applied : (ctl : Ctl) (register i : ℕ) → i < 28 →
    bit_at (applied ctl register) i ≡ max (bit_at register i) (bit_at (irq_bit ctl.irq) i)
bit_at-applied ctl register i h =
    let parts : register / 2 ^ 28 * 2 ^ 28 + register % 2 ^ 28 ≡ register = omega arith in
    let low : bit_at (register % 2 ^ 28) i ≡ bit_at register i =
    sym (bit_at_cat_low (register / 2 ^ 28) 28 (register % 2 ^ 28) i h) ∙ ap (λ x. bit_at x i) parts in
    bit_at_cat_low (status_after (risc_status register) ctl.set ctl.reset) 28 (bit_or (below_status register) (irq_bit ctl.irq)) i h
    ∙ bit_at_or (below_status register) (irq_bit ctl.irq) i ∙ ap (λ x. max x (bit_at (irq_bit ctl.irq) i)) low

other_irq : (irq : Bool) (i : ℕ) → bit_at risci i ≡ 0 → bit_at (irq_bit irq) i ≡ 0
other_irq true i h = h
other_irq false i h = omega arith

other_applied : (ctl : Ctl) (register i : ℕ) → i < 28 → bit_at risci i ≡ 0 → bit_at (applied ctl register) i ≡ bit_at register i
other_applied ctl register i h k = omega (arith, bit_at-applied ctl register i h, other_irq ctl.irq i k)

pub fdsr-applied : (ctl : Ctl) (register : ℕ) → has fdsr (applied ctl register) ≡ has fdsr register
fdsr-applied ctl register = ap (λ x. x == 1) (other_applied ctl register 14 (omega arith) refl)

pub ocerr-applied : (ctl : Ctl) (register : ℕ) → has_ocerr (applied ctl register) ≡ has_ocerr register
ocerr-applied ctl register = ap (λ x. x == 1) (other_applied ctl register 18 (omega arith) refl)

-- a flag that neither has, and one that was not there
zero_of : (n : ℕ) → n < 2 → (n == 1) ≡ false → n ≡ 0
zero_of n h e = grind arith

pub ocerr-raised : (register flags : ℕ) → has_ocerr register ≡ false → has_ocerr flags ≡ false → has_ocerr (raised register flags) ≡ false
ocerr-raised register flags h k =
    let a = zero_of (bit_at register 18) (bit_at-lt register 18) h in
    let b = zero_of (bit_at flags 18) (bit_at-lt flags 18) k in
    let none : bit_at (bit_or register flags) 18 ≡ 0 = omega (arith, a, b, bit_at_or register flags 18) in
    ap (λ x. x == 1) none

pub ocerr-acknowledged : (register mask : ℕ) → has_ocerr register ≡ false → has_ocerr (acknowledged register mask) ≡ false
ocerr-acknowledged register mask h =
    let a = zero_of (bit_at register 18) (bit_at-lt register 18) h in
    let none : bit_at (acknowledged register mask) 18 ≡ 0 =
    omega (arith, a, bit_at_and register (2 ^ 32 - 1 - bit_and mask interrupts) 18) in
    ap (λ x. x == 1) none

risci_or : (irq : Bool) (n : ℕ) → n < 2 → (max n (bit_at (irq_bit irq) 11) == 1) ≡ (irq || (n == 1))
risci_or true n h = let most : max n 1 ≡ 1 = omega arith in ap (λ x. x == 1) most
risci_or false n h = let same : max n 0 ≡ n = omega arith in ap (λ x. x == 1) same

pub risci-applied : (ctl : Ctl) (register : ℕ) → has risci (applied ctl register) ≡ (ctl.irq || has risci register)
risci-applied ctl register =
    ap (λ x. x == 1) (bit_at-applied ctl register 11 (omega arith)) ∙ risci_or ctl.irq (bit_at register 11) (bit_at-lt register 11)

-- a raised flag leaves the others
other_raised : (register flags i : ℕ) → bit_at flags i ≡ 0 → bit_at (raised register flags) i ≡ bit_at register i
other_raised register flags i h = omega (arith, h, bit_at_or register flags i)

pub fdsr-raised_ocerr : (register : ℕ) → has fdsr (raised register ocerr) ≡ has fdsr register
fdsr-raised_ocerr register = ap (λ x. x == 1) (other_raised register ocerr 14 refl)

-- a raised flag is set
pub fdsr-raised_fdsr : (register : ℕ) → has fdsr (raised register fdsr) ≡ true
fdsr-raised_fdsr register =
    let there : bit_at fdsr 14 ≡ 1 = refl in
    let one : bit_at (raised register fdsr) 14 ≡ 1 = omega (arith, there, bit_at_or register fdsr 14, bit_at-lt register 14) in
    ap (λ x. x == 1) one
