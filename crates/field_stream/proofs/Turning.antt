-- The generator comes round: after 65,536 bytes it is at its first number again.
use Rattle.std.proofs.Common.{◌≡◌, ℕ, zero, suc, ◌+◌, ◌*◌, ◌%◌, ◌^◌, ◌<◌, List, sym, ap, ◌∙◌, arith, zero-add, suc-add, ⊎_elim, ◌≤◌}
use Rattle.std.specs.Prelude.{length, slice_index}
use Rattle.std.proofs.lemmas.Bool.{cases_lt}
use Rattle.std.proofs.lemmas.Nat.{mul-mod_first, mul-mod_second}
use Rattle.std.proofs.Math.Nat.{mul_assoc, pow-suc}
use Rattle.field_stream.specs.Generator.{IsDrawn, next, number_after}

pub number_after-add : (number i k : ℕ) → number_after number (i + k) ≡ number_after (number_after number i) k
number_after-add number zero k = ap (number_after number) (zero-add k)
number_after-add number (suc i) k = ap (number_after number) (suc-add i k) ∙ number_after-add (next number) i k

pub number_after-next : (number k : ℕ) → next (number_after number k) ≡ number_after number (k + 1)
number_after-next number k = sym (number_after-add number k 1)

number_after-below : (number k : ℕ) → number < 65537 → number_after number k < 65537
number_after-below number zero small = small
number_after-below number (suc k) small = number_after-below (next number) k (omega arith)

-- One above the number is multiplied by 75 at each byte, modulo the prime 65,537. After 2^k bytes it has
-- been multiplied by this.

abbrev squared : ℕ → ℕ
squared n = n * n % 65537

abbrev factor : ℕ → ℕ
factor zero = 75
factor (suc k) = squared (factor k)

grown : (k number : ℕ) → (number_after number (2 ^ k) + 1) % 65537 ≡ factor k * (number + 1) % 65537
grown zero number = omega arith
grown (suc k) number =
    let double : 2 ^ suc k ≡ 2 ^ k + 2 ^ k = omega (arith, pow-suc 2 k) in
    let half = number_after number (2 ^ k) in
    ap (λ (n : ℕ). (n + 1) % 65537) (ap (number_after number) double ∙ number_after-add number (2 ^ k) (2 ^ k))
    ∙ grown k half
    ∙ sym (mul-mod_second (factor k) (half + 1) 65537)
    ∙ ap (λ (n : ℕ). factor k * n % 65537) (grown k number)
    ∙ mul-mod_second (factor k) (factor k * (number + 1)) 65537
    ∙ ap (λ (n : ℕ). n % 65537) (sym (mul_assoc (factor k) (factor k) (number + 1)))
    ∙ sym (mul-mod_first (factor k * factor k) (number + 1) 65537)

same_number : (a b : ℕ) → a < 65537 → b < 65537 → (a + 1) % 65537 ≡ 1 * (b + 1) % 65537 → a ≡ b
same_number a b first second e = omega arith

come_round : (number : ℕ) → number < 65537 → number_after number (2 ^ 16) ≡ number
come_round number small =
    same_number (number_after number (2 ^ 16)) number (number_after-below number (2 ^ 16) small) small (grown 16 number)

-- a step from a place in a turn, which may end in the next
pub number_after-turn : (number at step : ℕ) → number < 65537 → at < 65536 → step ≤ 65536 →
    number_after number ((at + step) % 65536) ≡ number_after (number_after number at) step
number_after-turn number at step small inside few =
    ⊎_elim
    (λ below. ap (number_after number) (let same : (at + step) % 65536 ≡ at + step = omega (arith, below) in same)
    ∙ number_after-add number at step)
    (λ above.
    let rest = (at + step) % 65536 in
    let whole : 2 ^ 16 + rest ≡ at + step = omega (arith, above, inside, few) in
    sym (ap (λ (n : ℕ). number_after n rest) (come_round number small))
    ∙ sym (number_after-add number (2 ^ 16) rest)
    ∙ ap (number_after number) whole
    ∙ number_after-add number at step)
    (cases_lt (at + step) 65536)

-- a byte some places on
pub byte_at : (first at i k : ℕ) (bytes : List ℕ) → IsDrawn first bytes → at + i ≡ k → k < length bytes →
    slice_index bytes k ≡ number_after (number_after first at) (i + 1) % 256
byte_at first at i k bytes is place inside =
    is k inside
    ∙ ap (λ (n : ℕ). number_after first n % 256) (let same : k + 1 ≡ at + (i + 1) = omega (arith, place) in same)
    ∙ ap (λ (n : ℕ). n % 256) (number_after-add first at (i + 1))
