-- A space and a digit are no field of data.
use Rattle.std.proofs.Common.{◌≡◌, ℕ, ◌≤◌, ◌<◌, false, Bool, List, [], ◌∷◌, length, Some, None, refl, arith}
use Rattle.std.specs.Prelude.{◌==◌, codes, slice_index}
use Rattle.std.proofs.lemmas.Bool.{ne_eqb}
use Rattle.risc_word.specs.declared.Ctl.{Ctl}
use Rattle.risc_word.specs.declared.Ends.{Ends}
use Rattle.risc_text.specs.Readers.{Read, control, data_fields, flag, nibble, ◌>>=◌}
use Rattle.risc_text.proofs.Fields.{none_back}
use Rattle.risc_asm.specs.Fields.{control_and_off}

pub no_fields : (text : List ℕ) → 2 ≤ length text → slice_index text 0 ≡ 32 → 48 ≤ slice_index text 1 → slice_index text 1 < 58 →
    data_fields text ≡ Some ((record { irq = false; set = 0; reset = 0 }, record { sol = false; eol = false }, 0), text)
no_fields [] long space low high = absurd (omega arith)
no_fields (byte ∷ []) long space low high = absurd (omega arith)
no_fields (byte ∷ digit ∷ rest) long space low high = rw space (none_back digit rest low high)

no_bits : (d : ℕ) (rest : List ℕ) → 48 ≤ d → d < 58 →
    control_and_off (32 ∷ d ∷ rest) ≡ Some ((record { irq = false; set = 0; reset = 0 }, 0), 32 ∷ d ∷ rest)
unfolding control flag nibble
no_bits d rest low high =
    let i : (d == 105) ≡ false = ne_eqb d 105 (λ is. omega arith) in
    let s : (d == 115) ≡ false = ne_eqb d 115 (λ is. omega arith) in
    let r : (d == 114) ≡ false = ne_eqb d 114 (λ is. omega arith) in
    let o : (d == 111) ≡ false = ne_eqb d 111 (λ is. omega arith) in
    rw (i, s, r, o) refl

pub no_control_and_off : (text : List ℕ) → 2 ≤ length text → slice_index text 0 ≡ 32 → 48 ≤ slice_index text 1 → slice_index text 1 < 58 →
    control_and_off text ≡ Some ((record { irq = false; set = 0; reset = 0 }, 0), text)
no_control_and_off [] long space low high = absurd (omega arith)
no_control_and_off (byte ∷ []) long space low high = absurd (omega arith)
no_control_and_off (byte ∷ digit ∷ rest) long space low high = rw space (no_bits digit rest low high)

-- the fields of data are the ends of the line and then these bits
abbrev with_ends : Bool → Bool → Read (Ctl × ℕ) → Read (Ctl × Ends × ℕ)
with_ends sol eol read = read >>= (λ x. Some ((x.0.0, record { sol = sol; eol = eol }, x.0.1), x.1))

by_control : (sol eol : Bool) (read : Read Ctl) →
    (read >>= (λ ctl. nibble (codes " off=") ctl.1 >>= (λ off. Some ((ctl.0, record { sol = sol; eol = eol }, off.0), off.1))))
    ≡ with_ends sol eol (read >>= (λ ctl. nibble (codes " off=") ctl.1 >>= (λ off. Some ((ctl.0, off.0), off.1))))
by_control sol eol None = refl
by_control sol eol (Some ctl) = by_off (nibble (codes " off=") ctl.1)
  where
    by_off : (read : Read ℕ) → (read >>= (λ off. Some ((ctl.0, record { sol = sol; eol = eol }, off.0), off.1)))
        ≡ with_ends sol eol (read >>= (λ off. Some ((ctl.0, off.0), off.1)))
    by_off None = refl
    by_off (Some off) = refl

pub ends_and_bits : (text : List ℕ) → data_fields text ≡
    (let sol = flag (codes " sol") text in let eol = flag (codes " eol") sol.1 in with_ends sol.0 eol.0 (control_and_off eol.1))
unfolding data_fields
ends_and_bits text =
    let sol = flag (codes " sol") text in
    let eol = flag (codes " eol") sol.1 in
    by_control sol.0 eol.0 (control eol.1)
