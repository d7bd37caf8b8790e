-- The worked chain meets the premises of the law, with a patch while its part runs.
use Rattle.std.proofs.Common.{◌≡◌, ℕ, zero, suc, ◌-◌, ◌≤◌, true, List, [], ◌∷◌, length, take, take-take, drop, refl, sym}
use Rattle.std.proofs.Common.{ap, ◌∙◌, arith}
use Rattle.pixel_layout.specs.declared.Parity.TheVariants.{Top}
use Rattle.picture_model.specs.Worked.{smallest}
use Rattle.chain_model.specs.Chains.{Chain}
use Rattle.chain_model.specs.Live.{Live, LiveStep, first_live, live_at, live_run, live_step}
use Rattle.chain_law.specs.Pictures.{between, live_of}
use Rattle.chain_law.specs.Worked.{steps, two_slots}
use Rattle.chain_law.proofs.Meets.{live_between}
use Rattle.chain_law.proofs.Worked.{fragment_0, grants_first}
use Rattle.chain_damage.specs.Rows.{IsPartField, IsSignalAt, machine_of}
use Rattle.chain_damage.specs.Behind.{IsSignalBehind}

pub field_there : IsPartField two_slots 0 smallest Top
field_there = record { is_part = omega arith; fragment = fragment_0; granted = λ address is. grants_first address is; described = refl }

-- the DMA controller is on before each of some steps, and after them
abbrev IsOnOver : Chain → Live → List LiveStep → Type 0
IsOnOver chain live [] = live.machine.risc_on ≡ true
IsOnOver chain live (s ∷ steps) = (live.machine.risc_on ≡ true) × IsOnOver chain (live_step chain s live) steps

on_at : (chain : Chain) (live : Live) (steps : List LiveStep) (n : ℕ) → n ≤ length steps → IsOnOver chain live steps →
    (live_at chain live steps n).machine.risc_on ≡ true
on_at chain live [] zero few on = on
on_at chain live [] (suc n) few on = absurd (omega arith)
on_at chain live (s ∷ steps) zero few on = on.0
on_at chain live (s ∷ steps) (suc n) few on = on_at chain (live_step chain s live) steps n (omega arith) on.1

on_there : IsOnOver two_slots (live_of two_slots 0 steps 6) (between 6 19 steps)
on_there = (refl, (refl, (refl, (refl, (refl, (refl, (refl, (refl, (refl, (refl, (refl, (refl, (refl, refl)))))))))))))

stays_on : (i : ℕ) → 6 ≤ i → i ≤ 19 → (machine_of two_slots 0 steps i).risc_on ≡ true
stays_on i from to =
    let long : length (between 6 19 steps) ≡ 13 = refl in
    ap (λ (l : Live). l.machine.risc_on) (sym (live_between two_slots (first_live two_slots 0) steps 6 i from))
    ∙ ap (λ (some : List LiveStep). (live_run two_slots (live_of two_slots 0 steps 6) some).machine.risc_on)
    (sym (fewer (i - 6) (omega arith)))
    ∙ on_at two_slots (live_of two_slots 0 steps 6) (between 6 19 steps) (i - 6) (omega arith) on_there
  where
    fewer : (n : ℕ) → n ≤ 13 → take n (take 13 (drop 6 steps)) ≡ take n (drop 6 steps)
    fewer n few = take-take n 13 (drop 6 steps) few

pub signal_there : IsSignalAt two_slots 0 smallest Top 0 steps 19
signal_there = record { there = omega arith; turn = refl; signal = refl }

pub signal_behind : IsSignalBehind two_slots 0 smallest Top 0 steps 6 19
signal_behind =
    record {
      turn = refl;
      opened = refl;
      signal = record { later = omega arith; there = omega arith; turn = refl; signal = refl; silent = refl };
      on = stays_on;
    }
