-- A front as most are is taken whole.
use Rattle.std.proofs.Common.{◌≡◌, ℕ, ◌-◌, ◌≤◌, Bool, true, false, refl, ap, arith, min, ◌==◌}
use Rattle.std.specs.Prelude.{nat_le}
use Rattle.std.proofs.lemmas.Bool.{and_parts}
use Rattle.sync_status.specs.declared.StatusKind.{StatusKind}
use Rattle.sync_status.specs.declared.StatusKind.TheVariants.{Pixels, Start, End, Control, Reserved}
use Rattle.sync_status.specs.declared.Verdict.TheVariants.{Take}
use Rattle.sync_status.specs.Statuses.{is_end, valid_lanes, verdict_on}
use Rattle.dma_machine.specs.WholeTakes.{takes_whole}

-- it has four bytes, none of which is taken, and they are asked for
pub record IsWhole (kind : StatusKind) (sol : Bool) (taken rest : ℕ) : Type 0 where
  pub verdict : verdict_on kind sol taken rest ≡ Take 4
  pub none : taken ≡ 0
  pub valid : valid_lanes kind ≡ 4
  pub asked : 4 ≤ rest
  pub no_end : is_end kind ≡ false

pub plain_whole : (kind : StatusKind) (sol : Bool) (taken rest : ℕ) → takes_whole kind sol taken rest ≡ true → IsWhole kind sol taken rest
plain_whole Pixels false taken rest e =
    let parts = and_parts (taken == 0) (nat_le 4 rest) e in
    let none : taken ≡ 0 = grind (arith, parts.0) in
    let asked : 4 ≤ rest = grind (arith, parts.1) in
    let four : min rest (4 - taken) ≡ 4 = omega arith in
    record { verdict = ap Take four; none = none; valid = refl; asked = asked; no_end = refl }
plain_whole Pixels true taken rest e = absurd cc
plain_whole Start sol taken rest e = absurd cc
plain_whole (End count) sol taken rest e = absurd cc
plain_whole (Control code) sol taken rest e = absurd cc
plain_whole Reserved sol taken rest e = absurd cc
