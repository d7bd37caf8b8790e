-- A field of one part of a chain, whatever the other parts are.
use Rattle.std.specs.Prelude.{◌≡◌, ℕ, ◌≤◌, true, All, List}
use Rattle.pixel_layout.specs.declared.Parity.{Parity}
use Rattle.machine_model.specs.Steps.{Turn}
use Rattle.capture_desc.specs.declared.desc.Desc.{Desc}
use Rattle.damage_model.specs.Marks.{is_opening_at}
use Rattle.chain_model.specs.Chains.{Chain, IsChain, IsSoundChain}
use Rattle.chain_model.specs.Live.{IsLiveStep, LiveStep, Plain, first_live}
use Rattle.chain_law.specs.Pictures.{IsFirstSignal, section_in, step_at}
use Rattle.chain_damage.specs.Rows.{HoldsRows, IsPartField, begin_in, machine_of}

-- At place j a turn begins to wait in the opening of the field's section, and step k is the section's first signal behind it. At
-- all places from j to k the DMA controller is on. Any of the steps may be patches.
pub record IsSignalBehind (chain : Chain) (part : ℕ) (d : Desc) (field : Parity) (fill : ℕ) (steps : List LiveStep) (j k : ℕ) : Type 0 where
  pub turn : step_at steps j ≡ Plain Turn
  pub opened : is_opening_at (begin_in chain part d field) (machine_of chain fill steps j) Turn ≡ true
  pub signal : IsFirstSignal (section_in chain part d field) chain (first_live chain fill) steps j k
  pub on : (i : ℕ) → j ≤ i → i ≤ k → (machine_of chain fill steps i).risc_on ≡ true

-- in every sound chain, whatever its other parts are
abbrev pub SectionsHoldWholeRows : Type 0
SectionsHoldWholeRows =
    (chain : Chain) (fill : ℕ) (steps : List LiveStep) → IsChain chain → IsSoundChain chain → All (IsLiveStep chain) steps →
    (part : ℕ) (d : Desc) (field : Parity) (j k : ℕ) → IsPartField chain part d field →
    IsSignalBehind chain part d field fill steps j k → HoldsRows chain part d field fill steps j k
