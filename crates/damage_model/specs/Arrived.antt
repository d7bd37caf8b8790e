-- Where a field arrived, each of its rows is whole.
use Rattle.std.specs.Prelude.{◌≡◌, ℕ, ◌+◌, true, List, replicate, take, Some}
use Rattle.pixel_layout.specs.declared.Parity.{Parity}
use Rattle.machine_model.specs.States.{first_state}
use Rattle.machine_model.specs.Steps.{Step}
use Rattle.capture_desc.specs.declared.desc.Desc.{Desc}
use Rattle.picture_model.specs.Described.{field_height}
use Rattle.picture_model.specs.Programs.{compiled}
use Rattle.picture_law.specs.Pictures.{Picture}
use Rattle.picture_law.specs.Runs.{IsSignalled}
use Rattle.damage_model.specs.Marks.{answer}

-- over a run of a valid description's program from the first state: right after a signal at step k of a field of which a
-- picture arrived from place j on, every row of the field is whole
abbrev pub ArrivedRowsAreWhole : Type 0
ArrivedRowsAreWhole =
    (d : Desc) (field : Parity) (picture : Picture) (fill : ℕ) (steps : List Step) (j k : ℕ) → IsSignalled d field picture fill steps j k →
    answer d field (first_state (compiled d) fill) (take (k + 1) steps) ≡ Some (replicate (field_height d field) true)
