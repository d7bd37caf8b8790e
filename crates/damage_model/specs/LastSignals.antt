-- The marks of a field's rows are those at its last signal.
use Rattle.std.specs.Prelude.{◌≡◌, ℕ, ◌+◌, List, take, Some}
use Rattle.pixel_layout.specs.declared.Parity.{Parity}
use Rattle.machine_model.specs.States.{State}
use Rattle.machine_model.specs.Steps.{Step}
use Rattle.capture_desc.specs.declared.desc.Desc.{Desc}
use Rattle.field_law.specs.Arrivals.{is_signal}
use Rattle.picture_law.specs.Sections.{section_of}
use Rattle.damage_model.specs.Marks.{answer, last_step}

-- where step k is a field's last signal, the answer for the field is the one right after it
abbrev pub AnswersStay : Type 0
AnswersStay =
    (d : Desc) (field : Parity) (m : State) (steps : List Step) (k : ℕ) → last_step (is_signal (section_of d field)) m steps ≡ Some k →
    answer d field m steps ≡ answer d field m (take (k + 1) steps)
