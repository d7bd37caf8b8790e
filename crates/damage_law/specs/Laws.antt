-- What is kept of a run from the first state of a description's program.
use Rattle.std.specs.Prelude.{◌≡◌, ◌↔◌, ℕ, true, All, List, None}
use Rattle.pixel_layout.specs.declared.Parity.{Parity}
use Rattle.machine_model.specs.Safety.{IsStep}
use Rattle.machine_model.specs.States.{first_state}
use Rattle.machine_model.specs.Steps.{Step}
use Rattle.capture_desc.specs.declared.desc.Desc.{Desc}
use Rattle.picture_model.specs.Described.{IsDescription, describes}
use Rattle.picture_model.specs.Geometry.{IsValid}
use Rattle.picture_model.specs.Programs.{compiled}
use Rattle.field_law.specs.Arrivals.{is_signal}
use Rattle.picture_law.specs.Sections.{section_of}
use Rattle.damage_model.specs.Marks.{answer, last_step}
use Rattle.machine_watch.specs.Watches.{watched, watching}
use Rattle.damage_map.specs.Maps.{Map, rows_of}
use Rattle.damage_map.specs.Tracks.{track_notes, untold}

abbrev pub map_after : Desc → ℕ → List Step → Map
map_after d fill steps = watched track_notes steps (watching (first_state (compiled d) fill) (untold d))

-- it keeps the marks of a field's rows that the definition states at the field's last signal
abbrev pub KeepsAnswers : Type 0
KeepsAnswers =
    (d : Desc) (field : Parity) (fill : ℕ) (steps : List Step) → IsDescription d → IsValid d → describes d.fields field ≡ true →
    All IsStep steps →
    rows_of field (map_after d fill steps) ≡ answer d field (first_state (compiled d) fill) steps

-- it keeps no marks of a field exactly where no step was a signal of it
abbrev pub TellsSignals : Type 0
TellsSignals =
    (d : Desc) (field : Parity) (fill : ℕ) (steps : List Step) → IsDescription d → IsValid d → describes d.fields field ≡ true →
    All IsStep steps →
    (rows_of field (map_after d fill steps) ≡ None)
    ↔ (last_step (is_signal (section_of d field)) (first_state (compiled d) fill) steps ≡ None)
