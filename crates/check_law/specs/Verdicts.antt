-- What is reported of a field, and what it means: a field that is reported as shown is found so.
use Rattle.std.specs.Prelude.{◌≡◌, ℕ, true}
use Rattle.risc_word.specs.declared.Ctl.{Ctl}
use Rattle.pixel_layout.specs.declared.Parity.{Parity}
use Rattle.machine_model.specs.Paths.{RiscProgram, IsSound}
use Rattle.capture_desc.specs.declared.desc.Desc.{Desc}
use Rattle.picture_model.specs.Described.{IsDescription, describes}
use Rattle.picture_model.specs.Geometry.{IsFrame, IsValid}
use Rattle.picture_model.specs.Programs.{compiled}
use Rattle.check_model.specs.declared.Closing.{Closing}
use Rattle.check_model.specs.declared.Verdict.TheVariants.{Shown}
use Rattle.check_model.specs.Verdicts.{shows, verdict}
use Rattle.check_law.specs.Laws.{IsChecked}

abbrev pub SaidIsChecked : Type 0
SaidIsChecked = (program : RiscProgram) (d : Desc) (field : Parity) (begin end count : ℕ) (ends : Closing) →
    IsSound program → IsDescription d → IsFrame d → describes d.fields field ≡ true →
    verdict program d field ≡ Shown begin end count ends →
    (opening : Ctl) × IsChecked program d field (record { begin = begin; opening = opening; end = end; count = count })

-- the program of a valid description shows every field
abbrev pub CompiledIsShown : Type 0
CompiledIsShown = (d : Desc) → IsDescription d → IsValid d → shows (compiled d) d ≡ true
