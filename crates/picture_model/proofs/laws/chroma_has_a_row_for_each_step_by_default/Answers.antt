use Rattle.std.proofs.Common.{◌∙◌, Bool, ap}
use Rattle.picture_model.specs.Described.{layout_of}
use Rattle.picture_model.proofs.Chroma.{chroma_height-default, default_rows}
use Rattle.picture_model.proofs.FaultlessGeometry.{IsFrame-IsRight}
use Rattle.picture_model.proofs.laws.chroma_has_a_row_for_each_step_by_default.Goals as goal

pub returns-clause-one : goal.returns-clause-one
returns-clause-one c = λ d is frame none planar single.
    chroma_height-default d none planar (IsFrame-IsRight d is frame).even
    ∙ ap (λ (two : Bool). default_rows (layout_of d).down two d.height) single

pub returns-clause-two : goal.returns-clause-two
returns-clause-two c = λ d is frame none planar twice.
    chroma_height-default d none planar (IsFrame-IsRight d is frame).even
    ∙ ap (λ (two : Bool). default_rows (layout_of d).down two d.height) twice
