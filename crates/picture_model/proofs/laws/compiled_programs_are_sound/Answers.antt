use Rattle.picture_model.proofs.FaultlessGeometry.{IsFrame-IsRight}
use Rattle.picture_model.proofs.Sections.{compiled_sound}
use Rattle.picture_model.proofs.laws.compiled_programs_are_sound.Goals as goal

pub returns : goal.returns
returns c = λ d is frame. compiled_sound d (IsFrame-IsRight d is frame)
