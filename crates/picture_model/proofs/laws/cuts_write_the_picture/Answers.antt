use Rattle.picture_model.proofs.FaultlessGeometry.{IsFrame-IsRight}
use Rattle.picture_model.proofs.Rows.{row_cuts_are, vbi_cuts_are}
use Rattle.picture_model.proofs.laws.cuts_write_the_picture.Goals as goal

pub returns-clause-row : goal.returns-clause-row
returns-clause-row c = λ d row is frame. row_cuts_are d row (IsFrame-IsRight d is frame)

pub returns-clause-vbi : goal.returns-clause-vbi
returns-clause-vbi c = λ d field line is frame. vbi_cuts_are d field line (IsFrame-IsRight d is frame)
