use Rattle.picture_model.proofs.FaultlessGeometry.{IsFrame-IsRight}
use Rattle.picture_model.proofs.Spans.{row_runs}
use Rattle.picture_model.proofs.laws.rows_are_cut_by_segments.Goals as goal

pub returns : goal.returns
returns c = λ d row is frame. row_runs d row (IsFrame-IsRight d is frame)
