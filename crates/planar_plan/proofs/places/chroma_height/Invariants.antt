use Rattle.std.proofs.Common.{◌≡◌, ◌≤◌, map}
use Rattle.std.specs.List.{range_with_len}
use Rattle.picture_model.specs.Described.{chroma_row_of, rows_for}
use Rattle.planar_plan.proofs.places.chroma_height.Given as goal

abbrev pub invariant-loop-row : goal.invariant-loop-row
invariant-loop-row l =
    (l.rows ≡ rows_for (map (chroma_row_of l.desc) (range_with_len 0 l.row))) × (l.rows ≤ l.row)
