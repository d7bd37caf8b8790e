use Rattle.picture_model.specs.Described.{memory_of}
use Rattle.picture_model.specs.Plans.{row_strip, skipped_strip, skipped_vbi_strip, vbi_strip}
use Rattle.picture_model.proofs.FaultlessGeometry.{IsFrame-IsRight}
use Rattle.picture_model.proofs.Safe.{cover_safely}
use Rattle.picture_model.proofs.Strips.{row-IsStrip, skipped-IsStrip, skipped_vbi-IsStrip, vbi-IsStrip}
use Rattle.picture_model.proofs.laws.cuts_cover_their_lines.Goals as goal

pub returns-clause-row : goal.returns-clause-row
returns-clause-row c = λ d row is frame below.
    let right = IsFrame-IsRight d is frame in
    cover_safely (memory_of d) (row_strip d row) right.aligned (row-IsStrip d row right below)

pub returns-clause-skipped : goal.returns-clause-skipped
returns-clause-skipped c = λ d is frame.
    let right = IsFrame-IsRight d is frame in cover_safely (memory_of d) (skipped_strip d) right.aligned (skipped-IsStrip d)

pub returns-clause-skipped_vbi : goal.returns-clause-skipped_vbi
returns-clause-skipped_vbi c = λ d is frame.
    let right = IsFrame-IsRight d is frame in cover_safely (memory_of d) (skipped_vbi_strip d) right.aligned (skipped_vbi-IsStrip d)

pub returns-clause-vbi : goal.returns-clause-vbi
returns-clause-vbi c = λ d field line is frame described below.
    let right = IsFrame-IsRight d is frame in
    cover_safely (memory_of d) (vbi_strip d field line) right.aligned (vbi-IsStrip d field line right described below)
