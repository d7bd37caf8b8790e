use Rattle.picture_model.specs.Described.{memory_of}
use Rattle.picture_model.specs.Plans.{row_strip, skipped_strip, skipped_vbi_strip, vbi_strip}
use Rattle.picture_model.proofs.FaultlessGeometry.{IsFrame-IsRight}
use Rattle.picture_model.proofs.Strips.{plan_is, plan_only, row-IsStrip, skipped-IsStrip, skipped_vbi-IsStrip, vbi-IsStrip}
use Rattle.picture_model.proofs.laws.every_line_has_one_plan.Goals as goal

pub returns-clause-row : goal.returns-clause-row
returns-clause-row c = λ d row pieces is frame below.
    let strip = row-IsStrip d row (IsFrame-IsRight d is frame) below in
    (plan_only (memory_of d) (row_strip d row) pieces strip, plan_is (memory_of d) (row_strip d row) pieces strip)

pub returns-clause-skipped : goal.returns-clause-skipped
returns-clause-skipped c = λ d pieces. (
  plan_only (memory_of d) (skipped_strip d) pieces (skipped-IsStrip d),
  plan_is (memory_of d) (skipped_strip d) pieces (skipped-IsStrip d),
)

pub returns-clause-skipped_vbi : goal.returns-clause-skipped_vbi
returns-clause-skipped_vbi c = λ d pieces. (
  plan_only (memory_of d) (skipped_vbi_strip d) pieces (skipped_vbi-IsStrip d),
  plan_is (memory_of d) (skipped_vbi_strip d) pieces (skipped_vbi-IsStrip d),
)

pub returns-clause-vbi : goal.returns-clause-vbi
returns-clause-vbi c = λ d field line pieces is frame described below.
    let strip = vbi-IsStrip d field line (IsFrame-IsRight d is frame) described below in
    (plan_only (memory_of d) (vbi_strip d field line) pieces strip, plan_is (memory_of d) (vbi_strip d field line) pieces strip)
