use Rattle.std.proofs.Common.{sym, ap, subst, arith}
use Rattle.std.proofs.lemmas.Option.{IfSome_then}
use Rattle.page_table.specs.Scattered.{ScatterList}
use Rattle.capture_desc.specs.declared.desc.Desc.{Desc}
use Rattle.picture_model.specs.Described.{IsDescription, memory_of}
use Rattle.picture_model.specs.Plans.{Strip, row_strip}
use Rattle.planar_plan.specs.Lines.{CanBeCut, strip_of}
use Rattle.planar_plan.specs.Stretches.{IsWhole}
use Rattle.picture_model.proofs.Limit.{row_spans_few}
use Rattle.planar_plan.proofs.Held.{again_right, is_right, row-AreWithin, row-CanBeCut, whole-again}
use Rattle.planar_plan.proofs.Stretching.{whole-pieces}
use Rattle.planar_plan.proofs.frame.Frame.whole_row.Goals as goal

pub of-requires : goal.of-requires
of-requires c =
    let d = c.self.inside.desc in
    let height = ap (λ (e : Desc). e.height) c.self.view_is in
    let right = is_right d c.self.invariant.scattered.framed (subst IsDescription (sym c.self.view_is) c.requires.description).clips in
    subst (λ (l : Strip). CanBeCut c.self.inside.scatter l) (sym c.row_line-line.ensures)
    (row-CanBeCut d c.self.inside.scatter c.args.row right (omega arith) c.self.invariant.scattered.list c.self.invariant.scattered.scatter)

pub returns-clause-whole : goal.returns-clause-whole
returns-clause-whole c =
    let d = c.self.inside.desc in
    let memory = ap (λ (s : ScatterList). s.chunks) c.self.invariant.scattered.scatter in
    IfSome_then c.of.result c.of.ensures.whole
    (λ w is.
    subst (λ (e : Desc). IsWhole (memory_of e) (row_strip e c.args.row) w) c.self.view_is
    (whole-again (memory_of d) c.self.inside.scatter.chunks (row_strip d c.args.row)
    (strip_of c.row_line-line.result) w memory c.row_line-line.ensures is))

pub returns-clause-within : goal.returns-clause-within
returns-clause-within c =
    let d = c.args.self.now in
    IfSome_then c.of.result (returns-clause-whole c)
    (λ w is. let grains = is.grains in row-AreWithin d c.args.row w.line.grains
    (again_right c.self.inside.desc d c.self.view_is c.self.invariant.scattered.framed c.requires.description) (omega arith))

pub returns-clause-plan : goal.returns-clause-plan
returns-clause-plan c =
    let d = c.args.self.now in
    IfSome_then c.of.result (returns-clause-whole c)
    (λ w is. whole-pieces (memory_of d) (row_strip d c.args.row) w (row_strip d c.args.row).spans is
    (row-AreWithin d c.args.row (row_strip d c.args.row).grains
    (again_right c.self.inside.desc d c.self.view_is c.self.invariant.scattered.framed c.requires.description) (omega arith)))

pub returns-clause-few : goal.returns-clause-few
returns-clause-few c =
    let d = c.args.self.now in
    row_spans_few d c.args.row c.requires.description
    (again_right c.self.inside.desc d c.self.view_is c.self.invariant.scattered.framed c.requires.description)
