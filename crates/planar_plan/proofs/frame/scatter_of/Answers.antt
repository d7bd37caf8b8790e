use Rattle.std.proofs.Common.{arith, ◌≡◌, ℕ, ◌∙◌, None, Option, IfOk, sym, ap, subst}
use Rattle.std.proofs.lemmas.Result.{err_from_is_err_and}
use Rattle.page_table.specs.Scattered.{ScatterList, scatter_list}
use Rattle.picture_model.specs.declared.BuildFault.{BuildFault}
use Rattle.picture_model.specs.Described.{memory_of}
use Rattle.picture_model.specs.Geometry.{first_after, first_missing, frame_fault, page_faults, picture_faults}
use Rattle.planar_plan.specs.Frames.{Judges}
use Rattle.planar_plan.proofs.Faults.{at_memory, at_pages, at_picture, has_scatter, judges_err}
use Rattle.planar_plan.proofs.frame.scatter_of.Goals as goal

pub returns-in_err-end-clause-answer : goal.returns-in_err-end-clause-answer
returns-in_err-end-clause-answer c =
    let p = err_from_is_err_and c.from_residual.result c.from_residual.ensures.1 in
    let d = c.args.desc.now in
    rw (p.1, p.2) (judges_err ℕ ScatterList (first_after None picture_faults d) (frame_fault d) c.in_err-end.field-0.0
    (at_picture d) c.in_err-end.ensures.answer)

pub returns-in_err-page_faults-clause-answer : goal.returns-in_err-page_faults-clause-answer
returns-in_err-page_faults-clause-answer c =
    let p = err_from_is_err_and c.from_residual-in_err-page_faults.result c.from_residual-in_err-page_faults.ensures.1 in
    let d = c.args.desc.now in
    rw (p.1, p.2) (judges_err (Unit {0}) ScatterList (first_after None page_faults d) (frame_fault d) c.in_err-page_faults.field-0.0
    (λ fault. at_pages d fault c.in_ok-end.ensures.answer) c.in_err-page_faults.ensures.answer)

pub returns-clause-answer : goal.returns-clause-answer
returns-clause-answer c =
    let d = c.args.desc.now in
    let found : frame_fault d ≡ first_missing d.chunks d.pages c.in_ok-end.end =
    at_memory d c.in_ok-end.ensures.answer c.in_ok-page_faults.ensures.answer
    ∙ ap (first_missing d.chunks d.pages) (sym c.in_ok-end.ensures.end)
    in
    subst (λ (o : Option BuildFault). Judges o c.scatter.result) (sym found) c.scatter.ensures.answer

pub returns-clause-scatter : goal.returns-clause-scatter
returns-clause-scatter c =
    let d = c.args.desc.now in
    has_scatter d (frame_fault d) c.scatter.result
    (λ none. record { formed = c.requires; pages = c.page_faults.ensures.pages; skipped = omega arith; geometry = none })
    (returns-clause-answer c)
    (subst (λ (n : ℕ). IfOk c.scatter.result (λ s. s ≡ scatter_list (memory_of d) n)) c.in_ok-end.ensures.end c.scatter.ensures.list)
    c.scatter.ensures.sound
