use Rattle.std.proofs.Common.{None, sym}
use Rattle.std.proofs.lemmas.Result.{err_from_is_err_and}
use Rattle.planar_plan.proofs.Faults.{at_areas, at_sizes}
use Rattle.planar_plan.proofs.frame.end_of.Goals as goal

pub returns-in_err-size_faults-clause-answer : goal.returns-in_err-size_faults-clause-answer
returns-in_err-size_faults-clause-answer c =
    let p = err_from_is_err_and c.from_residual.result c.from_residual.ensures.1 in
    rw (p.1, p.2) (at_sizes c.args.desc.now _ (sym c.in_err-size_faults.ensures.fault))

pub returns-in_err-area_faults-clause-answer : goal.returns-in_err-area_faults-clause-answer
returns-in_err-area_faults-clause-answer c =
    let p = err_from_is_err_and c.from_residual-in_err-area_faults.result c.from_residual-in_err-area_faults.ensures.1 in
    rw (p.1, p.2) (at_areas c.args.desc.now _ (sym c.in_ok-size_faults.ensures.fault) (sym c.in_err-area_faults.ensures.fault))

pub returns-clause-answer : goal.returns-clause-answer
returns-clause-answer c =
    at_areas c.args.desc.now None (sym c.in_ok-size_faults.ensures.fault) (sym c.in_ok-area_faults.ensures.fault)
