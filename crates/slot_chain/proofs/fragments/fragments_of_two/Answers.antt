use Rattle.std.proofs.Common.{ap, arith}
use Rattle.std.proofs.lemmas.Result.{err_from_is_err_and}
use Rattle.capture_desc.specs.declared.desc.Desc.{Desc}
use Rattle.slot_chain.proofs.Behind.{long_1, long_2, long_3}
use Rattle.slot_chain.proofs.fragments.fragments_of_two.Goals as goal

pub returns-in_err-two-clause-long : goal.returns-in_err-two-clause-long
returns-in_err-two-clause-long c =
    let p = err_from_is_err_and c.from_residual-in_err-two.result c.from_residual-in_err-two.ensures.1 in
    let low = c.from.ensures in
    let slots = c.from-2.ensures in
    rw (p.1, p.2)
    (long_1 c.args.first.now c.args.second.now c.desc.result.now.base _ (ap (λ (d : Desc). d.base) c.desc.ensures.value)
    (omega arith) c.in_ok-one.one c.in_ok-one.ensures.part
    c.behind-at.result c.behind-at.ensures c.in_err-two.field-0.0 c.in_err-two.ensures.beyond)

pub returns-in_err-three-clause-long : goal.returns-in_err-three-clause-long
returns-in_err-three-clause-long c =
    let p = err_from_is_err_and c.from_residual-in_err-three.result c.from_residual-in_err-three.ensures.1 in
    let low = c.from.ensures in
    let slots = c.from-2.ensures in
    rw (p.1, p.2)
    (long_2 c.args.first.now c.args.second.now c.desc.result.now.base _ (ap (λ (d : Desc). d.base) c.desc.ensures.value)
    (omega arith) c.in_ok-one.one c.in_ok-one.ensures.part
    c.behind-at.result c.behind-at.ensures c.in_ok-two.two c.in_ok-two.ensures.part c.behind-at-2.result c.behind-at-2.ensures
    c.in_err-three.field-0.0 c.in_err-three.ensures.beyond)

pub returns-in_err-four-clause-long : goal.returns-in_err-four-clause-long
returns-in_err-four-clause-long c =
    let p = err_from_is_err_and c.from_residual-in_err-four.result c.from_residual-in_err-four.ensures.1 in
    let low = c.from.ensures in
    let slots = c.from-2.ensures in
    rw (p.1, p.2)
    (long_3 c.args.first.now c.args.second.now c.desc.result.now.base _ (ap (λ (d : Desc). d.base) c.desc.ensures.value)
    (omega arith) c.in_ok-one.one c.in_ok-one.ensures.part
    c.behind-at.result c.behind-at.ensures c.in_ok-two.two c.in_ok-two.ensures.part c.behind-at-2.result c.behind-at-2.ensures
    c.in_ok-three.three c.in_ok-three.ensures.part
    c.behind-at-3.result c.behind-at-3.ensures c.in_err-four.field-0.0 c.in_err-four.ensures.beyond)
