use Rattle.std.proofs.Common.{◌∙◌, Ok, Err, subst, arith}
use Rattle.page_table.specs.Taken.{Answers, taken_chunks}
use Rattle.page_table.specs.declared.PageFault.{PageFault}
use Rattle.page_table.specs.declared.PageFault.TheVariants.{TooMany, Twice, Unaligned}
use Rattle.slot_chain.proofs.Reasons.{many_fault, shared_fault}
use Rattle.slot_chain.proofs.Together.{is_taken, shared_is, small}
use Rattle.slot_chain.proofs.memory.grants_of_both.Goals as goal

pub overflow_cast-result : goal.overflow_cast-result
overflow_cast-result c =
    let low =
    small
    c.args.first.now c.args.second.now c.desc.result.now c.desc-2.result.now c.desc.ensures.framed c.desc-2.ensures.framed
    c.desc.ensures.value c.desc-2.ensures.value
    c.in_ok-both.both.items c.in_ok-later.later.items c.deref.result.now c.deref-2.result.now c.in_ok-both.ensures c.in_ok-later.ensures
    c.deref.ensures.value c.deref-2.ensures.value
    c.first_shared.result c.first_shared.ensures.found
    c.in-Some.number c.in-Some.ensures.within in omega arith

pub returns-in-Some-clause-refused : goal.returns-in-Some-clause-refused
returns-in-Some-clause-refused c =
    shared_fault c.args.first.now c.args.second.now c.in-Some.number
    (shared_is
    c.args.first.now c.args.second.now c.desc.result.now c.desc-2.result.now c.desc.ensures.framed c.desc-2.ensures.framed
    c.desc.ensures.value c.desc-2.ensures.value
    c.in_ok-both.both.items c.in_ok-later.later.items c.deref.result.now c.deref-2.result.now c.in_ok-both.ensures c.in_ok-later.ensures
    c.deref.ensures.value c.deref-2.ensures.value
    c.first_shared.result c.first_shared.ensures.found
    ∙ c.in-Some.is)

pub returns-in-Ok-clause-apart : goal.returns-in-Ok-clause-apart
returns-in-Ok-clause-apart c =
    shared_is
    c.args.first.now c.args.second.now c.desc.result.now c.desc-2.result.now c.desc.ensures.framed c.desc-2.ensures.framed
    c.desc.ensures.value c.desc-2.ensures.value
    c.in_ok-both.both.items c.in_ok-later.later.items c.deref.result.now c.deref-2.result.now c.in_ok-both.ensures c.in_ok-later.ensures
    c.deref.ensures.value c.deref-2.ensures.value
    c.first_shared.result c.first_shared.ensures.found
    ∙ c.in_default.is

pub returns-in-Ok-clause-few : goal.returns-in-Ok-clause-few
returns-in-Ok-clause-few c =
    (is_taken
    c.args.first.now c.args.second.now c.desc.result.now c.desc-2.result.now c.desc.ensures.framed c.desc-2.ensures.framed
    c.desc.ensures.value c.desc-2.ensures.value
    c.in_ok-both.both.items c.in_ok-later.later.items c.deref.result.now c.deref-2.result.now c.in_ok-both.ensures c.in_ok-later.ensures
    c.deref.ensures.value c.deref-2.ensures.value
    c.first_shared.result c.first_shared.ensures.found
    c.in_default.is c.deref-3.result.now c.extend_from_slice.new.self.items c.deref-4.result.now c.deref-3.ensures.value
    c.in_ok-extend_from_slice.ensures.items c.deref-4.ensures.value
    (Ok c.in-Ok.grants) c.in-Ok.ensures.answer).0

pub returns-in-Ok-clause-granted : goal.returns-in-Ok-clause-granted
returns-in-Ok-clause-granted c =
    (is_taken
    c.args.first.now c.args.second.now c.desc.result.now c.desc-2.result.now c.desc.ensures.framed c.desc-2.ensures.framed
    c.desc.ensures.value c.desc-2.ensures.value
    c.in_ok-both.both.items c.in_ok-later.later.items c.deref.result.now c.deref-2.result.now c.in_ok-both.ensures c.in_ok-later.ensures
    c.deref.ensures.value c.deref-2.ensures.value
    c.first_shared.result c.first_shared.ensures.found
    c.in_default.is c.deref-3.result.now c.extend_from_slice.new.self.items c.deref-4.result.now c.deref-3.ensures.value
    c.in_ok-extend_from_slice.ensures.items c.deref-4.ensures.value
    (Ok c.in-Ok.grants) c.in-Ok.ensures.answer).1

pub returns-in-Err-TooMany-clause-refused : goal.returns-in-Err-TooMany-clause-refused
returns-in-Err-TooMany-clause-refused c =
    many_fault c.args.first.now c.args.second.now
    (shared_is
    c.args.first.now c.args.second.now c.desc.result.now c.desc-2.result.now c.desc.ensures.framed c.desc-2.ensures.framed
    c.desc.ensures.value c.desc-2.ensures.value
    c.in_ok-both.both.items c.in_ok-later.later.items c.deref.result.now c.deref-2.result.now c.in_ok-both.ensures c.in_ok-later.ensures
    c.deref.ensures.value c.deref-2.ensures.value
    c.first_shared.result c.first_shared.ensures.found
    ∙ c.in_default.is)
    (is_taken
    c.args.first.now c.args.second.now c.desc.result.now c.desc-2.result.now c.desc.ensures.framed c.desc-2.ensures.framed
    c.desc.ensures.value c.desc-2.ensures.value
    c.in_ok-both.both.items c.in_ok-later.later.items c.deref.result.now c.deref-2.result.now c.in_ok-both.ensures c.in_ok-later.ensures
    c.deref.ensures.value c.deref-2.ensures.value
    c.first_shared.result c.first_shared.ensures.found
    c.in_default.is c.deref-3.result.now c.extend_from_slice.new.self.items c.deref-4.result.now c.deref-3.ensures.value
    c.in_ok-extend_from_slice.ensures.items c.deref-4.ensures.value
    (Err TooMany) (subst (λ (fault : PageFault). Answers (taken_chunks c.deref-4.result.now) (Err fault)) c.in-Err-TooMany.field-0-is
    c.in-Err-TooMany.ensures.answer))

pub unreachable-requires : goal.unreachable-requires
unreachable-requires c =
    is_taken
    c.args.first.now c.args.second.now c.desc.result.now c.desc-2.result.now c.desc.ensures.framed c.desc-2.ensures.framed
    c.desc.ensures.value c.desc-2.ensures.value
    c.in_ok-both.both.items c.in_ok-later.later.items c.deref.result.now c.deref-2.result.now c.in_ok-both.ensures c.in_ok-later.ensures
    c.deref.ensures.value c.deref-2.ensures.value
    c.first_shared.result c.first_shared.ensures.found
    c.in_default.is c.deref-3.result.now c.extend_from_slice.new.self.items c.deref-4.result.now c.deref-3.ensures.value
    c.in_ok-extend_from_slice.ensures.items c.deref-4.ensures.value
    (Err (Unaligned c.in-Err-Unaligned.field-0-0)) (subst (λ (fault : PageFault). Answers (taken_chunks c.deref-4.result.now) (Err fault))
    c.in-Err-Unaligned.field-0-is c.in-Err-Unaligned.ensures.answer)

pub unreachable-requires-in-Err-Twice : goal.unreachable-requires-in-Err-Twice
unreachable-requires-in-Err-Twice c =
    is_taken
    c.args.first.now c.args.second.now c.desc.result.now c.desc-2.result.now c.desc.ensures.framed c.desc-2.ensures.framed
    c.desc.ensures.value c.desc-2.ensures.value
    c.in_ok-both.both.items c.in_ok-later.later.items c.deref.result.now c.deref-2.result.now c.in_ok-both.ensures c.in_ok-later.ensures
    c.deref.ensures.value c.deref-2.ensures.value
    c.first_shared.result c.first_shared.ensures.found
    c.in_default.is c.deref-3.result.now c.extend_from_slice.new.self.items c.deref-4.result.now c.deref-3.ensures.value
    c.in_ok-extend_from_slice.ensures.items c.deref-4.ensures.value
    (Err (Twice c.in-Err-Twice.field-0-0)) (subst (λ (fault : PageFault). Answers (taken_chunks c.deref-4.result.now) (Err fault))
    c.in-Err-Twice.field-0-is c.in-Err-Twice.ensures.answer)
