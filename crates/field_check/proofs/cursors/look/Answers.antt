use Rattle.std.proofs.Common.{◌∙◌, ◌+◌, ◌-◌, ◌*◌, ℕ, sym, ap, arith}
use Rattle.field_check.specs.Cursors.{asks_from}
use Rattle.field_check.proofs.Parts.{next_is, none_left, passed_is, room_is, unread_left}
use Rattle.field_check.proofs.cursors.look.Goals as goal

pub returns-in_default-clause-next : goal.returns-in_default-clause-next
returns-in_default-clause-next c =
    unread_left c.args.plan.now c.args.q c.loop-cursor.cursor.at c.loop-cursor.cursor.done c.loop-cursor.cursor.more c.in_default.field-0
    (sym c.instr_at.ensures.value ∙ c.in_default.is)

pub returns-in-Some-clause-next : goal.returns-in-Some-clause-next
returns-in-Some-clause-next c =
    next_is c.args.plan.now c.args.q c.loop-cursor.cursor.at c.loop-cursor.cursor.done c.in-Ok.instr c.in-Ok.count
    (sym c.instr_at.ensures.value ∙ c.in-Ok.is) c.loop-cursor.cursor.more
    c.in-Some.next c.loop-cursor-test.true c.in-Some.ensures

pub loop-cursor-preserved : goal.loop-cursor-preserved
loop-cursor-preserved c =
    let is = sym c.instr_at.ensures.value ∙ c.in-Ok.is in (
      omega arith,
      ap (λ (count : ℕ). asks_from (c.loop-cursor.cursor.more - 1) c.args.plan.now c.args.q (c.loop-cursor.cursor.at + 4 * count))
          c.from.ensures
          ∙ passed_is c.args.plan.now c.args.q c.loop-cursor.cursor.at c.loop-cursor.cursor.done c.in-Ok.instr c.in-Ok.count is
          c.loop-cursor.cursor.more c.loop-cursor-test.true c.in_default-here.ensures
          ∙ c.loop-cursor.invariant.1,
    )

pub returns-clause-next : goal.returns-clause-next
returns-clause-next c =
    none_left c.args.plan.now c.args.q c.loop-cursor.cursor.at c.loop-cursor.cursor.done c.loop-cursor.cursor.more
    (omega (arith, c.loop-cursor-test.false))

pub returns-in-Some-clause-room : goal.returns-in-Some-clause-room
returns-in-Some-clause-room c =
    room_is c.args.plan.now c.args.q c.loop-cursor.cursor.at c.loop-cursor.cursor.done c.in-Ok.instr c.in-Ok.count
    (sym c.instr_at.ensures.value ∙ c.in-Ok.is) c.in-Some.next c.in-Some.ensures
