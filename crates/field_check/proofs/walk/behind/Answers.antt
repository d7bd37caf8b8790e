use Rattle.std.proofs.Common.{◌≡◌, ◌∙◌, ◌+◌, ◌-◌, ℕ, Some, None, Bool, ap, sym, arith, if◌then◌else◌}
use Rattle.risc_word.specs.declared.Instr.{Instr}
use Rattle.check_model.specs.Checks.{behind, behind_at}
use Rattle.check_model.specs.declared.Why.TheVariants.{NothingAwaited}
use Rattle.field_check.proofs.Walking.{behind_read, behind_unread, ends_behind}
use Rattle.field_check.proofs.walk.behind.Goals as goal

pub loop-round-init : goal.loop-round-init
loop-round-init c =
    let same : c.args.rounds - 0 ≡ c.args.rounds = omega arith in
    ap (λ (n : ℕ). behind n c.args.program.now c.args.from) same

pub returns-in_default : goal.returns-in_default
returns-in_default c =
    sym (behind_unread c.args.program.now c.loop-round.at (c.args.rounds - c.loop-round._round)
    (c.args.rounds - (c.loop-round._round + 1)) c.in_default.field-0
    (omega (arith, c.loop-round-test.true)) (sym c.instr_at.ensures.value ∙ c.in_default.is))
    ∙ c.loop-round.invariant

pub returns-then-begins_field : goal.returns-then-begins_field
returns-then-begins_field c =
    sym (behind_read c.args.program.now c.loop-round.at (c.args.rounds - c.loop-round._round)
    (c.args.rounds - (c.loop-round._round + 1)) c.in-Ok.instr c.in-Ok.field-0-1
    (omega (arith, c.loop-round-test.true)) (sym c.instr_at.ensures.value ∙ c.in-Ok.is)
    ∙ ends_behind c.in-Ok.instr c.loop-round.at _ c.in_default-instr.not-Jump
    ∙ ap (λ (begins : Bool). if begins then None else Some (c.loop-round.at, NothingAwaited))
    (sym c.begins_field.ensures ∙ c.if-begins_field.true))
    ∙ c.loop-round.invariant

pub returns-else-begins_field : goal.returns-else-begins_field
returns-else-begins_field c =
    sym (behind_read c.args.program.now c.loop-round.at (c.args.rounds - c.loop-round._round)
    (c.args.rounds - (c.loop-round._round + 1)) c.in-Ok.instr c.in-Ok.field-0-1
    (omega (arith, c.loop-round-test.true)) (sym c.instr_at.ensures.value ∙ c.in-Ok.is)
    ∙ ends_behind c.in-Ok.instr c.loop-round.at _ c.in_default-instr.not-Jump
    ∙ ap (λ (begins : Bool). if begins then None else Some (c.loop-round.at, NothingAwaited))
    (sym c.begins_field.ensures ∙ c.if-begins_field.false))
    ∙ c.loop-round.invariant

pub loop-round-preserved : goal.loop-round-preserved
loop-round-preserved c =
    ap (behind (c.args.rounds - (c.loop-round._round + 1)) c.args.program.now) c.from-at.ensures
    ∙ sym (behind_read c.args.program.now c.loop-round.at (c.args.rounds - c.loop-round._round)
    (c.args.rounds - (c.loop-round._round + 1)) c.in-Ok.instr c.in-Ok.field-0-1
    (omega (arith, c.loop-round-test.true)) (sym c.instr_at.ensures.value ∙ c.in-Ok.is)
    ∙ ap (λ (instr : Instr). behind_at instr c.loop-round.at (behind (c.args.rounds - (c.loop-round._round + 1)) c.args.program.now))
    c.in-Jump.is)
    ∙ c.loop-round.invariant

pub returns : goal.returns
returns c =
    let none : c.args.rounds - c.loop-round._round ≡ 0 = omega (arith, c.loop-round-test.false) in
    sym (ap (λ (n : ℕ). behind n c.args.program.now c.loop-round.at) none) ∙ c.loop-round.invariant
