use Rattle.std.proofs.Common.{◌≡◌, ◌∙◌, ◌+◌, ◌-◌, ◌*◌, ℕ, Option, Err, ap, sym, arith}
use mathlib.Core.Path.{fun_ext}
use Rattle.check_model.specs.Checks.{Awaited, ended, instr_why, left_by, one_more, short_why, walked}
use Rattle.field_law.specs.Trails.{next_at}
use Rattle.check_model.specs.declared.Why.{Why}
use Rattle.field_check.specs.Tracks.{lefts}
use Rattle.field_check.specs.Walks.{plus}
use Rattle.field_check.proofs.Walking.{are_fit, counts_up, ended_here, fetched_long, plus_more, plus_none, walked_begins, walked_none}
use Rattle.field_check.proofs.Walking.{walked_on, walked_unread, walked_why}
use Rattle.field_check.proofs.walk.walk.Goals as goal

pub loop-count-init : goal.loop-count-init
loop-count-init c =
    let same : c.args.rounds - 0 ≡ c.args.rounds = omega arith in
    record {
      at = c.requires.at;
      few = c.requires.none;
      same =
          plus_none _
          ∙ ap (λ (n : ℕ). walked n c.args.program.now c.args.frame.now c.args.field c.args.from (lefts c.args.plan.now c.args.begin)) same;
    }

pub none_left-requires : goal.none_left-requires
none_left-requires c = are_fit c.args.frame.now c.args.field c.args.plan.now c.loop-count.tracks c.loop-count.invariant.at

pub returns-in-Some : goal.returns-in-Some
returns-in-Some c =
    let n = c.args.rounds - c.loop-count.count in
    let left = lefts c.args.plan.now c.loop-count.tracks in
    sym (ap (plus c.loop-count.count)
    (walked_none c.args.program.now c.args.frame.now c.args.field c.loop-count.at left n (c.args.rounds - (c.loop-count.count + 1))
    (omega (arith, c.loop-count-test.true))
    (sym c.none_left.ensures.value ∙ c.if-none_left.true)
    ∙ ap (λ (found : Option (ℕ × Why)). ended found c.loop-count.at) (sym c.behind.ensures ∙ c.in-Some.is)))
    ∙ c.loop-count.invariant.same

pub returns-in-None : goal.returns-in-None
returns-in-None c =
    let n = c.args.rounds - c.loop-count.count in
    let left = lefts c.args.plan.now c.loop-count.tracks in
    ended_here c.loop-count.at c.loop-count.count
    ∙ sym (ap (plus c.loop-count.count)
    (walked_none c.args.program.now c.args.frame.now c.args.field c.loop-count.at left n (c.args.rounds - (c.loop-count.count + 1))
    (omega (arith, c.loop-count-test.true))
    (sym c.none_left.ensures.value ∙ c.if-none_left.true)
    ∙ ap (λ (found : Option (ℕ × Why)). ended found c.loop-count.at) (sym c.behind.ensures ∙ c.in-None.is)))
    ∙ c.loop-count.invariant.same

pub returns-in_default : goal.returns-in_default
returns-in_default c =
    let n = c.args.rounds - c.loop-count.count in
    let left = lefts c.args.plan.now c.loop-count.tracks in
    sym (ap (plus c.loop-count.count)
    (walked_unread c.args.program.now c.args.frame.now c.args.field c.loop-count.at left n (c.args.rounds - (c.loop-count.count + 1))
    (omega (arith, c.loop-count-test.true))
    (sym c.none_left.ensures.value ∙ c.if-none_left.false) c.in_default.field-0 (sym c.instr_at.ensures.value ∙ c.in_default.is)))
    ∙ c.loop-count.invariant.same

pub short_why-requires-clause-at : goal.short_why-requires-clause-at
short_why-requires-clause-at c = c.none_left.ensures.at c.args.frame.now c.args.field c.loop-count.invariant.at

pub short_why-requires-clause-few : goal.short_why-requires-clause-few
short_why-requires-clause-few c =
    counts_up c.loop-count.tracks c.none_left.new.tracks (65536 * c.loop-count.count) 0 _ c.loop-count.invariant.few c.none_left.ensures.few
    (omega (arith, c.requires.few, c.loop-count-test.true))

pub returns-then-begins_field : goal.returns-then-begins_field
returns-then-begins_field c =
    let n = c.args.rounds - c.loop-count.count in
    let left = lefts c.args.plan.now c.loop-count.tracks in
    let same : lefts c.args.plan.now c.none_left.new.tracks ≡ left = fun_ext c.none_left.ensures.left in
    sym (ap (plus c.loop-count.count)
    (walked_begins c.args.program.now c.args.frame.now c.args.field c.loop-count.at left n (c.args.rounds - (c.loop-count.count + 1))
    (omega (arith, c.loop-count-test.true))
    (sym c.none_left.ensures.value ∙ c.if-none_left.false) c.in-Ok.instr c.in-Ok.long (sym c.instr_at.ensures.value ∙ c.in-Ok.is)
    (sym c.begins_field.ensures ∙ c.if-begins_field.true)
    ∙ ap (λ (w : Why). Err (c.loop-count.at, w)) (sym (c.short_why.ensures ∙ ap (short_why c.args.frame.now c.args.field) same))))
    ∙ c.loop-count.invariant.same

pub instr_why-requires-clause-at : goal.instr_why-requires-clause-at
instr_why-requires-clause-at c = c.none_left.ensures.at c.args.frame.now c.args.field c.loop-count.invariant.at

pub instr_why-requires-clause-few : goal.instr_why-requires-clause-few
instr_why-requires-clause-few c =
    counts_up c.loop-count.tracks c.none_left.new.tracks (65536 * c.loop-count.count) 0 _ c.loop-count.invariant.few c.none_left.ensures.few
    (omega (arith, c.requires.few, c.loop-count-test.true))

pub returns-in-Some-instr_why : goal.returns-in-Some-instr_why
returns-in-Some-instr_why c =
    let n = c.args.rounds - c.loop-count.count in
    let left = lefts c.args.plan.now c.loop-count.tracks in
    let same : lefts c.args.plan.now c.none_left.new.tracks ≡ left = fun_ext c.none_left.ensures.left in
    sym (ap (plus c.loop-count.count)
    (walked_why c.args.program.now c.args.frame.now c.args.field c.loop-count.at left n (c.args.rounds - (c.loop-count.count + 1))
    (omega (arith, c.loop-count-test.true))
    (sym c.none_left.ensures.value ∙ c.if-none_left.false) c.in-Ok.instr c.in-Ok.long (sym c.instr_at.ensures.value ∙ c.in-Ok.is)
    (sym c.begins_field.ensures ∙ c.if-begins_field.false)
    c.in-Some-instr_why.why
    (sym (c.instr_why.ensures.why ∙ ap (instr_why c.args.frame.now c.args.field c.in-Ok.instr) same) ∙ c.in-Some-instr_why.is)))
    ∙ c.loop-count.invariant.same

pub next_at-at-requires-clause-long : goal.next_at-at-requires-clause-long
next_at-at-requires-clause-long c =
    fetched_long c.args.program.now c.loop-count.at c.in-Ok.instr c.in-Ok.long (sym c.instr_at.ensures.value ∙ c.in-Ok.is)

pub loop-count-preserved : goal.loop-count-preserved
loop-count-preserved c =
    let plan = c.args.plan.now in
    let left = lefts plan c.loop-count.tracks in
    let m = c.args.rounds - (c.loop-count.count + 1) in
    let same : lefts plan c.none_left.new.tracks ≡ left = fun_ext c.none_left.ensures.left in
    let none = c.in_default-instr_why.is in
    let later : lefts plan c.instr_why.new.tracks ≡ left_by c.in-Ok.instr left =
    fun_ext (c.instr_why.ensures.left none) ∙ ap (left_by c.in-Ok.instr) same in
    record {
      at = c.instr_why.ensures.at none;
      few = counts_up c.none_left.new.tracks c.instr_why.new.tracks (65536 * c.loop-count.count) 65536 _
          (counts_up c.loop-count.tracks c.none_left.new.tracks
          (65536 * c.loop-count.count) 0 _ c.loop-count.invariant.few c.none_left.ensures.few (omega arith))
          (c.instr_why.ensures.few none) (omega arith);
      same =
          plus_more c.loop-count.count _
          ∙ ap (λ (at : ℕ). plus c.loop-count.count
          (one_more (walked m c.args.program.now c.args.frame.now c.args.field at (lefts plan c.instr_why.new.tracks))))
          c.next_at-at.ensures
          ∙ ap (λ (rest : Awaited). plus c.loop-count.count
          (one_more (walked m c.args.program.now c.args.frame.now c.args.field (next_at c.in-Ok.instr c.loop-count.at) rest))) later
          ∙ sym (ap (plus c.loop-count.count)
          (walked_on c.args.program.now c.args.frame.now c.args.field c.loop-count.at left (c.args.rounds - c.loop-count.count) m
          (omega (arith, c.loop-count-test.true))
          (sym c.none_left.ensures.value ∙ c.if-none_left.false) c.in-Ok.instr c.in-Ok.long (sym c.instr_at.ensures.value ∙ c.in-Ok.is)
          (sym c.begins_field.ensures ∙ c.if-begins_field.false)
          (sym (c.instr_why.ensures.why ∙ ap (instr_why c.args.frame.now c.args.field c.in-Ok.instr) same) ∙ none)))
          ∙ c.loop-count.invariant.same;
    }

pub returns : goal.returns
returns c =
    let none : c.args.rounds - c.loop-count.count ≡ 0 = omega (arith, c.loop-count-test.false) in
    sym (ap (λ (n : ℕ). plus c.loop-count.count
    (walked n c.args.program.now c.args.frame.now c.args.field c.loop-count.at (lefts c.args.plan.now c.loop-count.tracks))) none)
    ∙ c.loop-count.invariant.same
