use Rattle.std.proofs.Common.{◌≡◌, ◌∙◌, ◌+◌, ◌-◌, ◌≤◌, ℕ, suc, List, Option, None, length, ap, sym, arith}
use Rattle.std.specs.Prelude.{unwrap_or}
use Rattle.risc_word.specs.declared.Code.{Code}
use Rattle.machine_model.specs.Paths.{RiscProgram, all_words, fetch}
use Rattle.check_model.specs.declared.Verdict.{Verdict}
use Rattle.check_model.specs.declared.Verdict.TheVariants.{Differs}
use Rattle.check_model.specs.declared.Why.TheVariants.{NoSync}
use Rattle.check_model.specs.Verdicts.{is_shown}
use Rattle.field_check.specs.Walks.{chosen_from, kept, said_from}
use Rattle.field_check.proofs.Choosing.{found_more, found_shown, next_there, opened, passed, readable}
use Rattle.field_check.proofs.Walking.{fetched_long}
use Rattle.field_check.proofs.verdict.verdict_by.Goals as goal
use Rattle.field_check.proofs.verdict.verdict_by.Goals.{then-is_opening+else-is_shown, else-is_opening}

pub loop-place-init : goal.loop-place-init
loop-place-init c =
    let same : length (all_words c.args.accepted.now) - 0 ≡ length (all_words c.args.accepted.now) = omega arith in
    record {
      at = c.from-at.ensures ∙ c.base.ensures.value ∙ ap (λ (p : RiscProgram). p.base) c.program-program.ensures.value;
      same = ap (λ (n : ℕ).
          chosen_from c.args.accepted.now c.args.field None (said_from c.args.accepted.now c.args.frame.now c.args.field 0 n)) same;
    }

pub unreachable-requires : goal.unreachable-requires
unreachable-requires c =
    readable c.args.accepted.now c.program-program.ensures.sound c.loop-place._place c.loop-place.at c.loop-place.invariant.at
    c.in_default.field-0
    (sym (c.instr_at.ensures.value ∙ ap (λ (p : RiscProgram). fetch p c.loop-place.at) c.program-program.ensures.value) ∙ c.in_default.is)

pub returns-then-is_shown : goal.returns-then-is_shown
returns-then-is_shown c =
    let program = c.args.accepted.now in
    let k = c.loop-place._place in
    let words = ap (λ (ws : List ℕ). length ws) (c.words.ensures.value ∙ ap all_words c.program-program.ensures.value) in
    let within : suc k ≤ length (all_words program) = omega (arith, c.loop-place-test.true, words) in
    let there =
    sym (c.instr_at.ensures.value ∙ ap (λ (p : RiscProgram). fetch p c.loop-place.at) c.program-program.ensures.value) ∙ c.in-Ok.is in
    let list =
    opened program c.program-program.ensures.sound k c.loop-place.at c.loop-place.invariant.at c.args.frame.now c.args.field c.in-Ok.instr
    c.in-Ok.long there
    (length (all_words program) - k) (length (all_words program) - (k + 1)) (omega arith)
    (sym c.is_opening.ensures ∙ c.if-is_opening.true) in
    let found =
    c.said-found.ensures ∙ ap (λ (p : RiscProgram). Rattle.check_model.specs.Verdicts.said p c.args.frame.now c.args.field c.loop-place.at)
    c.program-program.ensures.value in
    let rest = said_from program c.args.frame.now c.args.field (k + 1) (length (all_words program) - (k + 1)) in
    found
    ∙ sym (ap (chosen_from program c.args.field c.loop-place.first) list
    ∙ found_shown program c.args.field c.loop-place.first _ rest (ap is_shown (sym found) ∙ sym c.is_shown.ensures ∙ c.if-is_shown.true))
    ∙ c.loop-place.invariant.same

pub next_at-at-requires-clause-long : goal.next_at-at-requires-clause-long
next_at-at-requires-clause-long c =
    fetched_long c.program-program.result.now c.loop-place.at c.in-Ok.instr c.in-Ok.long (sym c.instr_at.ensures.value ∙ c.in-Ok.is)

pub loop-place-preserved : goal.loop-place-preserved
loop-place-preserved c =
    let program = c.args.accepted.now in
    let k = c.loop-place._place in
    let words = ap (λ (ws : List ℕ). length ws) (c.words.ensures.value ∙ ap all_words c.program-program.ensures.value) in
    let within : suc k ≤ length (all_words program) = omega (arith, c.loop-place-test.true, words) in
    let there =
    sym (c.instr_at.ensures.value ∙ ap (λ (p : RiscProgram). fetch p c.loop-place.at) c.program-program.ensures.value) ∙ c.in-Ok.is in
    let long = fetched_long program c.loop-place.at c.in-Ok.instr c.in-Ok.long there in
    let sound = c.program-program.ensures.sound in
    let rest = said_from program c.args.frame.now c.args.field (k + 1) (length (all_words program) - (k + 1)) in
    record {
      at =
          c.next_at-at.ensures ∙ next_there program sound k c.loop-place.at c.loop-place.invariant.at c.in-Ok.instr c.in-Ok.long there long;
      same = elim c.if-is_opening.branch [
        | then-is_opening+else-is_shown w ↦
            let list =
            opened program sound k c.loop-place.at c.loop-place.invariant.at c.args.frame.now c.args.field c.in-Ok.instr c.in-Ok.long there
            (length (all_words program) - k) (length (all_words program) - (k + 1)) (omega arith)
            (sym c.is_opening.ensures ∙ w.if-is_opening.true) in
            let found =
            w.said-found.ensures
            ∙ ap (λ (p : RiscProgram). Rattle.check_model.specs.Verdicts.said p c.args.frame.now c.args.field c.loop-place.at)
            c.program-program.ensures.value in
            ap (λ (first : Option Verdict). chosen_from program c.args.field first rest)
            (w.first-is ∙ w.kept-first.ensures ∙ ap (kept c.loop-place.first) found)
            ∙ sym (ap (chosen_from program c.args.field c.loop-place.first) list
            ∙ found_more program c.args.field c.loop-place.first _ rest
            (ap is_shown (sym found) ∙ sym w.is_shown.ensures ∙ w.if-is_shown.false))
            ∙ c.loop-place.invariant.same
        | else-is_opening w ↦
            let list =
            passed program sound k c.loop-place.at c.loop-place.invariant.at c.args.frame.now c.args.field c.in-Ok.instr c.in-Ok.long there
            (length (all_words program) - k) (length (all_words program) - (k + 1)) (omega arith)
            (sym c.is_opening.ensures ∙ w.if-is_opening.false) in
            ap (λ (first : Option Verdict). chosen_from program c.args.field first rest) w.first-is
            ∙ sym (ap (chosen_from program c.args.field c.loop-place.first) list)
            ∙ c.loop-place.invariant.same
      ];
    }

pub returns : goal.returns
returns c =
    let program = c.args.accepted.now in
    let words = ap (λ (ws : List ℕ). length ws) (c.words.ensures.value ∙ ap all_words c.program-program.ensures.value) in
    let none : length (all_words program) - c.loop-place._place ≡ 0 = omega (arith, c.loop-place-test.false, words) in
    let base = c.from.ensures ∙ c.base-2.ensures.value ∙ ap (λ (p : RiscProgram). p.base) c.program-program.ensures.value in
    c.unwrap_or.ensures
    ∙ ap (λ (at : ℕ). unwrap_or c.loop-place.first (Differs at (NoSync c.vertical.result))) base
    ∙ ap (λ (code : Code). unwrap_or c.loop-place.first (Differs program.base (NoSync code))) c.vertical.ensures
    ∙ sym (ap (λ (n : ℕ).
    chosen_from program c.args.field c.loop-place.first (said_from program c.args.frame.now c.args.field c.loop-place._place n)) none)
    ∙ c.loop-place.invariant.same
