use Rattle.std.proofs.Common.{◌≡◌, ◌∙◌, ◌+◌, ◌-◌, ◌*◌, ◌++◌, ℕ, List, length, refl, sym, ap, arith}
use Rattle.std.proofs.lemmas.List.{append-nil}
use Rattle.machine_model.specs.Paths.{all_words}
use Rattle.field_law.specs.Sections.{Ask}
use Rattle.field_check.specs.Cursors.{asks_from}
use Rattle.field_check.proofs.Parts.{last_stays, later_on, none_asked, unread_asks}
use Rattle.field_check.proofs.plan.last_asked.Goals as goal
use Rattle.field_check.proofs.plan.last_asked.Goals.{then-is_some, else-is_some}

pub loop-number-init : goal.loop-number-init
loop-number-init c =
    record {
      last = refl;
      later = λ more. let same : 0 + more ≡ more = omega arith in ap (λ (more : ℕ). asks_from more c.args.plan.now c.args.q 0) same;
    }

pub returns-in_default : goal.returns-in_default
returns-in_default c =
    let plan = c.args.plan.now in
    let k = c.loop-number.number in
    let words = ap (λ (ws : List ℕ). length ws) c.words.ensures.value in
    let more = length (all_words plan) - k in
    let same : length (all_words plan) ≡ k + more = omega (arith, c.loop-number-test.true, words) in
    c.loop-number.invariant.last
    ∙ sym (ap (λ (n : ℕ). asks_from n plan c.args.q 0) same ∙ c.loop-number.invariant.later more
    ∙ ap (λ (asks : List Ask). asks_from k plan c.args.q 0 ++ asks)
    (unread_asks plan c.args.q c.loop-number.at more c.in_default.field-0 (sym c.instr_at.ensures.value ∙ c.in_default.is))
    ∙ append-nil (asks_from k plan c.args.q 0))

pub loop-number-preserved : goal.loop-number-preserved
loop-number-preserved c =
    let plan = c.args.plan.now in
    let k = c.loop-number.number in
    let at = c.loop-number.at in
    let is = sym c.instr_at.ensures.value ∙ c.in-Ok.is in
    let later = c.loop-number.invariant.later in
    record {
      last = elim c.if-is_some.branch [
        | then-is_some w ↦ ap (λ (last : ℕ). asks_from last plan c.args.q 0) w.last-is
        | else-is_some w ↦
            ap (λ (last : ℕ). asks_from last plan c.args.q 0) w.last-is ∙ c.loop-number.invariant.last
            ∙ last_stays plan c.args.q k at c.in-Ok.instr c.in-Ok.count is later
            (none_asked c.here.result _ (sym c.is_some.ensures ∙ w.if-is_some.false) c.here.ensures)
      ];
      later = λ more.
          later_on plan c.args.q k at c.in-Ok.instr c.in-Ok.count is later more
          ∙ ap (λ (count : ℕ). asks_from (k + 1) plan c.args.q 0 ++ asks_from more plan c.args.q (at + 4 * count))
          (sym c.from.ensures);
    }

pub returns : goal.returns
returns c =
    let words = ap (λ (ws : List ℕ). length ws) c.words.ensures.value in
    let same : c.loop-number.number ≡ length (all_words c.args.plan.now) = omega (arith, c.loop-number-test.false, words) in
    c.loop-number.invariant.last ∙ ap (λ (n : ℕ). asks_from n c.args.plan.now c.args.q 0) same
