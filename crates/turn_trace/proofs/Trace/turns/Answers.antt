use Rattle.std.proofs.Common.{◌≡◌, ◌+◌, ◌-◌, List, ◌++◌, ℕ, ap, sym, ◌∙◌, arith, inr}
use Rattle.std.proofs.lemmas.List.{append-nil}
use Rattle.turn_trace.proofs.Tracings.{state-more, text-more}
use Rattle.turn_trace.proofs.Trace.turns.Goals as goal

pub loop-left-preserved : goal.loop-left-preserved
loop-left-preserved g c =
    let left = c.loop-left.left in
    let split : left ≡ 1 + (left - 1) = omega (arith, c.loop-left-test.true) in
    record {
      within = omega (arith, c.loop-left.invariant.within);
      more = inr (omega (arith, c.loop-left.invariant.within, c.loop-left-test.true));
      state =
          state-more c.args.self.now c.loop-left.self c.turn.new.self c.args.count left 1
          (left - 1) split c.loop-left.invariant.within c.loop-left.invariant.state c.turn.ensures.state;
      text =
          text-more c.args.self.now c.loop-left.self c.args.text.now.bytes c.loop-left.text.bytes c.turn.new.text.bytes c.args.count left 1
          (left - 1) split
          c.loop-left.invariant.within c.loop-left.invariant.state c.loop-left.invariant.text c.turn.ensures.text;
    }

pub returns-then-stands_still-clause-state : goal.returns-then-stands_still-clause-state
returns-then-stands_still-clause-state g c =
    let left = c.loop-left.left in
    let split : left ≡ left + 0 = omega arith in
    state-more c.args.self.now c.loop-left.self c.stand.new.self c.args.count left left 0 split c.loop-left.invariant.within
    c.loop-left.invariant.state c.stand.ensures.state

pub returns-then-stands_still-clause-text : goal.returns-then-stands_still-clause-text
returns-then-stands_still-clause-text g c =
    let left = c.loop-left.left in
    let text : List ℕ = c.loop-left.text.bytes in
    let split : left ≡ left + 0 = omega arith in
    text-more c.args.self.now c.loop-left.self c.args.text.now.bytes text text c.args.count left left 0 split c.loop-left.invariant.within
    c.loop-left.invariant.state c.loop-left.invariant.text
    (sym (append-nil text) ∙ ap (λ (list : List ℕ). text ++ list) (sym c.stand.ensures.none))
