use Rattle.std.proofs.Common.{◌≡◌, ◌-◌, true, false, List, sym, ap, ◌∙◌, arith}
use Rattle.machine_model.specs.Seen.{Application, applications, bytes_taken}
use Rattle.dma_machine.specs.Noted.{all_noted}
use Rattle.dma_machine.specs.Views.{state_of}
use Rattle.dma_machine.proofs.Bursts.{burst-applied}
use Rattle.dma_machine.proofs.Noting.{all_noted-seen_burst, noted-applied, taken-applied}
use Rattle.dma_machine.proofs.engine.Engine.burst_told_on.Goals as goal

pub loop-left-preserved : goal.loop-left-preserved
loop-left-preserved g c =
    let made = c.if-apply_told.ensures in
    let left : List Application = applications (c.loop-left.left - 1) c.args.q (state_of g.R.Ram.memory c.apply_told.new.self) in
    record {
      rest = sym (burst-applied c.loop-left.left c.args.q true _ _ c.loop-left-test.true made.applied) ∙ c.loop-left.invariant.rest;
      noted =
          ap (all_noted c.args.q left) made.seen
          ∙ sym (noted-applied c.loop-left.left c.args.q true _ _ c.loop-left.seen c.loop-left-test.true made.applied)
          ∙ c.loop-left.invariant.noted;
      taken = omega (
        arith,
        made.taken,
        taken-applied c.loop-left.left c.args.q true _ _ c.loop-left-test.true made.applied,
        c.loop-left.invariant.taken,
      );
      few = omega (arith, made.few, c.loop-left-test.true, c.loop-left.invariant.few);
      within = made.within;
    }

pub returns-else-apply_told-clause-state : goal.returns-else-apply_told-clause-state
returns-else-apply_told-clause-state g c =
    sym (burst-applied c.loop-left.left c.args.q false _ _ c.loop-left-test.true c.if-apply_told.ensures.applied)
    ∙ c.loop-left.invariant.rest

pub returns-else-apply_told-clause-seen : goal.returns-else-apply_told-clause-seen
returns-else-apply_told-clause-seen g c =
    let all : List Application = applications c.args.self.now.trigger c.args.q (state_of g.R.Ram.memory c.args.self.now) in
    c.if-apply_told.ensures.seen
    ∙ sym (noted-applied c.loop-left.left c.args.q false _ _ c.loop-left.seen c.loop-left-test.true c.if-apply_told.ensures.applied)
    ∙ c.loop-left.invariant.noted ∙ all_noted-seen_burst c.args.q c.args.at all

pub returns-else-apply_told-clause-taken : goal.returns-else-apply_told-clause-taken
returns-else-apply_told-clause-taken g c =
    let made = c.if-apply_told.ensures in
    omega
    (arith, made.taken, taken-applied c.loop-left.left c.args.q false _ _ c.loop-left-test.true made.applied, c.loop-left.invariant.taken)

pub returns-after-loop-left-clause-seen : goal.returns-after-loop-left-clause-seen
returns-after-loop-left-clause-seen g c =
    let all : List Application = applications c.args.self.now.trigger c.args.q (state_of g.R.Ram.memory c.args.self.now) in
    let none : 0 ≡ c.loop-left.left = omega (arith, c.loop-left-test.false) in
    ap (λ n. all_noted c.args.q (applications n c.args.q (state_of g.R.Ram.memory c.loop-left.self)) c.loop-left.seen) none
    ∙ c.loop-left.invariant.noted ∙ all_noted-seen_burst c.args.q c.args.at all

pub returns-after-loop-left-clause-taken : goal.returns-after-loop-left-clause-taken
returns-after-loop-left-clause-taken g c =
    let none : 0 ≡ c.loop-left.left = omega (arith, c.loop-left-test.false) in
    let rest = ap (λ n. bytes_taken (applications n c.args.q (state_of g.R.Ram.memory c.loop-left.self))) none in
    omega (arith, rest, c.loop-left.invariant.taken)
