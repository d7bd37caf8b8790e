use Rattle.std.proofs.Common.{◌≡◌, ◌+◌, ◌-◌, ◌∙◌, ap, sym, subst, arith}
use Rattle.dma_machine.proofs.Turns.{AreLeft, one_fewer, standing_left}
use Rattle.dma_machine.specs.Counts.{acted_times}
use Rattle.dma_machine.proofs.Machine.act_all.Goals as goal

pub loop-turn-init : goal.loop-turn-init
loop-turn-init g c =
    let all : c.args.count - 0 ≡ c.args.count = omega arith in
    record { lead = ap (λ left. acted_times left c.args.self.now) all; facts = c.requires }

pub loop-turn-preserved : goal.loop-turn-preserved
loop-turn-preserved g c =
    one_fewer c.args.self.now c.args.count
    (c.args.count - (c.loop-turn.turn + 1)) c.loop-turn.self c.act.new.self c.act.ensures.state c.act.ensures.facts
    (subst (λ left. AreLeft c.args.self.now c.args.count left c.loop-turn.self)
    (omega (arith, c.loop-turn-test.true)) c.loop-turn.invariant)

pub returns-then-is_known_still-clause-state : goal.returns-then-is_known_still-clause-state
returns-then-is_known_still-clause-state g c =
    standing_left _ _ _ _ _ (c.is_known_still.ensures c.if-is_known_still.true) c.stay.ensures c.loop-turn.invariant

pub returns-clause-state : goal.returns-clause-state
returns-clause-state g c =
    let none : c.args.count - c.loop-turn.turn ≡ 0 = omega arith in
    sym (ap (λ left. acted_times left c.loop-turn.self) none) ∙ c.loop-turn.invariant.lead
