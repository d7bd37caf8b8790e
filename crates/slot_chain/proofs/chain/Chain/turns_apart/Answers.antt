use Rattle.std.proofs.Common.{◌≡◌, ◌+◌, ◌-◌, arith, ◌∙◌}
use Rattle.slot_chain.proofs.Counted.{turned_more, turned_rest}
use Rattle.slot_chain.proofs.chain.Chain.turns_apart.Goals as goal

pub loop-turn-preserved : goal.loop-turn-preserved
loop-turn-preserved g c =
    c.turn.ensures.state ∙ turned_more c.args.self.now c.loop-turn.self c.loop-turn.turn c.loop-turn.invariant

pub returns-then-stands_still : goal.returns-then-stands_still
returns-then-stands_still g c =
    let below = c.loop-turn-test.true in
    let rest = c.args.count - c.loop-turn.turn in
    let all : c.loop-turn.turn + (c.args.count - c.loop-turn.turn) ≡ c.args.count = omega arith in
    turned_rest c.args.self.now c.loop-turn.self c.stand.new.self c.args.count c.loop-turn.turn rest c.loop-turn.invariant
    c.stand.ensures all
