use Rattle.risc_asm.proofs.Searching.{begins_begun, begins_whole, higher, lower, none_wrong}
use Rattle.risc_asm.proofs.search.narrow.Goals as goal
use Rattle.risc_asm.proofs.search.narrow.Goals.{in-Wrong, in-Begun, in-Whole}

pub returns-clause-between : goal.returns-clause-between
returns-clause-between c =
    let order = c.requires.order in
    elim c.match-branch-2.branch [
      | in-Wrong w ↦
          rw w.result-is (lower c.args.lines.now c.args.low c.args.high c.args.end c.requires.between order.0 order.1 c.requires.whole
          (none_wrong _ c.in_ok-judge.field-0 _ w.in-Wrong.is c.in_ok-judge.ensures c.requires.whole))
      | in-Begun w ↦
          rw w.result-is (higher c.args.lines.now c.args.low c.args.high c.args.end c.requires.between order.0 order.1 c.requires.whole
          (begins_begun _ c.in_ok-judge.field-0 w.in-Begun.is c.in_ok-judge.ensures))
      | in-Whole w ↦
          rw w.result-is (higher c.args.lines.now c.args.low c.args.high c.args.end c.requires.between order.0 order.1 c.requires.whole
          (begins_whole _ c.in_ok-judge.field-0 _ w.in-Whole.is c.in_ok-judge.ensures))
    ]
