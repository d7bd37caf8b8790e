use Rattle.risc_asm.proofs.Judging.{begun_nowhere}
use Rattle.risc_asm.proofs.judge.begun_by.Goals as goal
use Rattle.risc_asm.proofs.judge.begun_by.Goals.{in-Some, in-None}

pub returns-then-len-gt0 : goal.returns-then-len-gt0
returns-then-len-gt0 c =
    elim c.match-branch-2.branch [
      | in-Some w ↦ rw w.result-is w.begun.ensures
      | in-None w ↦ rw w.result-is (begun_nowhere c.args.text.now)
    ]

pub returns-in-None-base : goal.returns-in-None-base
returns-in-None-base c = begun_nowhere c.args.text.now
