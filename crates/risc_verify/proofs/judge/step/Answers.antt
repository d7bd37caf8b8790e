use Rattle.std.proofs.Common.{ap, arith}
use Rattle.machine_model.specs.Paths.{reading_cause}
use Rattle.risc_verify.proofs.Near.{none-fetched}
use Rattle.risc_verify.proofs.judge.step.Goals as goal

pub returns-then-number-words-clause-answer : goal.returns-then-number-words-clause-answer
returns-then-number-words-clause-answer c =
    let program = c.args.program.now in
    let place = c.args.place in
    ap (reading_cause program place.target) (none-fetched program place.pc (c.requires.at.none (omega arith)))
