use Rattle.std.proofs.Common.{arith}
use Rattle.risc_asm.proofs.Searching.{lines_up_to}
use Rattle.risc_asm.proofs.search.line_end_between.Goals as goal

pub returns-in-Some-clause-some : goal.returns-in-Some-clause-some
returns-in-Some-clause-some c =
    let found = c.in-Some.ensures.some in
    (omega arith, omega arith, lines_up_to c.in-Some.at c.args.text.now (omega arith) found.2)

pub returns-in-Some-last_newline-clause-some : goal.returns-in-Some-last_newline-clause-some
returns-in-Some-last_newline-clause-some c =
    let found = c.in-Some-last_newline.ensures.some in
    (omega arith, omega arith, lines_up_to c.in-Some-last_newline.at c.args.text.now (omega arith) found.2)
