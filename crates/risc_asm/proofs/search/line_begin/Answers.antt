use Rattle.std.proofs.Common.{arith}
use Rattle.risc_asm.proofs.Searching.{lines_up_to}
use Rattle.risc_asm.proofs.search.line_begin.Goals as goal

pub returns-in-Some-clause-whole : goal.returns-in-Some-clause-whole
returns-in-Some-clause-whole c =
    let found = c.in-Some.ensures.some in
    lines_up_to c.in-Some.before c.args.text.now (omega arith) found.2
