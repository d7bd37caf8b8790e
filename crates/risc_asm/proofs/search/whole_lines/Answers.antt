use Rattle.std.proofs.Common.{arith, refl}
use Rattle.risc_asm.proofs.Searching.{lines_up_to, plain_all, plain_from}
use Rattle.risc_asm.proofs.search.whole_lines.Goals as goal

pub returns-in-Some-clause-whole : goal.returns-in-Some-clause-whole
returns-in-Some-clause-whole c =
    let found = c.in-Some.ensures.some in
    lines_up_to c.in-Some.at c.args.text.now (omega arith) found.2

pub returns-in-Some-clause-plain : goal.returns-in-Some-clause-plain
returns-in-Some-clause-plain c = plain_from _ c.args.text.now (λ k later within. c.in-Some.ensures.last k (omega arith) (omega arith))

pub returns-in-None-clause-plain : goal.returns-in-None-clause-plain
returns-in-None-clause-plain c = plain_all c.args.text.now (λ k within. c.in-None.ensures.none refl k (omega arith) (omega arith))
