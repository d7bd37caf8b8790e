use Rattle.std.proofs.Common.{sym, ◌∙◌}
use Rattle.std.specs.Cmp.Lexicographic.{bytes_decides}
use Rattle.risc_asm.proofs.Agreeing.{end_alike}
use Rattle.risc_asm.proofs.compare.compare_end.Goals as goal

pub returns-else-eq : goal.returns-else-eq
returns-else-eq c =
    let a = c.alike in
    end_alike a.result c.args.text.now c.args.lines.now a.ensures.within.0 a.ensures.within.1 a.ensures.same a.ensures.longest
    (λ same. (let yes = (bytes_decides c.args.text.now c.args.lines.now).1 same in let no = sym c.eq.ensures ∙ c.if-eq.false in cc))
