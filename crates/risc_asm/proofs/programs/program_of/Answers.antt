use Rattle.std.proofs.Common.{◌∙◌, Ok, ap, sym}
use Rattle.risc_text.proofs.Spelling.{some_is}
use Rattle.risc_asm.proofs.Making.{apart_of, is_program, no_longer}
use Rattle.risc_asm.proofs.programs.program_of.Goals as goal

pub returns-then-is_apart-clause-program : goal.returns-then-is_apart-clause-program
returns-then-is_apart-clause-program c = λ program made by_base base words grants.
    let grants_same =
    some_is c.in-Some.grants program.grants (sym c.in-Some.is ∙ c.in_ok-grants.ensures program.grants made.grants grants) in
    ap Ok (c.new.ensures ∙ is_program program c.args.base c.args.words.items c.in-Some.grants made by_base base words grants_same)

pub returns-else-is_apart-clause-program : goal.returns-else-is_apart-clause-program
returns-else-is_apart-clause-program c = λ program made by_base base words grants.
    let grants_same =
    some_is c.in-Some.grants program.grants (sym c.in-Some.is ∙ c.in_ok-grants.ensures program.grants made.grants grants) in
    absurd (no_longer c.is_apart.result _ c.is_apart.ensures c.if-is_apart.false
    (rw c.deref.ensures.value (apart_of program c.args.base c.args.words.items c.in-Some.grants base words grants_same made by_base)))
