use Rattle.std.proofs.lemmas.List.{take_rest}
use Rattle.risc_asm.proofs.Agreeing.{piece_differs, piece_found}
use Rattle.risc_asm.proofs.compare.after_piece.Goals as goal

pub returns-in-Some : goal.returns-in-Some
returns-in-Some c =
    let cut = c.in-Some.ensures.cases in
    piece_found c.args.text.now c.args.piece.now c.in-Some.rest.now cut.0 cut.1

pub returns-in-None : goal.returns-in-None
returns-in-None c =
    let a = c.alike in
    piece_differs a.result c.args.text.now c.args.piece.now _ a.ensures.within.0 a.ensures.within.1 a.ensures.same a.ensures.longest
    c.in-None.ensures.cases (take_rest c.args.text.now a.result)
