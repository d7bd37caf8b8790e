use Rattle.std.proofs.Common.{sym, subst, ◌∙◌, arith}
use Rattle.std.specs.Str.{IsUtf8}
use Rattle.turn_trace.proofs.PieceBytes.{pixels-IsUtf8, pixels-words, spelled-pixels}
use Rattle.turn_trace.proofs.pieces.pixel_words.Goals as goal

pub returns-clause-words : goal.returns-clause-words
returns-clause-words c =
    let at = c.space_and_address-at in
    let digit = c.queue_digit-digit in
    spelled-pixels digit.result at.result (omega (arith, at.type_inv))
    ∙ pixels-words c.args.queue digit.result c.args.dword at.result at.ensures.digits digit.ensures.name

pub returns-clause-text : goal.returns-clause-text
returns-clause-text c =
    let at = c.space_and_address-at in
    let digit = c.queue_digit-digit in
    subst IsUtf8 (sym (spelled-pixels digit.result at.result (omega (arith, at.type_inv))))
    (pixels-IsUtf8 digit.result at.result digit.ensures.ascii at.ensures.text)
