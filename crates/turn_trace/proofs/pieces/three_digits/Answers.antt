use Rattle.std.proofs.Common.{sym, subst}
use Rattle.std.specs.Str.{IsUtf8}
use Rattle.turn_trace.proofs.PieceBytes.{three-IsUtf8, three-digits}
use Rattle.turn_trace.proofs.pieces.three_digits.Goals as goal

pub returns-clause-digits : goal.returns-clause-digits
returns-clause-digits c = three-digits c.args.one c.args.two c.args.three c.requires.one c.requires.two c.requires.three

pub returns-clause-text : goal.returns-clause-text
returns-clause-text c =
    subst IsUtf8 (sym (returns-clause-digits c))
    (three-IsUtf8 c.args.one c.args.two c.args.three c.requires.one c.requires.two c.requires.three)
