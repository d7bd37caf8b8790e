use Rattle.std.proofs.Common.{sym, subst}
use Rattle.std.specs.Str.{IsUtf8}
use Rattle.turn_trace.proofs.PieceBytes.{still-IsUtf8, still-words}
use Rattle.turn_trace.proofs.pieces.still_words.Goals as goal

pub returns-clause-words : goal.returns-clause-words
returns-clause-words c = still-words c.args.still c.requires.low c.requires.high

pub returns-clause-text : goal.returns-clause-text
returns-clause-text c = subst IsUtf8 (sym (returns-clause-words c)) (still-IsUtf8 c.args.still c.requires.high)
