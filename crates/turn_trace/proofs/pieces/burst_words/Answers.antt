use Rattle.std.proofs.Common.{arith}
use Rattle.turn_trace.proofs.PieceBytes.{burst_of}
use Rattle.turn_trace.proofs.pieces.burst_words.Goals as goal

pub returns : goal.returns
returns c =
    let at = c.text-at in
    let digit = c.queue_digit-digit in
    let both =
    burst_of c.args.queue digit.result c.args.taken c.args.kept.now at.result
    (omega (arith, at.type_inv)) at.ensures.digits at.ensures.text digit.ensures.name digit.ensures.ascii c.requires in
    record { words = both.0; text = both.1 }
