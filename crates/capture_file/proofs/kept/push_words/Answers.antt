use Rattle.std.proofs.Common.{arith}
use Rattle.capture_file.proofs.KeptRead.{piece_kept}
use Rattle.capture_file.proofs.kept.push_words.Goals as goal

pub returns : goal.returns
returns c =
    let piece = c.args.piece.now in
    piece_kept c.args.words.now.items c.append_words.new.words.items c.args.rest.now.items c.extend_from_slice.new.self.items piece _
    (λ i. omega (arith, c.type_inv.piece i)) (omega arith) c.in_ok-append_words.ensures.value c.requires
    c.in_ok-extend_from_slice.ensures.items
