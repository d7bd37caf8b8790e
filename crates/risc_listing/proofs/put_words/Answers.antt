use Rattle.std.proofs.Common.{arith}
use Rattle.risc_listing.proofs.Passing.{lines_end}
use Rattle.risc_listing.proofs.put_words.Goals as goal

pub returns : goal.returns
returns c = lines_end _ c.loop-next.next c.args.words.now _ _ (omega arith) c.loop-next.invariant.lines
