use Rattle.std.proofs.Common.{arith}
use Rattle.capture_file.proofs.PushRuns.{has_head}
use Rattle.capture_file.proofs.pushes.place_at.Goals as goal

pub returns-clause-some : goal.returns-clause-some
returns-clause-some c =
    let first = c.from.ensures in
    let last = c.from-else-head-from.ensures in
    let less = c.from-2.ensures in
    let place = c.from-3.ensures in
    let some = c.if-head-from.false in
    let few = c.if-head-from-2.false in
    let known =
    has_head c.args.bytes.now c.read_u16-head.result c.from-3.result c.requires c.read_u16-head.ensures (omega (arith, some, first))
    (omega (arith, few, last)) (omega (arith, place, less)) in (known.queue, known.at, known.tag, known.status)
