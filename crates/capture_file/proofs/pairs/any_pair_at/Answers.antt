use Rattle.std.proofs.Common.{◌-◌, arith}
use Rattle.capture_file.specs.Streams.{most_turns}
use Rattle.capture_file.proofs.OtherRecords.{pair_bytes}
use Rattle.capture_file.proofs.pairs.any_pair_at.Goals as goal

pub returns-in_default-clause-none : goal.returns-in_default-clause-none
returns-in_default-clause-none c = λ queue dword count is.
    let known = pair_bytes queue (most_turns - c.args.left) c.args.bytes.now dword count (omega arith) is in
    c.in_default.ensures.none queue known.tag known.status
