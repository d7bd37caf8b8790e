use Rattle.std.proofs.Common.{◌-◌, arith}
use Rattle.capture_file.specs.Streams.{most_turns}
use Rattle.capture_file.proofs.OtherRecords.{none_of_queue, pair_bytes}
use Rattle.capture_file.proofs.pairs.pair_at.Goals as goal

pub returns-then-not-is_valid_push-clause-none : goal.returns-then-not-is_valid_push-clause-none
returns-then-not-is_valid_push-clause-none c = λ dword count is.
    let known = pair_bytes c.args.queue (most_turns - c.args.left) c.args.bytes.now dword count (omega arith) is in
    c.is_valid_push.ensures.no c.if-not-is_valid_push.true known.tag known.status

pub returns-clause-none : goal.returns-clause-none
returns-clause-none c =
    none_of_queue c.args.queue (most_turns - c.args.left) c.args.bytes.now c.dword_and_turns.result c.dword_and_turns.ensures.none
