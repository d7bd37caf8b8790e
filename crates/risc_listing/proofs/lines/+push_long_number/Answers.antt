use Rattle.std.proofs.Common.{◌/◌, arith, length, length-append, ap, append_assoc}
use Rattle.risc_listing.specs.Lines.{count_text}
use Rattle.risc_listing.proofs.Decimal.{four_last, length-count_text}
use Rattle.risc_listing.proofs.lines.+push_long_number.Goals as goal

pub push_last_four-requires-clause-room : goal.push_last_four-requires-clause-room
push_last_four-requires-clause-room t c =
    omega (
      arith,
      ap length c.push_long_number.ensures.bytes,
      length-append c.args.text.now.bytes (count_text (c.args.n / 10000)),
      length-count_text 16 (c.args.n / 10000) (omega arith) (omega (arith, c.ranges.n)),
      c.requires,
    )

pub returns-else-n-lt10000-clause-bytes : goal.returns-else-n-lt10000-clause-bytes
returns-else-n-lt10000-clause-bytes t c =
    grind (
      arith,
      c.push_last_four.ensures,
      c.push_long_number.ensures.bytes,
      four_last c.args.n c.if-n-lt10000.false (omega (arith, c.ranges.n)),
      append_assoc,
    )

pub returns-else-n-lt10000-clause-long : goal.returns-else-n-lt10000-clause-long
returns-else-n-lt10000-clause-long t c =
    omega (
      arith,
      ap length (returns-else-n-lt10000-clause-bytes t c),
      length-append c.args.text.now.bytes (count_text c.args.n),
      length-count_text 20 c.args.n (omega arith) (omega (arith, c.ranges.n)) (omega (arith, c.ranges.n)),
    )
