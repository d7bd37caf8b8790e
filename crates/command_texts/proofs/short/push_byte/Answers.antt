use Rattle.std.proofs.Common.{arith, ◌++◌, ◌∙◌, ap, sym, append_assoc}
use Rattle.command_texts.proofs.Bytes.{byte_digits}
use Rattle.command_texts.proofs.short.push_byte.Goals as goal

pub returns-clause-bytes : goal.returns-clause-bytes
returns-clause-bytes c =
    grind (
      arith,
      c.push_digit-2.ensures.bytes,
      c.push_digit.ensures.bytes,
      c.push_str.ensures.bytes,
      byte_digits c.args.byte (omega (arith, c.ranges.byte)),
      append_assoc,
    )
