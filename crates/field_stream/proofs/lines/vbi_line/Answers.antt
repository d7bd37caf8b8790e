use Rattle.std.proofs.Common.{arith, ap}
use Rattle.capture_desc.specs.declared.desc.Desc.{Desc}
use Rattle.field_stream.proofs.Framed.{vbi_lines_range}
use Rattle.field_stream.proofs.lines.vbi_line.Goals as goal

pub returns-clause-short : goal.returns-clause-short
returns-clause-short c =
    let bytes = ap (λ (d : Desc). d.vbi_bytes) c.desc.ensures.value in
    let range = (vbi_lines_range c.args.frame.now c.desc.ensures.framed).1 c.requires in
    (omega (arith, bytes, range.0), omega (arith, bytes, range.1))
