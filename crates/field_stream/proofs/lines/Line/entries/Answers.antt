use Rattle.std.proofs.Common.{arith}
use Rattle.field_stream.specs.Pushes.{line_entries, status_at}
use Rattle.field_stream.proofs.Counting.{count_line, count_packed}
use Rattle.field_stream.proofs.lines.Line.entries.Goals as goal

pub returns-in-Packed-clause-value : goal.returns-in-Packed-clause-value
returns-in-Packed-clause-value c =
    rw c.in-Packed.is (omega (arith, c.line_entries.ensures, count_packed (status_at c.in-Packed.bytes) 0 (line_entries c.in-Packed.bytes)))

pub returns-in-Planar-clause-value : goal.returns-in-Planar-clause-value
returns-in-Planar-clause-value c =
    let short = rw c.in-Planar.is at c.requires.short in
    let even = rw c.in-Planar.is at c.requires.even in
    rw c.in-Planar.is (omega (
      arith,
      c.line_entries-in-Planar.ensures,
      c.line_entries-in-Planar-2.ensures,
      count_line c.in-Planar.luma c.in-Planar.chroma c.in-Planar.across short.3 even,
    ))
