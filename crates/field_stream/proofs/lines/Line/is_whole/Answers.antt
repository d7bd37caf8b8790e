use Rattle.std.proofs.Common.{◌%◌, arith}
use Rattle.std.proofs.lemmas.Bool.{eqb-true}
use Rattle.field_stream.proofs.Whole.{whole_packed, whole_planar}
use Rattle.field_stream.proofs.lines.Line.is_whole.Goals as goal

pub returns-in-Packed : goal.returns-in-Packed
returns-in-Packed c =
    λ even.
    let short = rw c.in-Packed.is at c.requires in
    rw c.in-Packed.is (whole_packed c.in-Packed.bytes short.0 (eqb-true (c.in-Packed.bytes % 4) 0 even))

pub returns-then-luma-eq0 : goal.returns-then-luma-eq0
returns-then-luma-eq0 c =
    λ even.
    let short = rw c.in-Planar.is at c.requires in
    rw c.in-Planar.is (whole_planar c.in-Planar.luma c.in-Planar.chroma c.in-Planar.across short.0 (omega (arith, c.if-luma-eq0.true))
    short.2 (eqb-true (c.in-Planar.chroma % 4) 0 even))
