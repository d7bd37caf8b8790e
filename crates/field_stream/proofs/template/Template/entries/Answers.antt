use Rattle.std.proofs.Common.{ap, arith, length, take}
use Rattle.std.proofs.lemmas.List.{length-take-le}
use Rattle.field_stream.specs.Lines.{line_pushes}
use Rattle.field_stream.specs.Drafts.{Patterned}
use Rattle.field_stream.proofs.Redrawing.{whole_count}
use Rattle.field_stream.proofs.template.Template.entries.Goals as goal

pub returns-clause-count : goal.returns-clause-count
returns-clause-count c =
    let t = c.self.inside in
    let len = length-take-le t.len t.room (omega (arith, c.self.invariant.2)) in
    let all = whole_count (line_pushes t.line) (take t.len t.room) t.len c.self.invariant.1 c.self.invariant.0 len in
    let count = ap (λ (p : Patterned). length (line_pushes p.line)) c.self.view_is in
    omega (arith, all, count)

pub returns-clause-length : goal.returns-clause-length
returns-clause-length c =
    let t = c.self.inside in
    let len = length-take-le t.len t.room (omega (arith, c.self.invariant.2)) in
    let all = whole_count (line_pushes t.line) (take t.len t.room) t.len c.self.invariant.1 c.self.invariant.0 len in
    let bytes = ap (λ (p : Patterned). length p.bytes) c.self.view_is in
    omega (arith, all, len, bytes)
