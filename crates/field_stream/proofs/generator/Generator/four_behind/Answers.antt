use Rattle.std.proofs.Common.{◌+◌, ◌∙◌, ℕ, ap, arith}
use Rattle.field_stream.specs.Generator.{drawn, number_after}
use Rattle.field_stream.proofs.Turning.{byte_at, number_after-add}
use Rattle.field_stream.proofs.generator.Generator.four_behind.Goals as goal

pub returns : goal.returns
returns c =
    let g = c.self.inside in
    let is = c.self.invariant.0 in
    let others = c.args.others in
    let from = number_after-add g.first g.at others in
    let there = from ∙ ap (λ (n : ℕ). number_after n others) c.self.view_is in
    let a = byte_at g.first (g.at + others) 0 (g.at + others) g.bytes is (omega arith) (omega arith) in
    let b = byte_at g.first (g.at + others) 1 (g.at + others + 1) g.bytes is (omega arith) (omega arith) in
    let d = byte_at g.first (g.at + others) 2 (g.at + others + 2) g.bytes is (omega arith) (omega arith) in
    let e = byte_at g.first (g.at + others) 3 (g.at + others + 3) g.bytes is (omega arith) (omega arith) in
    rw a (rw b (rw d (rw e (ap (λ (n : ℕ). drawn n 4) there))))
