use Rattle.std.proofs.Common.{◌≡◌, ◌<◌, ◌≢◌, ◌+◌, ◌%◌, ℕ, ap, ◌∙◌, arith, length, get_or-set_other, get_or-set_same, below_more}
use Rattle.field_stream.specs.Generator.{next, number_after}
use Rattle.field_stream.proofs.Turning.{number_after-next}
use Rattle.field_stream.proofs.generator.bytes_from.Goals as goal

pub loop-byte-preserved : goal.loop-byte-preserved
loop-byte-preserved c =
    let drawn : next c.loop-byte.number ≡ number_after c.args.first (c.loop-byte.byte-index + 1) =
    ap next c.loop-byte.invariant.number ∙ number_after-next c.args.first c.loop-byte.byte-index in
    record {
      number = drawn;
      small = omega arith;
      bytes =
          below_more _ _
          (λ k h. let ne : k ≢ c.loop-byte.byte-index = omega arith in rw get_or-set_other (c.loop-byte.invariant.bytes k h))
          (let lt : c.loop-byte.byte-index < length c.loop-byte.byte-items = omega arith in
          rw get_or-set_same (ap (λ (n : ℕ). n % 256) drawn));
    }
