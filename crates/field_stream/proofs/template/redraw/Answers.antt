use Rattle.std.proofs.Common.{◌≡◌, ℕ, ◌+◌, ◌*◌, ap, refl, ◌∙◌, arith, length}
use Rattle.field_stream.specs.Generator.{drawn, number_after}
use Rattle.field_stream.proofs.Redrawing.{put_at, redrawn, redrawn_all, redrawn_more}
use Rattle.field_stream.proofs.template.redraw.Goals as goal

pub loop-index-init : goal.loop-index-init
loop-index-init c = record { long = refl; value = λ pushes old whole count is. is }

pub loop-index-preserved : goal.loop-index-preserved
loop-index-preserved c =
    let k = c.loop-index.index in
    let now = c.args.generator.now in
    record {
      long = c.put_lanes.ensures.length ∙ c.loop-index.invariant.long;
      value =
          λ pushes old whole count is.
          c.put_lanes.ensures.value
          ∙ ap (λ four. put_at (11 * k + 2) four c.loop-index.bytes) c.four_behind.ensures
          ∙ ap (put_at (11 * k + 2) (drawn (number_after now (4 * k)) 4)) (c.loop-index.invariant.value pushes old whole count is)
          ∙ redrawn_more k pushes now old whole (omega (arith, count, c.loop-index-test.true));
    }

pub returns : goal.returns
returns c =
    λ pushes whole count is.
    c.loop-index.invariant.value pushes is.0 whole count is.1
    ∙ ap (λ (n : ℕ). redrawn n c.args.generator.now is.0 pushes)
    (let all : c.loop-index.index ≡ length pushes = omega (arith, count, c.loop-index-test.false, c.loop-index.auto.index-end) in all)
    ∙ redrawn_all pushes c.args.generator.now is.0
