use Rattle.std.proofs.Common.{◌∙◌, ◌+◌, ◌-◌, ℕ, replicate, ap, subst}
use Rattle.pixel_layout.specs.Layouts.{layout}
use Rattle.pixel_layout.specs.declared.Format.{Format}
use Rattle.picture_model.specs.Plans.{skipped_strip}
use Rattle.picture_model.specs.Programs.{lines_instrs}
use Rattle.field_compile.proofs.Appending.{IsLeft}
use Rattle.field_compile.proofs.Lines.{fewer_lines, some_left}
use Rattle.field_compile.proofs.push_skipped_lines.Goals as goal

pub loop-preserved : goal.loop-preserved
loop-preserved c =
    let d = c.args.frame.now in
    let strip = skipped_strip d in
    let old = c.args.out.now.items in
    let out = c.loop.out.items in
    let end = c.desc.result.now.skip_lines in
    let at = c.loop.counter in
    let all = lines_instrs d (replicate d.skip_lines strip) in
    fewer_lines d old out c.push_pieces.new.out.items strip
    (replicate (end - (at + 1)) strip) all c.is_planar-planar.result c.as_slice.result.now
    (subst (λ (n : ℕ). IsLeft old out (lines_instrs d (replicate n strip)) all) (some_left end at c.loop-test.true) c.loop.invariant)
    (c.is_planar-planar.ensures ∙ ap (λ (f : Format). (layout f).planar) c.format.ensures.value)
    (c.as_slice.ensures ∙ c.in_ok-pieces.ensures.plan)
    c.push_pieces.ensures.kept c.in_ok-push_pieces.ensures.words
