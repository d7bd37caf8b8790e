use Rattle.std.proofs.Common.{◌≡◌, ◌++◌, map, drop}
use Rattle.pixel_layout.specs.Layouts.{layout}
use Rattle.picture_model.specs.Plans.{in_grains}
use Rattle.planar_plan.specs.Lines.{AreWithin}
use Rattle.planar_plan.proofs.cut.spans_in_grains.Given as goal

-- the spans done and those left are all spans
abbrev pub invariant-loop-span : goal.invariant-loop-span
invariant-loop-span l =
    record {
      pixels : AreWithin 1024 (drop l.span-index l.spans);
      whole : l.grains.items ++ map (in_grains (layout l.format)) (drop l.span-index l.spans) ≡ map (in_grains (layout l.format)) l.spans;
    }
