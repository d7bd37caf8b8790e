use Rattle.std.proofs.Common.{false}
use Rattle.clip_spans.specs.declared.Span.{Span}
use Rattle.planar_plan.proofs.Stretching.{AreWithin-at}
use Rattle.field_compile.proofs.words.spell_spans.Goals as goal

pub piece-requires : goal.piece-requires
piece-requires c =
    let none : Span = record { from = 0; to = 0; clipped = false } in
    record {
      within = AreWithin-at c.args.row.now.line.grains c.args.spans.now c.loop-span.span-index none c.requires.within c.loop-span-test.true;
    }
