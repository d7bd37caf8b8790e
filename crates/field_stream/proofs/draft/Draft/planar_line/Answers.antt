use Rattle.std.proofs.Common.{arith, ◌∙◌}
use Rattle.field_stream.specs.Pushes.{planar_at}
use Rattle.field_stream.proofs.Drafting.{flat_map_more}
use Rattle.field_stream.proofs.draft.Draft.planar_line.Goals as goal

pub loop-index-preserved : goal.loop-index-preserved
loop-index-preserved c =
    record {
      value =
          c.planar_at.ensures.value
          ∙ flat_map_more (planar_at c.args.luma c.args.chroma c.args.across) c.loop-index.index c.loop-index.self c.args.self.now
          c.loop-index.invariant.value;
      length = omega (arith, c.planar_at.ensures.length, c.loop-index.invariant.length);
    }
