use Rattle.std.proofs.Common.{arith, ◌++◌}
use Rattle.picture_model.specs.Plans.{pieces_of, span_cuts}
use Rattle.planar_plan.specs.Lines.{strip_of}
use Rattle.planar_plan.proofs.Cuts.{counts_more, one_more}
use Rattle.planar_plan.proofs.Reaching.{each_fits}
use Rattle.planar_plan.proofs.cut.cut_span.Goals as goal

pub loop-at-preserved : goal.loop-at-preserved
loop-at-preserved c =
    let memory = c.args.scatter.now.chunks in
    let strip = strip_of c.args.line.now in
    let span = c.args.span in
    let out = c.loop-at.pieces.items in
    let new = c.push.new.self.items in
    let piece = c.next_piece-grains.result.0 in
    let all = c.args.pieces.now.items ++ pieces_of memory strip (span_cuts memory strip span) in
    let each = each_fits c.args.scatter.now strip span c.requires.line c.requires.within in
    record {
      begun = let begun = c.loop-at.invariant.begun in omega arith;
      within = c.next_piece-grains.ensures.inside;
      whole =
          one_more memory strip span out new all piece c.loop-at.at c.next_piece-grains.result.1 each c.loop-at.invariant.begun
          c.loop-at-test.true
          c.next_piece-grains.ensures.grains c.next_piece-grains.ensures.piece c.in_ok-push.ensures.items c.loop-at.invariant.whole;
      windows = c.next_piece-grains.ensures.windows;
      counts =
          λ before. counts_more memory strip span out new all piece c.next_piece-grains.ensures.counts c.in_ok-push.ensures.items
          (c.loop-at.invariant.counts before);
    }
