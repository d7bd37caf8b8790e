use Rattle.std.proofs.Common.{ap, arith, refl, ◌∙◌}
use Rattle.std.proofs.lemmas.Result.{err_from_is_err_and}
use Rattle.field_stream.specs.Lines.{line_pushes}
use Rattle.field_stream.proofs.Moving.{broken_as, moved_as, moved_none, repeat_broken, repeat_moved}
use Rattle.field_stream.proofs.stream.put_copies.Goals as goal

pub loop-done-init : goal.loop-done-init
loop-done-init g c = record { line = refl; moved = moved_none _ _; counts = (refl, refl, refl) }

pub loop-done-preserved : goal.loop-done-preserved
loop-done-preserved g c =
    record {
      line = c.in_ok-put_again.ensures.line ∙ c.loop-done.invariant.line;
      moved =
          repeat_moved c.loop-done._done (line_pushes c.args.template.now.line) _ _ _ _ _ _ c.loop-done.invariant.moved
          (moved_as _ _ _ _ _ _ (ap line_pushes c.loop-done.invariant.line) c.in_ok-put_again.ensures.moves);
      counts = (
        c.in_ok-put_again.ensures.counts.0 ∙ c.loop-done.invariant.counts.0,
        c.in_ok-put_again.ensures.counts.1 ∙ c.loop-done.invariant.counts.1,
        c.in_ok-put_again.ensures.counts.2 ∙ c.loop-done.invariant.counts.2,
      );
    }

pub returns-in_err-put_again-clause-moves : goal.returns-in_err-put_again-clause-moves
returns-in_err-put_again-clause-moves g c =
    let p = err_from_is_err_and c.from_residual.result c.from_residual.ensures.1 in
    rw p.1 (repeat_broken c.loop-done._done c.args.count (line_pushes c.args.template.now.line) _ _ _ _ _
    (omega (arith, c.loop-done-test.true)) c.loop-done.invariant.moved
    (broken_as _ _ _ _ _ (ap line_pushes c.loop-done.invariant.line) c.in_err-put_again.ensures.moves))
