use Rattle.std.proofs.Common.{◌≡◌, ◌++◌, Bool, subst}
use Rattle.std.proofs.lemmas.Result.{err_from_is_err_and}
use Rattle.trace_play.specs.Playing.{text_left}
use Rattle.bt878_top.proofs.Saying.{piece_breaks_off, piece_said, said_both}
use Rattle.bt878_top.proofs.Tracing.{piece_made, still_to_say}
use Rattle.bt878_top.proofs.traces.say_pieces.Goals as goal

pub loop-more-preserved : goal.loop-more-preserved
loop-more-preserved g c =
    let see = g.D.Desk.seen in
    let before = c.loop-more.invariant in
    let so_far =
    subst (λ (more : Bool). before.0 ++ still_to_say more c.loop-more.trace ≡ text_left c.args.trace.now) c.loop-more-test.true before.1 in
    let split =
    piece_made c.fill-more.result c.as_bytes.result.now _ _ _ c.loop-more.trace c.fill-more.new.self c.as_bytes.ensures.value
    c.as_str.ensures.value c.clear.ensures c.fill-more.ensures.more c.fill-more.ensures.end in
    let said = piece_said before.0 c.as_bytes.result.now _ _ _ _ _ _ split so_far before.2 c.in_ok-say_all.ensures.says in (
      before.0 ++ c.as_bytes.result.now,
      said.0,
      said.1,
      said_both before.0 c.as_bytes.result.now (see c.args.desk.now) (see c.loop-more.desk)
          (see c.say_all.new.desk) before.3 c.in_ok-say_all.ensures.counts,
    )

pub returns-in_err-say_all-clause-says : goal.returns-in_err-say_all-clause-says
returns-in_err-say_all-clause-says g c =
    let p = err_from_is_err_and c.from_residual.result c.from_residual.ensures.1 in
    let before = c.loop-more.invariant in
    let so_far =
    subst (λ (more : Bool). before.0 ++ still_to_say more c.loop-more.trace ≡ text_left c.args.trace.now) c.loop-more-test.true before.1 in
    rw p.1 (piece_breaks_off before.0 c.as_bytes.result.now _ _ _ _ _ _
    (piece_made c.fill-more.result c.as_bytes.result.now _ _ _ c.loop-more.trace c.fill-more.new.self c.as_bytes.ensures.value
    c.as_str.ensures.value c.clear.ensures c.fill-more.ensures.more c.fill-more.ensures.end)
    so_far before.2 c.in_err-say_all.ensures.says)
