use Rattle.std.proofs.Common.{[], ◌∷◌, ◌++◌, Result, Ok, Err, refl}
use Rattle.std.proofs.lemmas.Result.{err_from_is_err_and}
use Rattle.field_stream.specs.Pushes.{stream_pushes}
use Rattle.field_stream.specs.Made.{made}
use Rattle.field_stream.specs.Drafts.{pushed_all}
use Rattle.field_stream.proofs.Moving.{broken_puts, puts_as, puts_last}
use Rattle.field_stream.proofs.Making.{begun_as, made_whole}
use Rattle.field_stream.proofs.stream.make.Goals as goal

abbrev done : Result (Unit {0}) (Unit {0})
done = Ok tt

abbrev failed : Result (Unit {0}) (Unit {0})
failed = Err tt

pub returns-in_err-put_frames-clause-puts : goal.returns-in_err-put_frames-clause-puts
returns-in_err-put_frames-clause-puts g c =
    let p = err_from_is_err_and c.from_residual.result c.from_residual.ensures.1 in
    let begun = begun_as c.args.seed _ _ c.new-draft.ensures c.append.ensures in
    rw p.1 (broken_puts (pushed_all (stream_pushes c.args.frame.now c.args.frames) c.append.new.self) (0 ∷ [])
    (made c.args.frame.now c.args.seed c.args.frames) _ _
    (made_whole c.args.frame.now c.args.seed c.args.frames _ begun) c.in_err-put_frames.ensures.moves)

pub returns-in_err-put_end-clause-puts : goal.returns-in_err-put_end-clause-puts
returns-in_err-put_end-clause-puts g c =
    let p = err_from_is_err_and c.from_residual-in_err-put_end.result c.from_residual-in_err-put_end.ensures.1 in
    let begun = begun_as c.args.seed _ _ c.new-draft.ensures c.append.ensures in
    rw p.1 (puts_as _ (made c.args.frame.now c.args.seed c.args.frames) _ _ failed
    (made_whole c.args.frame.now c.args.seed c.args.frames _ begun)
    (puts_last (pushed_all (stream_pushes c.args.frame.now c.args.frames) c.append.new.self) c.put_frames.new.draft (0 ∷ [])
    (c.put_frames.new.draft.bytes ++ 0 ∷ []) _ _ _ failed
    c.in_ok-put_frames.ensures.moves refl c.in_err-put_end.ensures.puts))

pub returns-clause-puts : goal.returns-clause-puts
returns-clause-puts g c =
    let begun = begun_as c.args.seed _ _ c.new-draft.ensures c.append.ensures in
    puts_as _ (made c.args.frame.now c.args.seed c.args.frames) _ _ done
    (made_whole c.args.frame.now c.args.seed c.args.frames _ begun)
    (puts_last (pushed_all (stream_pushes c.args.frame.now c.args.frames) c.append.new.self) c.put_frames.new.draft (0 ∷ [])
    (c.put_frames.new.draft.bytes ++ 0 ∷ []) _ _ _ done
    c.in_ok-put_frames.ensures.moves refl c.in_ok-put_end.ensures.puts)
