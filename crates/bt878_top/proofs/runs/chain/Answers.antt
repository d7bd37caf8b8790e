use Rattle.command_steps.proofs.Sequence.{takes_before}
use Rattle.std.proofs.Common.{true, subst, ◌∙◌, [], ◌∷◌}
use Rattle.command_inputs.specs.Chains.{IsFrameFile, a_first_description, a_second_description}
use Rattle.slot_chain.specs.Plays.{chain_act}
use Rattle.stream_play.specs.Plays.{PlaysAll}
use Rattle.stream_play.specs.Runs.{HasPlayedChain, a_stream_file}
use Rattle.stream_play.proofs.Chains.{chain_played}
use Rattle.bt878_top.proofs.Playing.{all_three_taken, chain_stream_stops, second_description_stops, still_told}
use Rattle.bt878_top.proofs.Products.{chain_made}
use Rattle.bt878_top.proofs.runs.chain.Goals as goal

pub returns-in_err-frame-clause-takes : goal.returns-in_err-frame-clause-takes
returns-in_err-frame-clause-takes g c =
    let see = g.D.Desk.seen in
    let first = c.args.first.now in
    takes_before (a_first_description first) [] (see c.args.desk.now) (see c.frame_file.new.desk)
    (a_second_description first c.args.second.now ∷ a_stream_file true c.args.stream.now ∷ []) c.from_residual.result
    c.in_err-frame.field-0.0 c.from_residual.ensures.1 c.in_err-frame.ensures.takes

pub returns-in_err-buffer-clause-takes : goal.returns-in_err-buffer-clause-takes
returns-in_err-buffer-clause-takes g c =
    let see = g.D.Desk.seen in
    second_description_stops c.args.first.now c.args.second.now c.args.stream.now c.in_ok-frame.frame (see c.args.desk.now)
    (see c.frame_file.new.desk) c.in_ok-frame.ensures.takes c.in_ok-frame.ensures.describes
    c.from_residual-in_err-buffer.result c.in_err-buffer.field-0.0
    (see c.buffer_file.new.desk) c.from_residual-in_err-buffer.ensures.1 c.in_err-buffer.ensures.takes

pub returns-in_err-player-clause-takes : goal.returns-in_err-player-clause-takes
returns-in_err-player-clause-takes g c =
    let see = g.D.Desk.seen in
    chain_stream_stops c.args.first.now c.args.second.now c.args.stream.now c.in_ok-frame.frame (see c.args.desk.now)
    (see c.frame_file.new.desk) c.in_ok-frame.ensures.takes c.in_ok-frame.ensures.describes
    (see c.buffer_file.new.desk) c.in_ok-buffer.ensures.takes c.from_residual-in_err-player.result c.in_err-player.field-0.0
    (see c.play_and_tell.new.desk) c.from_residual-in_err-player.ensures.1 c.in_err-player.ensures.takes

pub returns-clause-takes : goal.returns-clause-takes
returns-clause-takes g c =
    let see = g.D.Desk.seen in
    all_three_taken c.args.first.now c.args.second.now c.args.stream.now c.in_ok-frame.frame (see c.args.desk.now)
    (see c.frame_file.new.desk) c.in_ok-frame.ensures.takes c.in_ok-frame.ensures.describes
    (see c.buffer_file.new.desk) c.in_ok-buffer.ensures.takes (see c.play_and_tell.new.desk) c.in_ok-player.ensures.takes

pub returns-clause-makes : goal.returns-clause-makes
returns-clause-makes g c =
    let old = (g.D.Desk.seen c.args.desk.now).told in
    let mid = (g.D.Desk.seen c.frame_file.new.desk).told in
    let last = (g.D.Desk.seen c.buffer_file.new.desk).told in
    let first = c.in_ok-frame.frame in
    let pairs = c.in_ok-buffer.ensures.pairs in
    let buffer = c.in_ok-buffer.buffer in
    let player = c.in_ok-player.field-0.player in
    let same = c.in_ok-buffer.ensures.takes.told ∙ c.in_ok-frame.ensures.takes.told in
    chain_made c.args.first c.args.second c.args.stream c.args.image old.inputs first pairs.second player c.in_ok-player.field-0.text
    pairs.pair c.in_ok-frame.ensures.describes
    (still_told c.args.second.now old mid (λ bytes. IsFrameFile bytes pairs.second)
    (λ bytes. IsFrameFile bytes pairs.second) c.in_ok-frame.ensures.takes.told (λ bytes is. is) pairs.reads)
    (still_told c.args.stream.now old last (λ bytes. PlaysAll chain_act true bytes buffer player)
    (λ bytes. HasPlayedChain bytes first pairs.second player) same
    (λ bytes p. chain_played bytes first pairs.second player (subst (λ b. PlaysAll chain_act true bytes b player) pairs.begins p))
    c.in_ok-player.ensures.played)
    c.in_ok-player.ensures.text
