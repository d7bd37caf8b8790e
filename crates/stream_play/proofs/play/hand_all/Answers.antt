use Rattle.std.proofs.Common.{◌≡◌, ◌+◌, ◌-◌, ◌≤◌, ℕ, min, take, ◌∙◌, ap, refl, sym, subst, arith, length-take}
use Rattle.capture_desk.specs.Desks.{Told, after_read}
use Rattle.capture_desk.proofs.Laws.{after_read-after_read, after_read-none}
use Rattle.command_steps.specs.Inputs.{OfRest}
use Rattle.command_steps.specs.Reading.{IsPiece, IsNextRead}
use Rattle.command_steps.proofs.Taking.{all_read_end, all_reads_end, nothing_read, read_end, read_failed, read_more, reads_end}
use Rattle.stream_play.specs.Plays.{ReadsForm, longest_stream}
use Rattle.stream_play.specs.Runs.{HoldsNoFault}
use Rattle.stream_play.proofs.Sound.{nothing_wrong, still_sound}
use Rattle.capture_file.specs.Readers.{Reader}
use Rattle.stream_play.proofs.Playing.{ended, fault_found, handed_more, nothing_handed}
use Rattle.stream_play.proofs.play.hand_all.Goals as goal

-- a read asks for a piece, or for what is left
next_read : (MayGoOn : ℕ → Type 0) (at most : ℕ) → at ≤ longest_stream → MayGoOn at → most ≡ min (longest_stream + 1 - at) 65536 →
    IsNextRead MayGoOn longest_stream at most
next_read MayGoOn at most few may is = (few, may, omega (arith, few, is))

pub loop-place-preserved : goal.loop-place-preserved
loop-place-preserved g c =
    let see = g.D.Desk.seen in
    let MayRead : ℕ → Type 0 =
    (λ at. OfRest (see c.args.desk.now).told.rest (λ bytes. HoldsNoFault g.P.Player.has_slots (take at bytes))) in
    let i = c.loop-place.invariant in
    let e = c.in-Ok.ensures in
    let n = c.in-Ok.count in
    let size = length-take n c.read_into.new.buffer in
    record {
      within = omega (arith, e.few, c.min-piece.ensures, c.loop-place-test.true);
      told = e.told ∙ ap (λ t. after_read n t) i.told ∙ after_read-after_read c.loop-place.place n _;
      at = omega (
        arith,
        size,
        e.few,
        c.min-piece.ensures,
        c.in_default.ensures.place,
        i.at,
        c.requires.room,
        c.loop-place.auto.buffer,
        c.read_into.auto.buffer,
      );
      handed =
          handed_more _ _ _ _ _ _ _ _ _ _ _ i.handed
          (subst (λ (t : Told). OfRest t.rest (λ rest. IsPiece n rest c.read_into.new.buffer)) i.told e.piece)
          c.in_default.ensures.handed;
      sound =
          still_sound _ _ _ _ _ _ _ _ _ i.handed
          (subst (λ (t : Told). OfRest t.rest (λ rest. IsPiece n rest c.read_into.new.buffer)) i.told e.piece) c.in_default.ensures.sound;
      calls =
          read_more MayRead longest_stream c.loop-place.place c.min-piece.result n (see c.args.desk.now) (see c.loop-place.desk)
          (see c.read_into.new.desk) i.calls
          (next_read MayRead c.loop-place.place c.min-piece.result (omega (arith, c.loop-place-test.true)) i.sound c.min-piece.ensures)
          c.if-count-eq0.false e.calls;
      form = c.in_default.ensures.form;
      counts = (e.counts.0 ∙ i.counts.0, e.counts.1 ∙ i.counts.1);
    }

pub returns-in-Err-hand_piece-clause-stops : goal.returns-in-Err-hand_piece-clause-stops
returns-in-Err-hand_piece-clause-stops g c =
    let i = c.loop-place.invariant in
    fault_found _ _ _ _ _ _ _ _ _ _ i.handed
    (subst (λ (t : Told). OfRest t.rest (λ rest. IsPiece c.in-Ok.count rest c.read_into.new.buffer)) i.told c.in-Ok.ensures.piece)
    c.in-Err-hand_piece.ensures.fault

pub returns-then-count-eq0-clause-handed : goal.returns-then-count-eq0-clause-handed
returns-then-count-eq0-clause-handed g c =
    let i = c.loop-place.invariant in
    ended _ _ _ _ _ _ _ _ _ i.handed
    (subst (λ (t : Told). OfRest t.rest (λ rest. IsPiece c.in-Ok.count rest c.read_into.new.buffer)) i.told c.in-Ok.ensures.piece)
    c.if-count-eq0.true i.at

pub loop-place-init : goal.loop-place-init
loop-place-init g c =
    let see = g.D.Desk.seen in
    let MayRead : ℕ → Type 0 =
    (λ at. OfRest (see c.args.desk.now).told.rest (λ bytes. HoldsNoFault g.P.Player.has_slots (take at bytes))) in
    record {
      within = omega arith;
      told = sym (after_read-none (see c.args.desk.now).told);
      at = ap (λ (r : Reader). r.place) c.requires.begins;
      handed =
          nothing_handed g.P.Player.act g.P.Player.has_slots c.args.player.now c.args.reader.now
          (see c.args.desk.now).told.rest c.requires.begins;
      sound = nothing_wrong g.P.Player.has_slots (see c.args.desk.now).told.rest;
      calls = nothing_read MayRead longest_stream (see c.args.desk.now);
      form = subst (ReadsForm g.P.Player.has_slots) (sym c.requires.begins) (refl, tt);
      counts = (refl, refl);
    }

pub returns-in-Err-clause-calls : goal.returns-in-Err-clause-calls
returns-in-Err-clause-calls g c =
    let see = g.D.Desk.seen in
    let MayRead : ℕ → Type 0 =
    (λ at. OfRest (see c.args.desk.now).told.rest (λ bytes. HoldsNoFault g.P.Player.has_slots (take at bytes))) in
    read_failed MayRead longest_stream c.loop-place.place c.min-piece.result (see c.args.desk.now) (see c.loop-place.desk)
    (see c.read_into.new.desk) c.loop-place.invariant.calls
    (next_read MayRead c.loop-place.place c.min-piece.result
    (omega (arith, c.loop-place-test.true)) c.loop-place.invariant.sound c.min-piece.ensures) c.in-Err.ensures.calls

pub returns-then-count-eq0-clause-calls : goal.returns-then-count-eq0-clause-calls
returns-then-count-eq0-clause-calls g c =
    let see = g.D.Desk.seen in
    let MayRead : ℕ → Type 0 =
    (λ at. OfRest (see c.args.desk.now).told.rest (λ bytes. HoldsNoFault g.P.Player.has_slots (take at bytes))) in
    read_end MayRead longest_stream c.loop-place.place c.min-piece.result c.in-Ok.count (see c.args.desk.now) (see c.loop-place.desk)
    (see c.read_into.new.desk) c.loop-place.invariant.calls
    (next_read MayRead c.loop-place.place c.min-piece.result
    (omega (arith, c.loop-place-test.true)) c.loop-place.invariant.sound c.min-piece.ensures) c.in-Ok.ensures.calls

pub returns-then-count-eq0-clause-through : goal.returns-then-count-eq0-clause-through
returns-then-count-eq0-clause-through g c =
    let see = g.D.Desk.seen in
    let MayRead : ℕ → Type 0 =
    (λ at. OfRest (see c.args.desk.now).told.rest (λ bytes. HoldsNoFault g.P.Player.has_slots (take at bytes))) in
    all_read_end MayRead longest_stream c.loop-place.place c.min-piece.result c.in-Ok.count (see c.args.desk.now) (see c.loop-place.desk)
    (see c.read_into.new.desk) c.loop-place.invariant.calls
    (next_read MayRead c.loop-place.place c.min-piece.result
    (omega (arith, c.loop-place-test.true)) c.loop-place.invariant.sound c.min-piece.ensures) c.if-count-eq0.true c.in-Ok.ensures.calls

pub returns-in-Err-hand_piece-clause-calls : goal.returns-in-Err-hand_piece-clause-calls
returns-in-Err-hand_piece-clause-calls g c =
    let see = g.D.Desk.seen in
    let MayRead : ℕ → Type 0 =
    (λ at. OfRest (see c.args.desk.now).told.rest (λ bytes. HoldsNoFault g.P.Player.has_slots (take at bytes))) in
    reads_end MayRead longest_stream (c.loop-place.place + c.in-Ok.count) (see c.args.desk.now) (see c.read_into.new.desk)
    (read_more MayRead longest_stream c.loop-place.place c.min-piece.result c.in-Ok.count (see c.args.desk.now) (see c.loop-place.desk)
    (see c.read_into.new.desk) c.loop-place.invariant.calls
    (next_read MayRead c.loop-place.place c.min-piece.result
    (omega (arith, c.loop-place-test.true)) c.loop-place.invariant.sound c.min-piece.ensures) c.if-count-eq0.false c.in-Ok.ensures.calls)

pub returns-clause-calls : goal.returns-clause-calls
returns-clause-calls g c =
    let see = g.D.Desk.seen in
    let MayRead : ℕ → Type 0 =
    (λ at. OfRest (see c.args.desk.now).told.rest (λ bytes. HoldsNoFault g.P.Player.has_slots (take at bytes))) in
    reads_end MayRead longest_stream c.loop-place.place (see c.args.desk.now) (see c.loop-place.desk) c.loop-place.invariant.calls

pub returns-clause-through : goal.returns-clause-through
returns-clause-through g c =
    let see = g.D.Desk.seen in
    let MayRead : ℕ → Type 0 =
    (λ at. OfRest (see c.args.desk.now).told.rest (λ bytes. HoldsNoFault g.P.Player.has_slots (take at bytes))) in
    all_reads_end MayRead longest_stream c.loop-place.place (see c.args.desk.now) (see c.loop-place.desk) c.loop-place.invariant.calls
    (omega (arith, c.loop-place-test.false))
