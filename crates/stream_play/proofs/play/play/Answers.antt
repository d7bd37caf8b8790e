use Rattle.std.proofs.Common.{◌∙◌, ap, sym}
use Rattle.capture_file.specs.Streams.{Reading}
use Rattle.capture_file.specs.Readers.{closed_by}
use Rattle.stream_play.proofs.Playing.{not_played, played}
use Rattle.stream_play.proofs.play.play.Goals as goal

pub returns-in-Ok-clause-played : goal.returns-in-Ok-clause-played
returns-in-Ok-clause-played g c =
    let e = c.close.ensures in
    played _ _ _ _ _ _ c.in_ok-hand_all.ensures.handed (ap (λ (r : Reading). r.steps) e.rest)
    (sym c.in-Ok.is ∙ e.value ∙ sym (ap (λ (r : Reading). closed_by c.hand_all.new.reader.place r.ending) e.rest))

pub returns-in-Err-clause-stops : goal.returns-in-Err-clause-stops
returns-in-Err-clause-stops g c =
    let e = c.close.ensures in
    not_played _ _ _ _ _ _ _ c.in_ok-hand_all.ensures.handed
    (sym c.in-Err.is ∙ e.value ∙ sym (ap (λ (r : Reading). closed_by c.hand_all.new.reader.place r.ending) e.rest))
