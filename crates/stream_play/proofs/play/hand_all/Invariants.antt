use Rattle.std.proofs.Common.{◌≡◌, ◌+◌, ◌-◌, ◌≤◌, length, take}
use Rattle.capture_desk.specs.Desks.{after_read}
use Rattle.capture_file.specs.Readers.{fresh}
use Rattle.command_steps.specs.Inputs.{OfRest, SameCounts}
use Rattle.command_steps.proofs.Taking.{ReadSoFar}
use Rattle.stream_play.specs.Runs.{HoldsNoFault}
use Rattle.stream_play.specs.Plays.{Handed, ReadsForm, longest_stream}
use Rattle.stream_play.proofs.play.hand_all.Given as goal

abbrev pub invariant-loop-place : goal.invariant-loop-place
invariant-loop-place g l =
    record {
      within : l.place ≤ longest_stream + 1;
      told : (g.D.Desk.seen l.desk).told ≡ after_read l.place (g.D.Desk.seen l.fn.desk).told;
      at : l.reader.place ≡ l.place;
      handed : OfRest (g.D.Desk.seen l.fn.desk).told.rest (λ bytes. (l.place ≤ length bytes)
          × Handed g.P.Player.act l.fn.player (fresh longest_stream g.P.Player.has_slots) (take l.place bytes) l.player l.reader);
      sound : OfRest (g.D.Desk.seen l.fn.desk).told.rest (λ bytes. HoldsNoFault g.P.Player.has_slots (take l.place bytes));
      calls :
          ReadSoFar (λ at. OfRest (g.D.Desk.seen l.fn.desk).told.rest (λ bytes. HoldsNoFault g.P.Player.has_slots (take at bytes)))
          longest_stream l.place (g.D.Desk.seen l.fn.desk)
          (g.D.Desk.seen l.desk);
      form : ReadsForm g.P.Player.has_slots l.reader;
      counts : SameCounts (g.D.Desk.seen l.fn.desk) (g.D.Desk.seen l.desk);
    }

abbrev pub decreases-loop-place : goal.decreases-loop-place
decreases-loop-place g l = longest_stream + 1 - l.place
