use Rattle.std.proofs.Common.{◌≡◌, ◌+◌, ◌-◌, ◌≤◌, ◌++◌, List, ℕ, length, drop}
use Rattle.capture_file.specs.Readers.{resumed}
use Rattle.stream_play.specs.Plays.{GoesOn, ReadsForm}
use Rattle.stream_play.proofs.play.hand_piece.Given as goal

abbrev pub invariant-loop-used : goal.invariant-loop-used
invariant-loop-used g l =
    record {
      within : l.at ≤ length l.piece;
      handed : (more : List ℕ) →
          GoesOn g.P.Player.act l.fn.player (resumed l.fn.reader (l.piece ++ more)) l.player (resumed l.reader (drop l.at l.piece ++ more));
      form : ReadsForm g.P.Player.has_slots l.reader;
      place : l.reader.place ≡ l.fn.reader.place + l.at;
    }

abbrev pub decreases-loop-used : goal.decreases-loop-used
decreases-loop-used g l = length l.piece - l.at
