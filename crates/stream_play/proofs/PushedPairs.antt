-- A push that is handed to a player with the turns behind it, and pairs behind those.
use Rattle.std.proofs.Common.{◌≡◌, ℕ, ◌+◌, ◌<◌, ◌≤◌, Bool, List, ◌++◌, length, take, drop, refl, arith}
use Rattle.fifo_model.specs.declared.Entry.{Entry}
use Rattle.fifo_model.specs.declared.Queue.{Queue}
use Rattle.capture_file.specs.declared.Step.{Step}
use Rattle.capture_file.specs.declared.Step.TheVariants.{Push}
use Rattle.capture_file.specs.Readers.{Reader, Takes}
use Rattle.stream_play.specs.Plays.{HandedPart}
use Rattle.stream_play.proofs.Playing.{GoesOn-after, handed_behind}

module _ {S : Type 0} (act : Step → S → S) (p now later : S) (reader after last end : Reader) (piece rest : List ℕ) (queue : Queue)
    (entry : Entry) (turned : ℕ)
    (is : rest ≡ drop 6 piece) (taken : Takes (Push queue entry) 6 reader piece after)
    (behind : HandedPart act turned (act (Push queue entry) p) after rest now last) where
  -- the push, and the turns behind it
  pub push_handed : HandedPart act (6 + turned) p reader piece now last
  push_handed =
      handed_behind act 6 turned p reader after last piece rest (act (Push queue entry) p) now is taken.within taken.place
      (λ more. GoesOn-after act p (Push queue entry) _ _ (act (Push queue entry) p) (taken.whole more) refl) behind

  -- and pairs behind those
  pub pairs_behind : (used : ℕ) → HandedPart act used now last (drop (6 + turned) piece) later end →
      HandedPart act (6 + turned + used) p reader piece later end
  pairs_behind used pairs =
      handed_behind act (6 + turned) used p reader last end piece
      (drop (6 + turned) piece) now later refl push_handed.0 push_handed.1 push_handed.2 pairs
