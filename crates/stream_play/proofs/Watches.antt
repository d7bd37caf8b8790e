-- A machine that is watched took the steps of a stream one after the other, and so all together.
use Rattle.std.proofs.Common.{◌≡◌, ℕ, false, List, [], ◌∷◌, refl, ap, ◌∙◌}
use Rattle.capture_file.specs.declared.Step.{Step}
use Rattle.capture_file.specs.Streams.{atomic, steps_run}
use Rattle.machine_watch.specs.Watches.{Notes, Watching, watched}
use Rattle.machine_watch.proofs.Keeping.{watched-append}
use Rattle.stream_play.specs.Plays.{HasPlayed, HasPlayedWatched, PlaysAll, acted, watch_act}

module _ {K : Type 0} (notes : Notes K) where
  pub acted_watched : (steps : List Step) (w : Watching K) → acted (watch_act notes) steps w ≡ watched notes (steps_run steps) w
  acted_watched [] w = refl
  acted_watched (one ∷ steps) w = acted_watched steps (watched notes (atomic one) w) ∙ watched-append notes (atomic one) (steps_run steps) w

  pub watched_played : (bytes : List ℕ) (w now : Watching K) → PlaysAll (watch_act notes) false bytes w now →
      HasPlayedWatched notes bytes w now
  watched_played bytes w now (steps, reads, is) = (steps, reads, is ∙ acted_watched steps w)

  -- so did the machine that is watched
  pub machine_played : (bytes : List ℕ) (w now : Watching K) → PlaysAll (watch_act notes) false bytes w now →
      HasPlayed bytes w.machine now.machine
  machine_played bytes w now plays =
      let played = watched_played bytes w now plays in
      (played.0, played.1, ap (λ (x : Watching K). x.machine) played.2)
