-- What is printed of the rows of a description after a whole stream.
use Rattle.std.specs.Prelude.{◌≡◌, List, ℕ, []}
use Rattle.capture_desc.specs.declared.desc.Desc.{Desc}
use Rattle.damage_law.specs.Laws.{map_after}
use Rattle.damage_map.specs.Maps.{Map, rows_of}
use Rattle.command_texts.specs.DamageTexts.{damage_text}
use Rattle.damage_map.specs.Tracks.{track_notes}
use Rattle.stream_play.specs.Plays.{HasPlayedWatched}

-- a machine of the description took its steps, and the text is that of its rows
pub record TellsPlayed (bytes : List ℕ) (d : Desc) (text : List ℕ) : Type 0 where
  pub map : Map
  pub played : HasPlayedWatched track_notes bytes (map_after d d.fill []) map
  pub tells : text ≡ damage_text d (λ field. rows_of field map)
