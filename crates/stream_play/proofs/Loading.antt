-- A stream that is opened and played: why it stops.
use Rattle.std.proofs.Common.{◌≡◌, ℕ, inl, false, Bool, List, Option, Err}
use Rattle.capture_desk.specs.Desks.{Seen, is_missing, after_open}
use Rattle.command_texts.specs.declared.refusal.Refusal.{Refusal}
use Rattle.command_texts.specs.declared.refusal.Refusal.TheVariants.{ReadFault, Malformed, NoMemory}
use Rattle.capture_file.specs.declared.Input.TheVariants.{Stream}
use Rattle.capture_file.specs.Streams.{steps_of}
use Rattle.command_steps.specs.Inputs.{StopsAt}
use Rattle.command_steps.specs.Reading.{MayCome}
use Rattle.command_steps.proofs.Inputs.{opened_input, rose_from}
use Rattle.stream_play.specs.Plays.{StopsPlaying, longest_stream}
use Rattle.stream_play.specs.Runs.{IsBadStream}

module _ (chained : Bool) where
  pub stops_at_stream : (refusal : Refusal) (name : List ℕ) (old mid new : Seen) → is_missing name old.told.inputs ≡ false →
      mid.told ≡ after_open name old.told →
      mid.reads ≡ old.reads → StopsPlaying chained mid.told.rest refusal mid new → StopsAt (IsBadStream chained) name refusal old new
  stops_at_stream ReadFault name old mid new there opened counts h = inl (rose_from old.reads mid.reads new.reads counts h)
  stops_at_stream (Malformed Stream fault) name old mid new there opened counts h =
      opened_input name old.told mid.told (λ bytes. steps_of longest_stream chained bytes ≡ Err fault) there opened h
  stops_at_stream NoMemory name old mid new there opened counts h = tt
  stops_at_stream refusal name old mid new there opened counts h = absurd h

  -- it never runs out of memory, and the text of no refusal of it takes memory
  pub comes_of_stream : (refusal : Refusal) (rest : Option (List ℕ)) (mid new : Seen) → StopsPlaying chained rest refusal mid new →
      MayCome refusal false
  comes_of_stream ReadFault rest mid new h = λ takes. absurd takes
  comes_of_stream (Malformed Stream fault) rest mid new h = λ takes. absurd takes
  comes_of_stream refusal rest mid new h = absurd h
