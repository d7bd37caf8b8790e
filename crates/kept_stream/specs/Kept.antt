-- A stream file that is read whole before anything is made of it.
use Rattle.std.specs.Prelude.{◌≡◌, ℕ, true, false, List, Option, Ok, Err}
use Rattle.capture_desk.specs.Desks.{Inputs}
use Rattle.capture_file.specs.declared.Input.TheVariants.{Stream}
use Rattle.capture_file.specs.declared.Step.{Step}
use Rattle.capture_file.specs.Streams.{steps_of}
use Rattle.command_texts.specs.declared.refusal.Refusal.{Refusal}
use Rattle.command_texts.specs.declared.refusal.Refusal.TheVariants.{Malformed}
use Rattle.command_steps.specs.Inputs.{Always, ByBytes, Input, Judge, OfInput}

-- the most bytes of a stream that is kept; it is read to one byte beyond them at most
abbrev pub longest_kept : ℕ
longest_kept = 67108864

-- bytes are a whole stream, not of the form for chains
abbrev pub HoldsKept : List ℕ → Type 0
HoldsKept bytes = (steps : List Step) × (steps_of longest_kept false bytes ≡ Ok steps)

-- an input isn't such a stream
abbrev pub IsBadKept : List ℕ → Refusal → Option Inputs → Type 0
IsBadKept name (Malformed Stream fault) inputs = OfInput name inputs (λ bytes. steps_of longest_kept false bytes ≡ Err fault)
IsBadKept name _ inputs = ⊥

abbrev pub kept_streams : Judge
kept_streams = record { most = longest_kept; kept = true; MayGoOn = Always; IsGood = ByBytes HoldsKept; IsBad = IsBadKept }

abbrev pub a_kept_stream : List ℕ → Input
a_kept_stream name = record { name = name; judge = kept_streams }
