-- A stream that is handed to a player piece by piece. A player is anything that takes the steps of a stream; `act` is
-- what a step makes of it.
use Rattle.std.specs.Prelude.{◌≡◌, ℕ, ⊤, ◌+◌, ◌<◌, ◌≤◌, ◌⊎◌, Bool, false, true, List, [], ◌∷◌, ◌++◌, length, take, drop, Option, Some, None}
use Rattle.std.specs.Prelude.{Ok, Err}
use Rattle.machine_model.specs.States.{State}
use Rattle.machine_model.specs.Steps.{run}
use Rattle.capture_desk.specs.Desks.{Seen}
use Rattle.capture_file.specs.declared.Step.{Step}
use Rattle.capture_file.specs.declared.Step.TheVariants.{Patch}
use Rattle.capture_file.specs.declared.FileFault.{FileFault}
use Rattle.capture_file.specs.declared.Input.TheVariants.{Stream}
use Rattle.capture_file.specs.declared.reader.Got.{Got}
use Rattle.capture_file.specs.declared.reader.Got.TheVariants as got
use Rattle.capture_file.specs.declared.records.Form.{Form}
use Rattle.capture_file.specs.declared.records.Form.TheVariants.{Bfs3}
use Rattle.capture_file.specs.declared.records.Found.{Found}
use Rattle.capture_file.specs.Streams.{Reading, Bad, atomic, steps_of, steps_run}
use Rattle.capture_file.specs.Records.{push_in, turns_in}
use Rattle.capture_file.specs.Readers.{Phase, Reader, Records, fresh, resumed}
use Rattle.command_texts.specs.declared.refusal.Refusal.{Refusal}
use Rattle.command_texts.specs.declared.refusal.Refusal.TheVariants.{ReadFault, Malformed}
use Rattle.command_steps.specs.Inputs.{OfRest, ReadsRose}
use Rattle.machine_watch.specs.Watches.{Notes, Watching, watched}

-- the most bytes of a stream
abbrev pub longest_stream : ℕ
longest_stream = 4294967295

-- a player after some steps
abbrev pub acted : {S : Type 0} → (Step → S → S) → List Step → S → S
acted act [] p = p
acted act (step ∷ steps) p = acted act steps (act step p)

-- what a step of a stream makes of a machine that is watched
abbrev pub watch_act : {K : Type 0} → Notes K → Step → Watching K → Watching K
watch_act notes step w = watched notes (atomic step) w

-- a player with what is left of a stream goes on to where it came from: to the same state, and the same end
pub record GoesOn {S : Type 0} (act : Step → S → S) (p : S) (whole : Reading) (now : S) (left : Reading) : Type 0 where
  pub ran : acted act left.steps now ≡ acted act whole.steps p
  pub ending : left.ending ≡ whole.ending

-- a player was handed a piece, whatever comes after it
abbrev pub Handed : {S : Type 0} → (Step → S → S) → S → Reader → List ℕ → S → Reader → Type 0
Handed act p reader piece now after =
    (more : List ℕ) → GoesOn act p (resumed reader (piece ++ more)) now (resumed after more)

-- so many bytes at the front of a piece were handed to a player
abbrev pub HandedPart : {S : Type 0} → (Step → S → S) → ℕ → S → Reader → List ℕ → S → Reader → Type 0
HandedPart act used p reader piece now after =
    (used ≤ length piece) × (after.place ≡ reader.place + used)
    × ((more : List ℕ) → GoesOn act p (resumed reader (piece ++ more)) now (resumed after (drop used piece ++ more)))

-- the records at the front of a piece were handed to a player, with so many bytes; where there is no whole record, the
-- piece was
abbrev pub HandedFront : {S : Type 0} → (Step → S → S) → Option ℕ → S → Reader → List ℕ → S → Reader → Type 0
HandedFront act (Some used) p reader piece now after = (0 < used) × HandedPart act used p reader piece now after
HandedFront act None p reader piece now after =
    (after.place ≡ reader.place + length piece) × Handed act p reader piece now after

-- neither a data push nor turns
abbrev pub IsOther : Found → Type 0
IsOther found = (push_in found ≡ None) × (turns_in found ≡ None)

-- the piece holds the stream's first fault
abbrev pub IsAtFault : Reader → List ℕ → FileFault → Type 0
IsAtFault reader piece fault = (more : List ℕ) → (resumed reader (piece ++ more)).ending ≡ Bad fault

-- bytes of a stream hold no fault
abbrev pub EndsWell : Reading → Type 0
EndsWell found = (fault : FileFault) → found.ending ≡ Bad fault → ⊥

-- all bytes of a stream, of the form for chains or of another, were handed on, or more than a stream may have
pub record HandedAll {S : Type 0} (act : Step → S → S) (chained : Bool) (bytes : List ℕ) (p now : S) (after : Reader) : Type 0 where
  pub handed : Handed act p (fresh longest_stream chained) (take after.place bytes) now after
  pub all : (after.place ≡ length bytes) ⊎ ((longest_stream < after.place) × (after.place ≤ length bytes))

-- a player took the steps of a whole stream
abbrev pub PlaysAll : {S : Type 0} → (Step → S → S) → Bool → List ℕ → S → S → Type 0
PlaysAll act chained bytes p now =
    (steps : List Step) × (steps_of longest_stream chained bytes ≡ Ok steps) × (now ≡ acted act steps p)

-- and so did a machine
abbrev pub HasPlayed : List ℕ → State → State → Type 0
HasPlayed bytes m now =
    (steps : List Step) × (steps_of longest_stream false bytes ≡ Ok steps) × (now ≡ run m (steps_run steps))

-- and so did a machine that is watched
abbrev pub HasPlayedWatched : {K : Type 0} → Notes K → List ℕ → Watching K → Watching K → Type 0
HasPlayedWatched notes bytes w now =
    (steps : List Step) × (steps_of longest_stream false bytes ≡ Ok steps) × (now ≡ watched notes (steps_run steps) w)

-- why a stream was not played
abbrev pub StopsPlaying : Bool → Option (List ℕ) → Refusal → Seen → Seen → Type 0
StopsPlaying chained rest ReadFault old new = ReadsRose old new
StopsPlaying chained rest (Malformed Stream fault) old new = OfRest rest (λ bytes. steps_of longest_stream chained bytes ≡ Err fault)
StopsPlaying chained rest _ old new = ⊥

-- ---- patches are only in streams of the form for chains

abbrev pub IsFormOf : Bool → Form → Type 0
IsFormOf chained Bfs3 = chained ≡ true
IsFormOf chained _ = ⊤

abbrev pub IsPhaseOf : Bool → Phase → Type 0
IsPhaseOf chained (Records form) = IsFormOf chained form
IsPhaseOf chained _ = ⊤

-- a reader reads a stream of the form for chains, or of another
abbrev pub ReadsForm : Bool → Reader → Type 0
ReadsForm chained r = (r.chained ≡ chained) × IsPhaseOf chained r.phase

-- such a stream may have this step
abbrev pub MayStand : Bool → Step → Type 0
MayStand chained (Patch slot buffer) = chained ≡ true
MayStand chained _ = ⊤

abbrev pub MayGive : Bool → Got → Type 0
MayGive chained (got.Step step) = MayStand chained step
MayGive chained _ = ⊤
