-- A stream that is played behind other inputs.
use Rattle.std.proofs.Common.{◌≡◌, ℕ, List, [], ◌∷◌, Result, Ok, Err, IsErrAnd, true, refl, sym, ap, subst, ◌∙◌}
use Rattle.capture_desk.specs.Desks.{Seen, Told}
use Rattle.capture_file.specs.Streams.{steps_run}
use Rattle.machine_model.specs.States.{State}
use Rattle.machine_model.specs.Steps.{run}
use Rattle.command_texts.specs.declared.refusal.Refusal.{Refusal}
use Rattle.command_steps.specs.Inputs.{Input, OfInput, apart}
use Rattle.command_steps.specs.Reading.{Stopped, Takes, Took}
use Rattle.command_steps.proofs.Inputs.{OfInput-map, same_inputs}
use Rattle.command_steps.proofs.Sequence.{stopped_before, stopped_then, stops_with, takes_before, took_then}
use Rattle.capture_desc.specs.declared.desc.Desc.{Desc}
use Rattle.command_inputs.specs.Chains.{IsFrameFile, a_first_description, a_second_description, a_second_with}
use Rattle.command_inputs.proofs.Pairing.{second_taken}
use Rattle.stream_play.specs.Plays.{HasPlayed}
use Rattle.stream_play.specs.Runs.{a_stream_file}

-- the first input was taken, and the second one was not
pub second_stops : {A : Type 0} (first second : Input) (r : Result A Refusal) (refusal : Refusal) (old mid new : Seen) →
    IsErrAnd r (λ y. y ≡ refusal) → first.judge.kept ≡ true → Took (first ∷ []) old mid → Stopped (second ∷ []) refusal mid new →
    Takes (first ∷ second ∷ []) r old new
second_stops first second r refusal old mid new is kept took stopped =
    stops_with (first ∷ second ∷ []) r refusal old new is
    (stopped_then (first ∷ []) old mid (second ∷ []) refusal new (kept, tt) took stopped)

-- the first input was not taken
pub first_stops : {A : Type 0} (first second : Input) (r : Result A Refusal) (refusal : Refusal) (old mid : Seen) →
    IsErrAnd r (λ y. y ≡ refusal) → Stopped (first ∷ []) refusal old mid → Takes (first ∷ second ∷ []) r old mid
first_stops first second r refusal old mid is stopped = takes_before first [] old mid (second ∷ []) r refusal is stopped

-- both were taken
pub both_taken : (first second : Input) (old mid new : Seen) → Took (first ∷ []) old mid → Took (second ∷ []) mid new →
    Took (first ∷ second ∷ []) old new
both_taken first second old mid new one two = took_then (first ∷ []) old mid (second ∷ []) new one two

-- what holds of an input holds where the desk tells the same, and so does what follows from it
pub still_told : (name : List ℕ) (old mid : Told) (P Q : List ℕ → Type 0) → apart mid ≡ apart old → ((bytes : List ℕ) → P bytes → Q bytes) →
    OfInput name mid.inputs P → OfInput name old.inputs Q
still_told name old mid P Q same f h =
    OfInput-map name old.inputs P Q f (subst (λ inputs. OfInput name inputs P) (same_inputs mid old same) h)

-- a machine that was played, under other names
pub played_as : (bytes : List ℕ) (a b x y : State) → a ≡ b → x ≡ y → HasPlayed bytes a x → HasPlayed bytes b y
played_as bytes a b x y e f (steps, reads, is) = (steps, reads, sym f ∙ is ∙ ap (λ m. run m (steps_run steps)) e)

-- ---- the two descriptions of a chain, and a stream

module _ (one two stream : List ℕ) (first : Desc) (old mid : Seen) (took : Took (a_first_description one ∷ []) old mid)
    (reads : OfInput one old.told.inputs (λ bytes. IsFrameFile bytes first)) where
  -- the desk still tells the first
  reads_still : OfInput one mid.told.inputs (λ bytes. IsFrameFile bytes first)
  reads_still =
      still_told one mid.told old.told (λ bytes. IsFrameFile bytes first) (λ bytes. IsFrameFile bytes first) (sym took.told)
      (λ bytes is. is) reads

  abbrev all_three : List Input
  all_three = a_first_description one ∷ a_second_description one two ∷ a_stream_file true stream ∷ []

  -- the second makes no chain with the first, or isn't one
  pub second_description_stops : {A : Type 0} (r : Result A Refusal) (refusal : Refusal) (new : Seen) → IsErrAnd r (λ y. y ≡ refusal) →
      Stopped (a_second_with first two ∷ []) refusal mid new → Takes all_three r old new
  second_description_stops r refusal new is stopped =
      let h : Stopped (a_second_description one two ∷ []) refusal mid new =
      second_taken one two first mid new reads_still {A = ℕ} [] (Err refusal) stopped in
      stops_with all_three r refusal old new is
      (stopped_before (a_first_description one) (a_second_description one two ∷ []) old new (a_stream_file true stream ∷ []) refusal
      (stopped_then (a_first_description one ∷ []) old mid (a_second_description one two ∷ []) refusal new (refl, tt) took h))

  -- it makes a chain with the first
  module _ (last : Seen) (pairs : Took (a_second_with first two ∷ []) mid last) where
    descriptions_taken : Took (a_first_description one ∷ a_second_description one two ∷ []) old last
    descriptions_taken =
        let h : Took (a_second_description one two ∷ []) mid last =
        second_taken one two first mid last reads_still {A = ℕ} [] (Ok 0) pairs in
        took_then (a_first_description one ∷ []) old mid (a_second_description one two ∷ []) last took h

    pub chain_stream_stops : {A : Type 0} (r : Result A Refusal) (refusal : Refusal) (new : Seen) → IsErrAnd r (λ y. y ≡ refusal) →
        Stopped (a_stream_file true stream ∷ []) refusal last new → Takes all_three r old new
    chain_stream_stops r refusal new is stopped =
        stops_with all_three r refusal old new is
        (stopped_then (a_first_description one ∷ a_second_description one two ∷ []) old last (a_stream_file true stream ∷ []) refusal new
        (refl, (refl, tt)) descriptions_taken stopped)

    pub all_three_taken : (new : Seen) → Took (a_stream_file true stream ∷ []) last new → Took all_three old new
    all_three_taken new plays =
        took_then (a_first_description one ∷ a_second_description one two ∷ []) old last
        (a_stream_file true stream ∷ []) new descriptions_taken plays
