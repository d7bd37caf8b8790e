-- What was handed to a player holds no fault, so that the next piece may be read.
use Rattle.std.proofs.Common.{◌≡◌, ℕ, ◌+◌, Bool, List, [], ◌++◌, take, drop, option_map, Option, Some, None, Result, Ok, Err, sym, ap}
use Rattle.std.proofs.Common.{subst, ◌∙◌}
use Rattle.std.specs.Prelude.{IfOk}
use Rattle.std.proofs.Math.Seq.{take-add}
use Rattle.std.proofs.lemmas.List.{append-nil}
use Rattle.capture_file.specs.declared.FileFault.{FileFault}
use Rattle.capture_file.specs.declared.Step.{Step}
use Rattle.capture_file.specs.Streams.{Reading, stream_of}
use Rattle.capture_file.specs.Readers.{Reader, resumed}
use Rattle.command_steps.specs.Inputs.{OfRest}
use Rattle.command_steps.specs.Reading.{IsPiece}
use Rattle.stream_play.specs.Plays.{EndsWell, GoesOn, HandedPart, longest_stream}
use Rattle.stream_play.specs.Runs.{HoldsNoFault}
use Rattle.stream_play.proofs.Playing.{HandedTo}

-- a whole ends well where what is left of it does
pub well_from : {S : Type 0} (act : Step → S → S) (p : S) (whole : Reading) (now : S) (left : Reading) → GoesOn act p whole now left →
    EndsWell left → EndsWell whole
well_from act p whole now left goes well = λ fault bad. well fault (goes.ending ∙ bad)

-- where nothing was handed yet, the piece ends as before
pub well_before : {S : Type 0} (act : Step → S → S) (m now : S) (reader after : Reader) (piece : List ℕ) (run : ℕ) → run ≡ 0 →
    HandedPart act run m reader piece now after →
    EndsWell (resumed after piece) → EndsWell (resumed reader piece)
well_before act m now reader after piece run none part well =
    let some = part.2 [] in
    let goes : GoesOn act m (resumed reader (piece ++ [])) now (resumed after (piece ++ [])) = rw none at some in
    subst (λ bytes. EndsWell (resumed reader bytes)) (append-nil piece)
    (well_from act m (resumed reader (piece ++ [])) now (resumed after (piece ++ [])) goes
    (subst (λ bytes. EndsWell (resumed after bytes)) (sym (append-nil piece)) well))

pub well_after : {S : Type 0} (act : Step → S → S) (m now : S) (reader after : Reader) (piece : List ℕ) (run : ℕ) → run ≡ 0 →
    HandedPart act run m reader piece now after →
    (r : Result (Option ℕ) FileFault) → IfOk r (λ used. used ≡ None → EndsWell (resumed after piece)) →
    IfOk r (λ used. used ≡ None → EndsWell (resumed reader piece))
well_after act m now reader after piece run none part (Ok used) well =
    λ is. well_before act m now reader after piece run none part (well is)
well_after act m now reader after piece run none part (Err fault) well = tt

-- a piece ends well where its rest does
pub well_piece : {S : Type 0} (act : Step → S → S) (m now : S) (reader after : Reader) (piece : List ℕ) (at : ℕ) →
    ((more : List ℕ) → GoesOn act m (resumed reader (piece ++ more)) now (resumed after (drop at piece ++ more))) →
    EndsWell (resumed after (drop at piece)) → EndsWell (resumed reader piece)
well_piece act m now reader after piece at goes well =
    subst (λ bytes. EndsWell (resumed reader bytes)) (append-nil piece)
    (well_from act m (resumed reader (piece ++ [])) now (resumed after (drop at piece ++ [])) (goes [])
    (subst (λ bytes. EndsWell (resumed after bytes)) (sym (append-nil (drop at piece))) well))

-- before anything is read there is no fault
pub nothing_wrong : (chained : Bool) (o : Option (List ℕ)) → OfRest o (λ bytes. HoldsNoFault chained (take 0 bytes))
unfolding stream_of
nothing_wrong chained None = tt
nothing_wrong chained (Some bytes) = λ fault bad. absurd (cc)

-- nor once one more piece is read that ends well
pub still_sound : {S : Type 0} (act : Step → S → S) (chained : Bool) (m now : S) (after : Reader) (at n : ℕ) (o : Option (List ℕ))
    (new : List ℕ) → HandedTo act chained m now after at o now after →
    OfRest (option_map (λ bytes. drop at bytes) o) (λ rest. IsPiece n rest new) → EndsWell (resumed after (take n new)) →
    OfRest o (λ bytes. HoldsNoFault chained (take (at + n) bytes))
unfolding resumed
still_sound act chained m now after at n None new one read well = tt
still_sound act chained m now after at n (Some bytes) new one read well =
    let piece : take n new ≡ take n (drop at bytes) = read.2 in
    let whole : take at bytes ++ take n new ≡ take (at + n) bytes = ap (λ x. take at bytes ++ x) piece ∙ sym (take-add at n bytes) in
    subst (HoldsNoFault chained) whole
    (well_from act m (stream_of longest_stream chained (take at bytes ++ take n new)) now (resumed after (take n new))
    (one.1 (take n new)) well)
