-- Laws of players and of streams that come in pieces.
use Rattle.std.proofs.Common.{◌≡◌, ℕ, ◌+◌, ◌-◌, ◌<◌, ◌≤◌, ◌⊎◌, inl, inr, Bool, List, [], ◌∷◌, ◌++◌, length, take, drop, option_map, Option}
use Rattle.std.proofs.Common.{Some, None, Ok, Err, Result, refl, sym, ap, subst}
use Rattle.std.proofs.Common.{◌∙◌, arith, length-drop, length-take, append_assoc}
use Rattle.std.specs.Prelude.{IfErr, IfOk}
use Rattle.std.proofs.lemmas.Bool.{lt-ltb}
use Rattle.std.proofs.Math.Seq.{take-add}
use Rattle.std.proofs.lemmas.List.{append-nil, take_all, drop-drop, take-append-drop, take-take}
use Rattle.command_steps.specs.Inputs.{OfRest}
use Rattle.command_steps.specs.Reading.{IsPiece}
use Rattle.capture_file.specs.Streams.{steps_of, Reading, reading, with_step, Ending, Unfinished, Ended, Bad, stream_of, whole_file}
use Rattle.capture_file.specs.Streams.{within_if, too_long, judged}
use Rattle.capture_file.specs.declared.FileFault.{FileFault}
use Rattle.capture_file.specs.declared.Step.{Step}
use Rattle.capture_file.specs.Readers.{Reader, fresh, resumed, closed_by}
use Rattle.stream_play.specs.Plays.{GoesOn, Handed, HandedAll, HandedFront, HandedPart, IsAtFault, PlaysAll, acted, longest_stream}

module _ {S : Type 0} (act : Step → S → S) where
  pub GoesOn-itself : (p : S) (whole : Reading) → GoesOn act p whole p whole
  GoesOn-itself p whole = record { ran = refl; ending = refl }

  pub GoesOn-then : (p : S) (whole : Reading) (now : S) (left : Reading) (later : S) (less : Reading) →
      GoesOn act p whole now left → GoesOn act now left later less → GoesOn act p whole later less
  GoesOn-then p whole now left later less one two = record { ran = two.ran ∙ one.ran; ending = two.ending ∙ one.ending }

  -- a step is taken
  pub GoesOn-step : (p : S) (step : Step) (left : Reading) → GoesOn act p (with_step step left) (act step p) left
  GoesOn-step p step left = record { ran = refl; ending = refl }

  -- two pieces are one
  pub Handed-then : (p now later : S) (reader after last : Reader) (first second : List ℕ) →
      Handed act p reader first now after → Handed act now after second later last → Handed act p reader (first ++ second) later last
  Handed-then p now later reader after last first second one two more =
      subst (λ bytes. GoesOn act p (resumed reader bytes) later (resumed last more)) (sym (append_assoc first second more))
      (GoesOn-then p (resumed reader (first ++ (second ++ more))) now (resumed after (second ++ more)) later (resumed last more)
      (one (second ++ more)) (two more))

  -- what is left after an answer of the reader
  pub GoesOn-after : (p : S) (step : Step) (whole left : Reading) (now : S) → whole ≡ with_step step left → now ≡ act step p →
      GoesOn act p whole now left
  GoesOn-after p step whole left now e f =
      subst (λ w. GoesOn act p w now left) (sym e)
      (subst (λ n. GoesOn act p (with_step step left) n left) (sym f) (GoesOn-step p step left))

  pub GoesOn-same : (p : S) (whole left : Reading) → whole ≡ left → GoesOn act p whole p left
  GoesOn-same p whole left e =
      record { ran = ap (λ (r : Reading). acted act r.steps p) (sym e); ending = ap (λ (r : Reading). r.ending) (sym e) }

-- all of a piece
pub drop_whole : (piece more : List ℕ) → drop (length piece) piece ++ more ≡ more
drop_whole [] more = refl
drop_whole (x ∷ piece) more = drop_whole piece more

-- the bytes after the first ones
pub GoesOn-from : {S : Type 0} (act : Step → S → S) (at used : ℕ) (m : S) (reader after last : Reader) (piece : List ℕ) (now later : S) →
    ((more : List ℕ) → GoesOn act m (resumed reader (piece ++ more)) now (resumed after (drop at piece ++ more))) →
    ((more : List ℕ) → GoesOn act now (resumed after (drop at piece ++ more)) later (resumed last (drop used (drop at piece) ++ more))) →
    (more : List ℕ) → GoesOn act m (resumed reader (piece ++ more)) later (resumed last (drop (at + used) piece ++ more))
GoesOn-from act at used m reader after last piece now later one two more =
    subst (λ bytes. GoesOn act m (resumed reader (piece ++ more)) later (resumed last (bytes ++ more))) (drop-drop used at piece)
    (GoesOn-then act m (resumed reader (piece ++ more)) now (resumed after (drop at piece ++ more)) later
    (resumed last (drop used (drop at piece) ++ more)) (one more) (two more))

-- what is handed behind the first bytes of a piece is handed with them
pub handed_behind : {S : Type 0} (act : Step → S → S) (at used : ℕ) (m : S) (reader after last : Reader) (piece rest : List ℕ)
    (now later : S) → rest ≡ drop at piece →
    at ≤ length piece → after.place ≡ reader.place + at →
    ((more : List ℕ) → GoesOn act m (resumed reader (piece ++ more)) now (resumed after (drop at piece ++ more))) →
    HandedPart act used now after rest later last → HandedPart act (at + used) m reader piece later last
handed_behind act at used m reader after last piece rest now later is within place one two =
    let behind = subst (λ bytes. HandedPart act used now after bytes later last) is two in
    let size = length-drop at piece in (
      omega (arith, behind.0, size, within),
      omega (arith, behind.1, place),
      GoesOn-from act at used m reader after last piece now later one behind.2,
    )

-- where nothing was handed yet
module _ {S : Type 0} (act : Step → S → S) (m now later : S) (reader after last : Reader) (piece : List ℕ) (run : ℕ) (none : run ≡ 0)
    (part : HandedPart act run m reader piece now after) where
  before : (more : List ℕ) → GoesOn act m (resumed reader (piece ++ more)) now (resumed after (piece ++ more))
  before more = let some = part.2 more in rw none at some

  front_after : (o : Option ℕ) → HandedFront act o now after piece later last → HandedFront act o m reader piece later last
  front_after None front = (
    omega (arith, none, part.1, front.0),
    λ more. GoesOn-then act m (resumed reader (piece ++ more)) now (resumed after (piece ++ more)) later (resumed last more) (before more)
        (front.1 more),
  )
  front_after (Some used) front = (
    front.0,
    (
      front.1.0,
      omega (arith, none, part.1, front.1.1),
      λ more.
          GoesOn-then act m (resumed reader (piece ++ more)) now (resumed after (piece ++ more)) later
          (resumed last (drop used piece ++ more)) (before more) (front.1.2 more),
    ),
  )

  pub handed_after : (r : Result (Option ℕ) FileFault) → IfOk r (λ o. HandedFront act o now after piece later last) →
      IfOk r (λ o. HandedFront act o m reader piece later last)
  handed_after (Ok o) front = front_after o front
  handed_after (Err fault) front = tt

  pub fault_after : (r : Result (Option ℕ) FileFault) → IfErr r (λ fault. IsAtFault after piece fault) →
      IfErr r (λ fault. IsAtFault reader piece fault)
  fault_after (Ok o) at = tt
  fault_after (Err fault) at = λ more. sym (before more).ending ∙ at more

-- nothing is handed on at first
pub nothing_handed : {S : Type 0} (act : Step → S → S) (chained : Bool) (m : S) (reader : Reader) (o : Option (List ℕ)) →
    reader ≡ fresh longest_stream chained →
    OfRest o (λ bytes. (0 ≤ length bytes) × Handed act m (fresh longest_stream chained) (take 0 bytes) m reader)
nothing_handed act chained m reader None is = tt
nothing_handed act chained m reader (Some bytes) is = (
  omega arith,
  λ more. GoesOn-same act m (resumed (fresh longest_stream chained) more) (resumed reader more) (ap (λ r. resumed r more) (sym is)),
)

-- what is read next is handed on
module _ {S : Type 0} (act : Step → S → S) (chained : Bool) (m now : S) (after : Reader) where
  abbrev pub HandedTo : ℕ → Option (List ℕ) → S → Reader → Type 0
  HandedTo at o later last =
      OfRest o (λ bytes. (at ≤ length bytes) × Handed act m (fresh longest_stream chained) (take at bytes) later last)

  pub handed_more : (at n : ℕ) (o : Option (List ℕ)) (new : List ℕ) (later : S) (last : Reader) → HandedTo at o now after →
      OfRest (option_map (λ bytes. drop at bytes) o) (λ rest. IsPiece n rest new) → Handed act now after (take n new) later last →
      HandedTo (at + n) o later last
  handed_more at n None new later last one read two = tt
  handed_more at n (Some bytes) new later last one read two =
      let piece : take n new ≡ take n (drop at bytes) = read.2 in
      let whole : take at bytes ++ take n new ≡ take (at + n) bytes = ap (λ x. take at bytes ++ x) piece ∙ sym (take-add at n bytes) in
      let few = simp length-drop at read.0 in (
        omega (arith, few, one.0),
        subst (λ x. Handed act m (fresh longest_stream chained) x later last) whole
            (Handed-then act m now later (fresh longest_stream chained) after last (take at bytes) (take n new) one.1 two),
      )

  pub fault_found : (at n : ℕ) (o : Option (List ℕ)) (new : List ℕ) (fault : FileFault) → HandedTo at o now after →
      OfRest (option_map (λ bytes. drop at bytes) o) (λ rest. IsPiece n rest new) → IsAtFault after (take n new) fault →
      OfRest o (λ bytes. steps_of longest_stream chained bytes ≡ Err fault)
  unfolding resumed
  fault_found at n None new fault one read is = tt
  fault_found at n (Some bytes) new fault one read is =
      let piece : take n new ≡ take n (drop at bytes) = read.2 in
      let rest : List ℕ = drop n (drop at bytes) in
      let whole : take at bytes ++ (take n new ++ rest) ≡ bytes =
      ap (λ x. take at bytes ++ (x ++ rest)) piece ∙ ap (λ x. take at bytes ++ x) (take-append-drop n (drop at bytes))
      ∙ take-append-drop at bytes in
      let ending : (stream_of longest_stream chained bytes).ending ≡ Bad fault =
      ap (λ x. (stream_of longest_stream chained x).ending) (sym whole) ∙ sym (one.1 (take n new ++ rest)).ending ∙ is rest in
      ap (λ e. whole_file (length bytes) (stream_of longest_stream chained bytes).steps e) ending

  pub ended : (at n : ℕ) (o : Option (List ℕ)) (new : List ℕ) → HandedTo at o now after →
      OfRest (option_map (λ bytes. drop at bytes) o) (λ rest. IsPiece n rest new) → n ≡ 0 → after.place ≡ at →
      OfRest o (λ bytes. HandedAll act chained bytes m now after)
  ended at n None new one read is place = tt
  ended at n (Some bytes) new one read is place =
      let none : length bytes - at ≡ 0 = sym (length-drop at bytes) ∙ ap length (read.1 is) in
      record {
        handed = subst (λ k. Handed act m (fresh longest_stream chained) (take k bytes) now after) (sym place) one.1;
        all = inl (omega (arith, none, one.0, place));
      }

-- the end of a stream
IsRight : Result (Unit {0}) FileFault → Type 0
IsRight (Ok _) = Unit {0}
IsRight (Err _) = ⊥

IsWrong : Result (Unit {0}) FileFault → Type 0
IsWrong (Ok _) = ⊥
IsWrong (Err _) = Unit {0}

right_file : (place count : ℕ) (steps : List Step) (e : Ending) → closed_by place e ≡ Ok tt → whole_file count steps e ≡ Ok steps
unfolding IsRight
right_file place count steps Unfinished is = absurd (subst IsRight (sym is) tt)
right_file place count steps Ended is = refl
right_file place count steps (Bad fault) is = absurd (subst IsRight (sym is) tt)

abbrev pub IsSure : ℕ → ℕ → Ending → Type 0
IsSure place count Unfinished = place ≡ count
IsSure place count Ended = Unit {0}
IsSure place count (Bad fault) = Unit {0}

wrong_file : (place count : ℕ) (steps : List Step) (e : Ending) (fault : FileFault) → IsSure place count e → closed_by place e ≡ Err fault →
    whole_file count steps e ≡ Err fault
unfolding IsWrong
wrong_file place count steps Unfinished fault sure is =
    ap (λ at. whole_file at steps Unfinished) (sym sure)
    ∙ ap (λ (r : Result (Unit {0}) FileFault). elim r as (λ _. Result (List Step) FileFault) [ Ok _ ↦ Ok steps | Err f ↦ Err f ]) is
wrong_file place count steps Ended fault sure is = absurd (subst IsWrong (sym is) tt)
wrong_file place count steps (Bad other) fault sure is =
    ap (λ (r : Result (Unit {0}) FileFault). elim r as (λ _. Result (List Step) FileFault) [ Ok _ ↦ Ok steps | Err f ↦ Err f ]) is

sure_within : (place count : ℕ) (e : Ending) → place ≡ count → IsSure place count e
sure_within place count Unfinished is = is
sure_within place count Ended is = tt
sure_within place count (Bad fault) is = tt

sure_beyond : (place count limit : ℕ) (e : Ending) → IsSure place count (too_long limit e)
sure_beyond place count limit Unfinished = tt
sure_beyond place count limit Ended = tt
sure_beyond place count limit (Bad fault) = tt

-- bytes beyond the limit change nothing
record IsEnough (chained : Bool) (place : ℕ) (bytes : List ℕ) : Type 0 where
  pub same : stream_of longest_stream chained (take place bytes) ≡ stream_of longest_stream chained bytes
  pub sure : IsSure place (length bytes) (stream_of longest_stream chained bytes).ending

beyond : (chained : Bool) (limit : ℕ) (bytes : List ℕ) → limit < length bytes → stream_of limit chained bytes
    ≡ reading (judged chained (take limit bytes)).steps (too_long limit (judged chained (take limit bytes)).ending)
unfolding stream_of
beyond chained limit bytes over = ap (λ b. within_if b limit (judged chained (take limit bytes))) (lt-ltb limit (length bytes) over)

enough : (chained : Bool) (place : ℕ) (bytes : List ℕ) → (place ≡ length bytes) ⊎ ((longest_stream < place) × (place ≤ length bytes)) →
    IsEnough chained place bytes
enough chained place bytes (inl is) =
    record {
      same = ap (stream_of longest_stream chained) (take_all place bytes (omega (arith, is)));
      sure = sure_within place (length bytes) _ is;
    }
enough chained place bytes (inr h) =
    let size = length-take place bytes in
    let front : take longest_stream (take place bytes) ≡ take longest_stream bytes =
    take-take longest_stream place bytes (omega (arith, h.0)) in
    let long : longest_stream < length bytes = omega (arith, h.0, h.1) in
    let whole = beyond chained longest_stream bytes long in
    let part = beyond chained longest_stream (take place bytes) (omega (arith, h.0, h.1, size)) in
    record {
      same = part ∙ ap (λ f. reading (judged chained f).steps (too_long longest_stream (judged chained f).ending)) front ∙ sym whole;
      sure =
          subst (λ (r : Reading). IsSure place (length bytes) r.ending) (sym whole)
          (sure_beyond place (length bytes) longest_stream (judged chained (take longest_stream bytes)).ending);
    }

goes_on : {S : Type 0} (act : Step → S → S) (chained : Bool) (bytes : List ℕ) (m now : S) (after : Reader) →
    HandedAll act chained bytes m now after → GoesOn act m (stream_of longest_stream chained bytes) now (resumed after [])
unfolding resumed
goes_on act chained bytes m now after h =
    subst (λ r. GoesOn act m r now (resumed after []))
    (ap (stream_of longest_stream chained) (append-nil (take after.place bytes)) ∙ (enough chained after.place bytes h.all).same)
    (h.handed [])

module _ {S : Type 0} (act : Step → S → S) (chained : Bool) (o : Option (List ℕ)) (m now : S) (after : Reader) where
  pub played : OfRest o (λ bytes. HandedAll act chained bytes m now after) →
      (resumed after []).steps ≡ [] → Ok tt ≡ closed_by after.place (resumed after []).ending →
      OfRest o (λ bytes. PlaysAll act chained bytes m now)
  played h none is = of_rest o h
    where
      of_rest : (o : Option (List ℕ)) → OfRest o (λ bytes. HandedAll act chained bytes m now after) →
          OfRest o (λ bytes. PlaysAll act chained bytes m now)
      of_rest None h = tt
      of_rest (Some bytes) h =
          let on = goes_on act chained bytes m now after h in (
            (stream_of longest_stream chained bytes).steps,
            ap (whole_file (length bytes) (stream_of longest_stream chained bytes).steps) (sym on.ending)
                ∙ right_file after.place (length bytes) (stream_of longest_stream chained bytes).steps (resumed after []).ending (sym is),
            ap (λ steps. acted act steps now) (sym none) ∙ on.ran,
          )

  pub not_played : (fault : FileFault) → OfRest o (λ bytes. HandedAll act chained bytes m now after) →
      Err fault ≡ closed_by after.place (resumed after []).ending → OfRest o (λ bytes. steps_of longest_stream chained bytes ≡ Err fault)
  not_played fault h is = of_rest o h
    where
      of_rest : (o : Option (List ℕ)) → OfRest o (λ bytes. HandedAll act chained bytes m now after) →
          OfRest o (λ bytes. steps_of longest_stream chained bytes ≡ Err fault)
      of_rest None h = tt
      of_rest (Some bytes) h =
          let on = goes_on act chained bytes m now after h in
          let whole = stream_of longest_stream chained bytes in
          wrong_file after.place (length bytes) whole.steps whole.ending fault (enough chained after.place bytes h.all).sure
          (ap (closed_by after.place) (sym on.ending) ∙ sym is)
