-- The fields of a stream, and their arrival.
use Rattle.std.proofs.Common.{◌≡◌, ℕ, suc, ◌+◌, ◌-◌, ◌*◌, ◌<◌, ◌≤◌, true, List, [], ◌∷◌, ◌++◌, length, take, drop, replicate, refl, sym, ap}
use Rattle.std.proofs.Common.{◌∙◌, subst, arith, length-append}
use Rattle.std.specs.List.{flat_map}
use Rattle.std.proofs.Math.Seq.{take-append-add, take-append_seam, drop-append_seam}
use Rattle.std.proofs.lemmas.List.{append_assoc, append-nil}
use Rattle.std.proofs.lemmas.List.Concat.{flat_map-append}
use Rattle.fifo_model.specs.declared.Entry.{Entry}
use Rattle.fifo_model.specs.declared.Queue.{Queue}
use Rattle.fifo_model.specs.Queues.{queue_state}
use Rattle.pixel_layout.specs.declared.Parity.{Parity}
use Rattle.pixel_layout.specs.declared.Parity.TheVariants.{Top, Bottom}
use Rattle.machine_model.specs.States.{State}
use Rattle.machine_model.specs.Steps.{Step, Turn}
use Rattle.capture_desc.specs.declared.desc.Desc.{Desc}
use Rattle.capture_desc.specs.declared.desc.Fields.{Fields}
use Rattle.capture_desc.specs.declared.desc.Fields.TheVariants as fields
use Rattle.picture_model.specs.Described.{describes, fields_of, vbi_skip}
use Rattle.picture_model.specs.Programs.{compiled, vertical}
use Rattle.picture_model.proofs.FaultlessGeometry.{IsValid-IsFrame}
use Rattle.field_stream.specs.Generator.{first_number}
use Rattle.field_stream.specs.Made.{after}
use Rattle.field_stream.specs.Pushes.{Push, Mark, field_pushes, frame_pushes, picture_pushes, repeated, stream_pushes, vbi_pushes}
use Rattle.field_law.specs.Arrivals.{AreKept, meeting, pushed_in}
use Rattle.field_law.proofs.Meeting.{coming-meeting}
use Rattle.field_law.proofs.Bringing.{pushed_in-append}
use Rattle.picture_law.specs.Runs.{ArrivesAt, between, state_of}
use Rattle.picture_law.proofs.Between.{between_both}
use Rattle.picture_law.proofs.Places.{run_shows_picture}
use Rattle.generated_law.specs.Drawn.{drawn_entries, drawn_step, drawn_steps, number_behind}
use Rattle.generated_law.specs.Streams.{Awaits, FieldsArrive, FieldsAreSignalled, FieldsStand, HasField, PicturesAreShown, fields_before}
use Rattle.generated_law.specs.Streams.{place_behind, place_of, pushes_before, stream_picture, stream_steps}
use Rattle.generated_law.proofs.Statuses.{drawn_steps-append}
use Rattle.field_stream.proofs.Moving.{repeated_split}
use Rattle.generated_law.proofs.Fields.{brings_picture, draws_picture}
use Rattle.generated_law.proofs.Steps.{steps_made, stream_data}

-- ---- where a field is in a stream

record IsAmong (which : Fields) (field : Parity) : Type 0 where
  later : List Parity
  same : fields_of which ≡ fields_before which field ++ field ∷ later

among : (which : Fields) (field : Parity) → describes which field ≡ true → IsAmong which field
among fields.Top Top is = record { later = []; same = refl }
among fields.Top Bottom is = cc
among fields.Bottom Top is = cc
among fields.Bottom Bottom is = record { later = []; same = refl }
among fields.Both Top is = record { later = Bottom ∷ []; same = refl }
among fields.Both Bottom is = record { later = []; same = refl }

record Stands (d : Desc) (frames frame : ℕ) (field : Parity) : Type 0 where
  rest : List Push
  same : stream_pushes d frames ≡ pushes_before d frame field ++ (field_pushes d field ++ rest)

stands : (d : Desc) (frames frame : ℕ) (field : Parity) → describes d.fields field ≡ true → frame < frames → Stands d frames frame field
stands d frames frame field described within =
    let here = among d.fields field described in
    let each = field_pushes d in
    let all = frame_pushes d in
    let first = flat_map each (fields_before d.fields field) in
    let later = flat_map each here.later in
    let more = repeated (frames - (frame + 1)) all in
    let parts : frames ≡ frame + suc (frames - (frame + 1)) = omega arith in
    let split : all ≡ first ++ (each field ++ later) =
    ap (flat_map each) here.same ∙ flat_map-append each (fields_before d.fields field) (field ∷ here.later) in
    record {
      rest = later ++ more;
      same = ap (λ (n : ℕ). repeated n all) parts
          ∙ repeated_split frame (suc (frames - (frame + 1))) all
          ∙ ap (λ (pushes : List Push). repeated frame all ++ (pushes ++ more)) split
          ∙ ap (λ (pushes : List Push). repeated frame all ++ pushes) (append_assoc first (each field ++ later) more
          ∙ ap (λ (pushes : List Push). first ++ pushes) (append_assoc (each field) later more))
          ∙ sym (append_assoc (repeated frame all) first (each field ++ (later ++ more)));
    }

steps_long : (number : ℕ) (pushes : List Push) → length (drawn_steps number pushes) ≡ 17 * length pushes
steps_long number [] = omega arith
steps_long number (push ∷ rest) = let more = steps_long (after number push) rest in omega arith

-- the last of the steps of some pushes are turns
record EndsInTurns (steps : List Step) : Type 0 where
  front : List Step
  same : steps ≡ front ++ replicate 16 Turn

ends_in_turns : (number : ℕ) (push : Push) (rest : List Push) → EndsInTurns (drawn_steps number (push ∷ rest))
ends_in_turns number push [] = record { front = drawn_step number push ∷ []; same = refl }
ends_in_turns number push (next ∷ rest) =
    let more = ends_in_turns (after number push) next rest in
    record {
      front = drawn_step number push ∷ (replicate 16 Turn ++ more.front);
      same = ap (λ (steps : List Step). drawn_step number push ∷ (replicate 16 Turn ++ steps)) more.same;
    }

-- ---- what comes over its steps

-- a list of steps whose first are others
from_place : (before steps : List Step) (place l : ℕ) → length before ≡ place → between place l (before ++ steps) ≡ take (l - place) steps
from_place before steps place l long =
    ap (λ (n : ℕ). take (l - place) (drop n (before ++ steps))) (sym long) ∙ ap (take (l - place)) (drop-append_seam before steps)

-- so many of some steps and more: at least those before the last turns
record Comes (q : Queue) (steps : List Step) (count : ℕ) (more : List Step) : Type 0 where
  rest : List Entry
  same : pushed_in (take count (steps ++ more)) q ≡ pushed_in steps q ++ rest

comes_front : (q : Queue) (front : List Step) (count : ℕ) (more : List Step) → length front ≤ count →
    Comes q (front ++ replicate 16 Turn) count more
comes_front q front count more enough =
    let turns = replicate 16 Turn in
    let parts : count ≡ length front + (count - length front) = omega arith in
    let behind = take (count - length front) (turns ++ more) in
    record {
      rest = pushed_in behind q;
      same = ap (λ (n : ℕ). pushed_in (take n ((front ++ turns) ++ more)) q) parts
          ∙ ap (λ (steps : List Step). pushed_in (take (length front + (count - length front)) steps) q) (append_assoc front turns more)
          ∙ ap (λ (steps : List Step). pushed_in steps q) (take-append-add front (turns ++ more) (count - length front))
          ∙ pushed_in-append front behind q
          ∙ ap (λ (entries : List Entry). entries ++ pushed_in behind q)
          (sym (pushed_in-append front turns q ∙ append-nil (pushed_in front q)));
    }

comes : (q : Queue) (steps : List Step) (count : ℕ) (more : List Step) → EndsInTurns steps → length steps ≤ count + 16 →
    Comes q steps count more
comes q steps count more ends enough =
    let long = ap (λ (steps : List Step). length steps) ends.same in
    subst (λ (steps : List Step). Comes q steps count more) (sym ends.same)
    (comes_front q ends.front count more (omega (arith, length-append ends.front (replicate 16 Turn))))

module _ (d : Desc) (seed frames frame : ℕ) (field : Parity) (has : HasField d frames frame field) where
  abbrev here : Stands d frames frame field
  here = stands d frames frame field has.described has.within

  abbrev number : ℕ
  number = number_behind (first_number seed) (pushes_before d frame field)

  abbrev steps_before : List Step
  steps_before = drawn_steps (first_number seed) (pushes_before d frame field)

  abbrev steps_of : List Step
  steps_of = drawn_steps number (field_pushes d field)

  abbrev steps_behind : List Step
  steps_behind = drawn_steps (number_behind number (field_pushes d field)) here.rest

  stream_parts : stream_steps d seed frames ≡ steps_before ++ (steps_of ++ steps_behind)
  stream_parts =
      ap (drawn_steps (first_number seed)) here.same
      ∙ drawn_steps-append (first_number seed) (pushes_before d frame field) (field_pushes d field ++ here.rest)
      ∙ ap (λ (steps : List Step). steps_before ++ steps) (drawn_steps-append number (field_pushes d field) here.rest)

  record ComesTo (q : Queue) (l : ℕ) : Type 0 where
    rest : List Entry
    same : pushed_in (between (place_of d frame field) l (stream_steps d seed frames)) q ≡ drawn_entries d field number q ++ rest

  -- from the place of the field on are its steps and those behind it
  from_here : (l : ℕ) →
      between (place_of d frame field) l (stream_steps d seed frames) ≡ take (l - place_of d frame field) (steps_of ++ steps_behind)
  from_here l =
      let place = place_of d frame field in
      let long = steps_long (first_number seed) (pushes_before d frame field) in
      let there = from_place steps_before (steps_of ++ steps_behind) place l long in
      ap (between place l) stream_parts ∙ there

  stands_there : between (place_of d frame field) (place_behind d frame field) (stream_steps d seed frames) ≡ steps_of
  stands_there =
      let long = steps_long number (field_pushes d field) in
      let many : place_behind d frame field - place_of d frame field ≡ length steps_of = omega arith in
      from_here (place_behind d frame field)
      ∙ ap (λ (n : ℕ). take n (steps_of ++ steps_behind)) many
      ∙ take-append_seam steps_of steps_behind

  comes_to : (q : Queue) (l : ℕ) → place_behind d frame field ≤ l + 16 → ComesTo q l
  comes_to q l enough =
      let place = place_of d frame field in
      let long = steps_long number (field_pushes d field) in
      let ends =
      ends_in_turns number (Mark (vertical field)) (vbi_pushes d.vbi_lines (vbi_skip d field) d.vbi_bytes ++ picture_pushes d field) in
      let found = comes q steps_of (l - place) steps_behind ends (omega arith) in
      record { rest = found.rest; same = whole found.rest found.same }
    where
      whole : (rest : List Entry) →
          pushed_in (take (l - place_of d frame field) (steps_of ++ steps_behind)) q ≡ drawn_entries d field number q ++ rest →
          pushed_in (between (place_of d frame field) l (stream_steps d seed frames)) q ≡ drawn_entries d field number q ++ rest
      whole rest same = ap (λ (steps : List Step). pushed_in steps q) (from_here l) ∙ same

  module _ (m : State) (j l : ℕ) (late : place_of d frame field ≤ j) (on : j ≤ l) (enough : place_behind d frame field ≤ l + 16)
      (awaits : Awaits d field m (between (place_of d frame field) j (stream_steps d seed frames))) where
    in_order : (q : Queue) → (queue_state q m.queues).entries ++ pushed_in (between j l (stream_steps d seed frames)) q
        ≡ awaits.before q ++ (drawn_entries d field number q ++ (comes_to q l enough).rest)
    in_order q =
        let place = place_of d frame field in
        let steps = stream_steps d seed frames in
        let first = pushed_in (between place j steps) q in
        let later = pushed_in (between j l steps) q in
        ap (λ (entries : List Entry). entries ++ later) (awaits.held q)
        ∙ append_assoc (awaits.before q) first later
        ∙ ap (λ (entries : List Entry). awaits.before q ++ entries)
        (sym (pushed_in-append (between place j steps) (between j l steps) q)
        ∙ ap (λ (steps : List Step). pushed_in steps q) (sym (between_both place j l steps late on))
        ∙ (comes_to q l enough).same)

    arrival : AreKept m (meeting (compiled d) (between j l (stream_steps d seed frames))) →
        ArrivesAt d field (stream_picture d seed frame field) m (between j l (stream_steps d seed frames))
    arrival kept =
        record {
          fifo_on = awaits.fifo_on;
          risc_on = awaits.risc_on;
          waits = awaits.waits;
          there = awaits.there;
          kept = kept;
          before = awaits.before;
          entries = drawn_entries d field number;
          rest = λ q. (comes_to q l enough).rest;
          order =
              λ q. ap (λ (entries : List Entry). (queue_state q m.queues).entries ++ entries)
              (coming-meeting (compiled d) (between j l (stream_steps d seed frames)) q) ∙ in_order q;
          unmarked = awaits.unmarked;
          brought = brings_picture d field number has.description (IsValid-IsFrame d has.valid);
        }

pub fields_stand : FieldsStand
fields_stand = stands_there

pub fields_arrive : FieldsArrive
fields_arrive d seed frames frame field m j l has late on enough awaits kept =
    arrival d seed frames frame field has m j l late on enough awaits kept

pub fields_are_signalled : FieldsAreSignalled
fields_are_signalled d seed frames frame field fill j k taken =
    let first = taken.signal.later in
    let pushed = taken.pushed in
    record {
      capture = record {
        description = taken.has.description;
        valid = taken.has.valid;
        described = taken.has.described;
        pictured =
            draws_picture d field (number_behind (first_number seed) (pushes_before d frame field)) taken.has.description
            (IsValid-IsFrame d taken.has.valid);
        made = steps_made (first_number seed) (stream_pushes d frames) (stream_data d frames);
      };
      signal = taken.signal;
      arrives =
          fields_arrive d seed frames frame field (state_of d fill (stream_steps d seed frames) j) j (k + 1) taken.has taken.later
          (omega arith) (omega arith) taken.awaits taken.kept;
    }

pub pictures_are_shown : PicturesAreShown
pictures_are_shown d seed frames frame field fill j k taken =
    run_shows_picture d field (stream_picture d seed frame field) fill (stream_steps d seed frames) j k
    (fields_are_signalled d seed frames frame field fill j k taken)
