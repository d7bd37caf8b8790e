-- Every run shows the pictures that it captures, by the law of the picture; all their rows are whole, and the bytes of whole
-- rows are in memory.
use Rattle.std.proofs.Common.{◌≡◌, ℕ, ◌+◌, ◌-◌, true, false, List, drop, replicate, slice_index_or, take, Some, All, sym, ◌∙◌, subst}
use Rattle.fifo_model.specs.declared.Queue.{Queue}
use Rattle.pixel_layout.specs.declared.Parity.{Parity}
use Rattle.machine_model.specs.Paths.{RiscProgram}
use Rattle.machine_model.specs.States.{first_state}
use Rattle.machine_model.specs.Steps.{Step, state_at}
use Rattle.machine_model.specs.Safety.{IsStep}
use Rattle.machine_model.proofs.Orderly.{IsOrderly-first_state}
use Rattle.machine_model.proofs.Runs.{IsOrderly-run}
use Rattle.std.proofs.lemmas.List.Elements.{All-drop, All-take}
use Rattle.capture_desc.specs.declared.desc.Desc.{Desc}
use Rattle.picture_model.specs.Described.{field_height}
use Rattle.picture_model.specs.Programs.{compiled, section_begin}
use Rattle.field_law.specs.Arrivals.{is_signal}
use Rattle.picture_law.specs.Pictures.{Picture}
use Rattle.picture_law.specs.Sections.{section_of}
use Rattle.picture_law.specs.Runs.{IsCapture, IsSignalled, between}
use Rattle.picture_law.proofs.Places.{run_shows_picture, run_tells_field}
use Rattle.damage_model.specs.Marks.{answer, last_step, marks}
use Rattle.damage_model.proofs.LastSignals.{answers_stay}
use Rattle.damage_law.specs.Asked.{HoldsLine}
use Rattle.damage_law.proofs.ArrivedFields.{arrived_rows_are_whole}
use Rattle.damage_law.proofs.StandingRows.{whole_rows_stand, whole_rows_took_asked}
use Rattle.damage_model.proofs.EnteredRows.{whole_rows_entered}
use Rattle.damage_model.specs.Standing.{HaveEntered, IsSignalSince, row_entries}
use Rattle.bt878_contract.specs.Rows.{HasArrivedRows, HoldsWholeRows, IsSignalFrom}
use Rattle.check_law.specs.Laws.{Found}
use Rattle.check_law.specs.Runs.{IsCapture as FoundCapture, IsEnded}
use Rattle.check_law.proofs.Places.{run_shows_picture as found_shows_picture, run_shows_no_fault as found_shows_no_fault}
use Rattle.check_law.proofs.Places.{run_ends_with_closing as found_ends_with_closing, run_ends_in_time as found_ends_in_time}
use Rattle.bt878_contract.specs.Pictures.{ArrivesUpTo, ArrivesUpToEnd, EndsInTime, IsCompiled, IsShown, ShowsField, ShowsNoFault}
use Rattle.bt878_contract.specs.Pictures.{ShowsPictures, ShowsSignalledPictures}

module _ (program : RiscProgram) (fill : ℕ) (steps : List Step) (made : All IsStep steps) where
  capture : (d : Desc) (field : Parity) (picture : Picture) → IsCompiled program d field picture → IsCapture d field picture steps
  capture d field picture c =
      record {
        description = c.description;
        valid = c.valid;
        described = c.described;
        pictured = c.pictured;
        made = made;
      }

  signalled : (d : Desc) (field : Parity) (picture : Picture) (j k : ℕ) → IsCompiled program d field picture →
      ArrivesUpTo d field picture (first_state (compiled d) fill) steps j k → IsSignalled d field picture fill steps j k
  signalled d field picture j k c a = record { capture = capture d field picture c; signal = a.signal; arrives = a.arrives }

  pub pictures_shown : ShowsSignalledPictures (first_state program fill) steps
  pictures_shown d field picture j k c =
      subst
      (λ (p : RiscProgram).
      ArrivesUpTo d field picture (first_state p fill) steps j k →
      IsShown d field picture (state_at (first_state p fill) steps j) (state_at (first_state p fill) steps (k + 1)))
      (sym c.same) (λ a.
      let s = signalled d field picture j k c a in
      record { memory = run_shows_picture d field picture fill steps j k s; told = run_tells_field d field picture fill steps j k s })

  -- ---- every program that shows a field

  module _ (d : Desc) (field : Parity) (f : Found) (picture : Picture) (shown : ShowsField program d field f picture) where
    found_capture : FoundCapture program d field f picture steps
    found_capture = record { shown = shown.shows; pictured = shown.pictured; made = made }

    ended : (j k : ℕ) → ArrivesUpToEnd d field f picture (first_state program fill) steps j k →
        IsEnded program d field f picture fill steps j k
    ended j k a = record { capture = found_capture; signal = a.ends; arrives = a.arrives }

  pub fields_shown : ShowsPictures (first_state program fill) steps
  fields_shown d field f picture j k shown a =
      let e = ended d field f picture shown j k a in
      record {
        memory = found_shows_picture program d field f picture fill steps j k e;
        closing = found_ends_with_closing program d field f picture fill steps j k e;
      }

  pub no_fault_shown : ShowsNoFault (first_state program fill) steps
  no_fault_shown d field f picture j k i shown a =
      found_shows_no_fault program d field f picture fill steps j k i (ended d field f picture shown j k a)

  pub fields_end_in_time : EndsInTime (first_state program fill) steps
  fields_end_in_time d field f picture j i l shown =
      found_ends_in_time program d field f picture fill steps j i l (found_capture d field f picture shown)

  -- ---- compiled programs

  pub rows_arrived : HasArrivedRows (first_state program fill) steps
  rows_arrived d field picture j k c =
      subst
      (λ (p : RiscProgram).
      ArrivesUpTo d field picture (first_state p fill) steps j k →
      last_step (is_signal (section_of d field)) (first_state p fill) steps ≡ Some k →
      answer d field (first_state p fill) steps ≡ Some (replicate (field_height d field) true))
      (sym c.same) (λ a last.
      answers_stay d field (first_state (compiled d) fill) steps k last
      ∙ arrived_rows_are_whole d field picture fill steps j k (signalled d field picture j k c a))

  row_entered : (d : Desc) (field : Parity) (q : Queue) (number j k : ℕ) → let m = state_at (first_state (compiled d) fill) steps j in
      slice_index_or (marks d field m (between j k steps)) number false ≡ true →
      HaveEntered (row_entries d field number q m (between j k steps)) q m (between j k steps)
  row_entered d field q number j k =
      let start = first_state (compiled d) fill in
      whole_rows_entered (section_begin d d.base field) d field (state_at start steps j) (between j k steps)
      (IsOrderly-run start (take j steps) (All-take IsStep j steps made) (IsOrderly-first_state (compiled d) fill))
      (All-take IsStep (k - j) (drop j steps) (All-drop IsStep j steps made)) q number

  pub whole_rows_held : HoldsWholeRows (first_state program fill) steps
  whole_rows_held d field j k c =
      subst
      (λ (p : RiscProgram).
      IsSignalFrom d field (first_state p fill) steps j k → (q : Queue) (number : ℕ) →
      slice_index_or (marks d field (state_at (first_state p fill) steps j) (between j k steps)) number false ≡ true →
      HoldsLine (section_begin d d.base field) d field q number (state_at (first_state p fill) steps j) (between j k steps)
      (state_at (first_state p fill) steps (k + 1)))
      (sym c.same) (λ s q number whole.
      let since : IsSignalSince d field fill steps j k = record {
        description = c.description;
        valid = c.valid;
        described = c.described;
        made = made;
        there = s.there;
        signal = s.signal;
        opened = s.opened;
      } in
      record {
        entered = row_entered d field q number j k whole;
        asked = whole_rows_took_asked d field fill steps j k since q number whole;
        kept = λ x address. whole_rows_stand d field fill steps j k since q number x address whole;
      })
