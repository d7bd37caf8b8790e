-- A field that is reported as shown is found so, and a field that is found on the first places of the path is reported as shown.
use Rattle.std.proofs.Common.{◌≡◌, ℕ, zero, suc, ◌+◌, ◌<◌, ◌≤◌, Bool, true, false, not, ◌&&◌, ◌||◌, ◌==◌, if◌then◌else◌, List, [], ◌∷◌, map}
use Rattle.std.proofs.Common.{Option, Some, Ok, Err, refl, sym, ap, subst, ◌∙◌, arith, eqb-true, eq-eqb, ⊎_elim}
use Rattle.std.specs.Prelude.{filter, find, unwrap_or, slice_index_or}
use Rattle.std.specs.List.{list_all, list_any, range_with_len}
use Rattle.std.proofs.lemmas.Bool.{cases_lt, or_right}
use Rattle.risc_word.specs.declared.Code.{Code}
use Rattle.risc_word.specs.declared.Ctl.{Ctl}
use Rattle.risc_word.specs.declared.Instr.{Instr}
use Rattle.risc_word.specs.declared.Instr.TheVariants.{Write, Skip, WriteC, Jump, Sync, Write123, Skip123, Write1S23}
use Rattle.risc_word.specs.Words.{Reading, code_number}
use Rattle.pixel_layout.specs.declared.Parity.{Parity}
use Rattle.pixel_layout.specs.declared.Parity.TheVariants.{Top, Bottom}
use Rattle.machine_model.specs.Paths.{RiscProgram, IsSound, fetch, path}
use Rattle.capture_desc.specs.declared.desc.Desc.{Desc}
use Rattle.capture_desc.specs.declared.desc.Fields.{Fields}
use Rattle.capture_desc.specs.declared.desc.Fields.TheVariants as fields
use Rattle.picture_model.specs.Described.{IsDescription, describes, fields_of}
use Rattle.picture_model.specs.Geometry.{IsFrame}
use Rattle.picture_model.specs.Programs.{compiled, vertical}
use Rattle.picture_model.proofs.Each.{Each, each_map, each_range}
use Rattle.picture_model.proofs.FaultlessGeometry.{IsFrame-IsRight, IsValid-IsFrame}
use Rattle.field_law.proofs.Before.{same_code}
use Rattle.check_model.specs.Checks.{Answer, awaited, checked, fuel, opened, walked}
use Rattle.check_model.specs.Verdicts.{closing_from, is_opening, is_shown, openings, opens_at, path_addresses, said, verdict}
use Rattle.check_model.specs.declared.Verdict.{Verdict}
use Rattle.check_model.specs.declared.Verdict.TheVariants.{Shown, Differs}
use Rattle.check_model.specs.declared.Why.TheVariants.{Unread, NoSync, NoResync}
use Rattle.check_law.specs.Laws.{Found, IsChecked}
use Rattle.check_law.specs.Verdicts.{SaidIsChecked, CompiledIsShown}
use Rattle.check_law.proofs.Walked.{fetched_length}
use Rattle.check_law.proofs.CompiledFields.{comes, compiled_is_checked}

-- ---- what holds of each holds of what is chosen

each_if : {A : Type 0} (P : A → Type 0) (passes : Bool) (x : A) (rest : List A) → P x → Each P rest →
    Each P (if passes then x ∷ rest else rest)
each_if P true x rest here each = (here, each)
each_if P false x rest here each = each

each_filter : {A : Type 0} (P : A → Type 0) (test : A → Bool) (xs : List A) → Each P xs → Each P (filter test xs)
each_filter P test [] each = tt
each_filter P test (x ∷ xs) each = each_if P (test x) x (filter test xs) each.0 (each_filter P test xs each.1)

found_if : {A : Type 0} (P : A → Type 0) (passes : Bool) (x : A) (found : Option A) (other : A) → P x → P (unwrap_or found other) →
    P (unwrap_or (if passes then Some x else found) other)
found_if P true x found other here later = here
found_if P false x found other here later = later

each_chosen : {A : Type 0} (P : A → Type 0) (test : A → Bool) (xs : List A) (other : A) → Each P xs → P other →
    P (unwrap_or (find test xs) other)
each_chosen P test [] other each here = here
each_chosen P test (x ∷ xs) other each here = found_if P (test x) x (find test xs) other each.0 (each_chosen P test xs other each.1 here)

each_head : {A : Type 0} (P : A → Type 0) (xs : List A) (other : A) → Each P xs → P other → P (slice_index_or xs 0 other)
each_head P [] other each here = here
each_head P (x ∷ xs) other each here = each.0

-- ---- an opening

record Opens (program : RiscProgram) (field : Parity) (at : ℕ) : Type 0 where
  opening : Ctl
  is : fetch program at ≡ Ok (Sync opening true (vertical field), 2)

abbrev IsOpened : RiscProgram → Desc → Parity → ℕ → Reading → ℕ × ℕ → Type 0
IsOpened program d field at reading found =
    elim reading as (λ _. Answer) [ Err fault ↦ Err (at, Unread) | Ok read ↦ opened read.0 program d field at ] ≡ Ok found

both_open : (same resync : Bool) (bad other walk : Answer) (found : ℕ × ℕ) →
    (if not same then bad else (if not resync then other else walk)) ≡ Ok found →
    ((answer : ℕ × ℕ) → bad ≡ Ok answer → ⊥) → ((answer : ℕ × ℕ) → other ≡ Ok answer → ⊥) → (same ≡ true) × (resync ≡ true)
both_open true true bad other walk found h no_bad no_other = (refl, refl)
both_open true false bad other walk found h no_bad no_other = absurd (no_other found h)
both_open false resync bad other walk found h no_bad no_other = absurd (no_bad found h)

module _ (program : RiscProgram) (d : Desc) (field : Parity) (at : ℕ) (found : ℕ × ℕ) where
  opened_sync : (ctl : Ctl) (resync : Bool) (code : Code) (count : ℕ) → fetch program at ≡ Ok (Sync ctl resync code, count) →
      opened (Sync ctl resync code) program d field at ≡ Ok found →
      Opens program field at
  opened_sync ctl resync code count read h =
      let parts =
      both_open (code_number code == code_number (vertical field)) resync (Err (at, NoSync (vertical field))) (Err (at, NoResync))
      (walked (fuel program) program d field (at + 8) (awaited d field)) found h
      (λ answer no. cc) (λ answer no. cc) in
      let long : count ≡ 2 = fetched_length program at (Sync ctl resync code) count read in
      record {
        opening = ctl;
        is =
            read
            ∙ ap (λ (count : ℕ). Ok (Sync ctl resync code, count)) long
            ∙ ap (λ (resync : Bool). Ok (Sync ctl resync code, 2)) parts.1
            ∙ ap (λ (code : Code). Ok (Sync ctl true code, 2)) (same_code code (vertical field) (eqb-true _ _ parts.0));
      }

  opened_instr : (instr : Instr) (count : ℕ) → fetch program at ≡ Ok (instr, count) → opened instr program d field at ≡ Ok found →
      Opens program field at
  opened_instr (Sync ctl resync code) count read h = opened_sync ctl resync code count read h
  opened_instr (Jump ctl target) count read h = cc
  opened_instr (Write ctl ends off n addr) count read h = cc
  opened_instr (Skip ctl ends n) count read h = cc
  opened_instr (WriteC ctl ends off n) count read h = cc
  opened_instr (Write123 ctl ends off counts addrs) count read h = cc
  opened_instr (Skip123 ctl ends counts) count read h = cc
  opened_instr (Write1S23 ctl ends off counts addr) count read h = cc

  opened_reading : (reading : Reading) → fetch program at ≡ reading → IsOpened program d field at reading found → Opens program field at
  opened_reading (Err fault) read h = cc
  opened_reading (Ok (instr, count)) read h = opened_instr instr count read h

-- ---- a verdict

module _ (program : RiscProgram) (d : Desc) (field : Parity) (sound : IsSound program) (description : IsDescription d) (frame : IsFrame d)
    (described : describes d.fields field ≡ true) where
  abbrev IsFound : Verdict → Type 0
  IsFound (Shown begin end count ends) =
      (opening : Ctl) × IsChecked program d field (record { begin = begin; opening = opening; end = end; count = count })
  IsFound (Differs at why) = Unit {0}

  abbrev IsPlace : ℕ → Type 0
  IsPlace at = (number : ℕ) × ((path program number).pc ≡ at)

  said_by : (at : ℕ) → IsPlace at → (answer : Answer) → checked program d field at ≡ answer →
      IsFound (elim answer as (λ _. Verdict) [
        | Ok found ↦ Shown at found.0 found.1 (closing_from program found.0)
        | Err fault ↦ Differs fault.0 fault.1
      ])
  said_by at place (Err fault) e = tt
  said_by at place (Ok found) e =
      let opens = opened_reading program d field at found (fetch program at) refl e in (
        opens.opening,
        record {
          sound = sound;
          description = description;
          frame = frame;
          described = described;
          number = place.0;
          on_path = place.1;
          opens = opens.is;
          found = e;
        },
      )

  verdict_found : IsFound (verdict program d field)
  verdict_found =
      let places : Each IsPlace (path_addresses program) =
      each_map (λ number. number < fuel program) IsPlace (λ number. (path program number).pc) (range_with_len 0 (fuel program))
      (λ number below. (number, refl)) (each_range 0 (fuel program) (fuel program) (omega arith)) in
      let all : Each IsFound (map (said program d field) (openings program field)) =
      each_map IsPlace IsFound (said program d field) (openings program field)
      (λ at place. said_by at place (checked program d field at) refl)
      (each_filter IsPlace (opens_at program field) (path_addresses program) places) in
      each_chosen IsFound is_shown (map (said program d field) (openings program field)) _ all
      (each_head IsFound (map (said program d field) (openings program field)) (Differs program.base (NoSync (vertical field))) all tt)

pub said_is_checked : SaidIsChecked
said_is_checked program d field begin end count ends sound description frame described is =
    subst (IsFound program d field sound description frame described) is (verdict_found program d field sound description frame described)

-- ---- what is reported of a compiled program

shown_if : (shown : Bool) (first other : Verdict) (found : Option Verdict) (more : Bool) → is_shown first ≡ shown → (shown || more) ≡ true →
    (more ≡ true → is_shown (unwrap_or found other) ≡ true) → is_shown (unwrap_or (if shown then Some first else found) other) ≡ true
shown_if true first other found more is h later = is
shown_if false first other found more is h later = later h

shown_chosen : (all : List Verdict) (other : Verdict) → list_any is_shown all ≡ true → is_shown (unwrap_or (find is_shown all) other) ≡ true
shown_chosen [] other h = cc
shown_chosen (first ∷ rest) other h =
    shown_if (is_shown first) first other (find is_shown rest) (list_any is_shown rest) refl h (λ more. shown_chosen rest other more)

module _ (program : RiscProgram) (d : Desc) (field : Parity) (f : Found) (c : IsChecked program d field f) where
  opens_there : opens_at program field f.begin ≡ true
  opens_there =
      ap (λ (reading : Reading). elim reading as (λ _. Bool) [ Err fault ↦ false | Ok read ↦ is_opening field read.0 ]) c.opens
      ∙ eq-eqb (code_number (vertical field)) (code_number (vertical field)) refl

  shown_there : is_shown (said program d field f.begin) ≡ true
  shown_there =
      ap
      (λ (answer : Answer).
      is_shown (elim answer as (λ _. Verdict) [
        | Ok found ↦ Shown f.begin found.0 found.1 (closing_from program found.0)
        | Err fault ↦ Differs fault.0 fault.1
      ]))
      c.found

  abbrev some_shown : List ℕ → Bool
  some_shown addresses = list_any is_shown (map (said program d field) (filter (opens_at program field) addresses))

  here : (at : ℕ) (rest : List ℕ) → at ≡ f.begin → some_shown (at ∷ rest) ≡ true
  here at rest same =
      ap (λ (at : ℕ). some_shown (at ∷ rest)) same
      ∙ ap (λ (opens : Bool). list_any is_shown (map (said program d field)
      (if opens then f.begin ∷ filter (opens_at program field) rest else filter (opens_at program field) rest))) opens_there
      ∙ ap (λ (shown : Bool). shown || some_shown rest) shown_there

  past : (at : ℕ) (rest : List ℕ) → some_shown rest ≡ true → some_shown (at ∷ rest) ≡ true
  past at rest later = by (opens_at program field at)
    where
      by : (opens : Bool) → list_any is_shown
          (map (said program d field) (if opens then at ∷ filter (opens_at program field) rest else filter (opens_at program field) rest))
          ≡ true
      by true = or_right (is_shown (said program d field at)) (some_shown rest) later
      by false = later

  among : (count from : ℕ) → from ≤ c.number → c.number < from + count →
      some_shown (map (λ number. (path program number).pc) (range_with_len from count)) ≡ true
  among zero from low high = absurd (omega arith)
  among (suc count) from low high =
      ⊎_elim
      (λ later. past (path program from).pc (map (λ number. (path program number).pc) (range_with_len (from + 1) count))
      (among count (from + 1) (omega arith) (omega arith)))
      (λ not_later.
      let now : from ≡ c.number = omega arith in
      here (path program from).pc (map (λ number. (path program number).pc) (range_with_len (from + 1) count))
      (ap (λ (n : ℕ). (path program n).pc) now ∙ c.on_path))
      (cases_lt from c.number)

  verdict_shown : c.number < fuel program → is_shown (verdict program d field) ≡ true
  verdict_shown soon =
      shown_chosen (map (said program d field) (openings program field)) _ (among (fuel program) 0 (omega arith) (omega arith))

pub compiled_is_shown : CompiledIsShown
compiled_is_shown d description valid = all d.fields refl
  where
    one : (field : Parity) → describes d.fields field ≡ true → is_shown (verdict (compiled d) d field) ≡ true
    one field described =
        let right = IsFrame-IsRight d description (IsValid-IsFrame d valid) in
        verdict_shown (compiled d) d field _ (compiled_is_checked d field description valid described) (comes d right field described).soon

    all : (which : Fields) → which ≡ d.fields → list_all (λ field. is_shown (verdict (compiled d) d field)) (fields_of which) ≡ true
    all fields.Top e = ap (λ (shown : Bool). shown && true) (one Top (ap (λ (which : Fields). describes which Top) (sym e)))
    all fields.Bottom e = ap (λ (shown : Bool). shown && true) (one Bottom (ap (λ (which : Fields). describes which Bottom) (sym e)))
    all fields.Both e =
        ap (λ (shown : Bool). shown && list_all (λ field. is_shown (verdict (compiled d) d field)) (Bottom ∷ []))
        (one Top (ap (λ (which : Fields). describes which Top) (sym e)))
        ∙ ap (λ (shown : Bool). shown && true) (one Bottom (ap (λ (which : Fields). describes which Bottom) (sym e)))
