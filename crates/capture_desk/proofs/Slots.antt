-- What a change of a slot, or of the open input, is for what the desk over memory holds.
use Rattle.std.proofs.Common.{ℕ, ◌+◌, ◌-◌, ◌<◌, ◌≢◌, min, List, [], ◌++◌, map, set, get_or, take, drop, length, Option, Some, is_some}
use Rattle.std.proofs.Common.{option_map, Bool, true, false, ◌==◌, Ok, Err, ◌≡◌, refl, sym, ap}
use Rattle.std.proofs.Common.{◌∙◌, arith, All, get_or-set_same, get_or-set_other}
use Rattle.std.proofs.lemmas.List.{length-map, length-set, map-set}
use Rattle.std.proofs.lemmas.List.Elements.{All-get_or, All-set}
use Rattle.std.proofs.lemmas.Slice.Eq.{bytes_eq-Decides}
use Rattle.std.specs.Str.{bytes_eq}
use Rattle.capture_desk.specs.declared.memory.Slot.{Slot}
use Rattle.capture_desk.specs.declared.memory.Place.{Place}
use Rattle.capture_desk.specs.Desks.{output_under, Inputs, appended, created, named, written}
use Rattle.capture_desk.specs.Memory.{Memory, add_answer, added, append_count, called, created_by, held, is_failing, is_full, made}
use Rattle.capture_desk.specs.Memory.{open_answer, opened, or_empty, write_failed}
use Rattle.capture_desk.specs.Inside.{IsFirstSlot, IsOpenSlot, Whole, entry, kept, nothing, output_at, rest_from}
use Rattle.capture_desk.proofs.Names.{appended_of, created_of, entry_read, named_of}

kept_bytes : (made : Bool) (bytes : List ℕ) → is_some (kept made bytes) ≡ true → or_empty (kept made bytes) ≡ bytes
kept_bytes true bytes h = refl
kept_bytes false bytes h = cc

kept_made : (made : Bool) (bytes : List ℕ) → is_some (kept made bytes) ≡ true → made ≡ true
kept_made true bytes h = refl
kept_made false bytes h = h

kept_more : (made : Bool) (bytes piece : List ℕ) → option_map (λ old. old ++ piece) (kept made bytes) ≡ kept made (bytes ++ piece)
kept_more true bytes piece = refl
kept_more false bytes piece = refl

-- ---- a slot in the place of another of the same name

module _ (slots : List Slot) (i : ℕ) (x y : Slot) (within : i < length slots) (read : x ≡ get_or slots i x) where
  pub entry_at : output_at slots i ≡ entry x
  entry_at = sym (entry_read slots i x within read)

  map_set : map entry (set slots i y) ≡ set (map entry slots) i (entry y)
  map_set = map-set entry slots i y

  within_map : i < length (map entry slots)
  within_map = rw length-map within

  entry_set : output_at (set slots i y) i ≡ entry y
  entry_set = ap (λ xs. get_or xs i nothing) map_set ∙ get_or-set_same (map entry slots) i (entry y) nothing within_map

  IsFirstSlot-set : (name : List ℕ) → y.name ≡ x.name → IsFirstSlot name slots i → IsFirstSlot name (set slots i y) i
  IsFirstSlot-set name e h =
      record {
        within = rw (length-map, length-set) within;
        same = ap (λ n. bytes_eq n.0 name) entry_set ∙ ap (λ n. bytes_eq n name) e ∙ ap (λ n. bytes_eq n.0 name) (sym entry_at) ∙ h.same;
        before = λ k l.
            let other : k ≢ i = omega arith in
            ap (λ xs. bytes_eq (get_or xs k nothing).0 name) map_set
            ∙ ap (λ n. bytes_eq n.0 name) (get_or-set_other (map entry slots) i k (entry y) nothing other) ∙ h.before k l;
      }

  pub same_text : (name : List ℕ) → IsFirstSlot name slots i → x.name ≡ name
  same_text name h = (bytes_eq-Decides x.name name).0 (ap (λ n. bytes_eq n.0 name) (sym entry_at) ∙ h.same)

  pub room_is : (room : ℕ) → All (λ (slot : Slot). slot.held.room ≡ room) slots → x.held.room ≡ room
  room_is room all = ap (λ (slot : Slot). slot.held.room) read ∙ All-get_or (λ (slot : Slot). slot.held.room ≡ room) slots i x within all

  pub made_open : IsOpenSlot slots i → x.made ≡ true
  made_open h = kept_made x.made x.held.bytes (ap (λ o. is_some o.1) (sym entry_at) ∙ h.1)

  rooms_set : (room : ℕ) → All (λ (slot : Slot). slot.held.room ≡ room) slots → y.held.room ≡ x.held.room →
      All (λ (slot : Slot). slot.held.room ≡ room) (set slots i y)
  rooms_set room all e =
      All-set (λ (slot : Slot). slot.held.room ≡ room) slots i y (e ∙ room_is room all) all

  -- the invariant, after a slot was changed that is open then
  pub Whole-set : (inputs : Inputs) (room most : ℕ) (reading : Option Place) (writing : Option ℕ) (name : List ℕ) →
      Whole inputs slots room most reading writing → y.name ≡ x.name → y.held.room ≡ x.held.room → y.made ≡ true →
      x.name ≡ name → IsFirstSlot name slots i → Whole inputs (set slots i y) room most reading (Some i)
  Whole-set inputs room most reading writing name h e f g n first =
      let there : (output_at (set slots i y) i).0 ≡ name = ap (λ o. o.0) entry_set ∙ e ∙ n in
      record {
        moves = h.moves;
        rooms = rooms_set room h.rooms f;
        place = h.place;
        open_slot = (
          rw there (IsFirstSlot-set name e first),
          ap (λ o. is_some o.1) entry_set ∙ ap (λ m. is_some (kept m y.held.bytes)) g,
        );
      }

  -- an output was made
  pub made_set : (m : Memory) (name : List ℕ) → m.outputs ≡ map entry slots → IsFirstSlot name slots i → x.name ≡ name →
      y.name ≡ x.name → y.made ≡ true → y.held.bytes ≡ [] →
      record m { outputs = map entry (set slots i y); writing = Some (output_at (set slots i y) i).0 } ≡ made name m
  made_set m name outs first n e g b =
      let there : (output_at (set slots i y) i).0 ≡ name = ap (λ o. o.0) entry_set ∙ e ∙ n in
      let new : entry y ≡ ((output_at slots i).0, Some []) =
      ap (λ z. (z, kept y.made y.held.bytes)) (e ∙ ap (λ o. o.0) (sym entry_at)) ∙ ap (λ z. ((output_at slots i).0, kept z y.held.bytes)) g
      ∙ ap (λ z. ((output_at slots i).0, Some z)) b in
      let after : map entry (set slots i y) ≡ created name m.outputs =
      map_set ∙ ap (λ z. set (map entry slots) i z) new ∙ sym (created_of name (map entry slots) nothing i first)
      ∙ ap (created name) (sym outs) in
      ap (λ z. record m { outputs = z; writing = Some (output_at (set slots i y) i).0 }) after
      ∙ ap (λ z. record m { outputs = created name m.outputs; writing = Some z }) there

  -- what the open output holds
  pub held_open : IsOpenSlot slots i → held (Some (output_at slots i).0) (map entry slots) ≡ x.held.bytes
  held_open h =
      ap (λ o. or_empty (output_under o)) (named_of (output_at slots i).0 (map entry slots) nothing i h.0)
      ∙ ap (λ o. or_empty o.1) entry_at ∙ kept_bytes x.made x.held.bytes (ap (λ o. is_some o.1) (sym entry_at) ∙ h.1)

  -- bytes were appended to it
  pub appended_set : (piece : List ℕ) → IsOpenSlot slots i → y.name ≡ x.name → y.made ≡ x.made → y.held.bytes ≡ x.held.bytes ++ piece →
      map entry (set slots i y) ≡ appended (output_at slots i).0 piece (map entry slots)
  appended_set piece h e g b =
      let new : entry y ≡ (x.name, option_map (λ old. old ++ piece) (kept x.made x.held.bytes)) =
      ap (λ z. (z, kept y.made y.held.bytes)) e ∙ ap (λ z. (x.name, kept z y.held.bytes)) g
      ∙ ap (λ z. (x.name, kept x.made z)) b ∙ ap (λ z. (x.name, z)) (sym (kept_more x.made x.held.bytes piece)) in
      map_set ∙ ap (λ z. set (map entry slots) i z) new
      ∙ ap (λ o. set (map entry slots) i (o.0, option_map (λ old. old ++ piece) o.1)) (sym entry_at)
      ∙ sym (appended_of (output_at slots i).0 piece (map entry slots) nothing i h.0)

  pub same_name : y.name ≡ x.name → (output_at (set slots i y) i).0 ≡ (output_at slots i).0
  same_name e = ap (λ o. o.0) entry_set ∙ e ∙ ap (λ o. o.0) (sym entry_at)

  pub same_writing : (writing : Option ℕ) → writing ≡ Some i → y.name ≡ x.name →
      option_map (λ j. (output_at (set slots i y) j).0) writing ≡ option_map (λ j. (output_at slots j).0) writing
  same_writing writing w e =
      ap (λ o. option_map (λ j. (output_at (set slots i y) j).0) o) w ∙ ap Some (same_name e)
      ∙ ap (λ o. option_map (λ j. (output_at slots j).0) o) (sym w)

-- ---- opening

pub open_answer_some : (name bytes : List ℕ) (m : Memory) → is_failing m ≡ false → named name m.inputs ≡ Some bytes →
    open_answer name m ≡ Ok tt
open_answer_some name bytes m f e = rw (f, e) refl

pub opened_some : (name bytes : List ℕ) (m : Memory) → is_failing m ≡ false → named name m.inputs ≡ Some bytes →
    opened name m ≡ record (called m) { rest = Some bytes }
opened_some name bytes m f e = rw (f, e) refl

pub whole_rest : (bytes : List ℕ) → rest_from (length bytes) bytes ≡ bytes
whole_rest bytes = let none : length bytes - length bytes ≡ 0 = omega arith in ap (λ n. drop n bytes) none

-- ---- creating

pub created_by_made : (name : List ℕ) (m : Memory) → is_failing m ≡ false → created_by name m ≡ made name (called m)
created_by_made name m f = rw f refl

-- ---- appending

full_is : (n room left : ℕ) → left + n ≡ room → (n == room) ≡ (left == 0)
full_is n room left e = grind arith

module _ (left : ℕ) (bytes old : List ℕ) (m : Memory) (holds : held m.writing m.outputs ≡ old) (room : left + length old ≡ m.room) where
  full : is_full (held m.writing m.outputs) m ≡ (left == 0)
  full = ap (λ o. length o == m.room) holds ∙ full_is (length old) m.room left room

  pub add_answer_full : left ≡ 0 → add_answer (length bytes) (held m.writing m.outputs) m ≡ Err (record {})
  add_answer_full z = let t : is_full (held m.writing m.outputs) m ≡ true = full ∙ ap (λ x. x == 0) z in rw t refl

  pub added_full : left ≡ 0 → added bytes m ≡ write_failed m
  added_full z = let t : is_full (held m.writing m.outputs) m ≡ true = full ∙ ap (λ x. x == 0) z in rw t refl

  not_full : 0 < left → is_full (held m.writing m.outputs) m ≡ false
  not_full h = let f : (left == 0) ≡ false = grind arith in full ∙ f

  count_is : append_count (length bytes) (held m.writing m.outputs) m ≡ min (min m.longest (length bytes)) left
  count_is =
      let rest : m.room - length old ≡ left = omega arith in
      ap (λ o. min (min m.longest (length bytes)) (m.room - length o)) holds ∙ ap (λ x. min (min m.longest (length bytes)) x) rest

  pub add_answer_fits : 0 < left → add_answer (length bytes) (held m.writing m.outputs) m ≡ Ok (min (min m.longest (length bytes)) left)
  add_answer_fits h = let t = not_full h in rw t (ap Ok count_is)

  pub added_fits : 0 < left →
      added bytes m ≡ record m { outputs = written m.writing (take (min (min m.longest (length bytes)) left) bytes) m.outputs }
  added_fits h =
      let t = not_full h in
      rw t (ap (λ n. record m { outputs = written m.writing (take n bytes) m.outputs }) count_is)
