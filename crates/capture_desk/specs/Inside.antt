-- How the desk over memory keeps what it holds.
use Rattle.std.specs.Prelude.{ℕ, length, ◌-◌, ◌<◌, ◌≤◌, Bool, true, false, List, [], map, drop, Option, Some, None, option_map, IfSome}
use Rattle.std.specs.Prelude.{is_some, slice_index_or, ◌≡◌, All}
use Rattle.std.specs.Str.{bytes_eq}
use Rattle.capture_desk.specs.declared.memory.MemDesk.TheInside.{Inside}
use Rattle.capture_desk.specs.declared.memory.Slot.{Slot}
use Rattle.capture_desk.specs.declared.memory.Place.{Place}
use Rattle.capture_desk.specs.Desks.{Inputs}
use Rattle.capture_desk.specs.Memory.{Memory}

-- an output as a slot keeps it
abbrev pub kept : Bool → List ℕ → Option (List ℕ)
kept true bytes = Some bytes
kept false bytes = None

abbrev pub entry : Slot → List ℕ × Option (List ℕ)
entry slot = (slot.name, kept slot.made slot.held.bytes)

abbrev pub nothing : List ℕ × Option (List ℕ)
nothing = ([], None)

abbrev pub input_at : Inputs → ℕ → List ℕ × List ℕ
input_at inputs i = slice_index_or inputs i ([], [])

abbrev pub output_at : List Slot → ℕ → List ℕ × Option (List ℕ)
output_at slots i = slice_index_or (map entry slots) i nothing

-- the last bytes of a list
abbrev pub rest_from : ℕ → List ℕ → List ℕ
rest_from left bytes = drop (length bytes - left) bytes

abbrev pub memory_of : Inside → Memory
memory_of d =
    record {
      inputs = d.inputs.items;
      opens = d.opens.items;
      outputs = map entry d.slots.items;
      text = d.text.bytes;
      failing = d.failing.items;
      longest = d.longest;
      room = d.text.room;
      calls = d.calls;
      rest = option_map (λ (p : Place). rest_from p.left (input_at d.inputs.items p.input).1) d.reading;
      writing = option_map (λ i. (output_at d.slots.items i).0) d.writing;
      read_faults = d.read_faults;
      write_faults = d.write_faults;
      failed = d.failed;
    }

-- the first file of a name is at i
pub record IsFirst {V : Type 0} (name : List ℕ) (files : List (List ℕ × V)) (none : List ℕ × V) (i : ℕ) : Type 0 where
  pub within : i < length files
  pub same : bytes_eq (slice_index_or files i none).0 name ≡ true
  pub before : (k : ℕ) → k < i → bytes_eq (slice_index_or files k none).0 name ≡ false

abbrev pub IsFirstInput : List ℕ → Inputs → ℕ → Type 0
IsFirstInput name inputs i = IsFirst name inputs ([], []) i

abbrev pub IsFirstSlot : List ℕ → List Slot → ℕ → Type 0
IsFirstSlot name slots i = IsFirst name (map entry slots) nothing i

abbrev pub IsOpenSlot : List Slot → ℕ → Type 0
IsOpenSlot slots i = IsFirstSlot (output_at slots i).0 slots i × (is_some (output_at slots i).1 ≡ true)

abbrev pub IsPlace : Inputs → Place → Type 0
IsPlace inputs p = (p.input < length inputs) × (p.left ≤ length (input_at inputs p.input).1)

pub record Whole (inputs : Inputs) (slots : List Slot) (room most : ℕ) (reading : Option Place) (writing : Option ℕ) : Type 0 where
  pub moves : 1 ≤ most
  pub rooms : All (λ (slot : Slot). slot.held.room ≡ room) slots
  pub place : IfSome reading (IsPlace inputs)
  pub open_slot : IfSome writing (IsOpenSlot slots)

abbrev pub IsWhole : Inside → Type 0
IsWhole d = Whole d.inputs.items d.slots.items d.text.room d.longest d.reading d.writing
