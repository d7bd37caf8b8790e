use Rattle.std.proofs.Common.{◌≡◌, ◌<◌, ◌+◌, ◌++◌, ◌∙◌, sym, ap, map, min, take, Option, Some, List, ℕ, option_map, slice_index_or}
use Rattle.std.proofs.Common.{slice_set, Ok, length, arith}
use Rattle.std.proofs.lemmas.List.{length-map}
use Rattle.capture_desk.specs.declared.memory.Slot.{Slot}
use Rattle.capture_desk.specs.Desks.{written}
use Rattle.capture_desk.specs.Memory.{Memory, add_answer, added, held, write_failed}
use Rattle.capture_desk.specs.Inside.{IsOpenSlot, entry, memory_of, output_at}
use Rattle.capture_desk.proofs.Slots.{Whole-set, add_answer_fits, add_answer_full, added_fits, added_full, appended_set, held_open}
use Rattle.capture_desk.proofs.Slots.{made_open, room_is, same_writing, same_text}
use Rattle.capture_desk.proofs.memory.MemDesk.add.Goals as goal

-- what is known of the open slot, as it was read
module _ (slots : List Slot) (i : ℕ) (x : Slot) (writing : Option ℕ) (w : writing ≡ Some i) (is_open : IsOpenSlot slots i)
    (read : x ≡ slice_index_or slots i x) where
  within : i < length slots
  within = rw length-map at is_open.0.within

  holds : held (option_map (λ j. (output_at slots j).0) writing) (map entry slots) ≡ x.held.bytes
  holds = ap (λ o. held (option_map (λ j. (output_at slots j).0) o) (map entry slots)) w ∙ held_open slots i x x within read is_open

pub returns-then-left-eq0-clause-answer : goal.returns-then-left-eq0-clause-answer
returns-then-left-eq0-clause-answer c =
    let d = c.self.inside in
    let x = c.index.result.now in
    let is_open : IsOpenSlot d.slots.items c.in-Some.i = rw c.in-Some.is at c.self.invariant.open_slot in
    let in_list = within d.slots.items c.in-Some.i x d.writing c.in-Some.is is_open c.index.ensures in
    let room = c.left-left.ensures ∙ room_is d.slots.items c.in-Some.i x x in_list c.index.ensures d.text.room c.self.invariant.rooms in
    sym (add_answer_full c.left-left.result c.args.bytes.now x.held.bytes (memory_of d)
    (holds d.slots.items c.in-Some.i x d.writing c.in-Some.is is_open c.index.ensures) room c.if-left-eq0.true)
    ∙ ap (λ (m : Memory). add_answer (length c.args.bytes.now) (held m.writing m.outputs) m) c.self.view_is

pub returns-then-left-eq0-clause-after : goal.returns-then-left-eq0-clause-after
returns-then-left-eq0-clause-after c =
    let d = c.self.inside in
    let x = c.index.result.now in
    let is_open : IsOpenSlot d.slots.items c.in-Some.i = rw c.in-Some.is at c.self.invariant.open_slot in
    let in_list = within d.slots.items c.in-Some.i x d.writing c.in-Some.is is_open c.index.ensures in
    let room = c.left-left.ensures ∙ room_is d.slots.items c.in-Some.i x x in_list c.index.ensures d.text.room c.self.invariant.rooms in
    c.count_write_fault.ensures ∙ ap write_failed (sym c.self.view_is)
    ∙ sym (added_full c.left-left.result c.args.bytes.now x.held.bytes (memory_of d)
    (holds d.slots.items c.in-Some.i x d.writing c.in-Some.is is_open c.index.ensures) room c.if-left-eq0.true)
    ∙ ap (added c.args.bytes.now) c.self.view_is

module _ (c : goal.After-self-1) where
  abbrev slots : List Slot
  slots = c.self.inside.slots.items

  is_open : IsOpenSlot slots c.in-Some.i
  is_open = rw c.in-Some.is at c.self.invariant.open_slot

  in_list : c.in-Some.i < length slots
  in_list = within slots c.in-Some.i c.index.result.now c.self.inside.writing c.in-Some.is is_open c.index.ensures

  room : c.left-left.result + length c.index.result.now.held.bytes ≡ c.self.inside.text.room
  room =
      c.left-left.ensures ∙ room_is slots c.in-Some.i c.index.result.now c.index.result.now in_list c.index.ensures c.self.inside.text.room
      c.self.invariant.rooms

  holds_old : held (memory_of c.self.inside).writing (memory_of c.self.inside).outputs ≡ c.index.result.now.held.bytes
  holds_old = holds slots c.in-Some.i c.index.result.now c.self.inside.writing c.in-Some.is is_open c.index.ensures

  some_left : 0 < c.left-left.result
  some_left = let none = c.if-left-eq0.false in omega (arith, none)

  count : c.min-n.result ≡ min (min c.self.inside.longest (length c.args.bytes.now)) c.left-left.result
  count = c.min-n.ensures ∙ ap (λ n. min n c.left-left.result) c.min.ensures

pub invariant_of-self : goal.invariant_of-self
invariant_of-self c =
    let x = c.index_mut.result.now in
    let y = c.append.new.self in
    let whole =
    Whole-set (slots c) c.in-Some.i x y (in_list c) c.index_mut.ensures.value
    c.self.inside.inputs.items c.self.inside.text.room c.self.inside.longest c.self.inside.reading c.self.inside.writing
    (output_at (slots c) c.in-Some.i).0
    c.self.invariant (ap (λ (s : Slot). s.name) c.append.ensures) (ap (λ (s : Slot). s.held.room) c.append.ensures)
    (ap (λ (s : Slot). s.made) c.append.ensures ∙ made_open (slots c) c.in-Some.i x x (in_list c) c.index_mut.ensures.value (is_open c))
    (same_text (slots c) c.in-Some.i x x (in_list c) c.index_mut.ensures.value (output_at (slots c) c.in-Some.i).0 (is_open c).0)
    (is_open c).0
    in
    rw c.in-Some.is whole

pub returns-clause-answer : goal.returns-clause-answer
returns-clause-answer c =
    ap Ok (count c)
    ∙ sym (add_answer_fits c.left-left.result c.args.bytes.now c.index.result.now.held.bytes (memory_of c.self.inside) (holds_old c)
    (room c) (some_left c))
    ∙ ap (λ (m : Memory). add_answer (length c.args.bytes.now) (held m.writing m.outputs) m) c.self.view_is

pub returns-clause-after : goal.returns-clause-after
returns-clause-after c =
    let d = c.self.inside in
    let x = c.index_mut.result.now in
    let y = c.append.new.self in
    let i = c.in-Some.i in
    let e : y.name ≡ x.name = ap (λ (s : Slot). s.name) c.append.ensures in
    let piece : List ℕ = take (min (min d.longest (length c.args.bytes.now)) c.left-left.result) c.args.bytes.now in
    let more : y.held.bytes ≡ x.held.bytes ++ piece =
    ap (λ (s : Slot). s.held.bytes) c.append.ensures ∙ ap (λ k. x.held.bytes ++ take k c.args.bytes.now) (count c) in
    let outs : map entry (slice_set (slots c) i y)
    ≡ written (option_map (λ j. (output_at (slots c) j).0) d.writing) piece (map entry (slots c)) =
    appended_set (slots c) i x y (in_list c) c.index_mut.ensures.value piece (is_open c) e (ap (λ (s : Slot). s.made) c.append.ensures) more
    ∙ ap (λ o. written (option_map (λ j. (output_at (slots c) j).0) o) piece (map entry (slots c))) (sym c.in-Some.is) in
    ap {B = Memory} (λ w. record (memory_of d) { outputs = map entry (slice_set (slots c) i y); writing = w })
    (same_writing (slots c) i x y (in_list c) c.index_mut.ensures.value d.writing c.in-Some.is e)
    ∙ ap {B = Memory} (λ o. record (memory_of d) { outputs = o }) outs
    ∙ sym (added_fits c.left-left.result c.args.bytes.now c.index.result.now.held.bytes (memory_of d) (holds_old c) (room c) (some_left c))
    ∙ ap (added c.args.bytes.now) c.self.view_is
