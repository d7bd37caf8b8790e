use Rattle.std.proofs.Common.{◌≡◌, ◌<◌, ◌∙◌, sym, ap, map, is_some, true, false, refl, length}
use Rattle.std.proofs.lemmas.List.{length-map}
use Rattle.capture_desk.specs.declared.memory.Slot.{Slot}
use Rattle.capture_desk.specs.Desks.{named}
use Rattle.capture_desk.specs.Memory.{is_failing, made}
use Rattle.capture_desk.specs.Inside.{IsFirstSlot, entry, memory_of}
use Rattle.capture_desk.proofs.Names.{is_some-named}
use Rattle.capture_desk.proofs.Slots.{Whole-set, created_by_made, made_set, same_text}
use Rattle.capture_desk.proofs.memory.MemDesk.create_step.Goals as goal

pub unreachable-requires : goal.unreachable-requires
unreachable-requires c =
    let same : c.self.inside.slots.items ≡ c.deref.result.now = sym c.deref.ensures.value in
    let outs : map entry c.self.inside.slots.items ≡ c.args.self.now.outputs =
    ap (λ m. m.outputs) (c.self.view_is ∙ c.next_fails.ensures.after) in
    let none = c.in-None.ensures in
    let there : is_some (named c.args.name.now (map entry c.deref.result.now)) ≡ true =
    ap (λ s. is_some (named c.args.name.now (map entry s))) (sym same) ∙ ap (λ o. is_some (named c.args.name.now o)) outs
    ∙ is_some-named c.args.name.now c.args.self.now.outputs ∙ c.requires in
    let absent : is_some (named c.args.name.now (map entry c.deref.result.now)) ≡ false = ap (λ o. is_some o) none in
    cc

first : (c : goal.After-self-in-Some-1) → IsFirstSlot c.args.name.now c.self.inside.slots.items c.in-Some.i
first c = rw c.deref.ensures.value at c.in-Some.ensures

within : (c : goal.After-self-in-Some-1) → c.in-Some.i < length c.self.inside.slots.items
within c = let f = first c in rw length-map at f.within

text : (c : goal.After-self-in-Some-1) → c.index_mut.result.now.name ≡ c.args.name.now
text c =
    same_text c.self.inside.slots.items c.in-Some.i c.index_mut.result.now c.index_mut.result.now (within c) c.index_mut.ensures.value
    c.args.name.now (first c)

pub invariant_of-self : goal.invariant_of-self
invariant_of-self c =
    Whole-set c.self.inside.slots.items c.in-Some.i c.index_mut.result.now c.make.new.self (within c) c.index_mut.ensures.value
    c.self.inside.inputs.items c.self.inside.text.room c.self.inside.longest c.self.inside.reading c.self.inside.writing c.args.name.now
    c.self.invariant (ap (λ (s : Slot). s.name) c.make.ensures) (ap (λ (s : Slot). s.held.room) c.make.ensures)
    (ap (λ (s : Slot). s.made) c.make.ensures)
    (text c) (first c)

pub returns-clause-after : goal.returns-clause-after
returns-clause-after c =
    let works : is_failing c.args.self.now ≡ false = sym c.next_fails.ensures.fails ∙ c.if-next_fails.false in
    made_set c.self.inside.slots.items c.in-Some.i c.index_mut.result.now c.make.new.self (within c) c.index_mut.ensures.value
    (memory_of c.self.inside) c.args.name.now refl (first c) (text c)
    (ap (λ (s : Slot). s.name) c.make.ensures) (ap (λ (s : Slot). s.made) c.make.ensures) (ap (λ (s : Slot). s.held.bytes) c.make.ensures)
    ∙ ap (made c.args.name.now) (c.self.view_is ∙ c.next_fails.ensures.after) ∙ sym (created_by_made c.args.name.now c.args.self.now works)
