use Rattle.std.proofs.Common.{◌≡◌, ◌∙◌, sym, ap, length, List, ℕ, Some, false, []}
use Rattle.std.proofs.lemmas.List.{get_or_default}
use Rattle.capture_desk.specs.Desks.{named}
use Rattle.capture_desk.specs.Memory.{Memory, called, is_failing}
use Rattle.capture_desk.specs.Inside.{IsFirst, input_at, memory_of, rest_from}
use Rattle.capture_desk.proofs.Names.{named_of}
use Rattle.capture_desk.proofs.Slots.{open_answer_some, opened_some, whole_rest}
use Rattle.capture_desk.proofs.memory.MemDesk.open_step.Goals as goal

works : (c : goal.After-self-1) → is_failing c.args.self.now ≡ false
works c = sym c.next_fails.ensures.fails ∙ c.if-next_fails.false

state : (c : goal.After-self-1) → memory_of c.self.inside ≡ called c.args.self.now
state c = c.self.view_is ∙ c.next_fails.ensures.after

found : (c : goal.After-self-1) →
    named c.args.name.now c.args.self.now.inputs ≡ Some (input_at c.self.inside.inputs.items c.in-Some.input).1
found c =
    let same : c.self.inside.inputs.items ≡ c.args.self.now.inputs = ap (λ m. m.inputs) (state c) in
    let first : IsFirst c.args.name.now c.self.inside.inputs.items ([], []) c.in-Some.input =
    rw c.deref.ensures.value at c.in-Some.ensures in
    ap (named c.args.name.now) (sym same) ∙ named_of c.args.name.now c.self.inside.inputs.items ([], []) c.in-Some.input first

pub returns-in-Some-clause-answer : goal.returns-in-Some-clause-answer
returns-in-Some-clause-answer c = sym (open_answer_some c.args.name.now _ c.args.self.now (works c) (found c))

pub returns-in-Some-clause-after : goal.returns-in-Some-clause-after
returns-in-Some-clause-after c =
    let bytes : List ℕ = (input_at c.self.inside.inputs.items c.in-Some.input).1 in
    let first : IsFirst c.args.name.now c.self.inside.inputs.items ([], []) c.in-Some.input =
    rw c.deref.ensures.value at c.in-Some.ensures in
    let read : c.as_slice-left.result.now ≡ bytes =
    c.as_slice-left.ensures
    ∙ ap (λ file. file.1)
    (c.index.ensures ∙ get_or_default c.self.inside.inputs.items c.in-Some.input c.index.result.now ([], []) first.within) in
    ap (λ (m : Memory). record m { rest = Some (rest_from (length c.as_slice-left.result.now) bytes) }) (state c)
    ∙ ap {B = Memory} (λ x. record (called c.args.self.now) { rest = Some (rest_from (length x) bytes) }) read
    ∙ ap {B = Memory} (λ x. record (called c.args.self.now) { rest = Some x }) (whole_rest bytes)
    ∙ sym (opened_some c.args.name.now bytes c.args.self.now (works c) (found c))
