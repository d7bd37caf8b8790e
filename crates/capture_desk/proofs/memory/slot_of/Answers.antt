use Rattle.std.proofs.Common.{ap, ◌∙◌, sym, length, map, arith, ◌<◌}
use Rattle.std.proofs.lemmas.List.{length-map}
use Rattle.capture_desk.specs.Inside.{entry, nothing}
use Rattle.capture_desk.proofs.Names.{entry_read, first_by, named_none, none_by}
use Rattle.capture_desk.proofs.memory.slot_of.Goals as goal

pub returns-then-eq : goal.returns-then-eq
returns-then-eq c =
    let read = entry_read c.args.slots.now c.loop-i.i c.index-slots-i.result c.loop-i-test.true c.index-slots-i.is in
    let within : c.loop-i.i < length (map entry c.args.slots.now) = rw length-map c.loop-i-test.true in
    first_by c.args.name.now c.as_slice.result.now (map entry c.args.slots.now) nothing c.loop-i.i within
    (c.as_slice.ensures ∙ ap (λ x. x.0) read) (sym c.eq.ensures ∙ c.if-eq.true) c.loop-i.invariant

pub loop-i-preserved : goal.loop-i-preserved
loop-i-preserved c =
    let read = entry_read c.args.slots.now c.loop-i.i c.index-slots-i.result c.loop-i-test.true c.index-slots-i.is in
    none_by c.args.name.now c.as_slice.result.now (map entry c.args.slots.now) nothing c.loop-i.i
    (c.as_slice.ensures ∙ ap (λ x. x.0) read) (sym c.eq.ensures ∙ c.if-eq.false) c.loop-i.invariant

pub returns : goal.returns
returns c =
    named_none c.args.name.now (map entry c.args.slots.now) nothing
    (λ k l. c.loop-i.invariant k (let n = rw length-map at l in omega (arith, n)))
