use Rattle.std.proofs.Common.{◌≡◌, ◌+◌, ◌*◌, ◌∙◌, ℕ, length, sym, ap, subst, arith}
use Rattle.slot_chain.specs.Making.{RefusesPart, refusal}
use Rattle.slot_chain.specs.States.{chain_of}
use Rattle.slot_chain.proofs.Parts.{first_none, head_room, its_program, one_more, refused_by, slot_below, slot_within, spent_to}
use Rattle.slot_chain.proofs.making.accept_parts.Goals as goal

pub loop-part-init : goal.loop-part-init
loop-part-init g c =
    first_none (chain_of c.args.base c.args.slots c.args.parts.now c.args.grants.now) (length c.args.words.now)
    (c.args.base + 8 * (c.args.slots + 1)) c.args.steps.now
    c.new-programs.result.items c.new-programs.ensures.items (omega arith)

pub accept_part-requires-clause-within : goal.accept_part-requires-clause-within
accept_part-requires-clause-within g c =
    let chain = chain_of c.args.base c.args.slots c.args.parts.now c.args.grants.now in
    slot_within chain c.args.words.now c.part-item.result.slot c.requires.words
    (slot_below chain c.loop-part.part-index c.part-item.result c.requires.belong c.loop-part-test.true (sym c.part-item.is))

pub returns-in-Err-clause-refused : goal.returns-in-Err-clause-refused
returns-in-Err-clause-refused g c =
    let chain = chain_of c.args.base c.args.slots c.args.parts.now c.args.grants.now in
    let first = c.loop-part.invariant in
    let is = sym c.part-item.is in
    let below = slot_below chain c.loop-part.part-index c.part-item.result c.requires.belong c.loop-part-test.true is in
    let mine =
    its_program chain
    (length c.args.words.now) c.loop-part.part-index c.loop-part.programs.items c.loop-part.head c.args.steps.now c.loop-part.steps first
    c.part-item.result c.loop-part-test.true is below c.args.words.now c.requires.words in
    let long = c.len.ensures in
    let many = first.many in
    let number : c.len.result ≡ c.loop-part.part-index = omega arith in
    subst (RefusesPart chain) (sym (c.refusal.ensures ∙ ap (λ (n : ℕ). refusal n c.in-Err.why) number))
    (refused_by chain c.loop-part.part-index _ c.in-Err.why mine c.loop-part-test.true first.sound c.in-Err.ensures.refused)

pub overflow_cast-head : goal.overflow_cast-head
overflow_cast-head g c =
    let chain = chain_of c.args.base c.args.slots c.args.parts.now c.args.grants.now in
    let room =
    head_room chain c.args.words.now c.loop-part.part-index c.part-item.result c.requires.words c.requires.placed.ends c.loop-part-test.true
    (sym c.part-item.is) in
    let size = ap length c.as_slice.ensures in omega arith

pub overflow_mul-head-in-loop-part : goal.overflow_mul-head-in-loop-part
overflow_mul-head-in-loop-part g c =
    let chain = chain_of c.args.base c.args.slots c.args.parts.now c.args.grants.now in
    let room =
    head_room chain c.args.words.now c.loop-part.part-index c.part-item.result c.requires.words c.requires.placed.ends c.loop-part-test.true
    (sym c.part-item.is) in
    let size = ap length c.as_slice.ensures in omega arith

pub overflow_add-head-in-loop-part : goal.overflow_add-head-in-loop-part
overflow_add-head-in-loop-part g c =
    let chain = chain_of c.args.base c.args.slots c.args.parts.now c.args.grants.now in
    let room =
    head_room chain c.args.words.now c.loop-part.part-index c.part-item.result c.requires.words c.requires.placed.ends c.loop-part-test.true
    (sym c.part-item.is) in
    let here = c.loop-part.invariant.here in
    let size = ap length c.as_slice.ensures in omega arith

pub loop-part-preserved : goal.loop-part-preserved
loop-part-preserved g c =
    let chain = chain_of c.args.base c.args.slots c.args.parts.now c.args.grants.now in
    let is = sym c.part-item.is in
    let below = slot_below chain c.loop-part.part-index c.part-item.result c.requires.belong c.loop-part-test.true is in
    let size = ap length c.as_slice.ensures in
    one_more chain (length c.args.words.now) c.loop-part.part-index c.loop-part.programs.items c.loop-part.head c.args.steps.now
    c.loop-part.steps c.loop-part.invariant c.part-item.result
    c.loop-part-test.true is below c.args.words.now c.requires.words c.in-Ok.accepted c.push.new.self.items
    (c.loop-part.head + 4 * length c.as_slice.result.now) c.accept_part.new.steps
    c.in-Ok.ensures.accepted c.in-Ok.ensures.sound c.in-Ok-push.ensures.items (omega arith) c.accept_part.ensures.cost

pub returns-in-Err-clause-cost : goal.returns-in-Err-clause-cost
returns-in-Err-clause-cost g c =
    spent_to (length c.args.words.now) c.loop-part.part-index (length c.args.parts.now) c.args.steps.now c.loop-part.steps
    c.accept_part.new.steps c.loop-part.invariant.cost c.accept_part.ensures.cost c.loop-part-test.true

pub returns-in-Err-push-clause-cost : goal.returns-in-Err-push-clause-cost
returns-in-Err-push-clause-cost g c =
    spent_to (length c.args.words.now) c.loop-part.part-index (length c.args.parts.now) c.args.steps.now c.loop-part.steps
    c.accept_part.new.steps c.loop-part.invariant.cost c.accept_part.ensures.cost c.loop-part-test.true
