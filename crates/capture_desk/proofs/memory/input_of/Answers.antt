use Rattle.std.proofs.Common.{ap, ◌∙◌, sym, length, [], refl, arith}
use Rattle.std.proofs.lemmas.List.{get_or_read_under}
use Rattle.capture_desk.proofs.Names.{first_by, named_none}
use Rattle.capture_desk.proofs.memory.input_of.Goals as goal

pub returns-then-eq : goal.returns-then-eq
returns-then-eq c =
    let read = get_or_read_under c.args.inputs.now c.loop-i.i (length c.args.inputs.now) c.index-inputs-i.result (
      [],
      [],
    ) c.index-inputs-i.is c.loop-i-test.true refl in
    first_by c.args.name.now c.as_slice.result.now c.args.inputs.now ([], []) c.loop-i.i c.loop-i-test.true
    (c.as_slice.ensures ∙ ap (λ x. x.0) read) (sym c.eq.ensures ∙ c.if-eq.true) c.loop-i.invariant

pub returns : goal.returns
returns c = named_none c.args.name.now c.args.inputs.now ([], []) (λ k l. c.loop-i.invariant k (omega arith))
