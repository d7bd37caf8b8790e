use Rattle.std.proofs.Common.{◌<◌, ◌∙◌, arith, length, sym}
use Rattle.machine_model.specs.Paths.{span}
use Rattle.capture_file.proofs.SpansRead.{by_parts, is_found, not_found}
use Rattle.capture_file.proofs.program.is_in.Goals as goal

pub returns-then-stands_in : goal.returns-then-stands_in
returns-then-stands_in c =
    let inside : c.loop-number.number < length c.args.spans.now = omega arith in
    sym
    (is_found c.args.spans.now c.loop-number.number inside (span c.at.result c.words_of.result.now)
    (λ d. by_parts _ c.at.result c.words_of.result.now (c.at.ensures d) (c.words_of.ensures d)) c.args.address
    (sym c.stands_in.ensures ∙ c.if-stands_in.true) c.loop-number.invariant)

pub loop-number-preserved : goal.loop-number-preserved
loop-number-preserved c =
    let inside : c.loop-number.number < length c.args.spans.now = omega arith in
    not_found c.args.spans.now c.loop-number.number inside (span c.at.result c.words_of.result.now)
    (λ d. by_parts _ c.at.result c.words_of.result.now (c.at.ensures d) (c.words_of.ensures d)) c.args.address
    (sym c.stands_in.ensures ∙ c.if-stands_in.false) c.loop-number.invariant
