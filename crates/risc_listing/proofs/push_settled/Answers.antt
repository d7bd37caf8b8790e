use Rattle.std.proofs.Common.{◌≡◌, ◌-◌, ◌∙◌, length, drop, take, ap, arith}
use Rattle.std.proofs.lemmas.List.{take_rest, length-drop}
use Rattle.risc_listing.proofs.Settled.{settled_more}
use Rattle.risc_listing.proofs.push_settled.Goals as goal

pub loop-told-preserved : goal.loop-told-preserved
loop-told-preserved c =
    let words = c.args.words.now in
    let i = c.loop-told.told in
    let is = take_rest words i in
    let len : length (take (length words - i) (drop i words)) ≡ length words - i = ap length is ∙ length-drop i words in
    record {
      from = omega (arith, c.loop-told.invariant.from);
      within = omega (arith, c.push_line-told.ensures.within.1, len);
      lines = λ later. settled_more c.args.base i c.push_line-told.result words _ _ _ _ later is (omega arith) (omega (arith, len))
          c.push_line-told.ensures.number c.push_line-told.ensures.within.0 c.push_line-told.ensures.text
          (c.loop-told.invariant.lines later);
    }
