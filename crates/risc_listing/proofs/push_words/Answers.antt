use Rattle.std.proofs.Common.{◌≡◌, ◌-◌, ◌∙◌, length, drop, take, ap, arith, inr}
use Rattle.std.proofs.lemmas.List.{take_rest, length-drop}
use Rattle.risc_listing.proofs.Passing.{lines_more}
use Rattle.risc_listing.proofs.push_words.Goals as goal

pub loop-next-preserved : goal.loop-next-preserved
loop-next-preserved c =
    let words = c.args.words.now in
    let i = c.loop-next.next in
    let is = take_rest words i in
    let len : length (take (length words - i) (drop i words)) ≡ length words - i = ap length is ∙ length-drop i words in
    record {
      from = omega (arith, c.loop-next.invariant.from);
      within = omega (arith, c.push_line-next.ensures.within.1, len);
      more = inr (omega (arith, c.loop-next.invariant.from, c.push_line-next.ensures.within.0));
      lines = lines_more c.args.base i c.push_line-next.result words _ _ _ _ is (omega (arith, len))
          c.push_line-next.ensures.number c.push_line-next.ensures.within.0 c.push_line-next.ensures.text c.loop-next.invariant.lines;
    }
