use Rattle.std.proofs.Common.{◌∙◌, ◌++◌, ◌+◌, ◌*◌, List, ℕ, drop, ap, arith}
use Rattle.risc_listing.specs.Listings.{word_lines}
use Rattle.risc_asm.proofs.Telling.{tells_more}
use Rattle.risc_asm.proofs.text.told_again.Goals as goal

pub returns : goal.returns
returns c =
    let words = c.args.words.now in
    let next = c.push_settled-next.result in
    let cut = c.in_ok-rest.ensures.cases in
    let piece_is = c.as_bytes.ensures.value ∙ c.as_str.ensures.value in
    let w = c.push_settled-next.ensures.within in (
      tells_more c.args.base words c.args.number next c.args.text.now c.in_ok-rest.rest.now c.as_bytes.result.now w.1 w.0 cut.0 cut.1
          (λ later. ap (λ (list : List ℕ). list ++ word_lines (c.args.base + 4 * next) 0 (drop next (words ++ later))) piece_is
          ∙ c.push_settled-next.ensures.lines later
          ∙ ap (λ (list : List ℕ). list ++ word_lines (c.args.base + 4 * c.args.number) 0 (drop c.args.number (words ++ later)))
          c.clear.ensures),
      omega (arith, w.0, c.if-next-number.false),
    )
