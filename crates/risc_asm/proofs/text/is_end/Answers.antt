use Rattle.std.proofs.Common.{ap, arith, length}
use Rattle.risc_text.proofs.OneSpan.{words_of_one}
use Rattle.risc_asm.proofs.text.is_end.Goals as goal

pub after_words-requires-clause-ends : goal.after_words-requires-clause-ends
after_words-requires-clause-ends c =
    let all = words_of_one c.args.program.now c.base.ensures.made c.requires.one in
    let ends = all.ends in
    let base = c.base.ensures.value in
    let words = ap length c.words.ensures.value in
    omega arith
