use Rattle.std.proofs.Common.{[], ◌∷◌, length, ap, sym, ◌∙◌}
use Rattle.risc_word.specs.Words.{encoded}
use Rattle.dma_machine.proofs.Spelled.{planar_length}
use Rattle.dma_machine.proofs.parts.length_in_words.Goals as goal

pub returns-in-Skip123 : goal.returns-in-Skip123
returns-in-Skip123 c =
    let i = c.in-Skip123 in
    c.planar_length.ensures.words
    ∙ sym (ap (λ instr. length (encoded instr)) i.is ∙ planar_length 10 i.ctl i.ends 0 i.counts [] c.planar_length.ensures.three)

pub returns-in-Write1S23 : goal.returns-in-Write1S23
returns-in-Write1S23 c =
    let i = c.in-Write1S23 in
    let called = c.planar_length-in-Write1S23.ensures in
    called.words ∙ sym (ap (λ instr. length (encoded instr)) i.is ∙ planar_length 11 i.ctl i.ends i.off i.counts (i.addr ∷ []) called.three)

pub returns-in-Write123 : goal.returns-in-Write123
returns-in-Write123 c =
    let i = c.in-Write123 in
    let called = c.planar_length-in-Write123.ensures in
    called.words ∙ sym (ap (λ instr. length (encoded instr)) i.is ∙ planar_length 9 i.ctl i.ends i.off i.counts i.addrs called.three)
