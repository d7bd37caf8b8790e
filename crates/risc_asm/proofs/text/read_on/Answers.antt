use Rattle.risc_asm.proofs.Telling.{stays}
use Rattle.risc_asm.proofs.text.read_on.Goals as goal

pub returns-then-fits : goal.returns-then-fits
returns-then-fits c =
    let s = c.args.settled in
    let ends = rw c.deref.ensures.value at c.fits.ensures c.if-fits.true in
    let st =
    stays s.base s.draft.words.items c.read_words.new.draft.words.items s.number s.front c.requires c.in_ok-left.ensures.words ends in
    (st.settled, st.front_is)
