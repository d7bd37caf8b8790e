use Rattle.std.proofs.Common.{◌∙◌, ◌++◌, ap, sym}
use Rattle.risc_word.specs.declared.Instr.{Instr}
use Rattle.risc_word.specs.Words.{encoded}
use Rattle.ring_compile.proofs.Judging.{closing_fits, kept}
use Rattle.ring_compile.proofs.judge.judged_words.Goals as goal

pub closing-requires : goal.closing-requires
closing-requires c = closing_fits c.args.values.now (sym c.in_ok-judged_base.ensures)

pub returns-clause-kept : goal.returns-clause-kept
returns-clause-kept c =
    kept c.args.values.now c.in_ok-words.words.items c.push_instr.new.out.items c.in_ok-words.last_writes.items c.requires.ring
    c.in_ok-words.ensures (sym c.in_ok-judged_base.ensures) (sym c.in_ok-judged_against_pages.ensures)
    (c.in_ok-push_instr.ensures.words ∙ ap (λ (i : Instr). c.in_ok-words.words.items ++ encoded i) c.closing.ensures.value)
