use Rattle.std.proofs.Common.{◌+◌, ◌∙◌, List, ap, arith, drop, get_or, sym, length}
use Rattle.machine_model.specs.Paths.{Span}
use Rattle.std.proofs.lemmas.List.{drop_all, drop_more}
use Rattle.risc_text.specs.Drafts.{longer}
use Rattle.risc_text.proofs.Gathering.{longer-none}
use Rattle.risc_asm.proofs.Words.{pushed}
use Rattle.risc_verify.proofs.Cuts.{with_word-length}
use Rattle.risc_asm.proofs.draft.push_all.Goals as goal

pub loop-word-preserved : goal.loop-word-preserved
loop-word-preserved c =
    let words = c.args.words.now in
    let i = c.loop-word.word-index in
    let spans = c.loop-word.spans in
    let later = drop (i + 1) words in
    let word = get_or words i 0 in
    let new = c.in_ok-push.ensures.pushed in
    let inv = c.loop-word.invariant in
    let long = ap length new ∙ with_word-length spans word in
    let some = inv.some in
    record {
      some = omega arith;
      so_far =
          ap (λ (spans : List Span). longer spans later) new ∙ pushed spans word later
          ∙ ap (longer spans) (sym (drop_more words i 0 c.loop-word-test.true)) ∙ inv.so_far;
    }

pub returns : goal.returns
returns c =
    let spans = c.loop-word.spans in
    sym (longer-none spans) ∙ ap (longer spans) (sym (drop_all c.loop-word.word-index c.args.words.now (omega arith)))
    ∙ c.loop-word.invariant.so_far
