use Rattle.std.proofs.Common.{ℕ, subst, sym}
use Rattle.risc_asm.specs.Verdicts.{IsToldBy}
use Rattle.risc_asm.proofs.Judging.{begun_nowhere, no_spans_program, spans_told}
use Rattle.risc_asm.proofs.judge.judge_spans.Goals as goal

pub judge_program-requires : goal.judge_program-requires
judge_program-requires c =
    subst (λ (fill : ℕ). IsToldBy c.args.text.now c.in-Some.program fill) (sym c.unwrap_or.ensures)
    (spans_told c.args.text.now c.args.entry c.args.spans c.args.chunks.now c.args.fill c.in_ok-program.field-0 c.in-Some.program
    c.requires.drafted c.requires.spans c.requires.some c.in_ok-program.ensures c.in-Some.is)

pub returns-in-None : goal.returns-in-None
returns-in-None c = (
  begun_nowhere c.args.text.now,
  no_spans_program c.args.text.now c.args.entry c.args.spans c.args.chunks.now c.args.fill c.requires.drafted c.requires.spans
      c.requires.some (rw c.in-None.is at c.in_ok-program.ensures),
)
