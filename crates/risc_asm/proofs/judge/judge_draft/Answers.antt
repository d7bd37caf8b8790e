use Rattle.std.proofs.Common.{Some, arith, ◌∙◌}
use Rattle.risc_asm.specs.Drafts.{seen}
use Rattle.risc_asm.proofs.Judging.{begun_nowhere, no_program_told, no_spans_left}
use Rattle.risc_asm.proofs.judge.judge_draft.Goals as goal

pub judge_base-requires-clause-drafted : goal.judge_base-requires-clause-drafted
judge_base-requires-clause-drafted c =
    let base = c.in-Some.is in
    let spans = no_spans_left c.args.draft.spans (omega arith) in (
      c.args.draft.entry,
      c.requires.drafted ∙ (λ i. Some (record {
        base = base i;
        words = c.args.draft.words.items;
        spans = spans i;
        entry = c.args.draft.entry;
        chunks = c.args.draft.chunks.items;
        fill = c.args.draft.fill;
      })),
    )

pub returns-in-None : goal.returns-in-None
returns-in-None c = (
  begun_nowhere c.args.text.now,
  no_program_told c.args.text.now (seen c.args.draft) c.requires.drafted c.in-None.is (omega arith) c.requires.some,
)
