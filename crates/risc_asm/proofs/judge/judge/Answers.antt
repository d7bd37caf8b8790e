use Rattle.std.proofs.Common.{◌∙◌, sym}
use Rattle.risc_asm.specs.Drafts.{seen}
use Rattle.risc_asm.proofs.Continuing.{end, is_empty, not_empty, unread}
use Rattle.risc_asm.proofs.Judging.{none_begins_none_is, undrafted}
use Rattle.risc_asm.proofs.judge.judge.Goals as goal

pub returns-then-is_empty : goal.returns-then-is_empty
returns-then-is_empty c = none_begins_none_is c.args.text.now (is_empty c.args.text.now (sym c.is_empty.ensures ∙ c.if-is_empty.true))

pub judge_draft-requires-clause-drafted : goal.judge_draft-requires-clause-drafted
judge_draft-requires-clause-drafted c =
    end (seen c.in_ok-draft.draft) c.in_ok-draft.rest.now c.args.text.now c.in_ok-draft.ensures.so_far
    (is_empty c.in_ok-draft.rest.now (sym c.is_empty-2.ensures ∙ c.if-is_empty-2.true))

pub returns : goal.returns
returns c =
    let read = c.in_ok-draft.ensures in
    let some = not_empty c.in_ok-draft.rest.now (sym c.is_empty-2.ensures ∙ c.if-is_empty-2.false) in (
      c.in_ok-begun_by.ensures,
      undrafted c.args.text.now
          (unread (seen c.in_ok-draft.draft) c.in_ok-draft.rest.now c.args.text.now read.so_far (read.stops some) some)
          (not_empty c.args.text.now (sym c.is_empty.ensures ∙ c.if-is_empty.false)),
    )
