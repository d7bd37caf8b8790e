use Rattle.std.proofs.Common.{◌≡◌}
use Rattle.page_table.specs.declared.PageFault.TheVariants.{Memory}
use Rattle.slot_chain.proofs.Placing.{copied, not_copied}
use Rattle.slot_chain.proofs.making.copy_of.Goals as goal

pub returns-in-Ok : goal.returns-in-Ok
returns-in-Ok c =
    copied c.as_slice.result.now c.args.grants.now c.in-Ok.copy c.as_slice.ensures.grants c.as_slice.ensures.value c.in-Ok.ensures.answer

pub unreachable-requires-in-Err-Unaligned : goal.unreachable-requires-in-Err-Unaligned
unreachable-requires-in-Err-Unaligned c =
    not_copied c.as_slice.result.now c.args.grants.now c.in-Err-Unaligned.field-0 c.as_slice.ensures.grants c.as_slice.ensures.value
    c.in-Err-Unaligned.ensures.answer (λ (e : c.in-Err-Unaligned.field-0 ≡ Memory). cc c.in-Err-Unaligned.field-0-is)

pub unreachable-requires-in-Err-Twice : goal.unreachable-requires-in-Err-Twice
unreachable-requires-in-Err-Twice c =
    not_copied c.as_slice.result.now c.args.grants.now c.in-Err-Twice.field-0 c.as_slice.ensures.grants c.as_slice.ensures.value
    c.in-Err-Twice.ensures.answer (λ (e : c.in-Err-Twice.field-0 ≡ Memory). cc c.in-Err-Twice.field-0-is)
