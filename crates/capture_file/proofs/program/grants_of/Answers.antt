use Rattle.std.proofs.Common.{◌≡◌}
use Rattle.page_table.specs.declared.PageFault.TheVariants.{Memory}
use Rattle.capture_file.proofs.Chunks.{taken_is, not_taken}
use Rattle.capture_file.proofs.program.grants_of.Goals as goal

pub returns-in-Ok-clause-value : goal.returns-in-Ok-clause-value
returns-in-Ok-clause-value c =
    taken_is c.args.chunks.now c.in-Ok.grants c.requires.rising c.requires.few c.requires.small c.in-Ok.ensures.answer

pub unreachable-requires-in-Err-Unaligned : goal.unreachable-requires-in-Err-Unaligned
unreachable-requires-in-Err-Unaligned c =
    not_taken c.args.chunks.now c.in-Err-Unaligned.field-0 c.requires.rising c.requires.few c.requires.small
    c.in-Err-Unaligned.ensures.answer
    (λ (e : c.in-Err-Unaligned.field-0 ≡ Memory). cc c.in-Err-Unaligned.field-0-is)

pub unreachable-requires-in-Err-Twice : goal.unreachable-requires-in-Err-Twice
unreachable-requires-in-Err-Twice c =
    not_taken c.args.chunks.now c.in-Err-Twice.field-0 c.requires.rising c.requires.few c.requires.small c.in-Err-Twice.ensures.answer
    (λ (e : c.in-Err-Twice.field-0 ≡ Memory). cc c.in-Err-Twice.field-0-is)
