use Rattle.std.proofs.Common.{◌≡◌, Some, ap}
use Rattle.page_table.specs.declared.PageFault.TheVariants.{Memory}
use Rattle.risc_asm.proofs.Making.{grants_taken, grants_not_taken}
use Rattle.risc_asm.proofs.programs.grants_of.Goals as goal

pub returns-in-Ok : goal.returns-in-Ok
returns-in-Ok c = λ grants are is. ap Some (grants_taken c.args.chunks.now grants c.in-Ok.grants are is c.in-Ok.ensures.answer)

pub returns-in-Err-Unaligned : goal.returns-in-Err-Unaligned
returns-in-Err-Unaligned c = λ grants are is.
    absurd (grants_not_taken c.args.chunks.now grants c.in-Err-Unaligned.field-0 are is c.in-Err-Unaligned.ensures.answer
    (λ (e : c.in-Err-Unaligned.field-0 ≡ Memory). cc c.in-Err-Unaligned.field-0-is))

pub returns-in-Err-Twice : goal.returns-in-Err-Twice
returns-in-Err-Twice c = λ grants are is.
    absurd (grants_not_taken c.args.chunks.now grants c.in-Err-Twice.field-0 are is c.in-Err-Twice.ensures.answer
    (λ (e : c.in-Err-Twice.field-0 ≡ Memory). cc c.in-Err-Twice.field-0-is))
