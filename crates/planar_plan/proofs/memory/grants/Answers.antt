use Rattle.std.proofs.Common.{◌≡◌, ◌∙◌, Err, ap, subst}
use Rattle.page_table.specs.declared.PageFault.TheVariants.{TooMany, Twice, Unaligned}
use Rattle.page_table.specs.Taken.{Answers, Taking}
use Rattle.planar_plan.specs.Frames.{taken_memory}
use Rattle.planar_plan.proofs.Faults.{no_fault_taken}
use Rattle.planar_plan.proofs.memory.grants.Goals as goal

pub unreachable-requires : goal.unreachable-requires
unreachable-requires c =
    let d = c.args.desc.now in
    let pages = c.as_slice.result.now in
    let answer : taken_memory d.chunks pages ≡ Err TooMany =
    subst (λ (r : Taking). Answers (taken_memory d.chunks pages) r)
    (c.in-Err-TooMany.is ∙ ap Err c.in-Err-TooMany.field-0-is) c.taken_memory.ensures.answer
    in
    no_fault_taken d pages TooMany c.requires.formed c.requires.aligned c.requires.apart c.as_slice.ensures answer

pub unreachable-requires-in-Err-Unaligned : goal.unreachable-requires-in-Err-Unaligned
unreachable-requires-in-Err-Unaligned c =
    let d = c.args.desc.now in
    let pages = c.as_slice.result.now in
    let answer : taken_memory d.chunks pages ≡ Err (Unaligned c.in-Err-Unaligned.field-0-0) =
    subst (λ (r : Taking). Answers (taken_memory d.chunks pages) r)
    (c.in-Err-Unaligned.is ∙ ap Err c.in-Err-Unaligned.field-0-is) c.taken_memory.ensures.answer
    in
    no_fault_taken d pages
    (Unaligned c.in-Err-Unaligned.field-0-0) c.requires.formed c.requires.aligned c.requires.apart c.as_slice.ensures answer

pub unreachable-requires-in-Err-Twice : goal.unreachable-requires-in-Err-Twice
unreachable-requires-in-Err-Twice c =
    let d = c.args.desc.now in
    let pages = c.as_slice.result.now in
    let answer : taken_memory d.chunks pages ≡ Err (Twice c.in-Err-Twice.field-0-0) =
    subst (λ (r : Taking). Answers (taken_memory d.chunks pages) r)
    (c.in-Err-Twice.is ∙ ap Err c.in-Err-Twice.field-0-is) c.taken_memory.ensures.answer
    in
    no_fault_taken d pages (Twice c.in-Err-Twice.field-0-0) c.requires.formed c.requires.aligned c.requires.apart c.as_slice.ensures answer
