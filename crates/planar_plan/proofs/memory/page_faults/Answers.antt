use Rattle.std.proofs.Common.{◌≡◌, Err, sym, subst, ap, ◌∙◌}
use Rattle.page_table.specs.Taken.{Answers}
use Rattle.page_table.specs.declared.PageFault.{PageFault}
use Rattle.page_table.specs.declared.PageFault.TheVariants.{TooMany}
use Rattle.picture_model.specs.Described.{memory_of}
use Rattle.picture_model.specs.Geometry.{first_unaligned}
use Rattle.planar_plan.specs.Frames.{taken_memory}
use Rattle.planar_plan.proofs.Faults.{few_of, taken_many}
use Rattle.planar_plan.proofs.memory.page_faults.Goals as goal

pub unreachable-requires : goal.unreachable-requires
unreachable-requires c =
    let d = c.args.desc.now in
    let answer : taken_memory d.chunks c.as_slice.result.now ≡ Err TooMany =
    subst (λ (fault : PageFault). Answers (taken_memory d.chunks c.as_slice.result.now) (Err fault)) c.in-Err-TooMany.field-0-is
    c.in-Err-TooMany.ensures.answer
    in
    taken_many (memory_of d) (first_unaligned d.chunks d.pages)
    (sym (few_of d c.requires) ∙ ap (taken_memory d.chunks) (sym c.as_slice.ensures) ∙ answer)
