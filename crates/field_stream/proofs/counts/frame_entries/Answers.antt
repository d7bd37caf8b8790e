use Rattle.std.proofs.Common.{ap, sym, ◌∙◌, arith}
use Rattle.capture_desc.specs.declared.desc.Desc.{Desc}
use Rattle.pixel_layout.specs.declared.Parity.TheVariants.{Top, Bottom}
use Rattle.field_stream.specs.Pushes.{entries_in, field_pushes}
use Rattle.field_stream.proofs.Counting.{count_both}
use Rattle.field_stream.proofs.Making.{frame_both}
use Rattle.field_stream.proofs.counts.frame_entries.Goals as goal

pub returns-in-Both : goal.returns-in-Both
returns-in-Both c =
    let d = c.args.frame.now in
    let is = sym (ap (λ (d : Desc). d.fields) c.desc.ensures.value) ∙ c.in-Both.is in
    omega (
      arith,
      c.field_entries-in-Both.ensures.value,
      c.field_entries-in-Both-2.ensures.value,
      count_both (field_pushes d Top) (field_pushes d Bottom),
      ap entries_in (frame_both d is),
    )
