use Rattle.std.proofs.Common.{◌∙◌, ℕ, List, ap, arith, drop, length, length-append}
use Rattle.std.proofs.Math.Seq.{drop-append_seam}
use Rattle.field_stream.specs.Made.{records}
use Rattle.field_stream.specs.Lines.{line_pushes}
use Rattle.field_stream.specs.Drafts.{Drafted}
use Rattle.field_stream.proofs.Moving.{pushed_all-bytes}
use Rattle.field_stream.proofs.draft.Draft.template.Goals as goal

pub behind-requires : goal.behind-requires
behind-requires c =
    let d = c.args.self.now in
    let pushes = line_pushes c.args.line in
    let bytes = ap (λ (d : Drafted). d.bytes) c.line.ensures.value ∙ pushed_all-bytes pushes d in
    let long = ap (λ (bs : List ℕ). length bs) bytes in
    let from = ap (λ (bs : List ℕ). length bs) c.as_slice-from.ensures.value in
    omega (arith, from, long, length-append d.bytes (records d.number pushes))

pub of-requires-clause-records : goal.of-requires-clause-records
of-requires-clause-records c =
    let d = c.args.self.now in
    let pushes = line_pushes c.args.line in
    let bytes = ap (λ (d : Drafted). d.bytes) c.line.ensures.value ∙ pushed_all-bytes pushes d in
    let from = ap (λ (bs : List ℕ). length bs) c.as_slice-from.ensures.value in (
      d.number,
      c.behind.ensures
          ∙ ap (λ (n : ℕ). drop n c.line.new.self.bytes) from
          ∙ ap (λ (bs : List ℕ). drop (length d.bytes) bs) bytes
          ∙ drop-append_seam d.bytes (records d.number pushes),
    )
