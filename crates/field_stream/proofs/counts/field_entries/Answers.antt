use Rattle.std.proofs.Common.{◌≡◌, ◌≤◌, ℕ, ◌+◌, ◌*◌, ◌∙◌, ap, arith}
use Rattle.std.proofs.lemmas.Nat.{mul-le}
use Rattle.capture_desc.specs.declared.desc.Desc.{Desc}
use Rattle.pixel_layout.specs.declared.Parity.{Parity}
use Rattle.picture_model.specs.Described.{field_height}
use Rattle.planar_plan.specs.Frames.{IsFramed}
use Rattle.field_stream.specs.Pushes.{entries_in, picture_line}
use Rattle.field_stream.proofs.Framed.{field_range}
use Rattle.field_stream.proofs.Counting.{count_field}
use Rattle.field_stream.proofs.counts.field_entries.Goals as goal

-- its skipped lines and its rows
are : (d : Desc) (field : Parity) (skipped rows : ℕ) → skipped ≡ d.skip_lines → rows ≡ field_height d field →
    skipped + rows ≡ d.skip_lines + field_height d field
are d field skipped rows e f = omega (arith, e, f)

most : (d : Desc) (field : Parity) (lines each : ℕ) → IsFramed d → lines ≡ d.skip_lines + field_height d field → each ≤ 3072 →
    lines * each ≤ 3929088
most d field lines each is e few = mul-le lines each 1279 3072 (omega (arith, e, is.skipped, field_range d field is)) few

pub overflow_add-lines : goal.overflow_add-lines
overflow_add-lines c =
    let d = c.args.frame.now in
    omega (
      arith,
      c.from.ensures,
      ap (λ (d : Desc). d.skip_lines) c.desc.ensures.value,
      c.rows_of.ensures.value,
      c.rows_of.ensures.framed.skipped,
      field_range d c.args.field c.rows_of.ensures.framed,
    )

pub overflow_mul-result : goal.overflow_mul-result
overflow_mul-result c =
    let d = c.args.frame.now in
    let lines =
    are d c.args.field c.from.result c.rows_of.result
    (c.from.ensures ∙ ap (λ (d : Desc). d.skip_lines) c.desc.ensures.value) c.rows_of.ensures.value in
    omega
    (arith, most d c.args.field (c.from.result + c.rows_of.result) c.entries.result c.rows_of.ensures.framed lines c.entries.ensures.few)

pub overflow_add-result : goal.overflow_add-result
overflow_add-result c =
    let d = c.args.frame.now in
    let lines =
    are d c.args.field c.from.result c.rows_of.result
    (c.from.ensures ∙ ap (λ (d : Desc). d.skip_lines) c.desc.ensures.value) c.rows_of.ensures.value in
    omega (
      arith,
      most d c.args.field (c.from.result + c.rows_of.result) c.entries.result c.rows_of.ensures.framed lines c.entries.ensures.few,
      c.vbi_entries.ensures.few,
    )

pub returns-clause-value : goal.returns-clause-value
returns-clause-value c =
    let d = c.args.frame.now in
    let lines =
    are d c.args.field c.from.result c.rows_of.result
    (c.from.ensures ∙ ap (λ (d : Desc). d.skip_lines) c.desc.ensures.value) c.rows_of.ensures.value in
    let each : c.entries.result ≡ entries_in (picture_line d) = c.entries.ensures.value ∙ ap entries_in c.picture_line.ensures.pushes in
    let rows = ap (λ (n : ℕ). n * c.entries.result) lines ∙ ap (λ (n : ℕ). (d.skip_lines + field_height d c.args.field) * n) each in
    omega (arith, c.vbi_entries.ensures.value, rows, count_field d c.args.field)

pub returns-clause-few : goal.returns-clause-few
returns-clause-few c =
    let d = c.args.frame.now in
    let lines =
    are d c.args.field c.from.result c.rows_of.result
    (c.from.ensures ∙ ap (λ (d : Desc). d.skip_lines) c.desc.ensures.value) c.rows_of.ensures.value in
    omega (
      arith,
      most d c.args.field (c.from.result + c.rows_of.result) c.entries.result c.rows_of.ensures.framed lines c.entries.ensures.few,
      c.vbi_entries.ensures.few,
    )
