use Rattle.std.proofs.Common.{◌≡◌, ◌≤◌, ℕ, ◌+◌, ◌*◌, ◌∙◌, ap, ap₂, sym, arith}
use Rattle.std.proofs.lemmas.Nat.{mul-le}
use Rattle.capture_desc.specs.declared.desc.Desc.{Desc}
use Rattle.pixel_layout.specs.declared.Parity.{Parity}
use Rattle.picture_model.specs.Described.{vbi_skip}
use Rattle.picture_model.proofs.Limit.{vbi_skip_few}
use Rattle.planar_plan.specs.Frames.{IsFramed}
use Rattle.field_stream.specs.Pushes.{entries_in}
use Rattle.field_stream.proofs.Framed.{vbi_lines_range}
use Rattle.field_stream.proofs.Counting.{count_vbi}
use Rattle.field_stream.proofs.counts.vbi_entries.Goals as goal

-- the skipped lines and the VBI lines
are : (d : Desc) (field : Parity) (shown again : Desc) (skipped : ℕ) → shown ≡ d → again ≡ d → skipped ≡ vbi_skip again field →
    skipped + shown.vbi_lines ≡ vbi_skip d field + d.vbi_lines
are d field shown again skipped same too passed =
    ap₂ (λ (m n : ℕ). m + n) (passed ∙ ap (λ (d : Desc). vbi_skip d field) too) (ap (λ (d : Desc). d.vbi_lines) same)

few : (d : Desc) (field : Parity) → IsFramed d → vbi_skip d field + d.vbi_lines ≤ 287
few d field is = omega (arith, vbi_skip_few d field is.formed, (vbi_lines_range d is).0)

most : (d : Desc) (field : Parity) (lines each : ℕ) → IsFramed d → lines ≡ vbi_skip d field + d.vbi_lines → each ≤ 3072 →
    lines * each ≤ 881664
most d field lines each is e short = mul-le lines each 287 3072 (omega (arith, e, few d field is)) short

pub overflow_add-result : goal.overflow_add-result
overflow_add-result c =
    let again = c.desc-else-lines-eq0 in
    omega (
      arith,
      are c.args.frame.now c.args.field c.desc.result.now again.result.now c.vbi_skip-skipped.result c.desc.ensures.value
          again.ensures.value c.vbi_skip-skipped.ensures,
      few c.args.frame.now c.args.field c.desc.ensures.framed,
    )

pub overflow_mul-result : goal.overflow_mul-result
overflow_mul-result c =
    let d = c.args.frame.now in
    let lines =
    are d c.args.field c.desc.result.now c.desc-else-lines-eq0.result.now c.vbi_skip-skipped.result c.desc.ensures.value
    c.desc-else-lines-eq0.ensures.value c.vbi_skip-skipped.ensures in
    omega (
      arith,
      most d c.args.field
          (c.vbi_skip-skipped.result + c.desc.result.now.vbi_lines) c.entries.result c.desc.ensures.framed lines c.entries.ensures.few,
    )

pub returns-else-lines-eq0-clause-value : goal.returns-else-lines-eq0-clause-value
returns-else-lines-eq0-clause-value c =
    let d = c.args.frame.now in
    let lines = ap (λ (d : Desc). d.vbi_lines) c.desc.ensures.value in
    ap (λ (n : ℕ). n * c.entries.result) (are d c.args.field c.desc.result.now c.desc-else-lines-eq0.result.now c.vbi_skip-skipped.result
    c.desc.ensures.value c.desc-else-lines-eq0.ensures.value c.vbi_skip-skipped.ensures)
    ∙ ap (λ (n : ℕ). (vbi_skip d c.args.field + d.vbi_lines) * n) (c.entries.ensures.value ∙ ap entries_in c.vbi_line.ensures.pushes)
    ∙ sym (count_vbi d.vbi_lines (vbi_skip d c.args.field) d.vbi_bytes (omega (arith, lines, c.if-lines-eq0.false)))

pub returns-else-lines-eq0-clause-few : goal.returns-else-lines-eq0-clause-few
returns-else-lines-eq0-clause-few c =
    let d = c.args.frame.now in
    let lines =
    are d c.args.field c.desc.result.now c.desc-else-lines-eq0.result.now c.vbi_skip-skipped.result c.desc.ensures.value
    c.desc-else-lines-eq0.ensures.value c.vbi_skip-skipped.ensures in
    omega (
      arith,
      most d c.args.field
          (c.vbi_skip-skipped.result + c.desc.result.now.vbi_lines) c.entries.result c.desc.ensures.framed lines c.entries.ensures.few,
    )
