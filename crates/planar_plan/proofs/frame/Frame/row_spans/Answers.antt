use Rattle.std.proofs.Common.{◌≡◌, ℕ, List, map, sym, ap, ◌∙◌, subst}
use Rattle.clip_spans.specs.Clipping.{clipped_at}
use Rattle.clip_spans.specs.Runs.{spans_of}
use Rattle.clip_spans.specs.declared.Span.{Span}
use Rattle.capture_desc.specs.declared.desc.Desc.{Desc}
use Rattle.picture_model.specs.Described.{IsDescription, layout_of}
use Rattle.picture_model.specs.Plans.{in_grains, row_strip}
use Rattle.planar_plan.specs.Lines.{AreWithin}
use Rattle.planar_plan.proofs.Held.{described, is_right, runs_within}
use Rattle.planar_plan.proofs.frame.Frame.row_spans.Goals as goal

pub spans_in_grains-requires : goal.spans_in_grains-requires
spans_in_grains-requires c =
    let d = c.self.inside.desc in
    let right = is_right d c.self.invariant.scattered.framed c.in_ok-spans.ensures.few in
    subst (AreWithin 1024) (sym c.as_slice.ensures)
    (runs_within
    (clipped_at d.clip c.args.row c.unit_pixels.result) d.width 1024 0 c.in_ok-spans.spans right.width.1 c.in_ok-spans.ensures.spans)

-- the spans of a row, in grains
spans_are : (d : Desc) (row unit : ℕ) (slice spans grains : List Span) → slice ≡ spans → spans ≡ spans_of d.clip row d.width unit →
    unit ≡ (layout_of d).pixels →
    grains ≡ map (in_grains (layout_of d)) slice → grains ≡ (row_strip d row).spans
spans_are d row unit slice spans grains same are whole counted =
    counted ∙ ap (map (in_grains (layout_of d))) (same ∙ are ∙ ap (spans_of d.clip row d.width) whole)

pub returns-clause-spans : goal.returns-clause-spans
returns-clause-spans c = λ row from below.
    let d = c.self.inside.desc in
    let grains = c.in_ok-grains.grains.items in
    let alike = c.in_ok-spans.ensures.value ∙ sym (c.next_edge.ensures.spans row d.width c.unit_pixels.result from below) in
    subst (λ (e : Desc). grains ≡ (row_strip e row).spans) c.self.view_is
    (spans_are d row c.unit_pixels.result c.as_slice.result.now c.in_ok-spans.spans grains c.as_slice.ensures alike
    c.unit_pixels.ensures.value c.in_ok-grains.ensures)

pub returns-clause-description : goal.returns-clause-description
returns-clause-description c =
    subst IsDescription c.self.view_is (described c.self.inside.desc c.self.invariant.scattered.framed c.in_ok-spans.ensures.few)
