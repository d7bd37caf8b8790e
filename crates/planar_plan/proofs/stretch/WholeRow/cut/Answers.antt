use Rattle.std.proofs.Common.{◌≡◌, ◌++◌, ◌∷◌, [], false, List, get_or, take, ap, sym, subst, ◌∙◌}
use Rattle.std.specs.List.{All, flat_map}
use Rattle.std.specs.Option.{option_to_list}
use Rattle.std.proofs.lemmas.List.{append-nil}
use Rattle.clip_spans.specs.declared.Span.{Span}
use Rattle.picture_model.specs.declared.Piece.{Piece}
use Rattle.planar_plan.specs.Lines.{CountsFit}
use Rattle.planar_plan.specs.Stretches.{pieces_in}
use Rattle.planar_plan.proofs.Stretching.{AreWithin-at, counts_added, more_spans}
use Rattle.planar_plan.proofs.stretch.WholeRow.cut.Goals.{in-Some+in_ok-push, in_default}
use Rattle.planar_plan.proofs.stretch.WholeRow.cut.Goals as goal

pub piece-requires : goal.piece-requires
piece-requires c =
    let none : Span = record { from = 0; to = 0; clipped = false } in
    record {
      within = AreWithin-at c.args.self.now.line.grains c.args.spans.now c.loop-span.span-index none c.requires c.loop-span-test.true;
    }

pub loop-span-preserved : goal.loop-span-preserved
loop-span-preserved c =
    let none : Span = record { from = 0; to = 0; clipped = false } in
    let row = c.args.self.now in
    let spans = c.args.spans.now in
    let k = c.loop-span.span-index in
    let out = c.loop-span.pieces.items in
    let new = c.match-piece.pieces.items in
    elim c.match-piece.branch [
      | in-Some+in_ok-push t ↦
          let piece = t.in-Some.piece in
          let next : (piece ∷ []) ≡ pieces_in row (get_or spans k none) = ap option_to_list (sym t.in-Some.is) ∙ c.piece.ensures.piece in
          let added : new ≡ out ++ piece ∷ [] = ap (λ v. v.items) t.pieces-is ∙ t.in_ok-push.ensures.items in
          record {
            pieces =
                added ∙ ap (λ (ps : List Piece). ps ++ piece ∷ []) c.loop-span.invariant.pieces
                ∙ more_spans (pieces_in row) spans k none (piece ∷ []) c.loop-span-test.true next;
            counts = counts_added out new piece t.in-Some.ensures.counts added c.loop-span.invariant.counts;
          }
      | in_default t ↦
          let next : [] ≡ pieces_in row (get_or spans k none) = ap option_to_list (sym t.in_default.is) ∙ c.piece.ensures.piece in
          let same : new ≡ out = ap (λ v. v.items) t.pieces-is in
          record {
            pieces =
                same ∙ c.loop-span.invariant.pieces ∙ sym (append-nil (flat_map (pieces_in row) (take k spans)))
                ∙ more_spans (pieces_in row) spans k none [] c.loop-span-test.true next;
            counts = subst (All CountsFit) (sym same) c.loop-span.invariant.counts;
          }
    ]
