use Rattle.std.proofs.Common.{◌≡◌, ℕ, suc, ◌+◌, ◌≤◌, [], ◌∷◌, map, Option, Some, None, sym, ap, ◌∙◌, subst, arith}
use Rattle.std.specs.Prelude.{max, IfSome}
use Rattle.std.specs.List.{range_with_len}
use Rattle.std.specs.Ordering.{nat_cmp, ord_max}
use Rattle.std.proofs.lemmas.Grind.{common_steps}
use Rattle.capture_desc.specs.declared.desc.Desc.{Desc}
use Rattle.picture_model.specs.Described.{chroma_row_of, rows_for}
use Rattle.picture_model.proofs.Chroma.{rows_more}
use Rattle.planar_plan.proofs.places.chroma_height.Goals as goal
use Rattle.planar_plan.proofs.places.chroma_height.Goals.{in-Some, in_default}

-- the rows for one more row of the picture, by the row of chroma that takes it
more_by : (d : Desc) (row : ℕ) (o : Option ℕ) → chroma_row_of d row ≡ o → rows_for (map (chroma_row_of d) (range_with_len 0 (row + 1)))
    ≡ max (rows_for (map (chroma_row_of d) (range_with_len 0 row))) (rows_for (o ∷ []))
more_by d row o is =
    let next : row + 1 ≡ suc row = omega arith in
    let first : 0 + row ≡ row = omega arith in
    ap (λ (n : ℕ). rows_for (map (chroma_row_of d) (range_with_len 0 n))) next
    ∙ rows_more (chroma_row_of d) 0 row
    ∙ ap (λ (p : Option ℕ). max (rows_for (map (chroma_row_of d) (range_with_len 0 row))) (rows_for (p ∷ [])))
    (ap (chroma_row_of d) first ∙ is)

greater : (a b : ℕ) → ord_max nat_cmp a b ≡ max a b
greater a b = grind (arith, common_steps)

pub loop-row-preserved : goal.loop-row-preserved
loop-row-preserved c =
    let d = c.args.desc.now in
    let row = c.loop-row.row in
    let so_far = c.loop-row.invariant in
    let same = so_far.0 in
    let few = so_far.1 in
    elim c.match-chroma_row.branch [
      | in-Some w ↦ (
          let kept = w.in-Some.kept in
          let here : chroma_row_of d row ≡ Some kept = sym c.chroma_row.ensures.value ∙ w.in-Some.is in
          let more = more_by d row (Some kept) here in
          let within : kept ≤ row = subst (λ (o : Option ℕ). IfSome o (λ n. n ≤ row)) w.in-Some.is c.chroma_row.ensures.within in
          let rows : c.match-chroma_row.rows ≡ max c.loop-row.rows (kept + 1) =
          w.rows-is ∙ w.max-rows.ensures ∙ greater c.loop-row.rows (kept + 1) in
          (omega arith, omega arith))
      | in_default w ↦ (
          let here : chroma_row_of d row ≡ None = sym c.chroma_row.ensures.value ∙ w.in_default.is in
          let more = more_by d row None here in
          let rows : c.match-chroma_row.rows ≡ c.loop-row.rows = w.rows-is in
          (omega arith, omega arith))
    ]
