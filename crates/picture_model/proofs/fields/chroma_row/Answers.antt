use Rattle.std.proofs.Common.{◌≡◌, ℕ, ◌≤◌, Bool, true, Option, Some, None, refl, sym, ap, ◌∙◌, subst, arith}
use Rattle.std.specs.Prelude.{IfSome}
use Rattle.pixel_layout.specs.Layouts.{chroma_row_from}
use Rattle.pixel_layout.proofs.Chroma.{place-within}
use Rattle.capture_desc.specs.declared.desc.Desc.{Desc}
use Rattle.picture_model.specs.Described.{both, chroma_first, chroma_row_of, field_of, layout_of}
use Rattle.picture_model.proofs.Offsets.{IsKept, chroma_row-IsKept}
use Rattle.picture_model.proofs.fields.chroma_row.Goals as goal

some_is : (o : Option ℕ) (P : ℕ → Type 0) → ((c : ℕ) → o ≡ Some c → P c) → IfSome o P
some_is None P each = tt
some_is (Some c) P each = each c refl

kept : (d : Desc) (row c : ℕ) → chroma_row_of d row ≡ Some c → IsKept (layout_of d) (both d) (chroma_first d (field_of d.fields row)) row c
kept d row c is = chroma_row-IsKept (layout_of d) (both d) (chroma_first d (field_of d.fields row)) row c is

within : (d : Desc) (row : ℕ) → IfSome (chroma_row_of d row) (λ c. c ≤ row)
within d row =
    some_is (chroma_row_of d row) (λ c. c ≤ row)
    (λ c is.
    let at = (kept d row c is).at in
    let low = place-within (layout_of d).down (both d) row in omega arith)

planar : (d : Desc) (row : ℕ) → IfSome (chroma_row_of d row) (λ c. (layout_of d).planar ≡ true)
planar d row =
    some_is (chroma_row_of d row) (λ c. (layout_of d).planar ≡ true) (λ c is. (kept d row c is).planar)

pub returns-clause-value : goal.returns-clause-value
returns-clause-value c =
    let l = layout_of c.args.desc.now in
    c.chroma_row_from.ensures
    ∙ ap (λ (n : ℕ). chroma_row_from l c.is_both.result n c.args.row)
    (c.chroma_first-first.ensures ∙ ap (chroma_first c.args.desc.now) c.field_of.ensures)
    ∙ ap (λ (b : Bool). chroma_row_from l b (chroma_first c.args.desc.now (field_of c.args.desc.now.fields c.args.row)) c.args.row)
    c.is_both.ensures

pub returns-clause-within : goal.returns-clause-within
returns-clause-within c =
    subst (λ (o : Option ℕ). IfSome o (λ kept. kept ≤ c.args.row)) (sym (returns-clause-value c)) (within c.args.desc.now c.args.row)

pub returns-clause-planar : goal.returns-clause-planar
returns-clause-planar c =
    subst (λ (o : Option ℕ). IfSome o (λ kept. (layout_of c.args.desc.now).planar ≡ true)) (sym (returns-clause-value c))
    (planar c.args.desc.now c.args.row)
