-- What a line of a description's picture pushes to each queue.
use Rattle.std.proofs.Common.{◌≡◌, ℕ, ◌*◌, ◌/◌, ◌<◌, ◌≤◌, Bool, true, false, List, [], refl, sym, ap, ◌∙◌, arith, if◌then◌else◌, ⊎_elim}
use Rattle.std.specs.Prelude.{nat_le}
use Rattle.std.proofs.lemmas.Bool.{cond-true, cond-false, cases_Bool}
use Rattle.fifo_model.specs.declared.Queue.{Queue}
use Rattle.fifo_model.specs.declared.Queue.TheVariants.{One, Two, Three}
use Rattle.pixel_layout.specs.declared.Format.{Format}
use Rattle.pixel_layout.specs.declared.Format.TheVariants.{Rgb32, Rgb24, Rgb16, Rgb15, Yuy2, Y8, Rgb8, BtYuv, Yuv422p, Yuv411p, Yuv420p}
use Rattle.pixel_layout.specs.declared.Format.TheVariants.{Yuv410p}
use Rattle.pixel_layout.specs.Layouts.{layout}
use Rattle.capture_desc.specs.declared.desc.Desc.{Desc}
use Rattle.picture_model.specs.Described.{layout_of, plane_row_bytes}
use Rattle.picture_model.proofs.FaultlessGeometry.{IsRight}
use Rattle.picture_law.specs.Pictures.{has_plane, plane_of}
use Rattle.picture_law.proofs.BytePlaces.{queue_plane}
use Rattle.field_stream.specs.Pushes.{Push, packed_line, picture_line, planar_line}
use Rattle.generated_law.proofs.Statuses.{line_statuses, packed_nothing, packed_statuses, statuses}
use Rattle.generated_law.proofs.Planar.{chroma_statuses, luma_statuses}

-- of a planar format a unit is the pixels that share a byte of chroma
record IsPlanar (f : Format) : Type 0 where
  some : 0 < (layout f).across
  pixels : (layout f).pixels ≡ (layout f).across
  bytes : (layout f).bytes ≡ (layout f).across

planar_is : (f : Format) → (layout f).planar ≡ true → IsPlanar f
planar_is Rgb32 is = cc
planar_is Rgb24 is = cc
planar_is Rgb16 is = cc
planar_is Rgb15 is = cc
planar_is Yuy2 is = cc
planar_is Y8 is = cc
planar_is Rgb8 is = cc
planar_is BtYuv is = cc
planar_is Yuv422p is = record { some = omega arith; pixels = refl; bytes = refl }
planar_is Yuv411p is = record { some = omega arith; pixels = refl; bytes = refl }
planar_is Yuv420p is = record { some = omega arith; pixels = refl; bytes = refl }
planar_is Yuv410p is = record { some = omega arith; pixels = refl; bytes = refl }

luma_long : (d : Desc) → (layout_of d).planar ≡ true → plane_row_bytes d 1 ≡ plane_row_bytes d 2 * (layout_of d).across
luma_long d is =
    let f = planar_is d.format is in
    ap (λ (n : ℕ). d.width / n * (layout_of d).bytes) f.pixels ∙ ap (λ (n : ℕ). d.width / (layout_of d).across * n) f.bytes

-- queue 1 gets its line, and each other queue the line of its plane, where there is one
planar_row : (d : Desc) (q : Queue) → (layout_of d).planar ≡ true →
    statuses q (planar_line (plane_row_bytes d 1) (plane_row_bytes d 2) (layout_of d).across)
    ≡ line_statuses (plane_row_bytes d (plane_of q))
planar_row d One is = luma_statuses (plane_row_bytes d 1) (plane_row_bytes d 2) (layout_of d).across
planar_row d Two is =
    chroma_statuses Two (plane_row_bytes d 1) (plane_row_bytes d 2) (layout_of d).across refl (planar_is d.format is).some (luma_long d is)
planar_row d Three is =
    chroma_statuses Three (plane_row_bytes d 1) (plane_row_bytes d 2) (layout_of d).across refl (planar_is d.format is).some
    (luma_long d is)

abbrev planes_if : Bool → ℕ
planes_if planar = if planar then 3 else 1

packed_only : (q : Queue) → nat_le (plane_of q) 1 ≡ true → q ≡ One
packed_only One is = refl
packed_only Two is = cc
packed_only Three is = cc

packed_row : (d : Desc) (q : Queue) → q ≡ One →
    statuses q (packed_line (plane_row_bytes d 1)) ≡ line_statuses (plane_row_bytes d (plane_of q))
packed_row d One is = packed_statuses (plane_row_bytes d 1)
packed_row d Two is = cc
packed_row d Three is = cc

abbrev planar_push : Desc → List Push
planar_push d = planar_line (plane_row_bytes d 1) (plane_row_bytes d 2) (layout_of d).across

abbrev packed_push : Desc → List Push
packed_push d = packed_line (plane_row_bytes d 1)

pub row_statuses : (d : Desc) (q : Queue) → has_plane d q ≡ true →
    statuses q (picture_line d) ≡ line_statuses (plane_row_bytes d (plane_of q))
row_statuses d q has =
    ⊎_elim
    (λ is. ap (statuses q) (cond-true (layout_of d).planar (planar_push d) (packed_push d) is) ∙ planar_row d q is)
    (λ not.
    ap (statuses q) (cond-false (layout_of d).planar (planar_push d) (packed_push d) not)
    ∙ packed_row d q (packed_only q (sym (ap (λ (planar : Bool). nat_le (plane_of q) (planes_if planar)) not) ∙ has)))
    (cases_Bool (layout_of d).planar)

none_planar : (q : Queue) → nat_le (plane_of q) 3 ≡ true
none_planar One = refl
none_planar Two = refl
none_planar Three = refl

packed_none : (d : Desc) (q : Queue) → nat_le (plane_of q) 1 ≡ false → statuses q (packed_line (plane_row_bytes d 1)) ≡ []
packed_none d One is = cc
packed_none d Two is = packed_nothing Two (plane_row_bytes d 1) refl
packed_none d Three is = packed_nothing Three (plane_row_bytes d 1) refl

pub row_nothing : (d : Desc) (q : Queue) → has_plane d q ≡ false → statuses q (picture_line d) ≡ []
row_nothing d q none =
    ⊎_elim
    (λ is.
    let has : has_plane d q ≡ true = ap (λ (planar : Bool). nat_le (plane_of q) (planes_if planar)) is ∙ none_planar q in cc)
    (λ not.
    ap (statuses q) (cond-false (layout_of d).planar (planar_push d) (packed_push d) not)
    ∙ packed_none d q (sym (ap (λ (planar : Bool). nat_le (plane_of q) (planes_if planar)) not) ∙ none))
    (cases_Bool (layout_of d).planar)

-- a row has five bytes at least
pub row_wide : (d : Desc) (q : Queue) → IsRight d → has_plane d q ≡ true → 5 ≤ plane_row_bytes d (plane_of q)
row_wide d q right has = let plane = queue_plane d q has in right.wide (plane_of q) plane.low plane.high
