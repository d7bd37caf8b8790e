-- Rules that hold for each line of the table.
use Rattle.std.proofs.Common.{◌≡◌, ◌*◌, ◌≤◌, Bool, true, not, ◌||◌, ◌==◌, Some, refl, sym, ap, ◌∙◌}
use Rattle.std.specs.Prelude.{◌&&◌, nat_le}
use Rattle.std.proofs.lemmas.Bool.{and_parts, eqb-true, leb-true}
use Rattle.pixel_layout.specs.Layouts.{Layout, layout, format_named}
use Rattle.pixel_layout.specs.declared.Format.{Format}
use Rattle.pixel_layout.specs.declared.Format.TheVariants.{Rgb32, Rgb24, Rgb16, Rgb15, Yuy2, Y8, Rgb8, BtYuv, Yuv422p, Yuv411p, Yuv420p}
use Rattle.pixel_layout.specs.declared.Format.TheVariants.{Yuv410p}

-- the names differ
pub named_back : (f : Format) → format_named (layout f).name ≡ Some f
named_back Rgb32 = refl
named_back Rgb24 = refl
named_back Rgb16 = refl
named_back Rgb15 = refl
named_back Yuy2 = refl
named_back Y8 = refl
named_back Rgb8 = refl
named_back BtYuv = refl
named_back Yuv422p = refl
named_back Yuv411p = refl
named_back Yuv420p = refl
named_back Yuv410p = refl

-- a unit has 1 to 8 pixels and at least one byte, 4 for each pixel at most
pub record IsLayout (l : Layout) : Type 0 where
  pub some_pixels : 1 ≤ l.pixels
  pub few_pixels : l.pixels ≤ 8
  pub some_bytes : 1 ≤ l.bytes
  pub few_bytes : l.bytes ≤ 4 * l.pixels
  pub some_across : 1 ≤ l.across
  pub some_down : 1 ≤ l.down
  pub unit : l.planar ≡ true → (l.pixels ≡ l.across) × (l.bytes ≡ l.across)

-- the same as a test
abbrev is_sized : Layout → Bool
is_sized l =
    nat_le 1 l.pixels && (nat_le l.pixels 8 && (nat_le 1 l.bytes && (nat_le l.bytes (4 * l.pixels)
    && (nat_le 1 l.across && (nat_le 1 l.down && (not l.planar || (l.pixels == l.across && l.bytes == l.across)))))))

each_sized : (f : Format) → is_sized (layout f) ≡ true
each_sized Rgb32 = refl
each_sized Rgb24 = refl
each_sized Rgb16 = refl
each_sized Rgb15 = refl
each_sized Yuy2 = refl
each_sized Y8 = refl
each_sized Rgb8 = refl
each_sized BtYuv = refl
each_sized Yuv422p = refl
each_sized Yuv411p = refl
each_sized Yuv420p = refl
each_sized Yuv410p = refl

unit_sized : (l : Layout) → (not l.planar || (l.pixels == l.across && l.bytes == l.across)) ≡ true → l.planar ≡ true →
    (l.pixels ≡ l.across) × (l.bytes ≡ l.across)
unit_sized l e planar =
    let both =
    and_parts (l.pixels == l.across) (l.bytes == l.across)
    (sym (ap (λ p. not p || (l.pixels == l.across && l.bytes == l.across)) planar) ∙ e) in
    (eqb-true l.pixels l.across both.0, eqb-true l.bytes l.across both.1)

sized : (l : Layout) → is_sized l ≡ true → IsLayout l
sized l e =
    let one = and_parts (nat_le 1 l.pixels) _ e in
    let two = and_parts (nat_le l.pixels 8) _ one.1 in
    let three = and_parts (nat_le 1 l.bytes) _ two.1 in
    let four = and_parts (nat_le l.bytes (4 * l.pixels)) _ three.1 in
    let five = and_parts (nat_le 1 l.across) _ four.1 in
    let six = and_parts (nat_le 1 l.down) _ five.1 in
    record {
      some_pixels = leb-true 1 l.pixels one.0;
      few_pixels = leb-true l.pixels 8 two.0;
      some_bytes = leb-true 1 l.bytes three.0;
      few_bytes = leb-true l.bytes (4 * l.pixels) four.0;
      some_across = leb-true 1 l.across five.0;
      some_down = leb-true 1 l.down six.0;
      unit = unit_sized l six.1;
    }

pub layout_sizes : (f : Format) → IsLayout (layout f)
layout_sizes f = sized (layout f) (each_sized f)
