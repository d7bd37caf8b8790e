-- Which units of a row are clipped: a question about single pixels.
use Rattle.std.specs.Prelude.{ℕ, zero, suc, ◌+◌, ◌*◌, ◌/◌, ◌^◌, Bool, true, false, not, ◌&&◌, ◌||◌, List, [], ◌∷◌, min, nat_le, nat_lt}
use Rattle.std.specs.Prelude.{if◌then◌else◌}
use Rattle.std.specs.List.{list_any}
use Rattle.clip_spans.specs.declared.Rect.{Rect}

-- how many clip rectangles there may be
abbrev pub max_rects : ℕ
max_rects = 64

-- a rectangle has pixels in a row
abbrev pub meets : Rect → ℕ → Bool
meets rect row = nat_le rect.y row && nat_lt row (rect.y + rect.h)

abbrev pub is_same : Bool → Bool → Bool
is_same true b = b
is_same false b = not b

-- the first row after a row at which a rectangle begins or ends, 2^32 where it does neither
abbrev pub edge_after : ℕ → Rect → ℕ
edge_after row rect =
    if nat_lt row rect.y then rect.y
    else if nat_lt row (rect.y + rect.h) then rect.y + rect.h
    else 2 ^ 32

-- the first at which one of them does, and 2^32 at the most
abbrev pub next_edge : List Rect → ℕ → ℕ
next_edge [] row = 2 ^ 32
next_edge (rect ∷ rest) row = min (edge_after row rect) (next_edge rest row)

-- a rectangle covers pixel x of a row
abbrev pub covers : Rect → ℕ → ℕ → Bool
covers rect row x = nat_le rect.x x && nat_lt x (rect.x + rect.w) && meets rect row

abbrev pub pixel_clipped : List Rect → ℕ → ℕ → Bool
pixel_clipped rects row x = list_any (λ rect. covers rect row x) rects

-- one of so many pixels, from x on, passes the test
abbrev pub some_from : (ℕ → Bool) → ℕ → ℕ → Bool
some_from test x zero = false
some_from test x (suc count) = test x || some_from test (x + 1) count

-- a unit of so many pixels is clipped where one of its pixels is; units are counted from 0
abbrev pub unit_clipped : List Rect → ℕ → ℕ → ℕ → Bool
unit_clipped rects row pixels number = some_from (pixel_clipped rects row) (number * pixels) pixels

-- pixel x is in a unit that is clipped
abbrev pub clipped_at : List Rect → ℕ → ℕ → ℕ → Bool
clipped_at rects row pixels x = unit_clipped rects row pixels (x / pixels)
