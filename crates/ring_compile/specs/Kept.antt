-- What is kept of a ring, and what its reading brings before its place is checked.
use Rattle.std.specs.Prelude.{◌≡◌, ℕ, ◌≤◌, List, length, map, ◌∷◌}
use Rattle.std.specs.List.{range_with_len}
use Rattle.ring_model.specs.Rings.{IsPlaced, IsRing, Ring, last_write, opening, ring_words, round}
use Rattle.picture_model.specs.Programs.{words_of}

-- the values are within their bounds
pub record IsInBounds (r : Ring) : Type 0 where
  pub blocks : (2 ≤ r.blocks) × (r.blocks ≤ 16)
  pub lines : (1 ≤ r.lines) × (r.lines ≤ 64)
  pub line_bytes : (5 ≤ r.line_bytes) × (r.line_bytes ≤ 4092)
  pub few_pages : length r.pages ≤ 4096

-- the words of a program but for its closing, and the addresses of the last WRITEs of its blocks, in order
pub record IsFront (r : Ring) (kept places : List ℕ) : Type 0 where
  pub words : kept ≡ words_of (opening ∷ round r)
  pub last_writes : places ≡ map (last_write r) (range_with_len 0 r.blocks)

-- a ring without a fault
pub record IsJudged (r : Ring) : Type 0 where
  pub ring : IsRing r
  pub placed : IsPlaced r

-- the words of its program, and the addresses of the last WRITEs
pub record IsKept (r : Ring) (kept places : List ℕ) : Type 0 where
  pub judged : IsJudged r
  pub words : kept ≡ ring_words r
  pub last_writes : places ≡ map (last_write r) (range_with_len 0 r.blocks)
