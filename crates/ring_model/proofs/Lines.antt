-- The lines of a ring can be cut, and their pages have no fault.
use Rattle.std.proofs.Common.{◌≡◌, ℕ, ◌+◌, ◌*◌, ◌<◌, ◌≤◌, true, refl, arith}
use Rattle.std.specs.List.{All}
use Rattle.std.proofs.lemmas.Nat.{mul-le}
use Rattle.page_table.specs.Grants.{total}
use Rattle.page_table.specs.Taken.{is_aligned}
use Rattle.page_table.proofs.Pages.{pages_aligned}
use Rattle.picture_model.proofs.Grains.{unwritten-IsTrack}
use Rattle.picture_model.proofs.Strips.{IsStrip, packed_track}
use Rattle.ring_model.specs.Rings.{IsRing, Ring, line_strip, memory_of}

pub aligned : (r : Ring) → IsRing r → All (λ c. is_aligned c ≡ true) (memory_of r)
aligned r is = pages_aligned r.pages (λ k within. is.addresses k 0 within) is.pages.aligned

-- a line ends where the next begins
pub line_end : (n bytes : ℕ) → n * bytes + bytes ≡ (n + 1) * bytes
line_end n bytes = grind arith

pub line_within : (r : Ring) (n : ℕ) → IsRing r → n < r.blocks * r.lines → n * r.line_bytes + r.line_bytes ≤ total (memory_of r)
line_within r n is below =
    let step = mul-le (n + 1) r.line_bytes (r.blocks * r.lines) r.line_bytes (omega arith) (omega arith) in
    let here = line_end n r.line_bytes in
    let room = is.enough in
    omega arith

pub line-IsStrip : (r : Ring) (n : ℕ) → IsRing r → n < r.blocks * r.lines → IsStrip (memory_of r) (line_strip r n)
line-IsStrip r n is below =
    record {
      covers = (refl, omega arith, refl);
      one = packed_track (memory_of r) r.line_bytes (n * r.line_bytes) (line_within r n is below);
      two = unwritten-IsTrack (memory_of r) r.line_bytes 0 (omega arith);
      three = unwritten-IsTrack (memory_of r) r.line_bytes 0 (omega arith);
      placed = tt;
    }

-- the lines of a block are lines of the ring
pub block_lines : (block lines blocks : ℕ) → block < blocks → block * lines + lines ≤ blocks * lines
block_lines block lines blocks below =
    let step = mul-le (block + 1) lines blocks lines (omega arith) (omega arith) in
    let here = line_end block lines in
    omega arith
