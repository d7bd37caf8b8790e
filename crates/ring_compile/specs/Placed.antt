-- A program's bytes among the pages.
use Rattle.std.specs.Prelude.{ℕ, ◌+◌, ◌*◌, length}
use Rattle.ring_model.specs.Rings.{Ring, ring_words}

-- where the program of a ring ends
abbrev pub program_end : Ring → ℕ
program_end r = r.base + 4 * length (ring_words r)
