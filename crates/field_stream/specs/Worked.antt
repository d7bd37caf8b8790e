-- The stream of the smallest description, of one frame with the seed 1.
use Rattle.std.specs.Prelude.{ℕ, List, [], ◌∷◌}

abbrev pub first_eight : List ℕ
first_eight = 149 ∷ 241 ∷ 217 ∷ 156 ∷ 211 ∷ 243 ∷ 95 ∷ 1 ∷ []

-- the first word, VRE, FM1, the two entries of the row, and the end, with 16 turns after each push
abbrev pub smallest_stream : List ℕ
smallest_stream =
    66 ∷ 70 ∷ 83 ∷ 49
    ∷ 4 ∷ 4 ∷ 5 ∷ 16 ∷ 0 ∷ 0 ∷ 0
    ∷ 4 ∷ 6 ∷ 5 ∷ 16 ∷ 0 ∷ 0 ∷ 0
    ∷ 1 ∷ 2 ∷ 149 ∷ 241 ∷ 217 ∷ 156 ∷ 5 ∷ 16 ∷ 0 ∷ 0 ∷ 0
    ∷ 1 ∷ 1 ∷ 211 ∷ 243 ∷ 95 ∷ 1 ∷ 5 ∷ 16 ∷ 0 ∷ 0 ∷ 0
    ∷ 0 ∷ []
