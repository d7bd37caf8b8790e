-- The names of outputs that are not there yet.
use Rattle.std.proofs.Common.{◌≡◌, List, [], ◌∷◌, ℕ, ap, refl}
use Rattle.capture_desk.specs.Memory.{names_of, new_memory}

pub names_of_new : (names : List (List ℕ)) → names_of (new_memory [] [] names [] 0 0).outputs ≡ names
names_of_new [] = refl
names_of_new (name ∷ names) = ap (λ others. name ∷ others) (names_of_new names)
