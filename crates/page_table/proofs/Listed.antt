-- Tests of the chunks of a list.
use Rattle.std.proofs.Common.{◌≡◌, Bool, false, ◌||◌, List, [], ◌∷◌, map, refl, ap}
use Rattle.std.proofs.lemmas.Bool.{or_parts}
use Rattle.std.proofs.lemmas.List.Elements.{All-nil, All-cons}
use Rattle.std.specs.List.{All, list_any}
use Rattle.page_table.specs.Grants.{Chunk}

-- a test of what a list is mapped to
pub any_map : {A B : Type 0} (test : B → Bool) (f : A → B) (xs : List A) → list_any test (map f xs) ≡ list_any (λ x. test (f x)) xs
any_map test f [] = refl
any_map test f (x ∷ xs) = ap (λ (b : Bool). test (f x) || b) (any_map test f xs)

-- none passes where it isn't so that any does
pub none_passes : (test : Chunk → Bool) (chunks : List Chunk) → list_any test chunks ≡ false → All (λ c. test c ≡ false) chunks
none_passes test [] e = All-nil (λ c. test c ≡ false)
none_passes test (c ∷ rest) e =
    let parts = or_parts (test c) (list_any test rest) e in
    All-cons (λ c. test c ≡ false) c rest parts.0 (none_passes test rest parts.1)
