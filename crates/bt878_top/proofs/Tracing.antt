-- A trace that is printed piece by piece.
use Rattle.std.proofs.Common.{◌≡◌, ℕ, suc, ◌<◌, Bool, true, false, List, [], ◌++◌, refl, ap, ◌∙◌, arith}
use Rattle.std.proofs.lemmas.List.{append-nil}
use Rattle.trace_play.specs.Playing.{Playing, text_left, weight}

-- what is still to be printed, and how often at most
abbrev pub still_to_say : Bool → Playing → List ℕ
still_to_say true p = text_left p
still_to_say false p = []

abbrev pub pieces_left : Bool → Playing → ℕ
pieces_left true p = suc (weight p)
pieces_left false p = 0

-- a piece, and what is left behind it
pub piece_made : (more : Bool) (shown text made cleared : List ℕ) (before after : Playing) → shown ≡ text → text ≡ made → cleared ≡ [] →
    (more ≡ true → made ++ text_left after ≡ cleared ++ text_left before) → (more ≡ false → made ≡ cleared ++ text_left before) →
    shown ++ still_to_say more after ≡ text_left before
piece_made true shown text made cleared before after is held none goes_on ends =
    ap (λ (list : List ℕ). list ++ text_left after) (is ∙ held) ∙ goes_on refl ∙ ap (λ (list : List ℕ). list ++ text_left before) none
piece_made false shown text made cleared before after is held none goes_on ends =
    append-nil shown ∙ is ∙ held ∙ ends refl ∙ ap (λ (list : List ℕ). list ++ text_left before) none

pub fewer_left : (more : Bool) (before after : Playing) → (more ≡ true → weight after < weight before) →
    pieces_left more after < pieces_left true before
fewer_left true before after less = let l = less refl in omega (arith, l)
fewer_left false before after less = omega arith
