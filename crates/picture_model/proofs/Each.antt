-- What holds of each element of a list.
use Rattle.std.proofs.Common.{ℕ, zero, suc, ◌+◌, ◌<◌, ◌≤◌, List, [], ◌∷◌, ◌++◌, map, arith}
use Rattle.std.specs.Prelude.{replicate}
use Rattle.std.specs.List.{All, flat_map, range_with_len}
use Rattle.std.proofs.lemmas.List.Elements.{All-cons}

abbrev pub Each : {A : Type 0} → (A → Type 0) → List A → Type 0
Each P [] = Unit {0}
Each P (x ∷ rest) = P x × Each P rest

pub each_append : {A : Type 0} (P : A → Type 0) (xs ys : List A) → Each P xs → Each P ys → Each P (xs ++ ys)
each_append P [] ys one two = two
each_append P (x ∷ xs) ys one two = (one.0, each_append P xs ys one.1 two)

pub each_map : {A B : Type 0} (P : A → Type 0) (Q : B → Type 0) (f : A → B) (xs : List A) → ((x : A) → P x → Q (f x)) → Each P xs →
    Each Q (map f xs)
each_map P Q f [] step each = tt
each_map P Q f (x ∷ xs) step each = (step x each.0, each_map P Q f xs step each.1)

pub each_flat_map : {A B : Type 0} (P : A → Type 0) (Q : B → Type 0) (f : A → List B) (xs : List A) → ((x : A) → P x → Each Q (f x)) →
    Each P xs → Each Q (flat_map f xs)
each_flat_map P Q f [] step each = tt
each_flat_map P Q f (x ∷ xs) step each = each_append Q (f x) (flat_map f xs) (step x each.0) (each_flat_map P Q f xs step each.1)

pub each_at : {A : Type 0} (P : A → Type 0) (before : List A) (x : A) (after : List A) → Each P (before ++ x ∷ after) → P x
each_at P [] x after each = each.0
each_at P (b ∷ before) x after each = each_at P before x after each.1

pub each_All : {A : Type 0} (P : A → Type 0) (xs : List A) → Each P xs → All P xs
each_All P [] each = λ k d within. absurd (omega arith)
each_All P (x ∷ xs) each = All-cons P x xs each.0 (each_All P xs each.1)

pub each_only : {A : Type 0} (P Q : A → Type 0) (xs : List A) → ((x : A) → P x → Q x) → Each P xs → Each Q xs
each_only P Q [] step each = tt
each_only P Q (x ∷ xs) step each = (step x each.0, each_only P Q xs step each.1)

pub each_replicate : {A : Type 0} (P : A → Type 0) (n : ℕ) (x : A) → P x → Each P (replicate n x)
each_replicate P zero x here = tt
each_replicate P (suc n) x here = (here, each_replicate P n x here)

pub each_range : (from count end : ℕ) → from + count ≤ end → Each (λ k. k < end) (range_with_len from count)
each_range from zero end within = tt
each_range from (suc count) end within = (omega arith, each_range (from + 1) count end (omega arith))

pub each_both : {A : Type 0} (P Q : A → Type 0) (xs : List A) → Each P xs → Each Q xs → Each (λ x. P x × Q x) xs
each_both P Q [] one two = tt
each_both P Q (x ∷ xs) one two = ((one.0, two.0), each_both P Q xs one.1 two.1)
