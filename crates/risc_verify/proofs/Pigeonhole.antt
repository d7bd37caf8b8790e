-- Of more numbers than there are values two are the same.
use Rattle.std.proofs.Common.{◌≡◌, ℕ, zero, suc, ◌<◌, ◌⊎◌, inl, inr, Bool, true, false, ◌||◌, List, [], ◌∷◌, length, eqb, refl, ap, sym}
use Rattle.std.proofs.Common.{subst, arith, eqb-true}
use Rattle.std.proofs.lemmas.Bool.{cases_Bool}
use Rattle.std.specs.List.{IsDistinct, AllByRecursion, list_any}
use Rattle.std.proofs.lemmas.Map.Steps.{length-le_from_distinct_below}

-- two of the first so many values of a function are the same
pub record Repeats (f : ℕ → ℕ) (count : ℕ) : Type 0 where
  pub first : ℕ
  pub second : ℕ
  pub apart : first < second
  pub within : second < count
  pub same : f first ≡ f second

-- a value is among the first so many
record Stands (f : ℕ → ℕ) (count value : ℕ) : Type 0 where
  at : ℕ
  below : at < count
  is : value ≡ f at

-- the first so many values, the last of them first
abbrev values : (ℕ → ℕ) → ℕ → List ℕ
values f zero = []
values f (suc count) = f count ∷ values f count

length-values : (f : ℕ → ℕ) (count : ℕ) → length (values f count) ≡ count
length-values f zero = refl
length-values f (suc count) = ap suc (length-values f count)

abbrev IsNone : (ℕ → ℕ) → ℕ → ℕ → Type 0
IsNone f count value = AllByRecursion (λ y. eqb value y ≡ false) (values f count)

sought : (f : ℕ → ℕ) (count value : ℕ) → Stands f count value ⊎ IsNone f count value
sought f zero value = inr tt
sought f (suc count) value =
    elim (cases_Bool (eqb value (f count))) [
      | inl yes_here ↦ inl (record { at = count; below = omega arith; is = eqb-true value (f count) yes_here })
      | inr not_here ↦
          elim (sought f count value) [
            | inl s ↦ inl (record { at = s.at; below = omega arith; is = s.is })
            | inr none ↦ inr (not_here, none)
          ]
    ]

repeats_or_distinct : (f : ℕ → ℕ) (count : ℕ) → Repeats f count ⊎ IsDistinct eqb (values f count)
unfolding IsDistinct
repeats_or_distinct f zero = inr tt
repeats_or_distinct f (suc count) =
    elim (sought f count (f count)) [
      | inl s ↦ inl (record { first = s.at; second = count; apart = s.below; within = omega arith; same = sym s.is })
      | inr none ↦
          elim (repeats_or_distinct f count) [
            | inl r ↦
                inl
                (record {
                  first = r.first;
                  second = r.second;
                  apart = r.apart;
                  within = omega arith;
                  same = r.same;
                })
            | inr distinct ↦ inr (none, distinct)
          ]
    ]

values-below : (f : ℕ → ℕ) (count most : ℕ) → ((k : ℕ) → k < count → f k < most) → (q : ℕ) →
    list_any (eqb q) (values f count) ≡ true → q < most
values-below f zero most each q here = absurd (cc)
values-below f (suc count) most each q here =
    elim (cases_Bool (eqb q (f count))) [
      | inl is_here ↦ omega (arith, eqb-true q (f count) is_here, each count (omega arith))
      | inr not_here ↦
          values-below f count most (λ k below. each k (omega arith)) q
          (let P : Bool → Type 0 = λ b. (b || list_any (eqb q) (values f count)) ≡ true in subst P not_here here)
    ]

-- so many values below a smaller number
pub values-repeat : (f : ℕ → ℕ) (count most : ℕ) → ((k : ℕ) → k < count → f k < most) → most < count → Repeats f count
values-repeat f count most each fewer =
    elim (repeats_or_distinct f count) [
      | inl r ↦ r
      | inr distinct ↦
          absurd
          (omega (
            arith,
            length-values f count,
            length-le_from_distinct_below (values f count) most distinct (values-below f count most each),
          ))
    ]
