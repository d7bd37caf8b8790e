-- A list that was read has as many members as it may have.
use Rattle.std.proofs.Common.{◌≡◌, ℕ, Bool, true, List, Option, Some, None, is_some, false, Ok, refl, inl, inr}
use Rattle.std.specs.Prelude.{IfSome}
use Rattle.std.proofs.lemmas.Bool.{cases_Bool}
use Rattle.toml.specs.Data.{Data, Members}
use Rattle.toml_keys.specs.Values.{◌>>=◌, at, each, fitting, judged, list, list_typed}
use Rattle.toml_keys.proofs.Chains.{gone_on}

fitting_fits : {A : Type 0} (fits : List A → Bool) (found read : Option (List A)) → fitting fits found ≡ Ok read →
    IfSome read (λ members. fits members ≡ true)
fitting_fits fits None None h = tt
fitting_fits fits None (Some members) h = absurd (cc)
fitting_fits fits (Some list) None h = tt
fitting_fits fits (Some list) (Some members) h =
    elim (cases_Bool (fits list)) [
      | inl good ↦ (let now = rw good at h in let same : list ≡ members = cc in rw (← same) good)
      | inr bad ↦ (let now = rw bad at h in absurd (cc))
    ]

pub list_fits : {A : Type 0} (typed : Data → Bool) (value : Data → Option A) (fits : List A → Bool) (name : List ℕ) (ms : Members)
    (read : Option (List A)) → list typed value fits name ms ≡ Ok read →
    IfSome read (λ members. fits members ≡ true)
list_fits typed value fits name ms read h =
    gone_on (at (list_typed typed) (each value) name ms) (fitting fits) read h (λ found _ rest. fitting_fits fits found read rest)

-- an absent key has no list
pub absent_list : {A B : Type 0} (typed : Data → Option B) (ranged : B → Option (List A)) (fits : List A → Bool) (found : Option Data) →
    is_some found ≡ false → judged typed ranged found >>= fitting fits ≡ Ok None
absent_list typed ranged fits None absent = refl
absent_list typed ranged fits (Some d) absent = absurd (cc)
