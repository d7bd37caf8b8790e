-- What follows for the table from a fault of a key: from Missing that it does not have the key, from the others that it has it.
use Rattle.std.proofs.Common.{◌≡◌, ℕ, Bool, true, false, List, Option, Some, None, is_some, Ok, inl, inr, refl, ap, sym, ◌∙◌}
use Rattle.std.specs.Prelude.{IfErr, ok_or}
use Rattle.std.proofs.lemmas.Bool.{cases_Bool}
use Rattle.toml.specs.Data.{Data, Members, get_member, as_integer}
use Rattle.toml_keys.specs.declared.KeyFault.{KeyFault}
use Rattle.toml_keys.specs.declared.KeyFault.TheVariants.{Missing, WrongKind, OutOfRange}
use Rattle.toml_keys.specs.Keys.{is_there}
use Rattle.toml_keys.specs.Values.{Reading, at, between, each, fitting, judged, list, list_typed, number, or_else, otherwise, required}
use Rattle.toml_keys.proofs.Chains.{chain, gone_on}

abbrev pub Shows : List ℕ → Members → KeyFault → Type 0
Shows name ms Missing = is_there name ms ≡ false
Shows name ms WrongKind = is_there name ms ≡ true
Shows name ms OutOfRange = is_there name ms ≡ true

module _ (name : List ℕ) (ms : Members) where
  -- a fault of a reading shows this
  abbrev pub Says : {A : Type 0} → Reading A → Type 0
  Says reading = IfErr reading (Shows name ms)

  there : (d : Data) → Some d ≡ get_member name ms → is_there name ms ≡ true
  there d is = ap is_some (sym is)

  ok_or_says : {A : Type 0} (o : Option A) (fault : KeyFault) → Shows name ms fault → Says (ok_or o fault)
  ok_or_says (Some a) fault shows = tt
  ok_or_says None fault shows = shows

  module _ {A B : Type 0} (typed : Data → Option A) (ranged : A → Option B) where
    -- what is absent has no fault, and the faults of what is there show it
    judged_says : (found : Option Data) → found ≡ get_member name ms → Says (judged typed ranged found)
    judged_says None is = tt
    judged_says (Some d) is =
        chain (Shows name ms) (ok_or (typed d) WrongKind) _ (ok_or_says (typed d) WrongKind (there d is)) (λ a _.
        chain (Shows name ms) (ok_or (ranged a) OutOfRange) _ (ok_or_says (ranged a) OutOfRange (there d is)) (λ b _. tt))

    judged_none : (found : Option Data) → judged typed ranged found ≡ Ok None → is_some found ≡ false
    judged_none None is = refl
    judged_none (Some d) is =
        gone_on (ok_or (typed d) WrongKind) _ None is (λ a _ on.
        gone_on (ok_or (ranged a) OutOfRange) _ None on (λ b _ end. absurd (cc)))

    judged_some : (found : Option Data) (b : B) → judged typed ranged found ≡ Ok (Some b) → is_some found ≡ true
    judged_some None b is = absurd (cc)
    judged_some (Some d) b is = refl

    pub at_says : Says (at typed ranged name ms)
    at_says = judged_says (get_member name ms) refl

    pub at_none : at typed ranged name ms ≡ Ok None → is_there name ms ≡ false
    at_none is = judged_none (get_member name ms) is

    at_some : (b : B) → at typed ranged name ms ≡ Ok (Some b) → is_there name ms ≡ true
    at_some b is = judged_some (get_member name ms) b is

  missing_says : {A : Type 0} (value : Option A) → (value ≡ None → is_there name ms ≡ false) → Says (ok_or value Missing)
  missing_says (Some a) absent = tt
  missing_says None absent = absent refl

  pub required_says : {A : Type 0} (reading : Reading (Option A)) → (reading ≡ Ok None → is_there name ms ≡ false) → Says reading →
      Says (required reading)
  required_says reading absent says =
      chain (Shows name ms) reading (λ value. ok_or value Missing) says (λ value is. missing_says value (λ none. absent (is ∙ ap Ok none)))

  or_else_says : {A : Type 0} (default : A) (value : Option A) → Says (or_else default value)
  or_else_says default None = tt
  or_else_says default (Some a) = tt

  pub otherwise_says : {A : Type 0} (default : A) (reading : Reading (Option A)) → Says reading → Says (otherwise default reading)
  otherwise_says default reading says = chain (Shows name ms) reading (or_else default) says (λ value _. or_else_says default value)

  fitting_says : {A : Type 0} (fits : List A → Bool) (found : Option (List A)) →
      ((members : List A) → found ≡ Some members → is_there name ms ≡ true) → Says (fitting fits found)
  fitting_says fits None is = tt
  fitting_says fits (Some members) is =
      elim (cases_Bool (fits members)) [
        | inl good ↦ rw good tt
        | inr bad ↦ rw bad (is members refl)
      ]

  fitting_none : {A : Type 0} (fits : List A → Bool) (found : Option (List A)) → fitting fits found ≡ Ok None → found ≡ None
  fitting_none fits None is = refl
  fitting_none fits (Some members) is =
      elim (cases_Bool (fits members)) [
        | inl good ↦ (let now = rw good at is in absurd (cc))
        | inr bad ↦ (let now = rw bad at is in absurd (cc))
      ]

  module _ {A : Type 0} (typed : Data → Bool) (value : Data → Option A) (fits : List A → Bool) where
    pub list_says : Says (list typed value fits name ms)
    list_says =
        chain (Shows name ms) (at (list_typed typed) (each value) name ms) (fitting fits) (at_says (list_typed typed) (each value))
        (λ found is.
        fitting_says fits found (λ members some. at_some (list_typed typed) (each value) members (is ∙ ap Ok some)))

    pub list_none : list typed value fits name ms ≡ Ok None → is_there name ms ≡ false
    list_none is =
        gone_on (at (list_typed typed) (each value) name ms) (fitting fits) None is (λ found first end.
        at_none (list_typed typed) (each value) (first ∙ ap Ok (fitting_none fits found end)))

  pub number_says : (least most : ℕ) → Says (number least most name ms)
  number_says least most = at_says as_integer (between least most)

  pub number_or_says : (default most : ℕ) → Says (otherwise default (number 0 most name ms))
  number_or_says default most = otherwise_says default (number 0 most name ms) (number_says 0 most)

  pub required_number_says : (least most : ℕ) → Says (required (number least most name ms))
  required_number_says least most =
      required_says (number least most name ms) (at_none as_integer (between least most)) (number_says least most)
