-- What is under a name after an output was created or appended to.
use Rattle.std.proofs.Common.{ℕ, List, [], ◌∷◌, ◌++◌, Option, Some, None, option_map, Bool, true, false, if◌then◌else◌, ◌≡◌, ◌≢◌, refl, sym}
use Rattle.std.proofs.Common.{ap, ◌∙◌}
use Rattle.std.proofs.lemmas.Slice.Eq.{bytes_eq-Decides}
use Rattle.std.specs.Str.{bytes_eq}
use Rattle.capture_desk.specs.Desks.{Outputs, appended, created, named, output_named, output_under}

same_name : (name : List ℕ) → bytes_eq name name ≡ true
same_name name = (bytes_eq-Decides name name).1 refl

-- a file of one name is not of another
apart : (file name other : List ℕ) → other ≢ name → bytes_eq file name ≡ true → bytes_eq file other ≡ false
apart file name other h e = cases (bytes_eq file other) refl
  where
    cases : (t : Bool) → bytes_eq file other ≡ t → t ≡ false
    cases true f = absurd (h (sym ((bytes_eq-Decides file other).0 f) ∙ (bytes_eq-Decides file name).0 e))
    cases false f = refl

pub named_created : (name : List ℕ) (outputs : Outputs) → named name (created name outputs) ≡ Some (Some [])
named_created name [] = let t = same_name name in rw t refl
named_created name (file ∷ files) = cases (bytes_eq file.0 name) refl (named_created name files)
  where
    cases : (t : Bool) → bytes_eq file.0 name ≡ t → named name (created name files) ≡ Some (Some []) →
        named name (if t then (file.0, Some []) ∷ files else file ∷ created name files) ≡ Some (Some [])
    cases true e ih = rw e refl
    cases false e ih = rw e ih

pub named_created_other : (name other : List ℕ) (outputs : Outputs) → other ≢ name →
    named other (created name outputs) ≡ named other outputs
named_created_other name other [] h = let t = apart name name other h (same_name name) in rw t refl
named_created_other name other (file ∷ files) h = cases (bytes_eq file.0 name) refl (named_created_other name other files h)
  where
    cases : (t : Bool) → bytes_eq file.0 name ≡ t → named other (created name files) ≡ named other files →
        named other (if t then (file.0, Some []) ∷ files else file ∷ created name files) ≡ named other (file ∷ files)
    cases true e ih = let t = apart file.0 name other h e in rw t refl
    cases false e ih = ap (λ rest. if bytes_eq file.0 other then Some file.1 else rest) ih

pub named_appended : (name bytes : List ℕ) (outputs : Outputs) →
    named name (appended name bytes outputs) ≡ option_map (λ output. option_map (λ old. old ++ bytes) output) (named name outputs)
named_appended name bytes [] = refl
named_appended name bytes (file ∷ files) = cases (bytes_eq file.0 name) refl (named_appended name bytes files)
  where
    cases : (t : Bool) → bytes_eq file.0 name ≡ t →
        named name (appended name bytes files) ≡ option_map (λ output. option_map (λ old. old ++ bytes) output) (named name files) →
        named name (if t then (file.0, option_map (λ old. old ++ bytes) file.1) ∷ files else file ∷ appended name bytes files)
        ≡ option_map (λ output. option_map (λ old. old ++ bytes) output) (if t then Some file.1 else named name files)
    cases true e ih = rw e refl
    cases false e ih = rw e ih

pub named_appended_other : (name other bytes : List ℕ) (outputs : Outputs) → other ≢ name →
    named other (appended name bytes outputs) ≡ named other outputs
named_appended_other name other bytes [] h = refl
named_appended_other name other bytes (file ∷ files) h = cases (bytes_eq file.0 name) refl (named_appended_other name other bytes files h)
  where
    cases : (t : Bool) → bytes_eq file.0 name ≡ t → named other (appended name bytes files) ≡ named other files →
        named other (if t then (file.0, option_map (λ old. old ++ bytes) file.1) ∷ files else file ∷ appended name bytes files)
        ≡ named other (file ∷ files)
    cases true e ih = let t = apart file.0 name other h e in rw t refl
    cases false e ih = ap (λ rest. if bytes_eq file.0 other then Some file.1 else rest) ih

-- the same of the outputs that are there
pub output_created : (name : List ℕ) (outputs : Outputs) → output_named name (created name outputs) ≡ Some []
output_created name outputs = ap output_under (named_created name outputs)

pub output_created_other : (name other : List ℕ) (outputs : Outputs) → other ≢ name →
    output_named other (created name outputs) ≡ output_named other outputs
output_created_other name other outputs h = ap output_under (named_created_other name other outputs h)

under_more : (bytes : List ℕ) (o : Option (Option (List ℕ))) →
    output_under (option_map (λ output. option_map (λ old. old ++ bytes) output) o) ≡ option_map (λ old. old ++ bytes) (output_under o)
under_more bytes None = refl
under_more bytes (Some o) = refl

pub output_appended : (name bytes : List ℕ) (outputs : Outputs) →
    output_named name (appended name bytes outputs) ≡ option_map (λ old. old ++ bytes) (output_named name outputs)
output_appended name bytes outputs = ap output_under (named_appended name bytes outputs) ∙ under_more bytes (named name outputs)

pub output_appended_other : (name other bytes : List ℕ) (outputs : Outputs) → other ≢ name →
    output_named other (appended name bytes outputs) ≡ output_named other outputs
output_appended_other name other bytes outputs h = ap output_under (named_appended_other name other bytes outputs h)
