-- What follows for an input that the desk tells, and for a run over two.
use Rattle.std.proofs.Common.{◌≡◌, ℕ, inl, inr, true, false, Bool, List, [], ◌∷◌, Option, Some, None, refl}
use Rattle.capture_desk.specs.Desks.{Seen, Inputs, is_missing, named}
use Rattle.command_texts.specs.declared.refusal.Refusal.TheVariants.{ReadFault}
use Rattle.command_texts.specs.Answers.{answer_of}
use Rattle.command_steps.specs.Inputs.{AreGood, Input, OfFile, OfInput, IsUnread}
use Rattle.command_steps.specs.Reading.{AreTaken}
use Rattle.capture_desk.specs.declared.calls.Call.{Call}
use Rattle.command_steps.proofs.Inputs.{OfInput-map}
use Rattle.bt878_contract.specs.Clauses.{AreTold, IsCut}

-- two facts of one input
pub both_of : (name : List ℕ) (inputs : Option Inputs) (P Q : List ℕ → Type 0) (R : Type 0) → AreTold inputs →
    ((bytes : List ℕ) → P bytes → Q bytes → R) →
    OfInput name inputs P → OfInput name inputs Q → R
both_of name None P Q R told f h k = absurd told
both_of name (Some inputs) P Q R told f h k = of_file (named name inputs) h k
  where
    of_file : (file : Option (List ℕ)) → OfFile file P → OfFile file Q → R
    of_file None h k = absurd h
    of_file (Some bytes) h k = f bytes h k

-- its bytes
pub told_some : (name : List ℕ) (inputs : Option Inputs) (P : List ℕ → Type 0) → AreTold inputs → OfInput name inputs P →
    (bytes : List ℕ) × P bytes
told_some name None P told h = absurd told
told_some name (Some inputs) P told h = of_file (named name inputs) h
  where
    of_file : (file : Option (List ℕ)) → OfFile file P → (bytes : List ℕ) × P bytes
    of_file None h = absurd h
    of_file (Some bytes) h = (bytes, h)

-- it isn't missing
not_missing : (name : List ℕ) (inputs : Option Inputs) (P : List ℕ → Type 0) → AreTold inputs → OfInput name inputs P →
    is_missing name inputs ≡ true → ⊥
not_missing name None P told h missing = told
not_missing name (Some inputs) P told h missing = of_file (named name inputs) h missing
  where
    of_file : (file : Option (List ℕ)) → OfFile file P → elim file as (λ _. Bool) [ None ↦ true | Some _ ↦ false ] ≡ true → ⊥
    of_file None h missing = h
    of_file (Some bytes) h missing = absurd (cc)

-- so only a fault of the desk keeps it from being read
pub cut_unread : (name : List ℕ) (old new : Seen) (P : List ℕ → Type 0) → AreTold old.told.inputs → OfInput name old.told.inputs P →
    IsUnread name old new → IsCut (answer_of ReadFault) old new
cut_unread name old new P told there (inl rose) = inr (refl, rose)
cut_unread name old new P told there (inr missing) = absurd (not_missing name old.told.inputs P told there missing)

-- of two inputs either may come first
pub exchanged : (first second : List ℕ) (inputs : Option Inputs) (R : List ℕ → List ℕ → Type 0) →
    OfInput first inputs (λ a. OfInput second inputs (R a)) → OfInput second inputs (λ b. OfInput first inputs (λ a. R a b))
exchanged first second None R h = tt
exchanged first second (Some inputs) R h = of_files (named first inputs) (named second inputs) h
  where
    of_files : (one two : Option (List ℕ)) → OfFile one (λ a. OfFile two (R a)) → OfFile two (λ b. OfFile one (λ a. R a b))
    of_files None two h = absurd h
    of_files (Some a) None h = h
    of_files (Some a) (Some b) h = h

-- ---- a run

-- what holds of two inputs
pub both-map : (file stream : List ℕ) (inputs : Option Inputs) (P Q : List ℕ → List ℕ → Type 0) → ((a b : List ℕ) → P a b → Q a b) →
    OfInput file inputs (λ a. OfInput stream inputs (P a)) →
    OfInput file inputs (λ a. OfInput stream inputs (Q a))
both-map file stream inputs P Q f h =
    OfInput-map file inputs (λ a. OfInput stream inputs (P a)) (λ a. OfInput stream inputs (Q a))
    (λ a k. OfInput-map stream inputs (P a) (Q a) (f a) k) h

-- and of three
pub three-map : (first second third : List ℕ) (inputs : Option Inputs) (P Q : List ℕ → List ℕ → List ℕ → Type 0) →
    ((a b c : List ℕ) → P a b c → Q a b c) →
    OfInput first inputs (λ a. OfInput second inputs (λ b. OfInput third inputs (P a b))) →
    OfInput first inputs (λ a. OfInput second inputs (λ b. OfInput third inputs (Q a b)))
three-map first second third inputs P Q f h =
    both-map first second inputs (λ a b. OfInput third inputs (P a b)) (λ a b. OfInput third inputs (Q a b))
    (λ a b. OfInput-map third inputs (P a b) (Q a b) (f a b)) h

-- ---- inputs that were taken

-- those that were taken are good
pub taken_are_good : (inputs : List Input) (told : Option Inputs) (calls : List Call) → AreTaken inputs told calls → AreGood inputs told
taken_are_good [] told calls h = tt
taken_are_good (input ∷ inputs) told calls h = (h.4, taken_are_good inputs told h.1 h.5)
