-- What holds of an input that the desk tells.
use Rattle.std.proofs.Common.{◌≡◌, ℕ, true, false, Bool, List, Option, Some, None, refl, sym, ap, subst, ◌∙◌}
use Rattle.capture_desk.specs.Desks.{HasRisen, Inputs, Seen, Told, after_open, first_rest, is_missing, named}
use Rattle.command_texts.specs.declared.refusal.Refusal.{Refusal}
use Rattle.command_texts.specs.declared.refusal.Refusal.TheVariants.{ReadFault}
use Rattle.command_steps.specs.Inputs.{KeepsReads, OfFile, OfInput, OfRest, apart}

-- what follows for the bytes of an input follows for the input
pub OfInput-map : (name : List ℕ) (inputs : Option Inputs) (P Q : List ℕ → Type 0) → ((bytes : List ℕ) → P bytes → Q bytes) →
    OfInput name inputs P → OfInput name inputs Q
OfInput-map name None P Q f h = tt
OfInput-map name (Some inputs) P Q f h = of_file (named name inputs) h
  where
    of_file : (file : Option (List ℕ)) → OfFile file P → OfFile file Q
    of_file None h = h
    of_file (Some bytes) h = f bytes h

-- an input of which something holds is there
pub is_there : (name : List ℕ) (inputs : Option Inputs) (P : List ℕ → Type 0) → OfInput name inputs P → is_missing name inputs ≡ false
is_there name None P h = refl
is_there name (Some inputs) P h = of_file (named name inputs) h
  where
    of_file : (file : Option (List ℕ)) → OfFile file P → elim file as (λ _. Bool) [ None ↦ true | Some _ ↦ false ] ≡ false
    of_file None h = absurd h
    of_file (Some bytes) h = refl

-- the inputs stay through what only reads
pub same_inputs : (a b : Told) → apart a ≡ apart b → a.inputs ≡ b.inputs
same_inputs a b e = ap (λ (t : Told). t.inputs) e

-- an input that was opened is the rest that is read
pub opened_input : (name : List ℕ) (old opened : Told) (P : List ℕ → Type 0) → is_missing name old.inputs ≡ false →
    opened ≡ after_open name old →
    OfRest opened.rest P → OfInput name old.inputs P
opened_input name old opened P there e h = of_inputs old.inputs there (subst (λ (t : Told). OfRest t.rest P) e h)
  where
    IsThere : Bool → Type 0
    IsThere true = ⊥
    IsThere false = Unit {0}

    of_named : (file : Option (List ℕ)) → elim file as (λ _. Bool) [ None ↦ true | Some _ ↦ false ] ≡ false → OfRest file P → OfFile file P
    of_named None there h = absurd (subst IsThere (sym there) tt)
    of_named (Some bytes) there h = h

    of_inputs : (inputs : Option Inputs) → is_missing name inputs ≡ false → OfRest (first_rest name inputs) P → OfInput name inputs P
    of_inputs None there h = tt
    of_inputs (Some inputs) there h = of_named (named name inputs) there h

pub rose_from : (old mid new : ℕ) → mid ≡ old → HasRisen mid new → HasRisen old new
rose_from old mid new e h = subst (λ n. HasRisen n new) e h

-- ---- the count of failed reads

pub keeps_reads : (refusal : Refusal) (old new : Seen) → new.reads ≡ old.reads → KeepsReads refusal old new
keeps_reads ReadFault old new e = tt
keeps_reads refusal old new e = e

-- no read failed before
pub keeps_from : (refusal : Refusal) (old mid new : Seen) → mid.reads ≡ old.reads → KeepsReads refusal mid new → KeepsReads refusal old new
keeps_from ReadFault old mid new quiet h = tt
keeps_from refusal old mid new quiet h = h ∙ quiet
