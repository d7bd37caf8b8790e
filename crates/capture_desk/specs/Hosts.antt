-- What a host tells of its files and its standard output, and what each of its calls does to them.
use Rattle.std.specs.Prelude.{ℕ, length, ◌≤◌, ◌++◌, false, List, take, drop, Option, None, option_map, Result, Ok, Err, ⊤, ◌≡◌, MatchOption}
use Rattle.capture_desk.specs.Desks.{Inputs, Outputs, Takes, created, first_rest, is_missing, written}

-- each is there only where the host tells it
pub record Store : Type 0 where
  pub inputs : Option Inputs
  pub outputs : Option Outputs
  pub said : Option (List ℕ)  -- the text on the standard output

abbrev pub nothing_told : Store
nothing_told = record { inputs = None; outputs = None; said = None }

-- the input of this name, at its beginning
abbrev pub OpensFile : {F E : Type 0} → List ℕ → Store → (F → Option (List ℕ)) → Result F E → Type 0
OpensFile name s rest (Ok file) = (is_missing name s.inputs ≡ false) × (rest file ≡ first_rest name s.inputs)
OpensFile name s rest (Err _) = ⊤

-- the next bytes of the rest, where the host tells it, moved into the front of a buffer and nothing else there changed
abbrev pub ReadsFile : {E : Type 0} → List ℕ → List ℕ → Result ℕ E → Option (List ℕ) → Option (List ℕ) → Type 0
ReadsFile buf new_buf (Ok n) old new =
    (n ≤ length buf) × MatchOption old ⊤ (λ rest. Takes n rest buf new_buf) × (new ≡ option_map (λ rest. drop n rest) old)
ReadsFile buf new_buf (Err _) old new = MatchOption old ⊤ (λ _. new_buf ≡ buf) × (new ≡ old)

-- an empty output of this name, in place of an old one
abbrev pub with_created : List ℕ → Store → Store
with_created name s = record s { outputs = option_map (created name) s.outputs }

abbrev pub CreatesFile : {F E : Type 0} → List ℕ → (F → Option (List ℕ)) → Result F E → Store → Store → Type 0
CreatesFile name of (Ok file) old new = (of file ≡ option_map (λ _. name) old.outputs) × (new ≡ with_created name old)
CreatesFile name of (Err _) old new = new ≡ old

-- the first bytes of a piece, how many the call answers, were appended to the output of this name
abbrev pub with_written : Option (List ℕ) → List ℕ → Store → Store
with_written name bytes s = record s { outputs = option_map (written name bytes) s.outputs }

abbrev pub with_said : List ℕ → Store → Store
with_said bytes s = record s { said = option_map (λ text. text ++ bytes) s.said }

abbrev pub AppendsFirst : {E : Type 0} → List ℕ → Result ℕ E → (List ℕ → Store → Store) → Store → Store → Type 0
AppendsFirst bytes (Ok n) after old new = (n ≤ length bytes) × (new ≡ after (take n bytes) old)
AppendsFirst bytes (Err _) after old new = new ≡ old
