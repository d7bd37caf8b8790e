-- A stream's records one after the other.
use Rattle.std.proofs.Common.{◌≡◌, ℕ, zero, suc, ◌+◌, ◌-◌, List, [], ◌∷◌, length, drop, refl, ap, ◌∙◌, arith}
use Rattle.capture_file.specs.declared.records.Form.{Form}
use Rattle.capture_file.specs.declared.records.Found.{Found}
use Rattle.capture_file.specs.declared.records.Found.TheVariants.{Cut, Wrong, Last, Whole}
use Rattle.capture_file.specs.Streams.{Reading, reading, with_step, Unfinished, Bad, fault_at, turns_of, after_end, record_at, records}
use Rattle.capture_file.specs.Records.{Spans}
use Rattle.capture_file.proofs.Fields.{record_at-spans}

-- bytes that are passed over
pub records-skip : (form : Form) (turns place skip : ℕ) (bytes : List ℕ) →
    records form turns place skip bytes ≡ records form turns (place + skip) 0 (drop skip bytes)
unfolding records
records-skip form turns place zero [] = refl
records-skip form turns place (suc skip) [] = refl
records-skip form turns place zero (tag ∷ rest) =
    ap (λ (at : ℕ). records form turns at 0 (tag ∷ rest)) (let e : place ≡ place + 0 = omega arith in e)
records-skip form turns place (suc skip) (tag ∷ rest) =
    records-skip form turns (place + 1) skip rest
    ∙ ap (λ (at : ℕ). records form turns at 0 (drop skip rest)) (let e : place + 1 + skip ≡ place + suc skip = omega arith in e)

-- the record at the front, and those after it
abbrev pub front_of : Found → Form → ℕ → ℕ → List ℕ → Reading
front_of Cut form turns place bytes = reading [] Unfinished
front_of (Wrong from to kind) form turns place bytes = reading [] (Bad (fault_at (place + from) kind))
front_of Last form turns place bytes = reading [] (after_end (place + 1) (drop 1 bytes))
front_of (Whole step len) form turns place bytes =
    with_step step (records form (turns + turns_of step) (place + len) 0 (drop len bytes))

abbrev pub cons_of : Found → Form → ℕ → ℕ → List ℕ → Reading
cons_of Cut form turns place rest = reading [] Unfinished
cons_of (Wrong from to kind) form turns place rest = reading [] (Bad (fault_at (place + from) kind))
cons_of Last form turns place rest = reading [] (after_end (place + 1) rest)
cons_of (Whole step len) form turns place rest =
    with_step step (records form (turns + turns_of step) (place + 1) (len - 1) rest)

cons-front : (found : Found) (form : Form) (turns place tag : ℕ) (rest : List ℕ) → Spans found (length (tag ∷ rest)) →
    cons_of found form turns place rest ≡ front_of found form turns place (tag ∷ rest)
cons-front Cut form turns place tag rest h = refl
cons-front (Wrong from to kind) form turns place tag rest h = refl
cons-front Last form turns place tag rest h = refl
cons-front (Whole step zero) form turns place tag rest h = absurd (omega arith)
cons-front (Whole step (suc len)) form turns place tag rest h =
    let less : suc len - 1 ≡ len = omega arith in
    let on : place + 1 + len ≡ place + suc len = omega arith in
    ap (with_step step)
    (ap (λ (n : ℕ). records form (turns + turns_of step) (place + 1) n rest) less
    ∙ records-skip form (turns + turns_of step) (place + 1) len rest
    ∙ ap (λ (at : ℕ). records form (turns + turns_of step) at 0 (drop len rest)) on)

pub records-cons : (form : Form) (turns place tag : ℕ) (rest : List ℕ) →
    records form turns place 0 (tag ∷ rest) ≡ cons_of (record_at form turns (tag ∷ rest)) form turns place rest
unfolding records
records-cons form turns place tag rest =
    elim (record_at form turns (tag ∷ rest)) as
    (λ (found : Found).
    elim found as (λ _. Reading) [
      | Cut ↦ reading [] Unfinished
      | Wrong from to kind ↦ reading [] (Bad (fault_at (place + from) kind))
      | Last ↦ reading [] (after_end (place + 1) rest)
      | Whole step len ↦ with_step step (records form (turns + turns_of step) (place + 1) (len - 1) rest)
    ]
    ≡ cons_of found form turns place rest)
    [ Cut ↦ refl | Wrong from to kind ↦ refl | Last ↦ refl | Whole step len ↦ refl ]

pub records-front : (form : Form) (turns place : ℕ) (bytes : List ℕ) →
    records form turns place 0 bytes ≡ front_of (record_at form turns bytes) form turns place bytes
unfolding records
records-front form turns place [] = refl
records-front form turns place (tag ∷ rest) =
    records-cons form turns place tag rest
    ∙ cons-front (record_at form turns (tag ∷ rest)) form turns place tag rest (record_at-spans form turns (tag ∷ rest))
