-- Steps that all meet one program.
use Rattle.std.proofs.Common.{◌≡◌, All, List, [], ◌∷◌, ◌++◌, refl, ap}
use Rattle.std.proofs.lemmas.List.{map-append}
use Rattle.std.proofs.lemmas.List.Elements.{All-nil, All-cons, All-head, All-tail}
use Rattle.fifo_model.specs.declared.Entry.{Entry}
use Rattle.fifo_model.specs.declared.Queue.{Queue}
use Rattle.machine_model.specs.Paths.{RiscProgram}
use Rattle.machine_model.specs.Steps.{Step}
use Rattle.field_law.specs.Arrivals.{Met, meeting, pushed_by, pushed_in, coming}

pub meeting-append : (program : RiscProgram) (early late : List Step) →
    meeting program (early ++ late) ≡ meeting program early ++ meeting program late
meeting-append program early late = map-append (λ step. (program, step)) early late

-- they push what the steps push
pub coming-meeting : (program : RiscProgram) (steps : List Step) (q : Queue) → coming (meeting program steps) q ≡ pushed_in steps q
coming-meeting program [] q = refl
coming-meeting program (first ∷ steps) q = ap (λ (rest : List Entry). pushed_by first q ++ rest) (coming-meeting program steps q)

pub each-meets : (P : RiscProgram → Type 0) (program : RiscProgram) (steps : List Step) → P program →
    All (λ met. P met.0) (meeting program steps)
each-meets P program [] holds = All-nil (λ (met : Met). P met.0)
each-meets P program (first ∷ steps) holds =
    All-cons (λ (met : Met). P met.0) (program, first) (meeting program steps) holds (each-meets P program steps holds)

pub each-step : (P : Step → Type 0) (program : RiscProgram) (steps : List Step) → All P steps → All (λ met. P met.1) (meeting program steps)
each-step P program [] all = All-nil (λ (met : Met). P met.1)
each-step P program (first ∷ steps) all =
    All-cons (λ (met : Met). P met.1) (program, first) (meeting program steps) (All-head P first steps all)
    (each-step P program steps (All-tail P first steps all))
