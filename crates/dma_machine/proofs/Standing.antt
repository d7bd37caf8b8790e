-- A turn of a machine that stands still only counts.
use Rattle.std.proofs.Common.{◌≡◌, Bool, ℕ, true, false, not, Some, None, Option, refl, ap, ◌∙◌, if◌then◌else◌, ◌==◌}
use Rattle.std.specs.Prelude.{◌&&◌, is_none}
use Rattle.std.proofs.lemmas.Bool.{and_parts, not-true}
use Rattle.risc_word.specs.declared.Instr.{Instr}
use Rattle.risc_word.specs.Parts.{instr_off}
use Rattle.machine_model.specs.declared.Demands.{Demands}
use Rattle.fifo_model.specs.declared.Queue.{Queue}
use Rattle.fifo_model.specs.declared.Queue.TheVariants.{One, Two, Three}
use Rattle.risc_word.specs.declared.Code.{Code}
use Rattle.machine_model.specs.declared.Job.{Job}
use Rattle.machine_model.specs.declared.Job.TheVariants.{Idle, Waiting, Running}
use Rattle.machine_model.specs.Paths.{RiscProgram}
use Rattle.machine_model.specs.States.{State}
use Rattle.machine_model.specs.Steps.{with_program}
use Rattle.machine_model.specs.Turns.{burst_of, code_seen, common_code, is_done, lowest_stray, ran, stray_seen, turn_if, worked}
use Rattle.dma_machine.specs.Counts.{acted, with_turns}
use Rattle.dma_machine.specs.declared.engine.Standing.{Standing}
use Rattle.dma_machine.specs.declared.engine.Standing.TheVariants as standing
use Rattle.dma_machine.specs.Stills.{StandsAs, have_begun, is_open, is_still, none_served, opens, runs_still, works_still}

-- no queue is served where none of the three is
pub none_lowest : (one two three : Bool) → (not one && not two && not three) ≡ true →
    (if one then Some One else (if two then Some Two else (if three then Some Three else None))) ≡ None
none_lowest true two three e = absurd cc
none_lowest false true three e = absurd cc
none_lowest false false true e = absurd cc
none_lowest false false false e = refl

-- nothing is seen at the fronts of a machine that waits
record AreNone (stray : Option Queue) (code : Option Code) : Type 0 where
  no_stray : stray ≡ None
  no_common : code ≡ None

none_seen : (stray : Option Queue) (code : Option Code) → (is_none stray && is_none code) ≡ true → AreNone stray code
none_seen (Some q) code e = absurd cc
none_seen None (Some seen) e = absurd cc
none_seen None None e = record { no_stray = refl; no_common = refl }

worked-still : (job : Job) (m : State) → works_still job m ≡ true → worked job m ≡ m
worked-still Idle m e = absurd cc
worked-still (Waiting ctl resync code) m e =
    let none : AreNone (lowest_stray m.queues) (common_code m.queues) = none_seen _ _ e in
    ap (λ stray. stray_seen stray ctl resync code m) none.no_stray ∙ ap (λ seen. code_seen seen ctl resync code m) none.no_common
worked-still (Running instr ds) m e =
    let parts = and_parts (not (is_done ds)) (none_served ds m) e in
    ap (λ done. ran done instr ds m) (not-true (is_done ds) parts.0) ∙ ap (λ q. burst_of q m) (none_lowest _ _ _ parts.1)

turn_if-still : (on : Bool) (m : State) → (if on then works_still m.job m else true) ≡ true → turn_if on m ≡ m
turn_if-still false m e = refl
turn_if-still true m e = worked-still m.job m e

-- beside being counted it does nothing
pub still_acted : (m : State) → is_still m ≡ true → acted m ≡ m
still_acted m e = turn_if-still m.risc_on m e

works_still-turns : (t : ℕ) (job : Job) (m : State) → works_still job (with_turns t m) ≡ works_still job m
works_still-turns t Idle m = refl
works_still-turns t (Waiting ctl resync code) m = refl
works_still-turns t (Running instr ds) m = refl

pub is_still-turns : (t : ℕ) (m : State) → is_still (with_turns t m) ≡ is_still m
is_still-turns t m = ap (λ still. if m.risc_on then still else true) (works_still-turns t m.job m)

opens-turns : (t : ℕ) (job : Job) (m : State) → opens job (with_turns t m) ≡ opens job m
opens-turns t Idle m = refl
opens-turns t (Waiting ctl resync code) m = refl
opens-turns t (Running instr ds) m = refl

-- what is noted of it stays right where turns are counted
pub StandsAs-turns : (t : ℕ) (noted : Standing) (m : State) → StandsAs noted m → StandsAs noted (with_turns t m)
StandsAs-turns t standing.Unknown m h = tt
StandsAs-turns t standing.Still m h = is_still-turns t m ∙ h
StandsAs-turns t standing.Open m h = opens-turns t m.job m ∙ h

works_still-program : (program : RiscProgram) (job : Job) (m : State) → works_still job (with_program program m) ≡ works_still job m
works_still-program program Idle m = refl
works_still-program program (Waiting ctl resync code) m = refl
works_still-program program (Running instr ds) m = refl

-- with another program it stands still as before
pub is_still-program : (program : RiscProgram) (m : State) → is_still (with_program program m) ≡ is_still m
is_still-program program m = ap (λ still. if m.risc_on then still else true) (works_still-program program m.job m)

opens-program : (program : RiscProgram) (job : Job) (m : State) → opens job (with_program program m) ≡ opens job m
opens-program program Idle m = refl
opens-program program (Waiting ctl resync code) m = refl
opens-program program (Running instr ds) m = refl

pub StandsAs-program : (program : RiscProgram) (noted : Standing) (m : State) → StandsAs noted m → StandsAs noted (with_program program m)
StandsAs-program program standing.Unknown m h = tt
StandsAs-program program standing.Still m h = is_still-program program m ∙ h
StandsAs-program program standing.Open m h = opens-program program m.job m ∙ h

-- ---- an open machine

-- what `opens` asks of a machine that runs, one by one
pub record IsOpen (instr : Instr) (ds : Demands) (m : State) : Type 0 where
  pub on : m.fifo_on ≡ true
  pub runs : m.risc_on ≡ true
  pub one : (m.trigger == 1) ≡ true
  pub off : (instr_off instr == 0) ≡ true
  pub begun : have_begun ds ≡ true
  pub still : runs_still ds m ≡ true

pub open_parts : (instr : Instr) (ds : Demands) (m : State) → opens (Running instr ds) m ≡ true → IsOpen instr ds m
open_parts instr ds m e =
    let still = and_parts (m.fifo_on && m.risc_on && (m.trigger == 1) && (instr_off instr == 0) && have_begun ds) (runs_still ds m) e in
    let begun = and_parts (m.fifo_on && m.risc_on && (m.trigger == 1) && (instr_off instr == 0)) (have_begun ds) still.0 in
    let off = and_parts (m.fifo_on && m.risc_on && (m.trigger == 1)) (instr_off instr == 0) begun.0 in
    let one = and_parts (m.fifo_on && m.risc_on) (m.trigger == 1) off.0 in
    let on = and_parts m.fifo_on m.risc_on one.0 in
    record { on = on.0; runs = on.1; one = one.1; off = off.1; begun = begun.1; still = still.1 }

open_still_in : (job : Job) (m : State) → m.job ≡ job → opens job m ≡ true → is_still m ≡ true
open_still_in Idle m is e = absurd cc
open_still_in (Waiting ctl resync code) m is e = absurd cc
open_still_in (Running instr ds) m is e =
    let parts = open_parts instr ds m e in
    ap (λ on. if on then works_still m.job m else true) parts.runs ∙ ap (λ job. works_still job m) is ∙ parts.still

-- it stands still
pub open_still : (m : State) → is_open m ≡ true → is_still m ≡ true
open_still m e = open_still_in m.job m refl e

pub known_still : (noted : Standing) (m : State) → (noted ≡ standing.Unknown → ⊥) → StandsAs noted m → is_still m ≡ true
known_still standing.Unknown m known h = absurd (known refl)
known_still standing.Still m known h = h
known_still standing.Open m known h = open_still m h
