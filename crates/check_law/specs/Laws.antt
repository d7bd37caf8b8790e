-- The law of the picture for programs that are found to show a field: what holds of a picture that arrives at the opening,
-- whatever the program's own lists and JUMPs are.
use Rattle.std.specs.Prelude.{◌≡◌, ℕ, ◌+◌, ◌*◌, ◌≤◌, true, false, All, List, [], ◌∷◌, ◌++◌, length, Ok}
use Rattle.risc_word.specs.declared.Ctl.{Ctl}
use Rattle.risc_word.specs.declared.Instr.{Instr}
use Rattle.risc_word.specs.declared.Instr.TheVariants.{Sync}
use Rattle.fifo_model.specs.declared.Queue.{Queue}
use Rattle.fifo_model.specs.Queues.{queue_state}
use Rattle.page_table.specs.Blocks.{chunks_of}
use Rattle.pixel_layout.specs.declared.Parity.{Parity}
use Rattle.machine_model.specs.Paths.{RiscProgram, IsSound, fetch, path}
use Rattle.machine_model.specs.States.{State}
use Rattle.machine_model.specs.Turns.{sets_fdsr}
use Rattle.machine_model.specs.Steps.{Turn, with_program, run_in}
use Rattle.machine_model.specs.Safety.{IsStep, IsOrderly}
use Rattle.capture_desc.specs.declared.desc.Desc.{Desc}
use Rattle.picture_model.specs.Described.{IsDescription, describes}
use Rattle.picture_model.specs.Geometry.{IsFrame}
use Rattle.picture_model.specs.Programs.{vertical}
use Rattle.field_law.specs.Trails.{after_closing}
use Rattle.field_law.specs.Arrivals.{Met, ArrivesAtOpening, coming, entries_of, over_queues, is_end, has_end, turns_in}
use Rattle.picture_law.specs.Pictures.{Picture, After, IsField, IsPicture}
use Rattle.check_model.specs.Checks.{checked}

-- where a field is found: the address and the control bits of its opening, the address at which it ends, and how many
-- instructions are between
pub record Found : Type 0 where
  pub begin : ℕ
  pub opening : Ctl
  pub end : ℕ
  pub count : ℕ

-- a sound program on whose path a field of a description is found to be shown
pub record IsChecked (program : RiscProgram) (d : Desc) (field : Parity) (f : Found) : Type 0 where
  pub sound : IsSound program
  pub description : IsDescription d
  pub frame : IsFrame d
  pub described : describes d.fields field ≡ true
  pub number : ℕ
  pub on_path : (path program number).pc ≡ f.begin
  pub opens : fetch program f.begin ≡ Ok (Sync f.opening true (vertical field), 2)
  pub found : checked program d field f.begin ≡ Ok (f.end, f.count)

-- a picture of the field arrives at the opening, over these steps
abbrev pub PictureArrives : Desc → Parity → Found → Picture → State → List Met → Type 0
PictureArrives d field f picture m steps = ArrivesAtOpening f.opening (vertical field) (f.begin + 8) (IsField d field picture) m steps

-- all of which meet the program
pub record Captures (program : RiscProgram) (d : Desc) (field : Parity) (f : Found) (picture : Picture) (m : State)
    (steps : List Met) : Type 0 where
  pub shown : IsChecked program d field f
  pub pictured : IsPicture d field picture
  pub orderly : IsOrderly m
  pub chunks : chunks_of m.memory ≡ program.grants
  pub made : All (λ met. IsStep met.1) steps
  pub own : All (λ met. met.0 ≡ program) steps
  pub arrives : PictureArrives d field f picture m steps

-- after the first end memory is that of before with the picture
abbrev pub ShowsPicture : Type 0
ShowsPicture = (program : RiscProgram) (d : Desc) (field : Parity) (f : Found) (picture : Picture) (m : State) (early late : List Met) →
    Captures program d field f picture m (early ++ (program, Turn) ∷ late) → has_end f.end m early ≡ false →
    is_end f.end (run_in m early) Turn ≡ true → After d field picture m.memory (run_in m (early ++ (program, Turn) ∷ [])).memory

-- no turn up to it sets FDSR, whether or not the bit is set already
abbrev pub ShowsNoFault : Type 0
ShowsNoFault = (program : RiscProgram) (d : Desc) (field : Parity) (f : Found) (picture : Picture) (m : State) (early late : List Met) →
    Captures program d field f picture m (early ++ (program, Turn) ∷ late) → has_end f.end m early ≡ false →
    sets_fdsr (with_program program (run_in m early)) ≡ false

-- at it the control bits of the JUMP there are applied
abbrev pub EndsWithClosing : Type 0
EndsWithClosing = (program : RiscProgram) (d : Desc) (field : Parity) (f : Found) (picture : Picture) (m : State) (early late : List Met) →
    Captures program d field f picture m (early ++ (program, Turn) ∷ late) → has_end f.end m early ≡ false →
    is_end f.end (run_in m early) Turn ≡ true → (instr : Instr) (count : ℕ) → fetch program f.end ≡ Ok (instr, count) →
    (run_in m (early ++ (program, Turn) ∷ [])).interrupts ≡ after_closing instr (run_in m early).interrupts

-- once all entries up to the field's last were pushed, it comes within five turns for each instruction of the program from
-- the opening to the end, and one for each entry
abbrev pub EndsInTime : Type 0
EndsInTime = (program : RiscProgram) (d : Desc) (field : Parity) (f : Found) (picture : Picture) (m : State) (early late : List Met)
    (captures : Captures program d field f picture m (early ++ late)) →
    ((q : Queue) →
    entries_of captures.arrives.before captures.arrives.entries q ≤ length (queue_state q m.queues).entries + length (coming early q)) →
    5 * (f.count + 2) + over_queues (entries_of captures.arrives.before captures.arrives.entries) ≤ turns_in late →
    has_end f.end m (early ++ late) ≡ true
