-- The law of the picture: what holds of a picture of a field that arrives at a section of the field, wherever the section
-- is and its closing leads, and whichever programs that hold it the steps meet.
use Rattle.std.specs.Prelude.{◌≡◌, ℕ, ◌+◌, ◌*◌, ◌≤◌, true, false, All, List, [], ◌∷◌, ◌++◌, length}
use Rattle.fifo_model.specs.declared.Queue.{Queue}
use Rattle.fifo_model.specs.Queues.{queue_state}
use Rattle.irq_status.specs.Register.{risci, has, risc_status}
use Rattle.page_table.specs.Blocks.{Block, byte_at, chunks_of}
use Rattle.pixel_layout.specs.declared.Parity.{Parity}
use Rattle.pixel_layout.specs.declared.Parity.TheVariants.{Top, Bottom}
use Rattle.machine_model.specs.Paths.{RiscProgram}
use Rattle.machine_model.specs.States.{State}
use Rattle.machine_model.specs.Turns.{sets_fdsr}
use Rattle.machine_model.specs.Steps.{Turn, with_program, run_in}
use Rattle.machine_model.specs.Safety.{IsStep, IsOrderly}
use Rattle.capture_desc.specs.declared.desc.Desc.{Desc}
use Rattle.picture_model.specs.Described.{IsDescription, describes}
use Rattle.picture_model.specs.Geometry.{IsFrame}
use Rattle.picture_model.specs.Programs.{closing_begin, compiled, size}
use Rattle.field_law.specs.Arrivals.{Met, Arrives, coming, entries_of, over_queues, is_signal, has_signal, turns_in}
use Rattle.field_law.specs.Sections.{Holds, Uses, Paints, closing_at}
use Rattle.picture_law.specs.Pictures.{Picture, HasPlaces, IsField, IsPicture, After, field_tokens, AreSkipped, SkippedLines}
use Rattle.picture_law.specs.Sections.{section_at, section_of}

-- a picture of a field that a description describes, whose frame is right
pub record IsPictured (d : Desc) (field : Parity) (picture : Picture) : Type 0 where
  pub description : IsDescription d
  pub frame : IsFrame d
  pub described : describes d.fields field ≡ true
  pub pictured : IsPicture d field picture

-- It arrives at the section that begins at an address and leads to another. Every program that the steps meet holds this
-- section, no data push has a control code, and memory has the places of the picture
pub record Captures (d : Desc) (field : Parity) (begin target : ℕ) (picture : Picture) (m : State) (steps : List Met) : Type 0 where
  pub pictured : IsPictured d field picture
  pub orderly : IsOrderly m
  pub places : HasPlaces d field (chunks_of m.memory)
  pub made : All (λ met. IsStep met.1) steps
  pub held : All (λ met. Holds (section_at d field begin target) met.0) steps
  pub arrives : Arrives (section_at d field begin target) (IsField d field picture) m steps

-- after the first signal of the field memory is that of before with the picture
abbrev pub ShowsPicture : Type 0
ShowsPicture =
    (d : Desc) (field : Parity) (begin target : ℕ) (picture : Picture) (m : State) (early late : List Met) (program : RiscProgram) →
    Captures d field begin target picture m (early ++ (program, Turn) ∷ late) →
    has_signal (section_at d field begin target) m early ≡ false →
    is_signal (section_at d field begin target) (run_in m early) Turn ≡ true →
    After d field picture m.memory (run_in m (early ++ (program, Turn) ∷ [])).memory

-- no turn up to it sets FDSR, whether or not the bit is set already
abbrev pub ShowsNoFault : Type 0
ShowsNoFault =
    (d : Desc) (field : Parity) (begin target : ℕ) (picture : Picture) (m : State) (early late : List Met) (program : RiscProgram) →
    Captures d field begin target picture m (early ++ (program, Turn) ∷ late) →
    has_signal (section_at d field begin target) m early ≡ false →
    sets_fdsr (with_program program (run_in m early)) ≡ false

-- after it RISCI is set, and the RISC status is that of the field
abbrev pub status_of : Parity → ℕ
status_of Top = 1
status_of Bottom = 2

pub record TellsField (field : Parity) (m : State) : Type 0 where
  pub raised : has risci m.interrupts ≡ true
  pub status : risc_status m.interrupts ≡ status_of field

abbrev pub SignalsField : Type 0
SignalsField =
    (d : Desc) (field : Parity) (begin target : ℕ) (picture : Picture) (m : State) (early late : List Met) (program : RiscProgram) →
    Captures d field begin target picture m (early ++ (program, Turn) ∷ late) →
    has_signal (section_at d field begin target) m early ≡ false →
    is_signal (section_at d field begin target) (run_in m early) Turn ≡ true →
    TellsField field (run_in m (early ++ (program, Turn) ∷ []))

-- once all entries up to the field's last were pushed, it comes within five turns for each instruction from the opening
-- to the closing and one for each entry
abbrev pub SignalsInTime : Type 0
SignalsInTime = (d : Desc) (field : Parity) (begin target : ℕ) (picture : Picture) (m : State) (early late : List Met)
    (captures : Captures d field begin target picture m (early ++ late)) →
    ((q : Queue) →
    entries_of captures.arrives.before captures.arrives.entries q ≤ length (queue_state q m.queues).entries + length (coming early q)) →
    5 * size d field + over_queues (entries_of captures.arrives.before captures.arrives.entries) ≤ turns_in late →
    has_signal (section_at d field begin target) m (early ++ late) ≡ true

-- The premises that the law of a section asks for: the program of a description holds the section of each field; wherever
-- a section of a field is, it uses up what each queue brings for a picture, what it stores paints any memory that
-- shows the picture, and a program that holds it grants the picture's places
abbrev pub HoldsSection : Type 0
HoldsSection =
    (d : Desc) (field : Parity) → IsDescription d → IsFrame d → describes d.fields field ≡ true → Holds (section_of d field) (compiled d)

abbrev pub EndsSection : Type 0
EndsSection = (d : Desc) (field : Parity) → closing_at (section_of d field) ≡ closing_begin d d.base field

abbrev pub UsesPicture : Type 0
UsesPicture = (d : Desc) (field : Parity) (begin target : ℕ) (picture : Picture) (skipped : SkippedLines) → IsPictured d field picture →
    AreSkipped d field skipped → Uses (section_at d field begin target) (field_tokens d picture skipped)

abbrev pub PaintsPicture : Type 0
PaintsPicture =
    (d : Desc) (field : Parity) (begin target : ℕ) (picture : Picture) (skipped : SkippedLines) (memory now : List Block) →
    IsPictured d field picture →
    AreSkipped d field skipped → HasPlaces d field (chunks_of memory) → After d field picture memory now →
    Paints (section_at d field begin target) (field_tokens d picture skipped) memory (byte_at now)

abbrev pub GrantsPlaces : Type 0
GrantsPlaces =
    (d : Desc) (field : Parity) (begin target : ℕ) (picture : Picture) (skipped : SkippedLines) (program : RiscProgram) →
    IsPictured d field picture →
    AreSkipped d field skipped → Holds (section_at d field begin target) program → HasPlaces d field program.grants
