-- When a field arrives at a machine that waits for it, and when it ends.
use Rattle.std.specs.Prelude.{◌≡◌, ℕ, ◌+◌, Bool, true, false, ◌&&◌, ◌||◌, All, List, [], ◌∷◌, ◌++◌, length, map, Some, if◌then◌else◌, ◌==◌}
use Rattle.risc_word.specs.declared.Code.{Code}
use Rattle.risc_word.specs.declared.Ctl.{Ctl}
use Rattle.sync_status.specs.Statuses.{kind_of}
use Rattle.fifo_model.specs.declared.Entry.{Entry}
use Rattle.fifo_model.specs.declared.Queue.{Queue}
use Rattle.fifo_model.specs.declared.Queue.TheVariants.{One, Two, Three}
use Rattle.fifo_model.specs.declared.Pushed.TheVariants.{Held}
use Rattle.fifo_model.specs.Queues.{queue_state, control_entry, code_of_kind}
use Rattle.irq_status.specs.declared.HostWrite.TheVariants.{Ack, Enable, Trigger}
use Rattle.machine_model.specs.declared.Job.{Job}
use Rattle.machine_model.specs.declared.Job.TheVariants.{Idle, Waiting}
use Rattle.machine_model.specs.Paths.{RiscProgram}
use Rattle.machine_model.specs.States.{State}
use Rattle.machine_model.specs.Steps.{Step, Push, Control, Turn, Host, pushed_as, control_pushed_as, step, with_program}
use Rattle.field_law.specs.Fields.{Token, Mark, Brings}
use Rattle.field_law.specs.Sections.{Section, closing_at}

-- a step, and the program that it meets
abbrev pub Met : Type 0
Met = RiscProgram × Step

abbrev pub after : State → Met → State
after m met = step met.1 (with_program met.0 m)

-- steps that all meet one program
abbrev pub meeting : RiscProgram → List Step → List Met
meeting program steps = map (λ step. (program, step)) steps

-- what steps push to a queue; a control code goes to each
abbrev pub is_queue : Queue → Queue → Bool
is_queue One One = true
is_queue Two Two = true
is_queue Three Three = true
is_queue _ _ = false

abbrev pub pushed_by : Step → Queue → List Entry
pushed_by (Push to entry) q = if is_queue to q then entry ∷ [] else []
pushed_by (Control code) q = control_entry code ∷ []
pushed_by Turn q = []
pushed_by (Host write) q = []

abbrev pub pushed_in : List Step → Queue → List Entry
pushed_in [] q = []
pushed_in (first ∷ steps) q = pushed_by first q ++ pushed_in steps q

abbrev pub coming : List Met → Queue → List Entry
coming steps q = pushed_in (map (λ met. met.1) steps) q

-- no push is lost or ignored, and the host acknowledges or sets the trigger point
abbrev pub IsKept : State → Step → Type 0
IsKept m (Push q entry) = pushed_as q m ≡ Held
IsKept m (Control code) = control_pushed_as m ≡ Held
IsKept m Turn = Unit {0}
IsKept m (Host (Ack mask)) = Unit {0}
IsKept m (Host (Enable fifo risc)) = ⊥
IsKept m (Host (Trigger number)) = Unit {0}

abbrev pub AreKept : State → List Met → Type 0
AreKept m [] = Unit {0}
AreKept m (met ∷ steps) = IsKept (with_program met.0 m) met.1 × AreKept (after m met) steps

-- an entry is that control code
abbrev pub HasCode : Code → Entry → Type 0
HasCode code entry = code_of_kind (kind_of entry.status) ≡ Some code

-- entries of each queue that bring a code and then a field
abbrev pub BringsAfter : Code → (Queue → List Token) → (Queue → List Entry) → Type 0
BringsAfter code field entries = (q : Queue) → Brings (Mark code ∷ field q) (entries q)

-- the machine waits for a code in an opening of which `at` is the address behind it; each queue holds and is brought some
-- entries without that code, then those of a field, then any others; `IsField` holds of the entries of the field
pub record ArrivesAtOpening (opening : Ctl) (code : Code) (at : ℕ) (IsField : (Queue → List Entry) → Type 0) (m : State)
    (steps : List Met) : Type 0 where
  pub fifo_on : m.fifo_on ≡ true
  pub risc_on : m.risc_on ≡ true
  pub waits : m.job ≡ Waiting opening true code
  pub there : m.pc ≡ at
  pub kept : AreKept m steps
  pub before : Queue → List Entry
  pub entries : Queue → List Entry
  pub rest : Queue → List Entry
  pub order : (q : Queue) → (queue_state q m.queues).entries ++ coming steps q ≡ before q ++ (entries q ++ rest q)
  pub unmarked : (q : Queue) → All (λ entry. HasCode code entry → ⊥) (before q)
  pub brought : IsField entries

-- the same of a section
abbrev pub BringsField : Section → (Queue → List Token) → (Queue → List Entry) → Type 0
BringsField s field entries = BringsAfter s.code field entries

abbrev pub Arrives : Section → ((Queue → List Entry) → Type 0) → State → List Met → Type 0
Arrives s IsField m steps = ArrivesAtOpening s.opening s.code s.at IsField m steps

-- how many entries that is, over the three queues
abbrev pub over_queues : (Queue → ℕ) → ℕ
over_queues count = count One + count Two + count Three

abbrev pub entries_of : (Queue → List Entry) → (Queue → List Entry) → Queue → ℕ
entries_of before entries q = length (before q) + length (entries q)

-- the end of a field: a turn that fetches the instruction at an address
abbrev pub is_idle : Job → Bool
is_idle Idle = true
is_idle _ = false

abbrev pub is_end : ℕ → State → Step → Bool
is_end address m Turn = m.risc_on && is_idle m.job && m.pc == address
is_end address m _ = false

abbrev pub has_end : ℕ → State → List Met → Bool
has_end address m [] = false
has_end address m (met ∷ steps) = is_end address m met.1 || has_end address (after m met) steps

-- a signal: a turn that executes the closing of a section
abbrev pub is_signal : Section → State → Step → Bool
is_signal s m step = is_end (closing_at s) m step

abbrev pub has_signal : Section → State → List Met → Bool
has_signal s m steps = has_end (closing_at s) m steps

-- how many turns there are among steps
abbrev pub turn_count : Step → ℕ
turn_count Turn = 1
turn_count _ = 0

abbrev pub turns_in : List Met → ℕ
turns_in [] = 0
turns_in (met ∷ steps) = turn_count met.1 + turns_in steps
