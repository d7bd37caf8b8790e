-- Steps other than turns: they add entries at the ends of the queues, or change neither queues nor job.
use Rattle.std.proofs.Common.{◌≡◌, ℕ, Bool, true, false, if◌then◌else◌, List, [], ◌∷◌, ◌++◌, refl, sym, ap, subst, ◌∙◌, arith, append_assoc}
use Rattle.std.proofs.Common.{append-nil}
use Rattle.risc_word.specs.declared.Code.{Code}
use Rattle.risc_word.specs.declared.Instr.{Instr}
use Rattle.fifo_model.specs.declared.Entry.{Entry}
use Rattle.fifo_model.specs.declared.Queue.{Queue}
use Rattle.fifo_model.specs.declared.Queue.TheVariants.{One, Two, Three}
use Rattle.fifo_model.specs.declared.Pushed.TheVariants.{Held, Overrun}
use Rattle.fifo_model.specs.Queues.{Queues, queue_state, with_queue_state, is_full, some_full, entered, overrun, all_entered, control_entry}
use Rattle.fifo_model.specs.Queues.{more}
use Rattle.irq_status.specs.declared.HostWrite.TheVariants.{Ack, Enable, Trigger}
use Rattle.page_table.specs.Blocks.{Block}
use Rattle.machine_model.specs.declared.Job.{Job}
use Rattle.machine_model.specs.declared.Skipping.{Skipping}
use Rattle.machine_model.specs.States.{State}
use Rattle.machine_model.specs.Turns.{Store}
use Rattle.machine_model.specs.Steps.{Step, Push, Control, Turn, Host, answer_if, pushed_as, control_pushed_as, with_fbus_if, push_if, push}
use Rattle.machine_model.specs.Steps.{push_control_if, push_control, step}
use Rattle.field_law.specs.Fields.{Token}
use Rattle.field_law.specs.Sections.{asks}
use Rattle.field_law.specs.Arrivals.{pushed_by, IsKept, turn_count}
use Rattle.field_law.proofs.AskedAndToCome.{Outlook}
use Rattle.field_law.proofs.Asked.{outlook_with}
use Rattle.field_law.proofs.Within.{Within, IsWithin, job_asks}

-- ---- entries are added at the ends

pub record Adds (queues after : Queues) (new : Queue → List Entry) : Type 0 where
  pub taken : (q : Queue) → (queue_state q after).taken ≡ (queue_state q queues).taken
  pub entries : (q : Queue) → (queue_state q after).entries ≡ (queue_state q queues).entries ++ new q

pub adds_none : (queues : Queues) → Adds queues queues (λ q. [])
adds_none queues = record { taken = λ q. refl; entries = λ q. sym (append-nil (queue_state q queues).entries) }

pub adds_to : (to : Queue) (entry : Entry) (queues : Queues) →
    Adds queues (with_queue_state to (entered entry (queue_state to queues)) queues) (λ q. pushed_by (Push to entry) q)
adds_to to entry queues = record { taken = taken to; entries = entries to }
  where
    taken : (to q : Queue) →
        (queue_state q (with_queue_state to (entered entry (queue_state to queues)) queues)).taken ≡ (queue_state q queues).taken
    taken One One = refl
    taken One Two = refl
    taken One Three = refl
    taken Two One = refl
    taken Two Two = refl
    taken Two Three = refl
    taken Three One = refl
    taken Three Two = refl
    taken Three Three = refl

    entries : (to q : Queue) → (queue_state q (with_queue_state to (entered entry (queue_state to queues)) queues)).entries
        ≡ (queue_state q queues).entries ++ pushed_by (Push to entry) q
    entries One One = refl
    entries One Two = sym (append-nil queues.two.entries)
    entries One Three = sym (append-nil queues.three.entries)
    entries Two One = sym (append-nil queues.one.entries)
    entries Two Two = refl
    entries Two Three = sym (append-nil queues.three.entries)
    entries Three One = sym (append-nil queues.one.entries)
    entries Three Two = sym (append-nil queues.two.entries)
    entries Three Three = refl

pub adds_all : (code : Code) (queues : Queues) → Adds queues (all_entered (control_entry code) queues) (λ q. pushed_by (Control code) q)
adds_all code queues = record { taken = taken; entries = entries }
  where
    taken : (q : Queue) → (queue_state q (all_entered (control_entry code) queues)).taken ≡ (queue_state q queues).taken
    taken One = refl
    taken Two = refl
    taken Three = refl

    entries : (q : Queue) →
        (queue_state q (all_entered (control_entry code) queues)).entries ≡ (queue_state q queues).entries ++ control_entry code ∷ []
    entries One = refl
    entries Two = refl
    entries Three = refl

-- ---- a push that is held

push_full : (full on : Bool) (q : Queue) (entry : Entry) (m : State) → answer_if on (if full then Overrun else Held) ≡ Held →
    (on ≡ true) × (full ≡ false)
push_full true true q entry m h = cc
push_full true false q entry m h = cc
push_full false true q entry m h = (refl, refl)
push_full false false q entry m h = cc

held_is : (full : Bool) (q : Queue) (entry : Entry) (m : State) → full ≡ false →
    record (with_fbus_if full m) {
      queues =
          if full then with_queue_state q (overrun (queue_state q m.queues)) m.queues
          else with_queue_state q (entered entry (queue_state q m.queues)) m.queues;
    }
    ≡ record m { queues = with_queue_state q (entered entry (queue_state q m.queues)) m.queues }
held_is true q entry m h = cc
held_is false q entry m h = refl

pub push-is : (q : Queue) (entry : Entry) (m : State) → pushed_as q m ≡ Held → push q entry m ≡ record m {
  queues = with_queue_state q (entered entry (queue_state q m.queues)) m.queues;
}
push-is q entry m h =
    let parts = push_full (is_full (queue_state q m.queues)) m.fifo_on q entry m h in
    ap (λ (on : Bool). push_if on q entry m) parts.0 ∙ held_is (is_full (queue_state q m.queues)) q entry m parts.1

code_held_is : (full : Bool) (code : Code) (m : State) → full ≡ false →
    record (with_fbus_if full m) {
      queues = if full then record m.queues {
        control_overruns = more m.queues.control_overruns 1;
      } else all_entered (control_entry code) m.queues;
    }
    ≡ record m { queues = all_entered (control_entry code) m.queues }
code_held_is true code m h = cc
code_held_is false code m h = refl

pub push_control-is : (code : Code) (m : State) → control_pushed_as m ≡ Held → push_control code m ≡ record m {
  queues = all_entered (control_entry code) m.queues;
}
push_control-is code m h =
    let parts = push_full (some_full m.queues) m.fifo_on One (control_entry code) m h in
    ap (λ (on : Bool). push_control_if on code m) parts.0 ∙ code_held_is (some_full m.queues) code m parts.1

-- ---- a step that is no turn

-- what holds of the machine holds after such a step, where it holds with the entries added
module _ (P : Bool → ℕ → Skipping → Job → Queues → List Block → Type 0) where
  abbrev pub IsSaid : State → Type 0
  IsSaid m = P m.risc_on m.pc m.skipping m.job m.queues m.memory

  pub step-IsSaid : (st : Step) (m : State) → IsKept m st → turn_count st ≡ 0 →
      ((after : Queues) → Adds m.queues after (pushed_by st) → P m.risc_on m.pc m.skipping m.job after m.memory) → IsSaid (step st m)
  step-IsSaid (Push to entry) m kept no_turn moved =
      subst IsSaid (sym (push-is to entry m kept))
      (moved (with_queue_state to (entered entry (queue_state to m.queues)) m.queues) (adds_to to entry m.queues))
  step-IsSaid (Control code) m kept no_turn moved =
      subst IsSaid (sym (push_control-is code m kept)) (moved (all_entered (control_entry code) m.queues) (adds_all code m.queues))
  step-IsSaid Turn m kept no_turn moved = absurd (omega arith)
  step-IsSaid (Host (Ack mask)) m kept no_turn moved = moved m.queues (adds_none m.queues)
  step-IsSaid (Host (Enable fifo risc)) m kept no_turn moved = absurd kept
  step-IsSaid (Host (Trigger number)) m kept no_turn moved = moved m.queues (adds_none m.queues)

-- ---- half way through instructions, after such a step

module _ (Ends : List ℕ → List Token → Type 0) (Rests : List Entry → Type 0) (Stands : ℕ → List Instr → Type 0)
    (Comes : List Block → (Queue → List Store) → Type 0) (later later' more : Queue → List Entry)
    (grows : (q : Queue) (rest : List Entry) → Rests rest → Rests (rest ++ more q)) where
  module _ (queues queues' : Queues) (taken : (q : Queue) → (queue_state q queues').taken ≡ (queue_state q queues).taken)
      (ahead : (q : Queue) → (queue_state q queues').entries ++ later' q ≡ ((queue_state q queues).entries ++ later q) ++ more q)
      (bound : ℕ) (risc_on : Bool) (pc : ℕ) (skipping : Skipping) (job : Job) (memory : List Block) where
    pub within_moved : Within Ends Rests Stands Comes later bound risc_on pc skipping job queues memory →
        Within Ends Rests Stands Comes later' bound risc_on pc skipping job queues' memory
    within_moved h =
        record {
          on = h.on;
          unskipped = h.unskipped;
          body = h.body;
          stands = h.stands;
          plain = h.plain;
          stores = h.stores;
          left = h.left;
          outlook =
              λ q.
              subst (λ (taken : ℕ). Outlook Ends Rests (job_asks q job (asks q h.body)) (h.stores q) (h.left q) taken
              ((queue_state q queues').entries ++ later' q)) (sym (taken q))
              (subst (λ (ahead : List Entry). Outlook Ends Rests (job_asks q job (asks q h.body)) (h.stores q) (h.left q)
              (queue_state q queues).taken ahead) (sym (ahead q))
              (outlook_with Ends Rests (job_asks q job (asks q h.body)) (h.stores q) (h.left q) (queue_state q queues).taken
              ((queue_state q queues).entries ++ later q) (more q) (grows q) (h.outlook q)));
          comes = h.comes;
          bounded = h.bounded;
        }

  pub step-Within : (bound : ℕ) (st : Step) (m : State) → IsKept m st → turn_count st ≡ 0 →
      ((after : Queues) → Adds m.queues after (pushed_by st) → (q : Queue) →
      (queue_state q after).entries ++ later' q ≡ ((queue_state q m.queues).entries ++ later q) ++ more q) →
      IsWithin Ends Rests Stands Comes later bound m → IsWithin Ends Rests Stands Comes later' bound (step st m)
  step-Within bound st m kept no_turn ahead h =
      step-IsSaid (Within Ends Rests Stands Comes later' bound) st m kept no_turn
      (λ after adds. within_moved m.queues after adds.taken (ahead after adds) bound m.risc_on m.pc m.skipping m.job m.memory h)

-- ---- what was to come, and more

-- what was to come is there
pub ahead_there : (queues after : Queues) (new later : Queue → List Entry) → Adds queues after new → (q : Queue) →
    (queue_state q after).entries ++ later q ≡ ((queue_state q queues).entries ++ (new q ++ later q)) ++ []
ahead_there queues after new later h q =
    ap (λ (entries : List Entry). entries ++ later q) (h.entries q) ∙ append_assoc (queue_state q queues).entries (new q) (later q)
    ∙ sym (append-nil ((queue_state q queues).entries ++ (new q ++ later q)))

-- more comes after all that was to come
pub ahead_more : (queues after : Queues) (new : Queue → List Entry) → Adds queues after new → (q : Queue) →
    (queue_state q after).entries ++ [] ≡ ((queue_state q queues).entries ++ []) ++ new q
ahead_more queues after new h q =
    append-nil (queue_state q after).entries ∙ h.entries q
    ∙ ap (λ (entries : List Entry). entries ++ new q) (sym (append-nil (queue_state q queues).entries))
