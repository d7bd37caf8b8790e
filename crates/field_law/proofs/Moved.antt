-- Steps other than turns, in the opening or within the section.
use Rattle.std.proofs.Common.{◌≡◌, ℕ, Bool, List, ◌++◌, ap, ◌∙◌, inl, inr, append_assoc}
use Rattle.fifo_model.specs.declared.Entry.{Entry}
use Rattle.fifo_model.specs.declared.Queue.{Queue}
use Rattle.fifo_model.specs.Queues.{Queues, queue_state}
use Rattle.page_table.specs.Blocks.{Block}
use Rattle.machine_model.specs.declared.Job.{Job}
use Rattle.machine_model.specs.declared.Skipping.{Skipping}
use Rattle.machine_model.specs.States.{State}
use Rattle.machine_model.specs.Steps.{Step, step}
use Rattle.field_law.specs.Fields.{Token}
use Rattle.field_law.specs.Sections.{IsUsedUp, UsesField}
use Rattle.field_law.specs.Trails.{Trail}
use Rattle.field_law.specs.Arrivals.{pushed_by, IsKept, turn_count}
use Rattle.field_law.proofs.Opening.{Opening, IsReached}
use Rattle.field_law.proofs.Pushes.{Adds, step-IsSaid, step-Within}
use Rattle.risc_word.specs.declared.Instr.{Instr}
use Rattle.machine_model.specs.Turns.{Store}

module _ (t : Trail) (field : Queue → List Token) (uses : UsesField t.body field) (Rests : List Entry → Type 0)
    (Stands : ℕ → List Instr → Type 0) (Comes : List Block → (Queue → List Store) → Type 0)
    (begins : Stands t.at t.body) where
  module _ (later later' more : Queue → List Entry) (queues queues' : Queues)
      (taken : (q : Queue) → (queue_state q queues').taken ≡ (queue_state q queues).taken)
      (grows : (q : Queue) (rest : List Entry) → Rests rest → Rests (rest ++ more q))
      (ahead : (q : Queue) → (queue_state q queues').entries ++ later' q ≡ ((queue_state q queues).entries ++ later q) ++ more q)
      (bound : ℕ) (risc_on : Bool) (pc : ℕ) (skipping : Skipping) (job : Job) (memory : List Block) where
    pub opening_moved : Opening t field Rests Comes later bound risc_on pc skipping job queues memory →
        Opening t field Rests Comes later' bound risc_on pc skipping job queues' memory
    opening_moved h =
        record {
          on = h.on;
          unskipped = h.unskipped;
          waits = h.waits;
          there = h.there;
          before = h.before;
          entries = h.entries;
          rest = λ q. h.rest q ++ more q;
          rests = λ q. grows q (h.rest q) (h.rests q);
          order =
              λ q.
              ahead q ∙ ap (λ (ahead : List Entry). ahead ++ more q) (h.order q)
              ∙ append_assoc (h.before q) (h.entries q ++ h.rest q) (more q)
              ∙ ap (λ (entries : List Entry). h.before q ++ entries) (append_assoc (h.entries q) (h.rest q) (more q));
          unmarked = h.unmarked;
          brings = h.brings;
          comes = h.comes;
          bounded = h.bounded;
        }

  -- a step that is no turn
  pub step-IsReached : (later later' more : Queue → List Entry)
      (grows : (q : Queue) (rest : List Entry) → Rests rest → Rests (rest ++ more q)) (bound : ℕ) (st : Step) (m : State) → IsKept m st →
      turn_count st ≡ 0 →
      ((after : Queues) → Adds m.queues after (pushed_by st) → (q : Queue) →
      (queue_state q after).entries ++ later' q ≡ ((queue_state q m.queues).entries ++ later q) ++ more q) →
      IsReached t field uses Rests Stands Comes begins later bound m →
      IsReached t field uses Rests Stands Comes begins later' bound (step st m)
  step-IsReached later later' more grows bound st m kept no_turn ahead (inl h) =
      inl (step-IsSaid (Opening t field Rests Comes later' bound) st m kept no_turn
      (λ after adds.
      opening_moved later later' more m.queues after adds.taken grows (ahead after adds) bound m.risc_on m.pc m.skipping m.job m.memory h))
  step-IsReached later later' more grows bound st m kept no_turn ahead (inr h) =
      inr (step-Within IsUsedUp Rests Stands Comes later later' more grows bound st m kept no_turn ahead h)
