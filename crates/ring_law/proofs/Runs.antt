-- Runs over a ring, from the SYNC on: the blocks that are left fall by those that are ended.
use Rattle.std.proofs.Common.{All, Bool, List, None, Option, Some, [], ap, append_assoc, arith, if◌then◌else◌, length, refl, sym, true, ℕ}
use Rattle.std.proofs.Common.{◌++◌, ◌<◌, ◌∙◌, ◌∷◌, ◌≡◌, ◌⊎◌, subst, inl, inr, length-append}
use Rattle.std.proofs.lemmas.List.Elements.{All-head, All-tail}
use Rattle.field_law.specs.Arrivals.{AreKept, IsKept, meeting, pushed_in, turn_count, pushed_by}
use Rattle.page_table.specs.Blocks.{Block}
use Rattle.ring_model.specs.Runs.{BlockAt, block_ends, ended_by, one_if, block_end}
use Rattle.machine_model.specs.Steps.{Control, Host, Push, Step, Turn, run, step}
use Rattle.fifo_model.specs.declared.Entry.{Entry}
use Rattle.machine_model.specs.declared.Job.TheVariants.{Idle, Waiting}
use Rattle.ring_law.proofs.Walks.{IsAtRest, StandsFor, waited-IsAtRest, end_list}
use Rattle.fifo_model.specs.Queues.{IsFifo, Queues, queue_state}
use Rattle.machine_model.specs.Safety.{IsOrderly, IsStep}
use Rattle.machine_model.proofs.Orderly.{IsOrderly-step}
use Rattle.field_law.specs.Sections.{IsUsedUp, Section, Uses, asks}
use Rattle.field_law.specs.Trails.{trail_of}
use Rattle.field_law.proofs.Within.{IsWithin, Within, job_asks}
use Rattle.machine_model.specs.declared.Job.{Job}
use Rattle.ring_law.proofs.Making.{Makes}
use Rattle.field_law.proofs.Opening.{Opening, opening-Reaches}
use Rattle.field_law.proofs.AskedAndToCome.{Outlook}
use Rattle.fifo_model.specs.declared.Queue.{Queue}
use Rattle.machine_model.specs.Paths.{RiscProgram}
use Rattle.machine_model.specs.declared.Skipping.{Skipping}
use Rattle.machine_model.specs.States.{State}
use Rattle.field_law.specs.Fields.{Token}
use Rattle.machine_model.specs.Turns.{counted, turn_if, worked, waited, turn}
use Rattle.irq_status.specs.Register.{fdsr, has}
use Rattle.ring_law.proofs.Turns.{turn-RingTurned, resting}
use Rattle.machine_model.proofs.ProgramStays.{program-step}
use Rattle.field_law.proofs.Pushes.{step-IsSaid, within_moved, ahead_there}
use Rattle.field_law.proofs.Moved.{opening_moved}

-- a step keeps the program, so what is kept over steps is kept after the first
pub kept_next : (m : State) (st : Step) (steps : List Step) → AreKept m (meeting m.program (st ∷ steps)) →
    IsKept m st × AreKept (step st m) (meeting (step st m).program steps)
kept_next m st steps kept =
    (kept.0, subst (λ (program : RiscProgram). AreKept (step st m) (meeting program steps)) (sym (program-step st m)) kept.1)

split_again : (left first later more rest : List ℕ) → left ≡ first ++ later → later ≡ more ++ rest → left ≡ (first ++ more) ++ rest
split_again left first later more rest one two = one ∙ ap (λ (blocks : List ℕ). first ++ blocks) two ∙ sym (append_assoc first more rest)

-- what steps push, and what comes after them
abbrev pub to_come : List Step → (Queue → List Entry) → Queue → List Entry
to_come steps later q = pushed_in steps q ++ later q

one_ended : (ended : Option ℕ) → length (end_list ended) ≡ one_if ended
one_ended (Some block) = refl
one_ended None = refl

module _ (program : RiscProgram) (block_at : BlockAt) (s : Section) (field : Queue → List Token) (uses : Uses s field)
    (Rests : List Entry → Type 0)
    (grows : (rest : List Entry) → Rests rest → Rests (rest ++ [])) (final : List Block) (all_left : List ℕ)
    (begins : StandsFor program block_at Idle all_left s.at s.body) where
  -- the machine waits in the SYNC, or goes through the ring with these blocks still to end
  abbrev Reached : List ℕ → (Queue → List Entry) → ℕ → Bool → ℕ → Skipping → Job → Queues → List Block → Type 0
  Reached left later bound risc_on pc skipping job queues memory =
      (Opening (trail_of s) field Rests (Makes final) later bound risc_on pc skipping job queues memory × (left ≡ all_left))
      ⊎ Within IsUsedUp Rests (StandsFor program block_at job left) (Makes final) later bound risc_on pc skipping job queues memory

  abbrev pub IsReachedRing : List ℕ → (Queue → List Entry) → ℕ → State → Type 0
  IsReachedRing left later bound m = Reached left later bound m.risc_on m.pc m.skipping m.job m.queues m.memory

  -- what a step leaves
  pub record Steps (left : List ℕ) (ended : Option ℕ) (later : Queue → List Entry) (m : State) : Type 0 where
    pub left_after : List ℕ
    pub split : left ≡ end_list ended ++ left_after
    pub next : ℕ
    pub reached : IsReachedRing left_after later next m

  -- and a turn, which leaves FDSR as it was
  pub record TurnSteps (left : List ℕ) (ended : Option ℕ) (later : Queue → List Entry) (interrupts : ℕ) (m : State) : Type 0 where
    pub steps : Steps left ended later m
    pub quiet : has fdsr m.interrupts ≡ has fdsr interrupts

  -- ---- a turn

  -- the machine that waits in the SYNC doesn't run an instruction after it
  opened : (later : Queue → List Entry) (bound : ℕ) (m : State) → IsAtRest m.job →
      Opening (trail_of s) field Rests (Makes final) later bound m.risc_on m.pc m.skipping m.job m.queues m.memory
      ⊎ IsWithin IsUsedUp Rests (StandsFor program block_at Idle all_left) (Makes final) later bound m →
      IsReachedRing all_left later bound m
  opened later bound m rests (inl opening) = inl (opening, refl)
  opened later bound m rests (inr h) = inr (resting program block_at Rests final later all_left bound m rests h)

  waits_on : (left : List ℕ) (later : Queue → List Entry) (bound : ℕ) (m : State) → IsFifo m.queues →
      m.job ≡ Waiting s.opening true s.code → left ≡ all_left →
      Opening (trail_of s) field Rests (Makes final) later bound m.risc_on m.pc m.skipping m.job m.queues m.memory →
      TurnSteps left None later m.interrupts (waited s.opening true s.code m)
  waits_on left later bound m fifo j same h =
      let r =
      opening-Reaches (trail_of s) field uses Rests (StandsFor program block_at Idle all_left) (Makes final) begins later bound m h fifo in
      let rests = waited-IsAtRest s.opening true s.code m (subst IsAtRest (sym j) tt) in
      record {
        steps = record {
          left_after = all_left;
          split = same;
          next = r.next;
          reached = opened later r.next (waited s.opening true s.code m) rests r.reached;
        };
        quiet = r.quiet;
      }

  opening_turn : (left : List ℕ) (later : Queue → List Entry) (bound : ℕ) (m : State) → IsOrderly m → left ≡ all_left →
      Opening (trail_of s) field Rests (Makes final) later bound m.risc_on m.pc m.skipping m.job m.queues m.memory →
      TurnSteps left (block_end block_at m Turn) later m.interrupts (turn m)
  opening_turn left later bound m orderly same h =
      subst (λ (on : Bool). TurnSteps left (if on then ended_by block_at m.job m.pc else None) later m.interrupts (turn_if on (counted m)))
      (sym h.on)
      (subst (λ (job : Job). TurnSteps left (ended_by block_at job m.pc) later m.interrupts (worked job (counted m))) (sym h.waits)
      (waits_on left later bound (counted m) orderly.queues h.waits same h))

  pub turn-TurnSteps : (left : List ℕ) (later : Queue → List Entry) (bound : ℕ) (m : State) → IsOrderly m → 0 < length left →
      m.program ≡ program → IsReachedRing left later bound m →
      TurnSteps left (block_end block_at m Turn) later m.interrupts (turn m)
  turn-TurnSteps left later bound m orderly some same (inl h) = opening_turn left later bound m orderly h.1 h.0
  turn-TurnSteps left later bound m orderly some same (inr h) =
      let t = turn-RingTurned program block_at Rests final later left bound m orderly.triggered some same h in
      record {
        steps = record { left_after = t.left_after; split = t.split; next = t.next; reached = inr t.within };
        quiet = t.quiet;
      }

  -- ---- another step

  other_step : (left : List ℕ) (later : Queue → List Entry) (bound : ℕ) (st : Step) (m : State) → IsKept m st → turn_count st ≡ 0 →
      IsReachedRing left (λ q. pushed_by st q ++ later q) bound m → IsReachedRing left later bound (step st m)
  other_step left later bound st m kept no_turn (inl h) =
      step-IsSaid (Reached left later bound) st m kept no_turn
      (λ after adds.
      inl (
        opening_moved (trail_of s) field uses Rests (StandsFor program block_at Idle all_left) (Makes final) begins
            (λ q. pushed_by st q ++ later q) later (λ q. []) m.queues after adds.taken (λ q rest. grows rest)
            (ahead_there m.queues after (pushed_by st) later adds) bound m.risc_on m.pc m.skipping m.job m.memory h.0,
        h.1,
      ))
  other_step left later bound st m kept no_turn (inr h) =
      step-IsSaid (Reached left later bound) st m kept no_turn
      (λ after adds.
      inr (within_moved IsUsedUp Rests (StandsFor program block_at m.job left) (Makes final) (λ q. pushed_by st q ++ later q) later
      (λ q. []) (λ q rest. grows rest) m.queues after adds.taken
      (ahead_there m.queues after (pushed_by st) later adds) bound m.risc_on m.pc m.skipping m.job m.memory h))

  steps_on : (left : List ℕ) (later : Queue → List Entry) (bound : ℕ) (st : Step) (m : State) → IsOrderly m → 0 < length left →
      m.program ≡ program → IsKept m st →
      IsReachedRing left (λ q. pushed_by st q ++ later q) bound m → Steps left (block_end block_at m st) later (step st m)
  steps_on left later bound Turn m orderly some same kept h = (turn-TurnSteps left later bound m orderly some same h).steps
  steps_on left later bound (Push to entry) m orderly some same kept h =
      record { left_after = left; split = refl; next = bound; reached = other_step left later bound (Push to entry) m kept refl h }
  steps_on left later bound (Control code) m orderly some same kept h =
      record { left_after = left; split = refl; next = bound; reached = other_step left later bound (Control code) m kept refl h }
  steps_on left later bound (Host write) m orderly some same kept h =
      record { left_after = left; split = refl; next = bound; reached = other_step left later bound (Host write) m kept refl h }

  -- ---- steps

  -- what steps leave
  pub record Ran (left : List ℕ) (count : ℕ) (later : Queue → List Entry) (m : State) : Type 0 where
    pub ended : List ℕ
    pub left_after : List ℕ
    pub split : left ≡ ended ++ left_after
    pub long : length ended ≡ count
    pub next : ℕ
    pub reached : IsReachedRing left_after later next m
    pub orderly : IsOrderly m
    pub same : m.program ≡ program

  pub runs : (early : List Step) (later : Queue → List Entry) (left : List ℕ) (bound : ℕ) (m : State) → IsOrderly m → m.program ≡ program →
      All IsStep early → AreKept m (meeting m.program early) →
      block_ends block_at m early < length left → IsReachedRing left (to_come early later) bound m →
      Ran left (block_ends block_at m early) later (run m early)
  runs [] later left bound m orderly same made kept some h =
      record { ended = []; left_after = left; split = refl; long = refl; next = bound; reached = h; orderly = orderly; same = same }
  runs (st ∷ early) later left bound m orderly same made kept some h =
      let here = kept_next m st early kept in
      let seen : IsReachedRing left (λ q. pushed_by st q ++ to_come early later q) bound m = ahead h in
      let one = steps_on left (to_come early later) bound st m orderly (omega arith) same here.0 seen in
      let long = ap (λ (blocks : List ℕ). length blocks) one.split in
      let first = one_ended (block_end block_at m st) in
      let rest =
      runs early later one.left_after one.next (step st m) (IsOrderly-step st m (All-head IsStep st early made) orderly)
      (program-step st m ∙ same) (All-tail IsStep st early made) here.1
      (omega (arith, length-append (end_list (block_end block_at m st)) one.left_after)) one.reached in
      let later_long = rest.long in
      record {
        ended = end_list (block_end block_at m st) ++ rest.ended;
        left_after = rest.left_after;
        split =
            split_again left (end_list (block_end block_at m st)) one.left_after rest.ended rest.left_after one.split rest.split;
        long = omega (arith, length-append (end_list (block_end block_at m st)) rest.ended);
        next = rest.next;
        reached = rest.reached;
        orderly = rest.orderly;
        same = rest.same;
      }
    where
      ahead : IsReachedRing left (to_come (st ∷ early) later) bound m →
          IsReachedRing left (λ q. pushed_by st q ++ to_come early later q) bound m
      ahead (inl h) = inl (
        record {
          on = h.0.on;
          unskipped = h.0.unskipped;
          waits = h.0.waits;
          there = h.0.there;
          before = h.0.before;
          entries = h.0.entries;
          rest = h.0.rest;
          rests = h.0.rests;
          order =
              λ q. ap (λ (more : List Entry). (queue_state q m.queues).entries ++ more)
              (sym (append_assoc (pushed_by st q) (pushed_in early q) (later q))) ∙ h.0.order q;
          unmarked = h.0.unmarked;
          brings = h.0.brings;
          comes = h.0.comes;
          bounded = h.0.bounded;
        },
        h.1,
      )
      ahead (inr h) =
          inr (record {
            on = h.on;
            unskipped = h.unskipped;
            body = h.body;
            stands = h.stands;
            plain = h.plain;
            stores = h.stores;
            left = h.left;
            outlook =
                λ q.
                subst (λ (more : List Entry). Outlook IsUsedUp Rests (job_asks q m.job (asks q h.body)) (h.stores q) (h.left q)
                (queue_state q m.queues).taken ((queue_state q m.queues).entries ++ more))
                (append_assoc (pushed_by st q) (pushed_in early q) (later q)) (h.outlook q);
            comes = h.comes;
            bounded = h.bounded;
          })
