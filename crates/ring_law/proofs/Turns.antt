-- Turns of the machine behind the ring's SYNC: each drops the block that it ends from the blocks that are left.
use Rattle.std.proofs.Common.{Bool, List, None, Option, Some, [], ap, arith, drop, false, if◌then◌else◌, refl, suc, true, ℕ, ◌*◌, ◌++◌, ◌+◌}
use Rattle.std.proofs.Common.{◌-◌, ◌<◌, ◌∙◌, ◌∷◌, ◌≡◌, ◌≤◌, length, subst, sym}
use Rattle.page_table.specs.Blocks.{Block}
use Rattle.ring_model.specs.Runs.{BlockAt, ended_by, block_end}
use Rattle.machine_model.specs.declared.Cause.{Cause}
use Rattle.risc_word.specs.declared.Code.{Code}
use Rattle.risc_word.specs.declared.Ctl.{Ctl}
use Rattle.machine_model.specs.declared.Demands.{Demands}
use Rattle.risc_word.specs.declared.Ends.{Ends}
use Rattle.fifo_model.specs.declared.Entry.{Entry}
use Rattle.field_law.proofs.Fetching.{Fetches, idle-Fetches, executes-Turned}
use Rattle.field_law.proofs.Within.{GoesOn, IsPlainJob, IsWithin, job_asks, job_turns}
use Rattle.machine_model.specs.declared.Job.TheVariants.{Idle, Running, Waiting}
use Rattle.risc_word.specs.declared.Instr.{Instr}
use Rattle.ring_law.proofs.Walks.{IsAtRest, IsMarked, IsOfRing, StandsFor, Walks, end_list, ends_at, left_behind, next_at, rest-StandsFor}
use Rattle.ring_law.proofs.Walks.{retired_ends, unretired_ends, waited-IsAtRest}
use Rattle.field_law.specs.Sections.{IsUsedUp, asks}
use Rattle.machine_model.specs.declared.Job.{Job}
use Rattle.risc_word.specs.declared.Instr.TheVariants.{Jump, Skip, Skip123, Sync, Write, Write123, Write1S23, WriteC}
use Rattle.ring_law.proofs.Making.{Makes, makes_made}
use Rattle.machine_model.specs.declared.Skipping.TheVariants.{Nothing}
use Rattle.fifo_model.specs.declared.Queue.TheVariants.{One, Three, Two}
use Rattle.field_law.proofs.AskedAndToCome.{Outlook}
use Rattle.fifo_model.specs.declared.Queue.{Queue}
use Rattle.risc_word.specs.Words.{Reading, encoded}
use Rattle.machine_model.specs.Paths.{RiscProgram, data_cause, demands_cause, demands_of, is_word, target_before, no_demands, fetch}
use Rattle.machine_model.specs.declared.Skipping.{Skipping}
use Rattle.picture_model.specs.Programs.{Stands}
use Rattle.machine_model.specs.States.{State}
use Rattle.machine_model.specs.Steps.{Turn}
use Rattle.field_law.proofs.Running.{Turned, serves-Turned, serves-GoesOn, retires-Turned}
use Rattle.machine_model.specs.Turns.{begun_with, counted, data_fetched, demand_on, is_done, turn_if, burst_of, instr_fetched, jumped}
use Rattle.machine_model.specs.Turns.{waited, lowest_served, retired, ran, fetched, worked, turn}
use Rattle.irq_status.specs.Register.{fdsr, has}
use Rattle.irq_status.proofs.Laws.{fdsr-applied}
use Rattle.field_law.proofs.Asked.{outlook_done}
use Rattle.field_law.specs.Arrivals.{over_queues}
use Rattle.fifo_model.specs.Queues.{queue_state}
use Rattle.field_law.proofs.Waiting.{waited-Turned}
use Rattle.std.proofs.Math.Seq.{drop-append_seam}

-- a JUMP asks nothing
no_rest : (q : Queue) → (demand_on q no_demands).rest ≡ 0
no_rest One = refl
no_rest Two = refl
no_rest Three = refl

module _ (program : RiscProgram) (block_at : BlockAt) (Rests : List Entry → Type 0) (final : List Block) (later : Queue → List Entry) where
  -- within the ring, with these blocks still to end
  abbrev pub InRing : List ℕ → ℕ → State → Type 0
  InRing left bound m = IsWithin IsUsedUp Rests (StandsFor program block_at m.job left) (Makes final) later bound m

  -- what a turn leaves, where it ended a block or none
  pub record RingTurned (left : List ℕ) (ended : Option ℕ) (interrupts : ℕ) (m : State) : Type 0 where
    pub left_after : List ℕ
    pub split : left ≡ end_list ended ++ left_after
    pub next : ℕ
    pub within : InRing left_after next m
    pub quiet : has fdsr m.interrupts ≡ has fdsr interrupts

  abbrev Turning : (ℕ → List Instr → Type 0) → ℕ → ℕ → State → Type 0
  Turning Stands bound interrupts m = Turned IsUsedUp Rests Stands (Makes final) later bound interrupts m

  with_job : (left : List ℕ) (bound : ℕ) (m : State) (job : Job) → m.job ≡ job →
      IsWithin IsUsedUp Rests (StandsFor program block_at job left) (Makes final) later bound m → InRing left bound m
  with_job left bound m job j h =
      subst (λ (job : Job). IsWithin IsUsedUp Rests (StandsFor program block_at job left) (Makes final) later bound m) (sym j) h

  at_job : (left : List ℕ) (bound : ℕ) (m : State) (job : Job) → m.job ≡ job → InRing left bound m →
      IsWithin IsUsedUp Rests (StandsFor program block_at job left) (Makes final) later bound m
  at_job left bound m job j h =
      subst (λ (job : Job). IsWithin IsUsedUp Rests (StandsFor program block_at job left) (Makes final) later bound m) j h

  -- nothing was ended
  turned_by : (left : List ℕ) (bound interrupts : ℕ) (m : State) (job : Job) → m.job ≡ job →
      Turning (StandsFor program block_at job left) bound interrupts m → RingTurned left None interrupts m
  turned_by left bound interrupts m job j t =
      record { left_after = left; split = refl; next = t.next; within = with_job left t.next m job j t.within; quiet = t.quiet }

  -- ---- a data instruction runs

  runs_on : (left : List ℕ) (bound : ℕ) (instr : Instr) (ds : Demands) (m : State) → 0 < m.trigger → m.job ≡ Running instr ds →
      InRing left bound m → is_done ds ≡ false →
      RingTurned left None m.interrupts (burst_of (lowest_served ds m) m)
  runs_on left bound instr ds m triggered j h undone =
      let known = at_job left bound m (Running instr ds) j h in
      let t =
      serves-Turned IsUsedUp Rests (StandsFor program block_at (Running instr ds) left) (Makes final) later
      (makes_made final) bound instr ds m triggered j known (lowest_served ds m) refl undone in
      let goes =
      serves-GoesOn IsUsedUp Rests (StandsFor program block_at (Running instr ds) left) (Makes final) later
      (makes_made final) bound instr ds m triggered j known (lowest_served ds m) refl undone in
      let on : GoesOn (Running instr ds) (burst_of (lowest_served ds m) m).job =
      subst (λ (job : Job). GoesOn job (burst_of (lowest_served ds m) m).job) j goes in
      turned_by left bound m.interrupts (burst_of (lowest_served ds m) m) (Running instr on.0) on.1 t

  retires : (left : List ℕ) (bound : ℕ) (instr : Instr) (ds : Demands) (m : State) → m.job ≡ Running instr ds → InRing left bound m →
      is_done ds ≡ true →
      RingTurned left (ended_by block_at (Running instr ds) m.pc) m.interrupts (retired instr m)
  retires left bound instr ds m j h done =
      let known = at_job left bound m (Running instr ds) j h in
      let after = left_behind block_at instr (m.pc - 8) left in
      let t =
      retires-Turned IsUsedUp Rests (StandsFor program block_at (Running instr ds) left) (StandsFor program block_at Idle after)
      (Makes final) later bound instr ds m j known (λ body stands. stands.2) done in
      record {
        left_after = after;
        split = known.stands.0 ∙ ap (λ (ended : List ℕ). ended ++ after) (sym (retired_ends block_at instr ds m.pc done));
        next = t.next;
        within = t.within;
        quiet = t.quiet;
      }

  pub ran-RingTurned : (left : List ℕ) (bound : ℕ) (instr : Instr) (ds : Demands) (m : State) (done : Bool) → 0 < m.trigger →
      m.job ≡ Running instr ds → InRing left bound m → is_done ds ≡ done →
      RingTurned left (ended_by block_at (Running instr ds) m.pc) m.interrupts (ran done instr ds m)
  ran-RingTurned left bound instr ds m true triggered j h done = retires left bound instr ds m j h done
  ran-RingTurned left bound instr ds m false triggered j h undone =
      subst (λ (ended : Option ℕ). RingTurned left ended m.interrupts (burst_of (lowest_served ds m) m))
      (sym (unretired_ends block_at instr ds m.pc undone))
      (runs_on left bound instr ds m triggered j h undone)

  -- ---- an instruction is fetched

  abbrev FetchesRing : List ℕ → ℕ → List Instr → State → Type 0
  FetchesRing left bound body m = Fetches IsUsedUp Rests (StandsFor program block_at Idle left) (Makes final) later bound body m

  -- a WRITE begins
  begun_job : (instr : Instr) (count : ℕ) (m : State) (cause : Option Cause) (target : Option ℕ) → cause ≡ None →
      (ds : Demands) × ((begun_with cause instr count target m).job ≡ Running instr ds)
  begun_job instr count m (Some cause) target e = cc
  begun_job instr count m None target e = (demands_of instr target, refl)

  writes_job : (ctl : Ctl) (ends : Ends) (off count address long : ℕ) (m : State) → m.skipping ≡ Nothing →
      demands_cause m.program.grants (demands_of (Write ctl ends off count address) None) ≡ None →
      (ds : Demands) × ((instr_fetched (Write ctl ends off count address) long m).job ≡ Running (Write ctl ends off count address) ds)
  writes_job ctl ends off count address long m unskipped fine =
      let instr = Write ctl ends off count address in
      let begun =
      begun_job instr long m (data_cause m.program.grants instr (target_before instr m.target)) (target_before instr m.target) fine in
      (begun.0, ap (λ (skipping : Skipping). (data_fetched skipping instr long m).job) unskipped ∙ begun.1)

  -- the machine jumps
  jumps : (left : List ℕ) (bound : ℕ) (ctl : Ctl) (target : ℕ) (rest : List Instr) (m : State) →
      FetchesRing left bound (Jump ctl target ∷ rest) m → is_word m.program target ≡ true →
      Walks program block_at target rest left → RingTurned left None m.interrupts (jumped (is_word m.program target) ctl target m)
  jumps left bound ctl target rest m h word walks =
      let bounded = h.bounded in
      subst (λ (there : Bool). RingTurned left None m.interrupts (jumped there ctl target m)) (sym word)
      (record {
        left_after = left;
        split = refl;
        next = bound;
        within =
            with_job left bound (jumped true ctl target m) Idle h.idle
            (record {
              on = h.on;
              unskipped = h.unskipped;
              body = rest;
              stands = walks;
              plain = subst IsPlainJob (sym h.idle) tt;
              stores = h.stores;
              left = h.left;
              outlook =
                  λ q.
                  subst (λ (job : Job). Outlook IsUsedUp Rests (job_asks q job (asks q rest)) (h.stores q) (h.left q)
                  (queue_state q m.queues).taken ((queue_state q m.queues).entries ++ later q)) (sym h.idle)
                  (outlook_done IsUsedUp Rests (demand_on q no_demands) (asks q rest) (h.stores q) (h.left q) (queue_state q m.queues).taken
                  ((queue_state q m.queues).entries ++ later q) (no_rest q) (h.outlook q));
              comes = h.comes;
              bounded =
                  subst (λ (job : Job). 5 * suc (length rest) + job_turns job + over_queues h.left ≤ bound) (sym h.idle) (omega arith);
            });
        quiet = fdsr-applied ctl m.interrupts;
      })

  executes : (left : List ℕ) (bound : ℕ) (instr : Instr) (rest : List Instr) (m : State) → FetchesRing left bound (instr ∷ rest) m →
      IsOfRing m.program instr →
      IsMarked block_at instr m.pc → (after : List ℕ) → left ≡ ends_at block_at instr m.pc ++ after →
      Walks program block_at (next_at instr m.pc) rest after →
      RingTurned left None m.interrupts (instr_fetched instr (length (encoded instr)) m)
  executes left bound (Jump ctl target) rest m h of marked after split walks =
      jumps left bound ctl target rest m h of (subst (Walks program block_at target rest) (sym split) walks)
  executes left bound (Write ctl ends off count address) rest m h of marked after split walks =
      let instr = Write ctl ends off count address in
      let here : m.pc + 4 * length (encoded instr) - 8 ≡ m.pc = omega arith in
      let left_there : left_behind block_at instr m.pc left ≡ after =
      ap (drop (length (ends_at block_at instr m.pc))) split ∙ drop-append_seam (ends_at block_at instr m.pc) after in
      let stands : StandsFor program block_at (Running instr no_demands) left (m.pc + 4 * length (encoded instr)) rest =
      subst
      (λ (at : ℕ).
      (left ≡ ends_at block_at instr at ++ left_behind block_at instr at left) × IsMarked block_at instr at
      × Walks program block_at (m.pc + 4 * length (encoded instr)) rest (left_behind block_at instr at left))
      (sym here) (
        split ∙ ap (λ (rest : List ℕ). ends_at block_at instr m.pc ++ rest) (sym left_there),
        marked,
        subst (Walks program block_at (m.pc + 4 * length (encoded instr)) rest) (sym left_there) walks,
      ) in
      let t =
      executes-Turned IsUsedUp Rests (StandsFor program block_at Idle left) (Makes final) later
      (StandsFor program block_at (Running instr no_demands) left) bound instr rest m h stands of.0 of.1 in
      let running = writes_job ctl ends off count address (length (encoded instr)) m h.unskipped of.1 in
      turned_by left bound m.interrupts (instr_fetched instr (length (encoded instr)) m) (Running instr running.0) running.1 t
  executes left bound (Skip ctl ends count) rest m h of marked after split walks = absurd of
  executes left bound (WriteC ctl ends off count) rest m h of marked after split walks = absurd of
  executes left bound (Sync ctl resync code) rest m h of marked after split walks = absurd of
  executes left bound (Write123 ctl ends off counts addrs) rest m h of marked after split walks = absurd of
  executes left bound (Skip123 ctl ends counts) rest m h of marked after split walks = absurd of
  executes left bound (Write1S23 ctl ends off counts addr) rest m h of marked after split walks = absurd of

  fetches_by : (left : List ℕ) (bound : ℕ) (body : List Instr) (m : State) → 0 < length left → m.program ≡ program →
      FetchesRing left bound body m →
      RingTurned left None m.interrupts (fetched (fetch m.program m.pc) m)
  fetches_by left bound [] m some same h =
      let none = ap (λ (blocks : List ℕ). length blocks) h.stands in absurd (omega arith)
  fetches_by left bound (instr ∷ rest) m some same h =
      let walks = h.stands in
      subst (λ (reading : Reading). RingTurned left None m.interrupts (fetched reading m))
      (sym (ap (λ (program : RiscProgram). fetch program m.pc) same ∙ walks.3))
      (executes left bound instr rest m h
      (subst (λ (program : RiscProgram). IsOfRing program instr) (sym same) walks.4) walks.5 walks.0 walks.1 walks.6)

  pub fetched-RingTurned : (left : List ℕ) (bound : ℕ) (m : State) → 0 < length left → m.program ≡ program → m.job ≡ Idle →
      InRing left bound m →
      RingTurned left None m.interrupts (fetched (fetch m.program m.pc) m)
  fetched-RingTurned left bound m some same j h =
      let f =
      idle-Fetches IsUsedUp Rests (StandsFor program block_at Idle left) (Makes final) later bound m j (at_job left bound m Idle j h) in
      fetches_by left bound f.0 m some same f.1

  -- ---- a turn

  -- a machine at rest is where an idle one is
  pub resting : (left : List ℕ) (bound : ℕ) (m : State) → IsAtRest m.job →
      IsWithin IsUsedUp Rests (StandsFor program block_at Idle left) (Makes final) later bound m → InRing left bound m
  resting left bound m rests h =
      record {
        on = h.on;
        unskipped = h.unskipped;
        body = h.body;
        stands = rest-StandsFor program block_at m.job left m.pc h.body rests h.stands;
        plain = h.plain;
        stores = h.stores;
        left = h.left;
        outlook = h.outlook;
        comes = h.comes;
        bounded = h.bounded;
      }

  waits : (left : List ℕ) (bound : ℕ) (ctl : Ctl) (resync : Bool) (code : Code) (m : State) → m.job ≡ Waiting ctl resync code →
      InRing left bound m →
      RingTurned left None m.interrupts (waited ctl resync code m)
  waits left bound ctl resync code m j h =
      let t =
      waited-Turned IsUsedUp Rests (StandsFor program block_at Idle left) (Makes final) later bound ctl resync code m j
      (at_job left bound m (Waiting ctl resync code) j h) in
      let rests = waited-IsAtRest ctl resync code m (subst IsAtRest (sym j) tt) in
      record {
        left_after = left;
        split = refl;
        next = t.next;
        within = resting left t.next (waited ctl resync code m) rests t.within;
        quiet = t.quiet;
      }

  works : (left : List ℕ) (bound : ℕ) (job : Job) (m : State) → m.job ≡ job → 0 < m.trigger → 0 < length left → m.program ≡ program →
      InRing left bound m →
      RingTurned left (ended_by block_at job m.pc) m.interrupts (worked job m)
  works left bound Idle m j triggered some same h = fetched-RingTurned left bound m some same j h
  works left bound (Waiting ctl resync code) m j triggered some same h = waits left bound ctl resync code m j h
  works left bound (Running instr ds) m j triggered some same h = ran-RingTurned left bound instr ds m (is_done ds) triggered j h refl

  pub turn-RingTurned : (left : List ℕ) (bound : ℕ) (m : State) → 0 < m.trigger → 0 < length left → m.program ≡ program →
      InRing left bound m →
      RingTurned left (block_end block_at m Turn) m.interrupts (turn m)
  turn-RingTurned left bound m triggered some same h =
      subst
      (λ (on : Bool). RingTurned left (if on then ended_by block_at m.job m.pc else None) m.interrupts (turn_if on (counted m))) (sym h.on)
      (works left bound m.job (counted m) refl triggered some same h)
