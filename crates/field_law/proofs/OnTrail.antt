-- The machine along a trail: one use of the relation, where its stores paint a picture.
use Rattle.std.proofs.Common.{◌≡◌, ℕ, suc, ◌+◌, ◌*◌, ◌<◌, ◌≤◌, Bool, true, false, ◌&&◌, ◌==◌, List, [], ◌∷◌, ◌++◌, length, refl, sym, ap}
use Rattle.std.proofs.Common.{subst, arith, eq-eqb}
use Rattle.std.proofs.lemmas.Bool.{both_ways, and_from}
use Rattle.risc_word.specs.declared.Ctl.{Ctl}
use Rattle.risc_word.specs.declared.Instr.{Instr}
use Rattle.risc_word.specs.declared.Instr.TheVariants.{Write, Skip, WriteC, Jump, Sync, Write123, Skip123, Write1S23}
use Rattle.risc_word.specs.Words.{Reading, encoded}
use Rattle.fifo_model.specs.declared.Entry.{Entry}
use Rattle.fifo_model.specs.declared.Queue.{Queue}
use Rattle.fifo_model.specs.declared.Queue.TheVariants.{One, Two, Three}
use Rattle.fifo_model.specs.Queues.{queue_state}
use Rattle.irq_status.proofs.Laws.{fdsr-applied}
use Rattle.page_table.specs.Grants.{Chunk}
use Rattle.machine_model.specs.declared.Demands.{Demands}
use Rattle.machine_model.specs.declared.Job.{Job}
use Rattle.machine_model.specs.declared.Job.TheVariants.{Idle, Running}
use Rattle.machine_model.specs.Paths.{RiscProgram, fetch, is_word, no_demands}
use Rattle.machine_model.specs.States.{State}
use Rattle.machine_model.specs.Turns.{demand_on, fetched, instr_fetched, is_done, jumped, lowest_served, ran}
use Rattle.machine_model.specs.Steps.{Turn}
use Rattle.field_law.specs.Sections.{IsUsedUp, asks}
use Rattle.field_law.specs.Trails.{Trail, IsOnTrail, Leads, LeadsFrom, next_at}
use Rattle.field_law.specs.Arrivals.{is_end, is_idle, over_queues}
use Rattle.field_law.proofs.AskedAndToCome.{AnyRest, Outlook}
use Rattle.field_law.proofs.Asked.{outlook_done}
use Rattle.field_law.proofs.Painting.{Settling, settling_made}
use Rattle.field_law.proofs.Within.{IsPlainJob, IsWithin, job_asks, job_turns}
use Rattle.field_law.proofs.Running.{Turned, serves-Turned, retires-Turned}
use Rattle.field_law.proofs.Fetching.{Fetches, executes-Turned, idle-Fetches}

-- Where the machine is, in programs of which something is known: behind the opening of a trail, and then along it up
-- to the closing, whatever else its user states of the place
pub record IsAlong (t : Trail) (IsHeld : RiscProgram → Type 0) (Stands : ℕ → List Instr → Type 0) : Type 0 where
  pub begins : Stands t.at t.body
  pub leads : (program : RiscProgram) → IsHeld program → (at : ℕ) (body : List Instr) → Stands at body →
      LeadsFrom program t.end at body t.closing
  pub goes : (program : RiscProgram) → IsHeld program → (at : ℕ) (instr : Instr) (rest : List Instr) → Stands at (instr ∷ rest) →
      Stands (next_at instr at) rest

-- these instructions of a trail are left from an address on, up to the closing, in each program that leads along it
pub record StandsOn (t : Trail) (pc : ℕ) (body : List Instr) : Type 0 where
  pub leads : (program : RiscProgram) → Leads t program → LeadsFrom program t.end pc body t.closing

pub along_on : (t : Trail) → IsAlong t (Leads t) (StandsOn t)
along_on t =
    record {
      begins = record { leads = λ program held. held };
      leads = λ program held at body stands. stands.leads program held;
      goes = λ program held at instr rest stands. record { leads = λ program held. (stands.leads program held).3 };
    }

-- a JUMP asks nothing
no_rest : (q : Queue) → (demand_on q no_demands).rest ≡ 0
no_rest One = refl
no_rest Two = refl
no_rest Three = refl

module _ (t : Trail) (IsHeld : RiscProgram → Type 0) (Stands : ℕ → List Instr → Type 0) (along : IsAlong t IsHeld Stands) (given : Type 0)
    (chunks : List Chunk) (final : ℕ → ℕ)
    (later : Queue → List Entry) where
  abbrev pub IsOnTrailAt : ℕ → State → Type 0
  IsOnTrailAt bound m = IsWithin IsUsedUp AnyRest Stands (Settling given chunks final) later bound m

  abbrev pub TurnedOn : ℕ → ℕ → State → Type 0
  TurnedOn bound interrupts m = Turned IsUsedUp AnyRest Stands (Settling given chunks final) later bound interrupts m

  abbrev pub FetchesOn : ℕ → List Instr → State → Type 0
  FetchesOn bound body m = Fetches IsUsedUp AnyRest Stands (Settling given chunks final) later bound body m

  -- ---- a data instruction runs

  pub ran-TurnedOn : (bound : ℕ) (instr : Instr) (ds : Demands) (m : State) (done : Bool) → 0 < m.trigger → m.job ≡ Running instr ds →
      IsOnTrailAt bound m → is_done ds ≡ done →
      TurnedOn bound m.interrupts (ran done instr ds m)
  ran-TurnedOn bound instr ds m true triggered j h done =
      retires-Turned IsUsedUp AnyRest Stands Stands (Settling given chunks final) later bound instr ds m j h (λ body stands. stands) done
  ran-TurnedOn bound instr ds m false triggered j h undone =
      serves-Turned IsUsedUp AnyRest Stands (Settling given chunks final) later
      (settling_made given chunks final) bound instr ds m triggered j h (lowest_served ds m) refl undone

  -- ---- an instruction is fetched

  -- the machine jumps
  jumps : (bound : ℕ) (ctl : Ctl) (target : ℕ) (rest : List Instr) (m : State) → FetchesOn bound (Jump ctl target ∷ rest) m →
      is_word m.program target ≡ true → Stands target rest →
      TurnedOn bound m.interrupts (jumped (is_word m.program target) ctl target m)
  jumps bound ctl target rest m h word stands =
      let bounded = h.bounded in
      subst (λ (there : Bool). TurnedOn bound m.interrupts (jumped there ctl target m)) (sym word)
      (record {
        next = 5 * suc (length rest) + over_queues h.left;
        within =
            record {
              on = h.on;
              unskipped = h.unskipped;
              body = rest;
              stands = stands;
              plain = subst IsPlainJob (sym h.idle) tt;
              stores = h.stores;
              left = h.left;
              outlook =
                  λ q.
                  subst (λ (job : Job). Outlook IsUsedUp AnyRest (job_asks q job (asks q rest)) (h.stores q) (h.left q)
                  (queue_state q m.queues).taken ((queue_state q m.queues).entries ++ later q)) (sym h.idle)
                  (outlook_done IsUsedUp AnyRest (demand_on q no_demands) (asks q rest) (h.stores q) (h.left q)
                  (queue_state q m.queues).taken ((queue_state q m.queues).entries ++ later q) (no_rest q) (h.outlook q));
              comes = h.comes;
              bounded =
                  subst
                  (λ (job : Job). 5 * suc (length rest) + job_turns job + over_queues h.left ≤ 5 * suc (length rest) + over_queues h.left)
                  (sym h.idle) (omega arith);
            };
        most = omega arith;
        less = λ _. omega arith;
        quiet = fdsr-applied ctl m.interrupts;
      })

  -- one that plainly follows the one before it, or a JUMP
  executes : (bound : ℕ) (instr : Instr) (rest : List Instr) (m : State) → FetchesOn bound (instr ∷ rest) m → IsOnTrail m.program instr →
      Stands (next_at instr m.pc) rest →
      TurnedOn bound m.interrupts (instr_fetched instr (length (encoded instr)) m)
  executes bound (Jump ctl target) rest m h on stands = jumps bound ctl target rest m h on stands
  executes bound (WriteC ctl ends off count) rest m h on stands = absurd on.0
  executes bound (Sync ctl resync code) rest m h on stands =
      executes-Turned IsUsedUp AnyRest Stands (Settling given chunks final) later Stands bound
      (Sync ctl resync code) rest m h stands on.0 on.1
  executes bound (Write ctl ends off count addr) rest m h on stands =
      executes-Turned IsUsedUp AnyRest Stands (Settling given chunks final) later Stands bound
      (Write ctl ends off count addr) rest m h stands on.0 on.1
  executes bound (Skip ctl ends count) rest m h on stands =
      executes-Turned IsUsedUp AnyRest Stands (Settling given chunks final) later Stands bound
      (Skip ctl ends count) rest m h stands on.0 on.1
  executes bound (Write123 ctl ends off counts addrs) rest m h on stands =
      executes-Turned IsUsedUp AnyRest Stands (Settling given chunks final) later Stands bound
      (Write123 ctl ends off counts addrs) rest m h stands on.0 on.1
  executes bound (Skip123 ctl ends counts) rest m h on stands =
      executes-Turned IsUsedUp AnyRest Stands (Settling given chunks final) later Stands bound
      (Skip123 ctl ends counts) rest m h stands on.0 on.1
  executes bound (Write1S23 ctl ends off counts addr) rest m h on stands =
      executes-Turned IsUsedUp AnyRest Stands (Settling given chunks final) later Stands bound
      (Write1S23 ctl ends off counts addr) rest m h stands on.0 on.1

  fetches : (bound : ℕ) (body : List Instr) (m : State) → FetchesOn bound body m → IsHeld m.program → is_end t.end m Turn ≡ false →
      TurnedOn bound m.interrupts (fetched (fetch m.program m.pc) m)
  fetches bound [] m h held unended =
      let leads = along.leads m.program held m.pc [] h.stands in
      let ends : is_end t.end m Turn ≡ true =
      and_from (m.risc_on && is_idle m.job) (m.pc == t.end) (and_from m.risc_on (is_idle m.job) h.on (ap is_idle h.idle))
      (eq-eqb m.pc t.end leads.0) in
      absurd (both_ways (is_end t.end m Turn) unended ends)
  fetches bound (instr ∷ rest) m h held unended =
      let leads = along.leads m.program held m.pc (instr ∷ rest) h.stands in
      subst (λ (reading : Reading). TurnedOn bound m.interrupts (fetched reading m)) (sym leads.1)
      (executes bound instr rest m h leads.2 (along.goes m.program held m.pc instr rest h.stands))

  pub fetched-TurnedOn : (bound : ℕ) (m : State) → m.job ≡ Idle → IsOnTrailAt bound m → IsHeld m.program → is_end t.end m Turn ≡ false →
      TurnedOn bound m.interrupts (fetched (fetch m.program m.pc) m)
  fetched-TurnedOn bound m j h held unended =
      let f = idle-Fetches IsUsedUp AnyRest Stands (Settling given chunks final) later bound m j h in fetches bound f.0 m f.1 held unended
