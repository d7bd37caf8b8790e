-- Turns of the machine that fetch an instruction.
use Rattle.std.proofs.Common.{◌≡◌, ℕ, suc, ◌+◌, ◌*◌, ◌≤◌, Bool, true, List, ◌∷◌, ◌++◌, length, Option, Some, None, refl, sym, subst, arith}
use Rattle.risc_word.specs.declared.Code.{Code}
use Rattle.risc_word.specs.declared.Ctl.{Ctl}
use Rattle.risc_word.specs.declared.Instr.{Instr}
use Rattle.risc_word.specs.declared.Instr.TheVariants.{Write, Skip, WriteC, Jump, Sync, Write123, Skip123, Write1S23}
use Rattle.risc_word.specs.Words.{encoded}
use Rattle.fifo_model.specs.declared.Entry.{Entry}
use Rattle.fifo_model.specs.declared.Queue.{Queue}
use Rattle.fifo_model.specs.Queues.{queue_state}
use Rattle.page_table.specs.Blocks.{Block}
use Rattle.machine_model.specs.declared.Cause.{Cause}
use Rattle.machine_model.specs.declared.Demands.{Demands}
use Rattle.machine_model.specs.declared.Job.{Job}
use Rattle.machine_model.specs.declared.Job.TheVariants.{Idle}
use Rattle.machine_model.specs.declared.Skipping.{Skipping}
use Rattle.machine_model.specs.declared.Skipping.TheVariants.{Nothing}
use Rattle.machine_model.specs.Paths.{demands_of, demands_cause, data_cause, target_before}
use Rattle.risc_word.specs.Parts.{instr_off}
use Rattle.machine_model.specs.States.{State}
use Rattle.machine_model.specs.Turns.{Store, demand_on, synced, begun_with, data_fetched, instr_fetched}
use Rattle.field_law.specs.Fields.{Token}
use Rattle.field_law.specs.Sections.{ask_of, asked, asks, IsPlain}
use Rattle.field_law.specs.Arrivals.{over_queues}
use Rattle.field_law.proofs.AskedAndToCome.{Outlook}
use Rattle.field_law.proofs.Within.{WithinJob, IsWithin, asked_turns}
use Rattle.field_law.proofs.Running.{Turned}

few_asked : (ds : Demands) → asked_turns ds ≤ 3
few_asked ds = omega arith

module _ (Ends : List ℕ → List Token → Type 0) (Rests : List Entry → Type 0) (Stands : ℕ → List Instr → Type 0)
    (Comes : List Block → (Queue → List Store) → Type 0) (later : Queue → List Entry) where
  -- the machine about to fetch the first of these instructions
  pub record Fetches (bound : ℕ) (body : List Instr) (m : State) : Type 0 where
    pub idle : m.job ≡ Idle
    pub on : m.risc_on ≡ true
    pub unskipped : m.skipping ≡ Nothing
    pub stands : Stands m.pc body
    pub stores : Queue → List Store
    pub left : Queue → ℕ
    pub outlook : (q : Queue) →
        Outlook Ends Rests (asks q body) (stores q) (left q) (queue_state q m.queues).taken ((queue_state q m.queues).entries ++ later q)
    pub comes : Comes m.memory stores
    pub bounded : 5 * suc (length body) + over_queues left ≤ bound

  module _ (Stands' : ℕ → List Instr → Type 0) (bound : ℕ) (instr : Instr) (rest : List Instr) (m : State)
      (h : Fetches bound (instr ∷ rest) m)
      (stands : Stands' (m.pc + 4 * length (encoded instr)) rest) where
    -- a data instruction begins
    begins : (cause : Option Cause) (target : Option ℕ) → cause ≡ None → instr_off instr ≡ 0 →
        ((q : Queue) → ask_of (demand_on q (demands_of instr target)) ≡ asked q instr) →
        Turned Ends Rests Stands' Comes later bound m.interrupts (begun_with cause instr (length (encoded instr)) target m)
    begins (Some cause) target fine off same = cc
    begins None target fine off same =
        let bounded = h.bounded in
        let few = few_asked (demands_of instr target) in
        record {
          next = 5 * suc (length rest) + (1 + asked_turns (demands_of instr target)) + over_queues h.left;
          within =
              record {
                on = h.on;
                unskipped = h.unskipped;
                body = rest;
                stands = stands;
                plain = off;
                stores = h.stores;
                left = h.left;
                outlook =
                    λ q.
                    subst (λ ask. Outlook Ends Rests (ask ∷ asks q rest) (h.stores q) (h.left q) (queue_state q m.queues).taken
                    ((queue_state q m.queues).entries ++ later q)) (sym (same q)) (h.outlook q);
                comes = h.comes;
                bounded = omega arith;
              };
          most = omega arith;
          less = λ _. omega arith;
          quiet = refl;
        }

    data_begins : (skipping : Skipping) → m.skipping ≡ skipping → data_cause m.program.grants instr (target_before instr m.target) ≡ None →
        instr_off instr ≡ 0 →
        ((q : Queue) → ask_of (demand_on q (demands_of instr (target_before instr m.target))) ≡ asked q instr) →
        Turned Ends Rests Stands' Comes later bound m.interrupts (data_fetched m.skipping instr (length (encoded instr)) m)
    data_begins skipping e fine off same =
        subst (λ (skipping : Skipping).
        Turned Ends Rests Stands' Comes later bound m.interrupts (data_fetched skipping instr (length (encoded instr)) m)) (sym h.unskipped)
        (begins (data_cause m.program.grants instr (target_before instr m.target)) (target_before instr m.target) fine off same)

    -- a SYNC begins to wait
    syncs : (ctl : Ctl) (resync : Bool) (code : Code) → instr ≡ Sync ctl resync code →
        Turned Ends Rests Stands' Comes later bound m.interrupts (synced ctl resync code (length (encoded instr)) m)
    syncs ctl resync code e =
        let bounded = h.bounded in
        record {
          next = 5 * suc (length rest) + 1 + over_queues h.left;
          within =
              record {
                on = h.on;
                unskipped = refl;
                body = rest;
                stands = stands;
                plain = tt;
                stores = h.stores;
                left = h.left;
                outlook =
                    λ q.
                    subst (λ (instr : Instr). Outlook Ends Rests (asked q instr ∷ asks q rest) (h.stores q) (h.left q)
                    (queue_state q m.queues).taken ((queue_state q m.queues).entries ++ later q)) e (h.outlook q);
                comes = h.comes;
                bounded = omega arith;
              };
          most = omega arith;
          less = λ _. omega arith;
          quiet = refl;
        }

  -- one that plainly follows the one before it; its user states where the machine is behind it
  pub executes-Turned : (Stands' : ℕ → List Instr → Type 0) (bound : ℕ) (instr : Instr) (rest : List Instr) (m : State) →
      Fetches bound (instr ∷ rest) m → Stands' (m.pc + 4 * length (encoded instr)) rest →
      IsPlain instr → demands_cause m.program.grants (demands_of instr None) ≡ None →
      Turned Ends Rests Stands' Comes later bound m.interrupts (instr_fetched instr (length (encoded instr)) m)
  executes-Turned Stands' bound (Sync ctl resync code) rest m h stands plain fine =
      syncs Stands' bound (Sync ctl resync code) rest m h stands ctl resync code refl
  executes-Turned Stands' bound (Jump ctl addr) rest m h stands plain fine = absurd plain
  executes-Turned Stands' bound (WriteC ctl ends off count) rest m h stands plain fine = absurd plain
  executes-Turned Stands' bound (Write ctl ends off count addr) rest m h stands plain fine =
      data_begins Stands' bound (Write ctl ends off count addr) rest m h stands m.skipping refl fine plain (λ q. refl)
  executes-Turned Stands' bound (Skip ctl ends count) rest m h stands plain fine =
      data_begins Stands' bound (Skip ctl ends count) rest m h stands m.skipping refl fine refl (λ q. refl)
  executes-Turned Stands' bound (Write123 ctl ends off counts addrs) rest m h stands plain fine =
      data_begins Stands' bound (Write123 ctl ends off counts addrs) rest m h stands m.skipping refl fine plain (λ q. refl)
  executes-Turned Stands' bound (Skip123 ctl ends counts) rest m h stands plain fine =
      data_begins Stands' bound (Skip123 ctl ends counts) rest m h stands m.skipping refl fine refl (λ q. refl)
  executes-Turned Stands' bound (Write1S23 ctl ends off counts addr) rest m h stands plain fine =
      data_begins Stands' bound (Write1S23 ctl ends off counts addr) rest m h stands m.skipping refl fine plain (λ q. refl)

  pub idle-Fetches : (bound : ℕ) (m : State) → m.job ≡ Idle → IsWithin Ends Rests Stands Comes later bound m →
      (body : List Instr) × Fetches bound body m
  idle-Fetches bound m j h =
      let idle : WithinJob Ends Rests Stands Comes later bound Idle m =
      subst (λ (job : Job). WithinJob Ends Rests Stands Comes later bound job m) j h in
      let bounded = idle.bounded in (
        idle.body,
        record {
          idle = j;
          on = idle.on;
          unskipped = idle.unskipped;
          stands = idle.stands;
          stores = idle.stores;
          left = idle.left;
          outlook = idle.outlook;
          comes = idle.comes;
          bounded = omega arith;
        },
      )
