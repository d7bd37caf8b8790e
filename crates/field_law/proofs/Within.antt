-- The machine half way through instructions: what is still to come, never what was done. The user of the relation states
-- what is left of each queue at the end, what may come after that, where the machine is in its instructions, and what its
-- stores must come to.
use Rattle.std.proofs.Common.{◌≡◌, ℕ, suc, ◌+◌, ◌*◌, ◌<◌, ◌≤◌, Bool, true, List, [], ◌∷◌, ◌++◌, length, Some, min, refl, sym, ap, subst}
use Rattle.std.proofs.Common.{◌∙◌, arith}
use Rattle.risc_word.specs.declared.Instr.{Instr}
use Rattle.sync_status.specs.declared.Verdict.{Verdict}
use Rattle.fifo_model.specs.declared.Entry.{Entry}
use Rattle.fifo_model.specs.declared.Queue.{Queue}
use Rattle.fifo_model.specs.declared.Queue.TheVariants.{One, Two, Three}
use Rattle.fifo_model.specs.Queues.{Queues, first, front, queue_state, taken_from, bytes_taken}
use Rattle.page_table.specs.Blocks.{Block}
use Rattle.machine_model.specs.declared.Demand.{Demand}
use Rattle.machine_model.specs.declared.Demands.{Demands}
use Rattle.machine_model.specs.declared.Job.{Job}
use Rattle.machine_model.specs.declared.Job.TheVariants.{Idle, Waiting, Running}
use Rattle.machine_model.specs.declared.Skipping.{Skipping}
use Rattle.machine_model.specs.declared.Skipping.TheVariants.{Nothing}
use Rattle.risc_word.specs.Parts.{instr_off}
use Rattle.machine_model.specs.States.{State}
use Rattle.machine_model.specs.Turns.{Store, stored_all, stores_at, stores_of, demand_on, with_demand, demand_less, took, ended, judged}
use Rattle.machine_model.specs.Turns.{verdict_at}
use Rattle.field_law.specs.Fields.{Token}
use Rattle.field_law.specs.Sections.{Ask, Await, ask_of, asks}
use Rattle.field_law.specs.Arrivals.{over_queues}
use Rattle.field_law.proofs.Changed.{changed, each_served}
use Rattle.field_law.proofs.AskedAndToCome.{Outlook, Takes, application}

-- what a job asks of a queue, before what the instructions ask that are not fetched yet
abbrev pub job_asks : Queue → Job → List Ask → List Ask
job_asks q Idle rest = rest
job_asks q (Waiting ctl resync code) rest = Await code ∷ rest
job_asks q (Running instr ds) rest = ask_of (demand_on q ds) ∷ rest

-- its share of the bound: 1, and 1 for each queue of which something is asked
abbrev pub asked_turns : Demands → ℕ
asked_turns ds = min ds.one.rest 1 + min ds.two.rest 1 + min ds.three.rest 1

abbrev pub job_turns : Job → ℕ
job_turns Idle = 0
job_turns (Waiting ctl resync code) = 1
job_turns (Running instr ds) = 1 + asked_turns ds

abbrev pub IsPlainJob : Job → Type 0
IsPlainJob (Running instr ds) = instr_off instr ≡ 0
IsPlainJob _ = Unit {0}

-- the same instruction runs on
abbrev pub GoesOn : Job → Job → Type 0
GoesOn (Running instr ds) after = (ds' : Demands) × (after ≡ Running instr ds')
GoesOn _ after = Unit {0}

pub goes_refl : (job : Job) → GoesOn job job
goes_refl Idle = tt
goes_refl (Waiting ctl resync code) = tt
goes_refl (Running instr ds) = (ds, refl)

pub goes_trans : (a b c : Job) → GoesOn a b → GoesOn b c → GoesOn a c
goes_trans Idle b c first later = tt
goes_trans (Waiting ctl resync code) b c first later = tt
goes_trans (Running instr ds) b c first later = subst (λ (job : Job). GoesOn job c) first.1 later

-- `later` is what steps to come push; `bound` is a number of turns within which the instructions are executed and one
-- turn more comes, once all entries are there
pub record Within (Ends : List ℕ → List Token → Type 0) (Rests : List Entry → Type 0) (Stands : ℕ → List Instr → Type 0)
    (Comes : List Block → (Queue → List Store) → Type 0) (later : Queue → List Entry)
    (bound : ℕ) (risc_on : Bool) (pc : ℕ) (skipping : Skipping) (job : Job) (queues : Queues) (memory : List Block) : Type 0 where
  pub on : risc_on ≡ true
  pub unskipped : skipping ≡ Nothing
  -- the instructions that are not fetched yet
  pub body : List Instr
  pub stands : Stands pc body
  pub plain : IsPlainJob job
  pub stores : Queue → List Store
  pub left : Queue → ℕ
  pub outlook : (q : Queue) → Outlook Ends Rests (job_asks q job (asks q body)) (stores q) (left q)
      (queue_state q queues).taken ((queue_state q queues).entries ++ later q)
  pub comes : Comes memory stores
  pub bounded : 5 * suc (length body) + job_turns job + over_queues left ≤ bound

-- when some of the stores of a queue are made, what they must come to is the same
abbrev pub IsMade : (List Block → (Queue → List Store) → Type 0) → Type 0
IsMade Comes =
    (memory : List Block) (stores : Queue → List Store) (q : Queue) (made rest : List Store) → stores q ≡ made ++ rest →
    Comes memory stores →
    Comes (stored_all memory made) (changed q rest stores)

-- the measure falls with that of one queue
less_over : (q : Queue) (d : Demand) (left : ℕ) (ds : Demands) (all_left : Queue → ℕ) →
    left + min d.rest 1 < all_left q + min (demand_on q ds).rest 1 →
    asked_turns (with_demand q d ds) + over_queues (changed q left all_left) < asked_turns ds + over_queues all_left
less_over One d left ds all_left h = omega arith
less_over Two d left ds all_left h = omega arith
less_over Three d left ds all_left h = omega arith

pub front_entries : (entries : List Entry) (entry : Entry) → first entries ≡ Some entry → (es : List Entry) × (entries ≡ entry ∷ es)
front_entries [] entry h = cc
front_entries (top ∷ es) entry h = (es, cc)

module _ (Ends : List ℕ → List Token → Type 0) (Rests : List Entry → Type 0) (Stands : ℕ → List Instr → Type 0)
    (Comes : List Block → (Queue → List Store) → Type 0) (later : Queue → List Entry) where
  abbrev pub WithinJob : ℕ → Job → State → Type 0
  WithinJob bound job m = Within Ends Rests Stands Comes later bound m.risc_on m.pc m.skipping job m.queues m.memory

  abbrev pub IsWithin : ℕ → State → Type 0
  IsWithin bound m = WithinJob bound m.job m

  -- what a part of a turn leaves: still within, by less, the interrupt register is as it was, and the job goes on
  pub record Fewer (bound interrupts : ℕ) (job : Job) (m : State) : Type 0 where
    pub next : ℕ
    pub within : IsWithin next m
    pub less : next < bound
    pub same : m.interrupts ≡ interrupts
    pub goes_on : GoesOn job m.job

  module _ (comes_made : IsMade Comes) (bound : ℕ) (q : Queue) (instr : Instr) (ds : Demands) (entry : Entry) (m : State)
      (h : WithinJob bound (Running instr ds) m)
      (t : Takes Ends Rests (demand_on q ds) (asks q h.body) (h.stores q) (h.left q) (queue_state q m.queues) entry (later q)) where
    split : h.stores q ≡ stores_of instr (demand_on q ds) entry (queue_state q m.queues).taken t.count ++ t.stores_left
    split =
        t.made ∙ ap (λ (off : ℕ). stores_at (demand_on q ds).address off (queue_state q m.queues).taken
        (bytes_taken entry (queue_state q m.queues).taken t.count) ++ t.stores_left) (sym h.plain)

    took_within : Fewer bound m.interrupts (Running instr ds) (took q t.count instr ds entry m)
    took_within =
        let all_left = changed q t.entries_left h.left in
        let ds' : Demands = with_demand q (demand_less t.count (demand_on q ds)) ds in
        let bounded = h.bounded in
        record {
          next = 5 * suc (length h.body) + job_turns (Running instr ds') + over_queues all_left;
          within =
              record {
                on = h.on;
                unskipped = h.unskipped;
                body = h.body;
                stands = h.stands;
                plain = h.plain;
                stores = changed q t.stores_left h.stores;
                left = all_left;
                outlook =
                    each_served (λ p held d stores left.
                    Outlook Ends Rests (ask_of d ∷ asks p h.body) stores left held.taken (held.entries ++ later p)) q
                    (taken_from t.count (queue_state q m.queues))
                    (demand_less t.count (demand_on q ds)) t.stores_left t.entries_left m.queues ds h.stores h.left h.outlook t.next;
                comes =
                    comes_made m.memory h.stores q
                    (stores_of instr (demand_on q ds) entry (queue_state q m.queues).taken t.count) t.stores_left split h.comes;
                bounded = omega arith;
              };
          less = omega (arith, less_over q (demand_less t.count (demand_on q ds)) t.entries_left ds h.left t.less);
          same = refl;
          goes_on = (ds', refl);
        }

    judged_is : judged (verdict_at q ds entry m) q instr ds entry m ≡ took q t.count instr ds entry m
    judged_is =
        ap (λ (verdict : Verdict). judged verdict q instr ds entry m) t.verdict
        ∙ ap (λ (cut : Bool). ended cut instr (took q t.count instr ds entry m)) t.whole

  -- an application stays within
  pub judged-Within : IsMade Comes → (bound : ℕ) (q : Queue) (instr : Instr) (ds : Demands) (entry : Entry) (m : State) →
      WithinJob bound (Running instr ds) m →
      front (queue_state q m.queues) ≡ Some entry → 0 < (demand_on q ds).rest →
      Fewer bound m.interrupts (Running instr ds) (judged (verdict_at q ds entry m) q instr ds entry m)
  judged-Within comes_made bound q instr ds entry m h there some =
      let es = front_entries (queue_state q m.queues).entries entry there in
      let t =
      application Ends Rests (demand_on q ds) (asks q h.body) (h.stores q) (h.left q) (queue_state q m.queues) entry
      (later q) es.0 es.1 some (h.outlook q) in
      subst (λ (m' : State). Fewer bound m.interrupts (Running instr ds) m') (sym (judged_is comes_made bound q instr ds entry m h t))
      (took_within comes_made bound q instr ds entry m h t)
