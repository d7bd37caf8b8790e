-- Over steps the takings of a queue are in the order of its entries.
use Rattle.std.proofs.Common.{◌≡◌, ℕ, zero, suc, ◌+◌, ◌-◌, ◌<◌, ◌≤◌, ◌⊎◌, inl, inr, ◌==◌, Bool, true, false, All, List, [], ◌∷◌, ◌++◌}
use Rattle.std.proofs.Common.{append_assoc, drop, length, length-append, Option, Some, None}
use Rattle.std.proofs.Common.{if◌then◌else◌, refl, sym, ap, subst, ◌∙◌, arith, slice_index_or}
use Rattle.std.specs.Prelude.{filter}
use Rattle.std.proofs.lemmas.Bool.{cond-true, cond-false, eqb-false}
use Rattle.std.proofs.lemmas.List.{append-nil, drop-append-le, drop-drop, drop_all, length-drop}
use Rattle.std.proofs.lemmas.List.Elements.{All-head, All-tail}
use Rattle.risc_word.specs.declared.Code.{Code}
use Rattle.risc_word.specs.declared.Instr.{Instr}
use Rattle.sync_status.specs.declared.Verdict.{Verdict}
use Rattle.sync_status.specs.declared.Verdict.TheVariants.{Take, Discard, Broken, Missing}
use Rattle.sync_status.specs.Statuses.{TakesWithin, kind_of, valid_bytes, valid_lanes, verdict_on}
use Rattle.sync_status.proofs.Verdicts.{end-has_bytes, verdict-takes}
use Rattle.fifo_model.specs.declared.Entry.{Entry}
use Rattle.fifo_model.specs.declared.Queue.{Queue}
use Rattle.fifo_model.specs.declared.Queue.TheVariants.{One, Two, Three}
use Rattle.fifo_model.specs.Queues.{IsQueue, QueueState, Queues, all_entered, cleared, control_answer, control_entry, emptied, entered}
use Rattle.fifo_model.specs.Queues.{first, front, is_full, more, overrun, push_answer, queue_state}
use Rattle.fifo_model.specs.Queues.{removed, some_full, taken_from, taken_more, valid_of, with_queue_state}
use Rattle.fifo_model.specs.declared.Pushed.TheVariants.{Held, Overrun}
use Rattle.fifo_model.proofs.ChangesKeepQueues.{IsQueue-queue_state}
use Rattle.irq_status.specs.declared.HostWrite.{HostWrite}
use Rattle.irq_status.specs.declared.HostWrite.TheVariants.{Ack, Enable, Trigger}
use Rattle.fifo_model.proofs.QueueStates.{queue_state-with_queue_state}
use Rattle.machine_model.specs.declared.Demands.{Demands}
use Rattle.machine_model.specs.declared.Job.{Job}
use Rattle.machine_model.specs.declared.Job.TheVariants.{Idle, Waiting, Running}
use Rattle.machine_model.specs.States.{State}
use Rattle.machine_model.specs.Turns.{apply_in, burst, burst_of, counted, demand_on, ended, is_cut_short, is_done, judged, lowest_served}
use Rattle.machine_model.specs.Turns.{ran, served, took, turn, turn_if, verdict_at, worked}
use Rattle.machine_model.specs.Safety.{IsOrderly, IsStep}
use Rattle.machine_model.specs.Steps.{Step, Push, Control, Turn, Host, answer_if, host, push_control_if, push_if, step, with_fifo}
use Rattle.machine_model.specs.Steps.{with_risc}
use Rattle.machine_model.proofs.Orderly.{IsOrderly-step}
use Rattle.field_law.specs.Arrivals.{is_queue, pushed_by}
use Rattle.field_law.proofs.Pushes.{Adds, adds_all, adds_none, adds_to}
use Rattle.machine_model.specs.Seen.{Application, address_before, application_in, served_application}
use Rattle.damage_model.specs.Takings.{Taking, burst_takings, left, ran_takings, served_takings, step_takings}
use Rattle.damage_model.specs.Takings.{taking_by, takings, takings_if}
use Rattle.damage_model.specs.Takings.{takings_of, worked_takings}
use Rattle.damage_model.specs.Lines.{AreInOrder, IsFrom}
use Rattle.damage_model.specs.Marks.{is_among, takings_at}
use Rattle.damage_model.specs.Orders.{LinesAreWhole, TakesInOrder, entering, entering_over, entry_at, held_as, no_entry, stream}
use Rattle.damage_model.proofs.Leaving.{turn-drops}
use Rattle.damage_model.proofs.QueuesShrink.{turn-keeps}
use Rattle.damage_model.proofs.WholeLines.{from_from, line-whole, whole-line}

-- what is taken of the front
pub taken_front : (count : ℕ) (h : QueueState) (es : List Entry) (entry : Entry) → first es ≡ Some entry →
    taken_more count h es ≡ (if h.taken + count == valid_bytes entry.status then removed h else record h { taken = h.taken + count })
taken_front count h [] entry there = cc
taken_front count h (e ∷ rest) entry there =
    let same : e ≡ entry = cc in
    ap (λ (x : Entry). if h.taken + count == valid_bytes x.status then removed h else record h { taken = h.taken + count }) same

module _ (entries : List Entry) where
  abbrev pub at : ℕ → Entry
  at = entry_at entries

  -- takings in order, and where they end
  abbrev pub OrderedTo : ℕ → ℕ → List Taking → ℕ → ℕ → Type 0
  OrderedTo place x [] end y = IsFrom place x end y
  OrderedTo place x (t ∷ rest) end y =
      IsFrom place x t.place t.taken × (t.entry ≡ at t.place) × (0 < t.count) × (t.taken + t.count ≤ valid_bytes t.entry.status)
      × OrderedTo t.place (t.taken + t.count) rest end y

  from_weaker : (a x b y : ℕ) (ts : List Taking) → IsFrom a x b y → AreInOrder at b y ts → AreInOrder at a x ts
  from_weaker a x b y [] from order = tt
  from_weaker a x b y (t ∷ rest) from order = (from_from at a x b y t.place t.taken from order.0, order.1, order.2, order.3, order.4)

  pub ordered_then : (place x : ℕ) (ts : List Taking) (end y : ℕ) (more : List Taking) → OrderedTo place x ts end y →
      AreInOrder at end y more → AreInOrder at place x (ts ++ more)
  ordered_then place x [] end y more first later = from_weaker place x end y more first later
  ordered_then place x (t ∷ rest) end y more first later =
      (first.0, first.1, first.2, first.3, ordered_then t.place (t.taken + t.count) rest end y more first.4 later)

  to_weaker : (a x b y : ℕ) (ts : List Taking) (end z : ℕ) → IsFrom a x b y → OrderedTo b y ts end z → OrderedTo a x ts end z
  to_weaker a x b y [] end z from order = from_from at a x b y end z from order
  to_weaker a x b y (t ∷ rest) end z from order = (from_from at a x b y t.place t.taken from order.0, order.1, order.2, order.3, order.4)

  pub to_then : (place x : ℕ) (ts : List Taking) (mid y : ℕ) (more : List Taking) (end z : ℕ) → OrderedTo place x ts mid y →
      OrderedTo mid y more end z → OrderedTo place x (ts ++ more) end z
  to_then place x [] mid y more end z one two = to_weaker place x mid y more end z one two
  to_then place x (t ∷ rest) mid y more end z one two =
      (one.0, one.1, one.2, one.3, to_then t.place (t.taken + t.count) rest mid y more end z one.4 two)

  -- some of them are in order too
  pub filtered : (test : Taking → Bool) (ts : List Taking) (place x : ℕ) → AreInOrder at place x ts → AreInOrder at place x (filter test ts)
  filtered test [] place x order = tt
  filtered test (t ∷ rest) place x order = by_test (filtered test rest t.place (t.taken + t.count) order.4) (test t) refl
    where
      beyond : IsFrom place x t.place (t.taken + t.count)
      beyond = let from = order.0 in (from.0, λ same. let le = from.1 same in omega arith)

      by_test : AreInOrder at t.place (t.taken + t.count) (filter test rest) → (here : Bool) → test t ≡ here →
          AreInOrder at place x (filter test (t ∷ rest))
      by_test later true is =
          subst (AreInOrder at place x) (sym (cond-true (test t) (t ∷ filter test rest) (filter test rest) is))
          (order.0, order.1, order.2, order.3, later)
      by_test later false is =
          subst (AreInOrder at place x) (sym (cond-false (test t) (t ∷ filter test rest) (filter test rest) is))
          (from_weaker place x t.place (t.taken + t.count) (filter test rest) beyond later)

  -- ---- the burst to a queue

  front_at : (es rest : List Entry) (place : ℕ) (entry : Entry) → drop place es ≡ entry ∷ rest → slice_index_or es place no_entry ≡ entry
  front_at [] rest zero entry is = cc
  front_at [] rest (suc place) entry is = cc
  front_at (e ∷ es) rest zero entry is = cc
  front_at (e ∷ es) rest (suc place) entry is = front_at es rest place entry is

  module _ (q : Queue) (address : ℕ) (later : List Entry) where
    abbrev pub held : State → QueueState
    held m = queue_state q m.queues

    abbrev pub IsPart : QueueState → Type 0
    IsPart h = (h.taken ≡ 0) ⊎ (h.taken < valid_of (front h))

    abbrev pub Stands : ℕ → QueueState → Type 0
    Stands place h = drop place entries ≡ h.entries ++ later

    pub record Went (before after : QueueState) (place : ℕ) (ts : List Taking) : Type 0 where
      pub ends : ℕ
      pub forward : place ≤ ends
      pub counts : ends + length after.entries ≡ place + length before.entries
      pub order : OrderedTo place before.taken ts ends after.taken
      pub part : IsPart after
      pub stands : Stands ends after

    stays : (h : QueueState) (place : ℕ) → IsPart h → Stands place h → Went h h place []
    stays h place part stands =
        record {
          ends = place;
          forward = omega arith;
          counts = refl;
          order = (omega arith, λ same. omega arith);
          part = part;
          stands = stands;
        }

    first_more : (es : List Entry) (entry : Entry) → first es ≡ Some entry → es ≡ entry ∷ drop 1 es
    first_more [] entry there = cc
    first_more (e ∷ rest) entry there = let same : e ≡ entry = cc in ap (λ (x : Entry). x ∷ rest) same

    module _ (h : QueueState) (entry : Entry) (place : ℕ) (there : front h ≡ Some entry) (part : IsPart h) (stands : Stands place h) where
      more_there : drop place entries ≡ entry ∷ (drop 1 h.entries ++ later)
      more_there = stands ∙ ap (λ (es : List Entry). es ++ later) (first_more h.entries entry there)

      removed_goes : Went h (removed h) place []
      removed_goes =
          let long : length h.entries ≡ suc (length (drop 1 h.entries)) = ap length (first_more h.entries entry there) in
          record {
            ends = place + 1;
            forward = omega arith;
            counts = omega arith;
            order = (omega arith, λ same. absurd (omega arith));
            part = inl refl;
            stands = sym (drop-drop 1 place entries) ∙ ap (drop 1) more_there;
          }

      module _ (count : ℕ) (some : 0 < count) (within : h.taken + count ≤ valid_bytes entry.status) where
        abbrev taking : Taking
        taking = record { at = address; place = place; entry = entry; taken = h.taken; count = count }

        whole_goes : Went h (removed h) place (taking ∷ [])
        unfolding removed_goes
        whole_goes =
            let r = removed_goes in
            record {
              ends = place + 1;
              forward = omega arith;
              counts = r.counts;
              order = (
                (omega arith, λ same. omega arith),
                sym (front_at entries (drop 1 h.entries ++ later) place entry more_there),
                some,
                within,
                (omega arith, λ same. absurd (omega arith)),
              );
              part = inl refl;
              stands = r.stands;
            }

        part_goes : (h.taken + count ≡ valid_bytes entry.status → ⊥) → Went h (record h { taken = h.taken + count }) place (taking ∷ [])
        part_goes unended =
            let valid : valid_of (front h) ≡ valid_bytes entry.status = ap valid_of there in
            record {
              ends = place;
              forward = omega arith;
              counts = refl;
              order = (
                (omega arith, λ same. omega arith),
                sym (front_at entries (drop 1 h.entries ++ later) place entry more_there),
                some,
                within,
                (omega arith, λ same. omega arith),
              );
              part = inr (omega arith);
              stands = stands;
            }

        taken_by : (whole : Bool) → (h.taken + count == valid_bytes entry.status) ≡ whole →
            Went h (if whole then removed h else record h { taken = h.taken + count }) place (taking ∷ [])
        taken_by true is = whole_goes
        taken_by false is = part_goes (eqb-false (h.taken + count) (valid_bytes entry.status) is)

    takes_within : (v : Verdict) (entry : Entry) (sol : Bool) (taken rest count : ℕ) →
        verdict_on (kind_of entry.status) sol taken rest ≡ v → v ≡ Take count → (rest == 0) ≡ false →
        (taken ≡ 0) ⊎ (taken < valid_bytes entry.status) → (1 ≤ count) × (taken + count ≤ valid_bytes entry.status)
    takes_within v entry sol taken rest count is take some part =
        let none = eqb-false rest 0 some in
        let within = verdict-takes (kind_of entry.status) sol taken rest (end-has_bytes entry.status) (omega arith) part in
        let exact : TakesWithin (valid_lanes (kind_of entry.status)) taken rest (Take count) =
        subst (λ (x : Verdict). TakesWithin (valid_lanes (kind_of entry.status)) taken rest x) (is ∙ take) within in
        (exact.0, exact.1)

    module _ (m : State) (instr : Instr) (ds : Demands) (entry : Entry) (place : ℕ) (there : front (held m) ≡ Some entry)
        (asks : ((demand_on q ds).rest == 0) ≡ false)
        (part : IsPart (held m)) (stands : Stands place (held m)) where
      abbrev made : Application
      made = record { entry = entry; taken = (held m).taken; demand = demand_on q ds }

      cut_same : (cut : Bool) (after : State) → held (ended cut instr after) ≡ held after
      cut_same true after = refl
      cut_same false after = refl

      part_of_front : IsPart (held m) → ((held m).taken ≡ 0) ⊎ ((held m).taken < valid_bytes entry.status)
      part_of_front (inl none) = inl none
      part_of_front (inr less) = inr (subst (λ (n : ℕ). (held m).taken < n) (ap valid_of there) less)

      one : (v : Verdict) → verdict_at q ds entry m ≡ v →
          Went (held m) (held (judged v q instr ds entry m)) place (taking_by v address place made)
      one Broken is = stays (held m) place part stands
      one Missing is = stays (held m) place part stands
      one Discard is =
          subst (λ (h : QueueState). Went (held m) h place []) (sym (queue_state-with_queue_state q (removed (held m)) m.queues))
          (removed_goes (held m) entry place there part stands)
      one (Take count) is =
          let within =
          takes_within (Take count) entry (demand_on q ds).needs_sol (held m).taken (demand_on q ds).rest count is refl asks
          (part_of_front part) in
          let now : held (judged (Take count) q instr ds entry m) ≡ (if (held m).taken + count == valid_bytes entry.status
          then removed (held m) else record (held m) { taken = (held m).taken + count }) =
          cut_same (is_cut_short entry (held m).taken count (demand_on q ds).rest) (took q count instr ds entry m)
          ∙ queue_state-with_queue_state q (taken_from count (held m)) m.queues ∙ taken_front count (held m) (held m).entries entry there in
          subst (λ (h : QueueState). Went (held m) h place (taking_by (Take count) address place made)) (sym now)
          (taken_by (held m) entry place there part stands count within.0 within.1
          ((held m).taken + count == valid_bytes entry.status) refl)

    joined : (before mid after : QueueState) (place : ℕ) (ts more : List Taking) (first_went : Went before mid place ts) →
        Went mid after first_went.ends more → Went before after place (ts ++ more)
    joined before mid after place ts more w v =
        let c = w.counts in
        let c' = v.counts in
        let f = w.forward in
        let f' = v.forward in
        record {
          ends = v.ends;
          forward = omega arith;
          counts = omega arith;
          order = to_then place before.taken ts w.ends mid.taken more v.ends after.taken w.order v.order;
          part = v.part;
          stands = v.stands;
        }

    abbrev pub BurstWent : ℕ → Type 0
    BurstWent count =
        (m : State) (place : ℕ) → IsPart (held m) → Stands place (held m) →
        Went (held m) (held (burst count q m)) place (burst_takings count q address place m)

    module _ (count : ℕ) (rest : BurstWent count) (m : State) (place : ℕ) (part : IsPart (held m)) (stands : Stands place (held m)) where
      abbrev Goes : List Application → Option State → Type 0
      Goes made next =
          Went (held m) (held (elim next as (λ _. State) [ None ↦ m | Some after ↦ burst count q after ])) place
          (takings_of address place made
          ++ (elim next as (λ _. List Taking) [ None ↦ [] | Some after ↦ burst_takings count q address (place + left q m after) after ]))

      at_demand : (instr : Instr) (ds : Demands) (entry : Entry) (none : Bool) → front (held m) ≡ Some entry →
          ((demand_on q ds).rest == 0) ≡ none →
          Goes (if none then [] else record { entry = entry; taken = (held m).taken; demand = demand_on q ds } ∷ [])
          (if none then None else Some (judged (verdict_at q ds entry m) q instr ds entry m))
      at_demand instr ds entry true there is = stays (held m) place part stands
      at_demand instr ds entry false there is =
          let v = verdict_at q ds entry m in
          let after = judged v q instr ds entry m in
          let w = one m instr ds entry place there is part stands v refl in
          let c = w.counts in
          let f = w.forward in
          let there_is : w.ends ≡ place + left q m after = omega arith in
          let new = taking_by v address place (record { entry = entry; taken = (held m).taken; demand = demand_on q ds }) in
          let w' = rest after w.ends w.part w.stands in
          subst (λ (t : List Taking). Went (held m) (held (burst count q after)) place
          (t ++ burst_takings count q address (place + left q m after) after)) (sym (append-nil new))
          (subst (λ (n : ℕ). Went (held m) (held (burst count q after)) place (new ++ burst_takings count q address n after)) there_is
          (joined (held m) (held after) (held (burst count q after)) place new (burst_takings count q address w.ends after) w w'))

      at_front : (top : Option Entry) (instr : Instr) (ds : Demands) → front (held m) ≡ top →
          Goes (served_application top q ds m) (served top q instr ds m)
      at_front None instr ds there = stays (held m) place part stands
      at_front (Some entry) instr ds there = at_demand instr ds entry ((demand_on q ds).rest == 0) there refl

      in_job : (job : Job) → Goes (application_in job q m) (apply_in job q m)
      in_job Idle = stays (held m) place part stands
      in_job (Waiting ctl resync code) = stays (held m) place part stands
      in_job (Running instr ds) = at_front (front (held m)) instr ds refl

    pub burst-went : (count : ℕ) → BurstWent count
    burst-went zero m place part stands = stays (held m) place part stands
    burst-went (suc count) m place part stands = in_job count (burst-went count) m place part stands m.job

-- ---- a turn leaves a queue as it is, takes more of its front, or shortens it

-- less of a queue is left: of the same front no less was taken
pub record Shrunk (before after : QueueState) : Type 0 where
  pub fewer : length after.entries ≤ length before.entries
  pub taken : length before.entries ≡ length after.entries → before.taken ≤ after.taken

module _ (before : QueueState) (empty : length before.entries ≡ 0 → before.taken ≡ 0) where
  shrunk_removed : (h : QueueState) → Shrunk before h → Shrunk before (removed h)
  shrunk_removed h s =
      let fewer = s.fewer in
      record {
        fewer = omega (arith, length-drop 1 h.entries);
        taken = λ same. let long = length-drop 1 h.entries in let none = empty (omega arith) in omega arith;
      }

  shrunk_taken : (h : QueueState) (count : ℕ) → Shrunk before h → Shrunk before (record h { taken = h.taken + count })
  shrunk_taken h count s = record { fewer = s.fewer; taken = λ same. let less = s.taken same in omega arith }

by_entries : (es : List Entry) (taken : ℕ) → (taken ≡ 0) ⊎ (taken < valid_of (first es)) → length es ≡ 0 → taken ≡ 0
by_entries [] taken (inl none) long = none
by_entries [] taken (inr less) long = absurd (omega arith)
by_entries (e ∷ rest) taken part long = absurd (omega arith)

empty_none : (h : QueueState) → IsQueue h → length h.entries ≡ 0 → h.taken ≡ 0
empty_none h is long = by_entries h.entries h.taken is.part long

pub turn-Shrunk : (q : Queue) (m : State) → IsQueue (queue_state q m.queues) →
    Shrunk (queue_state q m.queues) (queue_state q (turn m).queues)
turn-Shrunk q m is =
    let held = queue_state q m.queues in
    let empty = empty_none held is in
    turn-keeps (Shrunk held) (record { removes = shrunk_removed held empty; takes = shrunk_taken held empty }) q m
    (record { fewer = omega arith; taken = λ same. omega arith })

-- ---- which queue

pub queue_is : (p q : Queue) → is_queue p q ≡ true → p ≡ q
queue_is One One is = refl
queue_is One Two is = cc
queue_is One Three is = cc
queue_is Two One is = cc
queue_is Two Two is = refl
queue_is Two Three is = cc
queue_is Three One is = cc
queue_is Three Two is = cc
queue_is Three Three is = refl

pub cleared_queue : (p : Queue) (queues : Queues) → queue_state p (cleared queues) ≡ emptied (queue_state p queues)
cleared_queue One queues = refl
cleared_queue Two queues = refl
cleared_queue Three queues = refl

-- ---- a turn

module _ (entries later : List Entry) (q : Queue) (place : ℕ) (m : State) (orderly : IsOrderly m)
    (stands : drop place entries ≡ (queue_state q m.queues).entries ++ later) where
  abbrev TurnOrdered : List Taking → Type 0
  TurnOrdered ts =
      OrderedTo entries place (queue_state q m.queues).taken ts (place + left q m (turn m)) (queue_state q (turn m).queues).taken

  none_taken : TurnOrdered []
  none_taken =
      let s = turn-Shrunk q m (IsQueue-queue_state q m.queues orderly.queues) in
      let fewer = s.fewer in
      (omega arith, λ same. s.taken (omega arith))

  burst_taken : (at : ℕ) → turn m ≡ burst m.trigger q (counted m) → TurnOrdered (burst_takings m.trigger q at place (counted m))
  burst_taken at is =
      let w = burst-went entries q at later m.trigger (counted m) place (IsQueue-queue_state q m.queues orderly.queues).part stands in
      let c = w.counts in
      let f = w.forward in
      let there : w.ends ≡ place + left q m (burst m.trigger q (counted m)) = omega arith in
      subst (λ (after : State). OrderedTo entries place (queue_state q m.queues).taken (burst_takings m.trigger q at place (counted m))
      (place + left q m after) (queue_state q after.queues).taken) (sym is)
      (subst (λ (n : ℕ). OrderedTo entries place (queue_state q m.queues).taken (burst_takings m.trigger q at place (counted m)) n
      (queue_state q (burst m.trigger q (counted m)).queues).taken) there w.order)

  this_queue : (p : Queue) (same : Bool) (at : ℕ) → is_queue p q ≡ same → turn m ≡ burst m.trigger p (counted m) →
      TurnOrdered (if same then burst_takings m.trigger q at place (counted m) else [])
  this_queue p true at is goes = burst_taken at (goes ∙ ap (λ (x : Queue). burst m.trigger x (counted m)) (queue_is p q is))
  this_queue p false at is goes = none_taken

  served_taken : (s : Option Queue) (at : ℕ) → turn m ≡ burst_of s (counted m) → TurnOrdered (served_takings s q at place (counted m))
  served_taken None at is = none_taken
  served_taken (Some p) at is = this_queue p (is_queue p q) at refl is

  ran_taken : (done : Bool) (instr : Instr) (ds : Demands) (at : ℕ) → turn m ≡ ran done instr ds (counted m) →
      TurnOrdered (ran_takings done ds q at place (counted m))
  ran_taken true instr ds at is = none_taken
  ran_taken false instr ds at is = served_taken (lowest_served ds (counted m)) at is

  worked_taken : (job : Job) → turn m ≡ worked job (counted m) → TurnOrdered (worked_takings job q place (counted m))
  worked_taken Idle is = none_taken
  worked_taken (Waiting ctl resync code) is = none_taken
  worked_taken (Running instr ds) is = ran_taken (is_done ds) instr ds (address_before m.pc instr) is

  risc_taken : (on : Bool) → turn m ≡ turn_if on (counted m) → TurnOrdered (takings_if on q place (counted m))
  risc_taken false is = none_taken
  risc_taken true is = worked_taken m.job is

  turn_taken : TurnOrdered (step_takings q place m Turn)
  turn_taken = risc_taken m.risc_on refl

-- ---- a push

pair_none : (p q : Queue) (queues : Queues) →
    ((queue_state p (with_queue_state q (overrun (queue_state q queues)) queues)).taken ≡ (queue_state p queues).taken)
    × ((queue_state p (with_queue_state q (overrun (queue_state q queues)) queues)).entries ≡ (queue_state p queues).entries)
pair_none One One queues = (refl, refl)
pair_none One Two queues = (refl, refl)
pair_none One Three queues = (refl, refl)
pair_none Two One queues = (refl, refl)
pair_none Two Two queues = (refl, refl)
pair_none Two Three queues = (refl, refl)
pair_none Three One queues = (refl, refl)
pair_none Three Two queues = (refl, refl)
pair_none Three Three queues = (refl, refl)

overrun_adds : (q : Queue) (queues : Queues) → Adds queues (with_queue_state q (overrun (queue_state q queues)) queues) (λ p. [])
overrun_adds q queues =
    record {
      taken = λ p. (pair_none p q queues).0;
      entries = λ p. (pair_none p q queues).1 ∙ sym (append-nil (queue_state p queues).entries);
    }

count_adds : (queues : Queues) (count : ℕ) → Adds queues (record queues { control_overruns = count }) (λ p. [])
count_adds queues count = record { taken = taken; entries = λ p. entries_same p ∙ sym (append-nil (queue_state p queues).entries) }
  where
    taken : (p : Queue) → (queue_state p (record queues { control_overruns = count })).taken ≡ (queue_state p queues).taken
    taken One = refl
    taken Two = refl
    taken Three = refl

    entries_same : (p : Queue) → (queue_state p (record queues { control_overruns = count })).entries ≡ (queue_state p queues).entries
    entries_same One = refl
    entries_same Two = refl
    entries_same Three = refl

push_adds : (on full : Bool) (to : Queue) (entry : Entry) (m : State) → is_full (queue_state to m.queues) ≡ full →
    Adds m.queues (push_if on to entry m).queues (λ q. held_as (answer_if on (push_answer to m.queues)) (pushed_by (Push to entry) q))
push_adds false full to entry m is = adds_none m.queues
push_adds true full to entry m is =
    subst (λ (b : Bool). Adds m.queues (if b then with_queue_state to (overrun (queue_state to m.queues)) m.queues
    else with_queue_state to (entered entry (queue_state to m.queues)) m.queues)
    (λ q. held_as (if b then Overrun else Held) (pushed_by (Push to entry) q))) (sym is) (by_full full)
  where
    by_full : (b : Bool) → Adds m.queues (if b then with_queue_state to (overrun (queue_state to m.queues)) m.queues
        else with_queue_state to (entered entry (queue_state to m.queues)) m.queues)
        (λ q. held_as (if b then Overrun else Held) (pushed_by (Push to entry) q))
    by_full true = overrun_adds to m.queues
    by_full false = adds_to to entry m.queues

control_adds : (on full : Bool) (code : Code) (m : State) → some_full m.queues ≡ full →
    Adds m.queues (push_control_if on code m).queues (λ q. held_as (answer_if on (control_answer m.queues)) (pushed_by (Control code) q))
control_adds false full code m is = adds_none m.queues
control_adds true full code m is =
    subst (λ (b : Bool). Adds m.queues
    (if b then record m.queues { control_overruns = more m.queues.control_overruns 1 } else all_entered (control_entry code) m.queues)
    (λ q. held_as (if b then Overrun else Held) (pushed_by (Control code) q))) (sym is) (by_full full)
  where
    by_full : (b : Bool) → Adds m.queues
        (if b then record m.queues { control_overruns = more m.queues.control_overruns 1 } else all_entered (control_entry code) m.queues)
        (λ q. held_as (if b then Overrun else Held) (pushed_by (Control code) q))
    by_full true = count_adds m.queues (more m.queues.control_overruns 1)
    by_full false = adds_all code m.queues

-- ---- a step

record Steps (entries later : List Entry) (q : Queue) (place : ℕ) (m : State) (s : Step) : Type 0 where
  order : OrderedTo entries place (queue_state q m.queues).taken (step_takings q place m s) (place + left q m (step s m))
      (queue_state q (step s m).queues).taken
  stands : drop (place + left q m (step s m)) entries ≡ (queue_state q (step s m).queues).entries ++ later

adds_steps : (entries later new : List Entry) (q : Queue) (place : ℕ) (h after : QueueState) →
    drop place entries ≡ h.entries ++ (new ++ later) → after.taken ≡ h.taken → after.entries ≡ h.entries ++ new →
    OrderedTo entries place h.taken [] (place + (length h.entries - length after.entries)) after.taken
    × (drop (place + (length h.entries - length after.entries)) entries ≡ after.entries ++ later)
adds_steps entries later new q place h after stands taken longer =
    let long : length after.entries ≡ length h.entries + length new = ap length longer ∙ length-append h.entries new in
    let none : place + (length h.entries - length after.entries) ≡ place = omega arith in (
      (omega arith, λ same. omega arith),
      ap (λ (n : ℕ). drop n entries) none ∙ stands ∙ sym (append_assoc h.entries new later)
          ∙ ap (λ (es : List Entry). es ++ later) (sym longer),
    )

module _ (entries later : List Entry) (q : Queue) (place : ℕ) (m : State) (orderly : IsOrderly m) where
  turn_steps : drop place entries ≡ (queue_state q m.queues).entries ++ later → Steps entries later q place m Turn
  turn_steps stands =
      let s = turn-Shrunk q m (IsQueue-queue_state q m.queues orderly.queues) in
      let within : left q m (turn m) ≤ length (queue_state q m.queues).entries = omega arith in
      record {
        order = turn_taken entries later q place m orderly stands;
        stands =
            sym (drop-drop (left q m (turn m)) place entries) ∙ ap (drop (left q m (turn m))) stands
            ∙ drop-append-le (left q m (turn m)) (queue_state q m.queues).entries later within
            ∙ ap (λ (es : List Entry). es ++ later) (sym (turn-drops q m));
      }

  push_steps : (to : Queue) (entry : Entry) → drop place entries
      ≡ (queue_state q m.queues).entries ++ (entering q m (Push to entry) ++ later) → Steps entries later q place m (Push to entry)
  push_steps to entry stands =
      let adds = push_adds m.fifo_on (is_full (queue_state to m.queues)) to entry m refl in
      let both =
      adds_steps entries later (entering q m (Push to entry)) q place (queue_state q m.queues)
      (queue_state q (step (Push to entry) m).queues) stands (adds.taken q) (adds.entries q) in
      record { order = both.0; stands = both.1 }

  control_steps : (code : Code) → drop place entries ≡ (queue_state q m.queues).entries ++ (entering q m (Control code) ++ later) →
      Steps entries later q place m (Control code)
  control_steps code stands =
      let adds = control_adds m.fifo_on (some_full m.queues) code m refl in
      let both =
      adds_steps entries later (entering q m (Control code)) q place (queue_state q m.queues)
      (queue_state q (step (Control code) m).queues) stands (adds.taken q) (adds.entries q) in
      record { order = both.0; stands = both.1 }

  abbrev HostSteps : QueueState → Type 0
  HostSteps after =
      OrderedTo entries place (queue_state q m.queues).taken []
      (place + (length (queue_state q m.queues).entries - length after.entries)) after.taken
      × (drop (place + (length (queue_state q m.queues).entries - length after.entries)) entries ≡ after.entries ++ later)

  same_steps : drop place entries ≡ (queue_state q m.queues).entries ++ later → HostSteps (queue_state q m.queues)
  same_steps stands =
      adds_steps entries later [] q place (queue_state q m.queues) (queue_state q m.queues) stands refl
      (sym (append-nil (queue_state q m.queues).entries))

  emptied_steps : drop place entries ≡ (queue_state q m.queues).entries ++ later → HostSteps (emptied (queue_state q m.queues))
  emptied_steps stands =
      let h = queue_state q m.queues in
      let none = empty_none h (IsQueue-queue_state q m.queues orderly.queues) in (
        (omega arith, λ same. let taken = none (omega arith) in omega arith),
        sym (drop-drop (length h.entries - 0) place entries) ∙ ap (drop (length h.entries - 0)) stands
            ∙ drop-append-le (length h.entries - 0) h.entries later (omega arith)
            ∙ ap (λ (es : List Entry). es ++ later) (drop_all (length h.entries - 0) h.entries (omega arith)),
      )

  enabled_steps : (fifo risc on : Bool) → drop place entries ≡ (queue_state q m.queues).entries ++ later →
      HostSteps (queue_state q (with_risc risc on (with_fifo fifo m)).queues)
  enabled_steps true true true stands = same_steps stands
  enabled_steps true true false stands = same_steps stands
  enabled_steps true false on stands = same_steps stands
  enabled_steps false true true stands = subst HostSteps (sym (cleared_queue q m.queues)) (emptied_steps stands)
  enabled_steps false true false stands = subst HostSteps (sym (cleared_queue q m.queues)) (emptied_steps stands)
  enabled_steps false false on stands = subst HostSteps (sym (cleared_queue q m.queues)) (emptied_steps stands)

  host_steps : (write : HostWrite) → drop place entries ≡ (queue_state q m.queues).entries ++ later →
      HostSteps (queue_state q (host write m).queues)
  host_steps (Ack mask) stands = same_steps stands
  host_steps (Trigger number) stands = same_steps stands
  host_steps (Enable fifo risc) stands = enabled_steps fifo risc m.risc_on stands

  step_steps : (s : Step) → drop place entries ≡ (queue_state q m.queues).entries ++ (entering q m s ++ later) →
      Steps entries later q place m s
  step_steps Turn stands = turn_steps stands
  step_steps (Push to entry) stands = push_steps to entry stands
  step_steps (Control code) stands = control_steps code stands
  step_steps (Host write) stands = let both = host_steps write stands in record { order = both.0; stands = both.1 }

in_order : (entries : List Entry) (q : Queue) (steps : List Step) (m : State) (place : ℕ) → IsOrderly m → All IsStep steps →
    drop place entries ≡ stream q m steps →
    AreInOrder (entry_at entries) place (queue_state q m.queues).taken (takings q place m steps)
in_order entries q [] m place orderly are_steps stands = tt
in_order entries q (s ∷ steps) m place orderly are_steps stands =
    let one = step_steps entries (entering_over q (step s m) steps) q place m orderly s stands in
    ordered_then entries place (queue_state q m.queues).taken (step_takings q place m s) (place + left q m (step s m))
    (queue_state q (step s m).queues).taken
    (takings q (place + left q m (step s m)) (step s m) steps) one.order
    (in_order entries q steps (step s m) (place + left q m (step s m)) (IsOrderly-step s m (All-head IsStep s steps are_steps) orderly)
    (All-tail IsStep s steps are_steps) one.stands)

pub takes_in_order : TakesInOrder
takes_in_order q m steps orderly are_steps =
    from_weaker (stream q m steps) 0 0 0 (queue_state q m.queues).taken (takings q 0 m steps) (omega arith, λ same. omega arith)
    (in_order (stream q m steps) q steps m 0 orderly are_steps refl)

-- so are those of some instructions
pub some_in_order : (q : Queue) (m : State) (steps : List Step) (addresses : List ℕ) → IsOrderly m → All IsStep steps →
    AreInOrder (entry_at (stream q m steps)) 0 0 (takings_at addresses q m steps)
some_in_order q m steps addresses orderly are_steps =
    filtered (stream q m steps) (λ t. is_among addresses t.at) (takings q 0 m steps) 0 0 (takes_in_order q m steps orderly are_steps)

pub lines_are_whole : LinesAreWhole
lines_are_whole q m steps addresses orderly are_steps =
    let order = some_in_order q m steps addresses orderly are_steps in (
      line-whole (entry_at (stream q m steps)) (takings_at addresses q m steps) order,
      whole-line (entry_at (stream q m steps)) (takings_at addresses q m steps) order,
    )
