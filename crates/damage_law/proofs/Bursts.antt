-- A burst to a queue keeps the mark of the queue true.
use Rattle.std.proofs.Common.{◌≡◌, ℕ, zero, suc, ◌+◌, ◌<◌, ◌≤◌, ◌⊎◌, inl, inr, Bool, true, false, not, ◌&&◌, ◌||◌, ◌==◌, List, [], ◌∷◌}
use Rattle.std.proofs.Common.{◌++◌, append_assoc, drop, length, Option, Some, None}
use Rattle.std.proofs.Common.{if◌then◌else◌, refl, sym, ap, ap₂, ◌∙◌, subst, arith}
use Rattle.std.specs.List.{list_any}
use Rattle.std.proofs.Math.Bool.{or-false}
use Rattle.std.proofs.lemmas.Bool.{cond-true, eqb-true, eqb-false, not-false, or_from, or_parts}
use Rattle.std.proofs.lemmas.List.{append-nil}
use Rattle.risc_word.specs.declared.Instr.{Instr}
use Rattle.sync_status.specs.declared.StatusKind.{StatusKind}
use Rattle.sync_status.specs.declared.StatusKind.TheVariants.{Control, Start, Pixels, End, Reserved}
use Rattle.sync_status.specs.declared.Verdict.{Verdict}
use Rattle.sync_status.specs.declared.Verdict.TheVariants.{Take, Discard, Broken, Missing}
use Rattle.sync_status.specs.Statuses.{is_end, kind_of, taken_of, valid_bytes, verdict_on}
use Rattle.fifo_model.specs.declared.Entry.{Entry}
use Rattle.fifo_model.specs.declared.Queue.{Queue}
use Rattle.fifo_model.specs.declared.Queue.TheVariants.{One, Two, Three}
use Rattle.fifo_model.specs.Queues.{QueueState, Queues, first, front, queue_state, removed, taken_from, with_queue_state}
use Rattle.fifo_model.proofs.QueueStates.{queue_state-with_queue_state}
use Rattle.picture_model.proofs.Each.{Each, each_append}
use Rattle.machine_model.specs.declared.Demand.{Demand}
use Rattle.machine_model.specs.declared.Demands.{Demands}
use Rattle.machine_model.specs.declared.Job.{Job}
use Rattle.machine_model.specs.declared.Job.TheVariants.{Idle, Running}
use Rattle.machine_model.specs.declared.Skipping.TheVariants.{Nothing, ToEol}
use Rattle.risc_word.specs.Parts.{instr_ends}
use Rattle.machine_model.specs.States.{State}
use Rattle.machine_model.specs.Turns.{apply, apply_in, burst, demand_less, demand_on, ended, is_cut_short, judged, served, took, verdict_at}
use Rattle.machine_model.specs.Turns.{with_demand}
use Rattle.machine_model.specs.Seen.{Application, application, application_in, applications, discards_reserved, discards_reserved_by, ends}
use Rattle.machine_model.specs.Seen.{ends_by, gives_up, gives_up_by, served_application, takes, takes_by, verdict_of}
use Rattle.machine_model.proofs.Fronts.{Takes, take-Takes, valid-some}
use Rattle.field_law.specs.Arrivals.{is_queue}
use Rattle.damage_model.specs.Takings.{Taking, burst_takings, left, taking_by, takings_of}
use Rattle.damage_model.proofs.ArrivedTakes.{demand_apart, demand_there}
use Rattle.damage_model.proofs.Orders.{taken_front}
use Rattle.damage_map.specs.declared.mark.LineMark.{LineMark}
use Rattle.damage_map.specs.declared.mark.LineMark.TheVariants.{Fresh, Within, Done, Spoilt}
use Rattle.damage_map.specs.Tracks.{left_mark, met_mark, taken_mark}
use Rattle.damage_law.proofs.LineTold.{Tells, has_lanes, held_after, left-tells, marks_follow, place_after, taken-tells, taking}

-- ---- what a running instruction asks of a queue, by the queue's mark: a line moves the queue or not, and the first
-- instruction of it that moves the queue awaits the line's start
pub record Needs (moved : Bool) (mark : LineMark) (d : Demand) : Type 0 where
  pub unmoved : moved ≡ false → d.rest ≡ 0
  pub first : d.needs_sol ≡ true → (mark ≡ Fresh) × (0 < d.rest)
  pub later : moved ≡ true → d.needs_sol ≡ false → mark ≡ Fresh → ⊥

-- what a turn's applications did
pub record Flags : Type 0 where
  pub took : Bool
  pub left : Bool
  pub ended : Bool
  pub gave : Bool

abbrev pub nothing : Flags
nothing = record { took = false; left = false; ended = false; gave = false }

abbrev pub then_flags : Flags → Flags → Flags
then_flags f g = record { took = f.took || g.took; left = f.left || g.left; ended = f.ended || g.ended; gave = f.gave || g.gave }

abbrev pub flags_by : Verdict → Application → Flags
flags_by v a = record { took = takes_by v; left = discards_reserved_by v a; ended = ends_by v a; gave = gives_up_by v a }

abbrev pub flags_of : List Application → Flags
flags_of made =
    record { took = list_any takes made; left = list_any discards_reserved made; ended = list_any ends made; gave = list_any gives_up made }

abbrev pub mark_by : Flags → LineMark → LineMark
mark_by f mark = met_mark f.took f.left f.ended mark

then_nothing : (f : Flags) → then_flags f nothing ≡ f
then_nothing f = simp or-false

-- ---- one queue of three

other_queue : (p q : Queue) (held : QueueState) (queues : Queues) → is_queue p q ≡ false →
    queue_state p (with_queue_state q held queues) ≡ queue_state p queues
other_queue One One held queues apart = cc
other_queue One Two held queues apart = refl
other_queue One Three held queues apart = refl
other_queue Two One held queues apart = refl
other_queue Two Two held queues apart = cc
other_queue Two Three held queues apart = refl
other_queue Three One held queues apart = refl
other_queue Three Two held queues apart = refl
other_queue Three Three held queues apart = cc

one_less : (entries : List Entry) (entry : Entry) → first entries ≡ Some entry → suc (length (drop 1 entries)) ≡ length entries
one_less [] entry there = cc
one_less (e ∷ rest) entry there = refl

-- ---- what follows from a verdict to take

lanes_moving : (kind : StatusKind) (x rest count : ℕ) → Takes kind x rest count → has_lanes kind ≡ true
lanes_moving Start x rest count h = refl
lanes_moving Pixels x rest count h = refl
lanes_moving (End valid) x rest count h = refl
lanes_moving (Control code) x rest count h = none h.moving
  where
    none : (Control code ≡ Start) ⊎ ((Control code ≡ Pixels) ⊎ ((valid : ℕ) × (Control code ≡ End valid))) → has_lanes (Control code) ≡ true
    none (inl e) = cc
    none (inr (inl e)) = cc
    none (inr (inr e)) = cc
lanes_moving Reserved x rest count h = none h.moving
  where
    none : (Reserved ≡ Start) ⊎ ((Reserved ≡ Pixels) ⊎ ((valid : ℕ) × (Reserved ≡ End valid))) → has_lanes Reserved ≡ true
    none (inl e) = cc
    none (inr (inl e)) = cc
    none (inr (inr e)) = cc

at_start : (begins : Bool) (x rest count : ℕ) → (x == 0) ≡ begins → (if begins then taken_of 4 x rest else Discard) ≡ Take count → x ≡ 0
at_start true x rest count is h = eqb-true x 0 is
at_start false x rest count is h = cc

start_taken : (kind : StatusKind) (x rest count : ℕ) → verdict_on kind true x rest ≡ Take count → (x ≡ 0) × (kind ≡ Start)
start_taken (Control code) x rest count h = cc
start_taken Start x rest count h = (at_start (x == 0) x rest count refl h, refl)
start_taken Pixels x rest count h = cc
start_taken (End valid) x rest count h = cc
start_taken Reserved x rest count h = cc

missing_at : (begins : Bool) (x rest count : ℕ) → begins ≡ true → (if begins then Missing else taken_of 4 x rest) ≡ Take count → ⊥
missing_at true x rest count is h = cc
missing_at false x rest count is h = cc

not_started : (kind : StatusKind) (x rest count : ℕ) → verdict_on kind false x rest ≡ Take count → x ≡ 0 → kind ≡ Start → ⊥
not_started Start x rest count h none start = missing_at (x == 0) x rest count (ap (λ (n : ℕ). n == 0) none) h
not_started (Control code) x rest count h none start = cc
not_started Pixels x rest count h none start = cc
not_started (End valid) x rest count h none start = cc
not_started Reserved x rest count h none start = cc

never_fresh : (ends_there : Bool) (mark : LineMark) → taken_mark ends_there mark ≡ Fresh → ⊥
never_fresh true Fresh is = cc
never_fresh true Within is = cc
never_fresh true Done is = cc
never_fresh true Spoilt is = cc
never_fresh false Fresh is = cc
never_fresh false Within is = cc
never_fresh false Done is = cc
never_fresh false Spoilt is = cc

still_fresh : (mark : LineMark) → left_mark mark ≡ Fresh → mark ≡ Fresh
still_fresh Fresh is = refl
still_fresh Within is = cc
still_fresh Done is = cc
still_fresh Spoilt is = cc

eol_by : (eol : Bool) → (if eol then Nothing else ToEol) ≡ Nothing → eol ≡ true
eol_by true is = refl
eol_by false is = cc

not_cut : (is_last whole : Bool) (rest count : ℕ) → (is_last && whole) ≡ true → (is_last && whole && not (rest == count)) ≡ false →
    rest ≡ count
not_cut is_last whole rest count last uncut =
    let sure : (true && not (rest == count)) ≡ false = ap (λ (b : Bool). b && not (rest == count)) (sym last) ∙ uncut in
    eqb-true rest count (not-false (rest == count) sure)

module _ (q : Queue) (moved : Bool) (instr : Instr) (at : ℕ) where
  -- where the machine is behind an application
  abbrev pub RunsOn : Demands → LineMark → Bool → State → Type 0
  RunsOn ds mark true after = (after.job ≡ Idle) × (after.skipping ≡ Nothing → (instr_ends instr).eol ≡ true)
  RunsOn ds mark false after =
      (asks : Demands) × (after.job ≡ Running instr asks) × Needs moved mark (demand_on q asks)
      × ((p : Queue) → is_queue p q ≡ false → demand_on p asks ≡ demand_on p ds)

  pub record Served (m after : State) (ds : Demands) (place : ℕ) (ts new : List Taking) (mark : LineMark) (f : Flags) : Type 0 where
    pub behind : ℕ
    pub forward : place ≤ behind
    pub counts : behind + length (queue_state q after.queues).entries ≡ place + length (queue_state q m.queues).entries
    pub tells : Tells behind (queue_state q after.queues) (ts ++ new) (mark_by f mark)
    pub others : (p : Queue) → is_queue p q ≡ false → queue_state p after.queues ≡ queue_state p m.queues
    pub pc : after.pc ≡ m.pc
    pub ats : Each (λ t. t.at ≡ at) new
    pub job : RunsOn ds (mark_by f mark) f.gave after

  -- nothing is done
  stays : (m : State) (ds : Demands) (place : ℕ) (ts : List Taking) (mark : LineMark) → m.job ≡ Running instr ds →
      Tells place (queue_state q m.queues) ts mark →
      Needs moved mark (demand_on q ds) → Served m m ds place ts [] mark nothing
  stays m ds place ts mark j tells needs =
      record {
        behind = place;
        forward = omega arith;
        counts = refl;
        tells = subst (λ (all : List Taking). Tells place (queue_state q m.queues) all mark) (sym (append-nil ts)) tells;
        others = λ p apart. refl;
        pc = refl;
        ats = tt;
        job = (ds, j, needs, λ p apart. refl);
      }

  -- facts of one application beside what it did
  pub record OneApplied (m after : State) (ds : Demands) (place : ℕ) (ts new : List Taking) (mark : LineMark) (f : Flags) : Type 0 where
    pub served : Served m after ds place ts new mark f
    pub either : f.took ≡ true → f.left ≡ false
    pub taken : f.took ≡ false → f.ended ≡ false
    pub within : f.left ≡ true → mark ≡ Fresh → ⊥
    pub spent : f.ended ≡ true → f.gave ≡ false → (asks : Demands) × (after.job ≡ Running instr asks) × ((demand_on q asks).rest ≡ 0)

  module _ (m : State) (ds : Demands) (entry : Entry) (place : ℕ) (ts : List Taking) (mark : LineMark) (j : m.job ≡ Running instr ds)
      (there : front (queue_state q m.queues) ≡ Some entry) (asks_some : ((demand_on q ds).rest == 0) ≡ false)
      (tells : Tells place (queue_state q m.queues) ts mark) (needs : Needs moved mark (demand_on q ds)) where
    abbrev pub made : Application
    made = record { entry = entry; taken = (queue_state q m.queues).taken; demand = demand_on q ds }

    abbrev One_by : Verdict → Type 0
    One_by v = OneApplied m (judged v q instr ds entry m) ds place ts (taking_by v at place made) mark (flags_by v made)

    is_moved : (b : Bool) → moved ≡ b → moved ≡ true
    is_moved true is = is
    is_moved false is = let none = needs.unmoved is in absurd (eqb-false (demand_on q ds).rest 0 asks_some none)

    still_tells : Tells place (queue_state q m.queues) (ts ++ []) mark
    still_tells = subst (λ (all : List Taking). Tells place (queue_state q m.queues) all mark) (sym (append-nil ts)) tells

    broken : One_by Broken
    broken =
        record {
          served = record {
            behind = place;
            forward = omega arith;
            counts = refl;
            tells = still_tells;
            others = λ p apart. refl;
            pc = refl;
            ats = tt;
            job = (refl, λ same. cc);
          };
          either = λ same. refl;
          taken = λ same. refl;
          within = λ same. cc;
          spent = λ same. cc;
        }

    missing : One_by Missing
    missing =
        record {
          served = record {
            behind = place;
            forward = omega arith;
            counts = refl;
            tells = still_tells;
            others = λ p apart. refl;
            pc = refl;
            ats = tt;
            job = (refl, λ same. eol_by (instr_ends instr).eol same);
          };
          either = λ same. refl;
          taken = λ same. refl;
          within = λ same. cc;
          spent = λ same. cc;
        }

    -- a front is discarded
    discards : (awaits : Bool) → (demand_on q ds).needs_sol ≡ awaits →
        OneApplied m (judged Discard q instr ds entry m) ds place ts [] mark
        (record { took = false; left = not awaits; ended = false; gave = false })
    discards awaits is =
        let one = one_less (queue_state q m.queues).entries entry there in
        let now = queue_state-with_queue_state q (removed (queue_state q m.queues)) m.queues in
        let count = ap (λ (held : QueueState). length held.entries) now in
        record {
          served = record {
            behind = place + 1;
            forward = omega arith;
            counts = omega arith;
            tells =
                subst (λ (held : QueueState). Tells (place + 1) held (ts ++ []) (met_mark false (not awaits) false mark)) (sym now)
                (subst (λ (all : List Taking). Tells (place + 1) (removed (queue_state q m.queues)) all
                (met_mark false (not awaits) false mark)) (sym (append-nil ts)) (told awaits is));
            others = λ p apart. other_queue p q (removed (queue_state q m.queues)) m.queues apart;
            pc = refl;
            ats = tt;
            job = (ds, j, needed awaits is, λ p apart. refl);
          };
          either = λ same. cc;
          taken = λ same. refl;
          within = within awaits is;
          spent = λ same. cc;
        }
      where
        told : (awaits : Bool) → (demand_on q ds).needs_sol ≡ awaits →
            Tells (place + 1) (removed (queue_state q m.queues)) ts (met_mark false (not awaits) false mark)
        told true is =
            let fresh = (needs.first is).0 in
            let none = subst (λ (k : LineMark). Tells place (queue_state q m.queues) ts k) fresh tells in
            subst (λ (k : LineMark). Tells (place + 1) (removed (queue_state q m.queues)) ts k) (sym fresh) none
        told false is = left-tells place (place + 1) (queue_state q m.queues) (removed (queue_state q m.queues)) ts mark (omega arith) tells

        needed : (awaits : Bool) → (demand_on q ds).needs_sol ≡ awaits →
            Needs moved (met_mark false (not awaits) false mark) (demand_on q ds)
        needed true is = needs
        needed false is =
            record {
              unmoved = needs.unmoved;
              first = λ sol. cc;
              later = λ does sol same. needs.later does sol (still_fresh mark same);
            }

        within : (awaits : Bool) → (demand_on q ds).needs_sol ≡ awaits → not awaits ≡ true → mark ≡ Fresh → ⊥
        within true is reserved same = cc
        within false is reserved same = needs.later (is_moved moved refl) is same

    -- bytes of a front are taken
    module _ (count : ℕ) (v : verdict_at q ds entry m ≡ Take count) where
      abbrev held : QueueState
      held = queue_state q m.queues

      abbrev whole : Bool
      whole = held.taken + count == valid_bytes entry.status

      moving : Takes (kind_of entry.status) held.taken (demand_on q ds).rest count
      moving = take-Takes (kind_of entry.status) (demand_on q ds).needs_sol held.taken (demand_on q ds).rest count v

      some : 0 < held.taken + count
      some =
          let least = moving.least in
          let valid = valid-some entry.status held.taken (demand_on q ds).rest count moving in
          let rest : (demand_on q ds).rest ≡ 0 → ⊥ = eqb-false (demand_on q ds).rest 0 asks_some in
          omega arith

      verdict_by : (awaits : Bool) → (demand_on q ds).needs_sol ≡ awaits →
          verdict_on (kind_of entry.status) awaits held.taken (demand_on q ds).rest ≡ Take count
      verdict_by awaits is = ap (λ (b : Bool). verdict_on (kind_of entry.status) b held.taken (demand_on q ds).rest) (sym is) ∙ v

      fresh_starts : (awaits : Bool) → (demand_on q ds).needs_sol ≡ awaits → mark ≡ Fresh →
          (held.taken ≡ 0) × (kind_of entry.status ≡ Start)
      fresh_starts true is same = start_taken (kind_of entry.status) held.taken (demand_on q ds).rest count (verdict_by true is)
      fresh_starts false is same = absurd (needs.later (is_moved moved refl) is same)

      goes_on_within : (awaits : Bool) → (demand_on q ds).needs_sol ≡ awaits → (mark ≡ Fresh → ⊥) → held.taken ≡ 0 →
          kind_of entry.status ≡ Start → ⊥
      goes_on_within true is not_fresh = absurd (not_fresh (needs.first is).0)
      goes_on_within false is not_fresh = not_started (kind_of entry.status) held.taken (demand_on q ds).rest count (verdict_by false is)

      now_held : queue_state q (took q count instr ds entry m).queues ≡ held_after at place held entry count there some whole
      now_held = queue_state-with_queue_state q (taken_from count held) m.queues ∙ taken_front count held held.entries entry there

      told : Tells (place_after at place held entry count there some whole) (held_after at place held entry count there some whole)
          (ts ++ taking at place held entry count there some ∷ []) (taken_mark (is_end (kind_of entry.status) && whole) mark)
      told =
          taken-tells at place held entry count there some whole ts mark refl
          (lanes_moving (kind_of entry.status) held.taken (demand_on q ds).rest count moving)
          (fresh_starts (demand_on q ds).needs_sol refl) (goes_on_within (demand_on q ds).needs_sol refl) tells

      counted_by : (w : Bool) → (if w then place + 1 else place) + length
          (if w then removed held else record held { taken = held.taken + count }).entries ≡ place + length held.entries
      counted_by true = let one = one_less held.entries entry there in omega arith
      counted_by false = refl

      forward_by : (w : Bool) → place ≤ (if w then place + 1 else place)
      forward_by true = omega arith
      forward_by false = omega arith

      takes_by_cut : (cut : Bool) → is_cut_short entry held.taken count (demand_on q ds).rest ≡ cut →
          OneApplied m (ended cut instr (took q count instr ds entry m)) ds place ts (taking_by (Take count) at place made) mark
          (record { took = true; left = false; ended = is_end (kind_of entry.status) && whole; gave = cut })
      takes_by_cut cut is =
          record {
            served = record {
              behind = if whole then place + 1 else place;
              forward = forward_by whole;
              counts =
                  ap (λ (h : QueueState). (if whole then place + 1 else place) + length h.entries) (queues_by cut ∙ now_held)
                  ∙ counted_by whole;
              tells =
                  subst (λ (h : QueueState). Tells (if whole then place + 1 else place) h (ts ++ taking_by (Take count) at place made)
                  (taken_mark (is_end (kind_of entry.status) && whole) mark))
                  (sym (queues_by cut ∙ now_held)) told;
              others = λ p apart. others_by cut p ∙ other_queue p q (taken_from count held) m.queues apart;
              pc = pc_by cut;
              ats = (refl, tt);
              job = job_by cut;
            };
            either = λ same. refl;
            taken = λ same. cc;
            within = λ same. cc;
            spent = spent_by cut is;
          }
        where
          asks : Demands
          asks = with_demand q (demand_less count (demand_on q ds)) ds

          queues_by : (cut : Bool) →
              queue_state q (ended cut instr (took q count instr ds entry m)).queues ≡ queue_state q (took q count instr ds entry m).queues
          queues_by true = refl
          queues_by false = refl

          others_by : (cut : Bool) (p : Queue) →
              queue_state p (ended cut instr (took q count instr ds entry m)).queues ≡ queue_state p (took q count instr ds entry m).queues
          others_by true p = refl
          others_by false p = refl

          pc_by : (cut : Bool) → (ended cut instr (took q count instr ds entry m)).pc ≡ m.pc
          pc_by true = refl
          pc_by false = refl

          less : Needs moved (taken_mark (is_end (kind_of entry.status) && whole) mark) (demand_less count (demand_on q ds))
          less =
              record {
                unmoved = λ unmoved. absurd (eqb-false (demand_on q ds).rest 0 asks_some (needs.unmoved unmoved));
                first = λ sol. cc;
                later = λ does sol same. never_fresh (is_end (kind_of entry.status) && whole) mark same;
              }

          job_by : (cut : Bool) →
              RunsOn ds (taken_mark (is_end (kind_of entry.status) && whole) mark) cut (ended cut instr (took q count instr ds entry m))
          job_by true = (refl, λ same. eol_by (instr_ends instr).eol same)
          job_by false = (
            with_demand q (demand_less count (demand_on q ds)) ds,
            refl,
            subst (λ (d : Demand). Needs moved (taken_mark (is_end (kind_of entry.status) && whole) mark) d)
                (sym (demand_there q (demand_less count (demand_on q ds)) ds)) less,
            λ p apart. demand_apart p q (demand_less count (demand_on q ds)) ds apart,
          )

          spent_by : (cut : Bool) → is_cut_short entry held.taken count (demand_on q ds).rest ≡ cut →
              (is_end (kind_of entry.status) && whole) ≡ true → cut ≡ false →
              (left_asks : Demands) × ((ended cut instr (took q count instr ds entry m)).job ≡ Running instr left_asks)
              × ((demand_on q left_asks).rest ≡ 0)
          spent_by true is last uncut = cc
          spent_by false is last uncut =
              let all : (demand_on q ds).rest ≡ count =
              not_cut (is_end (kind_of entry.status)) whole (demand_on q ds).rest count last is in (
                with_demand q (demand_less count (demand_on q ds)) ds,
                refl,
                ap (λ (d : Demand). d.rest) (demand_there q (demand_less count (demand_on q ds)) ds) ∙ (omega arith),
              )

      takes_some : One_by (Take count)
      takes_some = takes_by_cut (is_cut_short entry held.taken count (demand_on q ds).rest) refl

    pub one : (v : Verdict) → verdict_at q ds entry m ≡ v → One_by v
    one Broken is = broken
    one Missing is = missing
    one Discard is = discards (demand_on q ds).needs_sol refl
    one (Take count) is = takes_some count is

  -- ---- nothing more is applied

  pub stopped : (count : ℕ) (m : State) → apply q m ≡ None → application q m ≡ [] →
      (burst count q m ≡ m) × (applications count q m ≡ []) × ((place : ℕ) → burst_takings count q at place m ≡ [])
  stopped zero m none unmade = (refl, refl, λ place. refl)
  stopped (suc count) m none unmade = (
    ap (λ (next : Option State). elim next as (λ _. State) [ None ↦ m | Some after ↦ burst count q after ]) none,
    ap₂ (λ (a : List Application) (next : Option State).
        a ++ (elim next as (λ _. List Application) [ None ↦ [] | Some after ↦ applications count q after ])) unmade none,
    λ place. ap₂ (λ (a : List Application) (next : Option State).
        takings_of at place a ++ (elim next as (λ _. List Taking) [
          | None ↦ []
          | Some after ↦ burst_takings count q at (place + left q m after) after
        ])) unmade none,
  )

  idle_stops : (m : State) → m.job ≡ Idle → (apply q m ≡ None) × (application q m ≡ [])
  idle_stops m j = (ap (λ (job : Job). apply_in job q m) j, ap (λ (job : Job). application_in job q m) j)

  spent_front : (top : Option Entry) (ds : Demands) (m : State) (none : Bool) → ((demand_on q ds).rest == 0) ≡ none → none ≡ true →
      (served top q instr ds m ≡ None) × (served_application top q ds m ≡ [])
  spent_front None ds m none is true_is = (refl, refl)
  spent_front (Some entry) ds m none is true_is =
      (cond-true ((demand_on q ds).rest == 0) _ _ (is ∙ true_is), cond-true ((demand_on q ds).rest == 0) _ _ (is ∙ true_is))

  spent_stops : (ds : Demands) (m : State) → m.job ≡ Running instr ds → (demand_on q ds).rest ≡ 0 →
      (apply q m ≡ None) × (application q m ≡ [])
  spent_stops ds m j none =
      let both = spent_front (front (queue_state q m.queues)) ds m ((demand_on q ds).rest == 0) refl (ap (λ (n : ℕ). n == 0) none) in
      (ap (λ (job : Job). apply_in job q m) j ∙ both.0, ap (λ (job : Job). application_in job q m) j ∙ both.1)

  -- ---- the burst

  ends_take : (v : Verdict) (a : Application) → takes_by v ≡ false → ends_by v a ≡ false
  ends_take (Take count) a none = cc
  ends_take Broken a none = refl
  ends_take Missing a none = refl
  ends_take Discard a none = refl

  none_ends : (made : List Application) → list_any takes made ≡ false → list_any ends made ≡ false
  none_ends [] none = refl
  none_ends (a ∷ rest) none =
      let parts = or_parts (takes a) (list_any takes rest) none in
      or_from (ends a) (list_any ends rest) (ends_take (verdict_of a) a parts.0) (none_ends rest parts.1)

  placed : (m after : State) (ds : Demands) (place : ℕ) (ts new : List Taking) (mark : LineMark) (f : Flags)
      (s : Served m after ds place ts new mark f) → s.behind ≡ place + left q m after
  placed m after ds place ts new mark f s = let c = s.counts in let w = s.forward in omega arith

  -- an application, and then those of the rest of the burst
  joined : (m mid after : State) (ds : Demands) (place : ℕ) (ts new more : List Taking) (mark : LineMark) (f : Flags) (g : Flags)
      (first_one : OneApplied m mid ds place ts new mark f) →
      (asks : Demands) → ((p : Queue) → is_queue p q ≡ false → demand_on p asks ≡ demand_on p ds) →
      Served mid after asks (place + left q m mid) (ts ++ new) more (mark_by f mark) g → (g.took ≡ false → g.ended ≡ false) →
      (f.ended ≡ true → g ≡ nothing) → f.gave ≡ false →
      Served m after ds place ts (new ++ more) mark (then_flags f g)
  joined m mid after ds place ts new more mark f g first_one asks alike rest none spent kept =
      let s = first_one.served in
      let c = s.counts in
      let c' = rest.counts in
      let w = s.forward in
      let w' = rest.forward in
      let both : mark_by g (mark_by f mark) ≡ mark_by (then_flags f g) mark =
      marks_follow f.took f.left f.ended g.took g.left g.ended mark first_one.either first_one.taken none
      (λ e. (ap (λ (x : Flags). x.took) (spent e), ap (λ (x : Flags). x.left) (spent e))) first_one.within in
      record {
        behind = rest.behind;
        forward = omega arith;
        counts = omega arith;
        tells =
            subst (λ (k : LineMark). Tells rest.behind (queue_state q after.queues) (ts ++ (new ++ more)) k) both
            (subst (λ (all : List Taking). Tells rest.behind (queue_state q after.queues) all (mark_by g (mark_by f mark)))
            (append_assoc ts new more) rest.tells);
        others = λ p apart. rest.others p apart ∙ s.others p apart;
        pc = rest.pc ∙ s.pc;
        ats = each_append (λ t. t.at ≡ at) new more s.ats rest.ats;
        job = rejoined g.gave refl (mark_by g (mark_by f mark)) (mark_by (then_flags f g) mark) both rest.job;
      }
    where
      rejoined : (gave : Bool) → g.gave ≡ gave → (k k' : LineMark) → k ≡ k' → RunsOn asks k g.gave after →
          RunsOn ds k' (f.gave || g.gave) after
      rejoined true is k k' same runs =
          subst (λ (b : Bool). RunsOn ds k' b after) (sym (ap₂ (λ (a b : Bool). a || b) kept is))
          (subst (λ (b : Bool). RunsOn asks k b after) is runs)
      rejoined false is k k' same runs =
          let on : RunsOn asks k false after = subst (λ (b : Bool). RunsOn asks k b after) is runs in
          subst (λ (b : Bool). RunsOn ds k' b after) (sym (ap₂ (λ (a b : Bool). a || b) kept is))
          (on.0, on.1, subst (λ (x : LineMark). Needs moved x (demand_on q on.0)) same on.2, λ p apart. on.3 p apart ∙ alike p apart)

  -- an application at which the instruction is given up is the last
  last_one : (m after end : State) (ds : Demands) (place : ℕ) (ts new more : List Taking) (mark : LineMark) (f : Flags)
      (rest : List Application) → Served m after ds place ts new mark f →
      end ≡ after → rest ≡ [] → more ≡ [] → Served m end ds place ts (new ++ more) mark (then_flags f (flags_of rest))
  last_one m after end ds place ts new more mark f rest s same none no_more =
      subst (λ (e : State). Served m e ds place ts (new ++ more) mark (then_flags f (flags_of rest))) (sym same)
      (subst (λ (g : Flags). Served m after ds place ts (new ++ more) mark g)
      (sym (ap (λ (made : List Application). then_flags f (flags_of made)) none ∙ then_nothing f))
      (subst (λ (all : List Taking). Served m after ds place ts all mark f)
      (sym (ap (λ (t : List Taking). new ++ t) no_more ∙ append-nil new)) s))

  abbrev BurstServed : ℕ → Type 0
  BurstServed count =
      (m : State) (ds : Demands) (place : ℕ) (ts : List Taking) (mark : LineMark) → m.job ≡ Running instr ds →
      Tells place (queue_state q m.queues) ts mark →
      Needs moved mark (demand_on q ds) →
      Served m (burst count q m) ds place ts (burst_takings count q at place m) mark (flags_of (applications count q m))

  module _ (count : ℕ) (later : BurstServed count) (m : State) (ds : Demands) (place : ℕ) (ts : List Taking) (mark : LineMark) where
    abbrev After : List Application → Option State → Type 0
    After made next =
        Served m (elim next as (λ _. State) [ None ↦ m | Some after ↦ burst count q after ]) ds place ts
        (takings_of at place made
        ++ (elim next as (λ _. List Taking) [ None ↦ [] | Some after ↦ burst_takings count q at (place + left q m after) after ])) mark
        (flags_of (made ++ (elim next as (λ _. List Application) [ None ↦ [] | Some after ↦ applications count q after ])))

    behind_one : (after : State) (application_made : Application) (new : List Taking) (f : Flags) (gave : Bool) → f.gave ≡ gave →
        OneApplied m after ds place ts new mark f →
        Served m (burst count q after) ds place ts (new ++ burst_takings count q at (place + left q m after) after) mark
        (then_flags f (flags_of (applications count q after)))
    behind_one after _ new f true is o =
        let idle : RunsOn ds (mark_by f mark) true after = subst (λ (b : Bool). RunsOn ds (mark_by f mark) b after) is o.served.job in
        let none = idle_stops after idle.0 in
        let stop = stopped count after none.0 none.1 in
        last_one m after (burst count q after) ds place ts new (burst_takings count q at (place + left q m after) after) mark f
        (applications count q after) o.served stop.0 stop.1
        (stop.2 (place + left q m after))
    behind_one after _ new f false is o =
        let runs : RunsOn ds (mark_by f mark) false after = subst (λ (b : Bool). RunsOn ds (mark_by f mark) b after) is o.served.job in
        joined m after (burst count q after) ds place ts new (burst_takings count q at (place + left q m after) after) mark f
        (flags_of (applications count q after)) o runs.0 runs.3
        (later after runs.0 (place + left q m after) (ts ++ new) (mark_by f mark) runs.1
        (subst (λ (p : ℕ). Tells p (queue_state q after.queues) (ts ++ new) (mark_by f mark))
        (placed m after ds place ts new mark f o.served) o.served.tells) runs.2)
        (none_ends (applications count q after))
        (λ ended_here.
        let spent = o.spent ended_here is in
        let none = spent_stops spent.0 after spent.1 spent.2 in
        ap flags_of (stopped count after none.0 none.1).1)
        is

    at_demand : (entry : Entry) (none : Bool) → m.job ≡ Running instr ds → front (queue_state q m.queues) ≡ Some entry →
        ((demand_on q ds).rest == 0) ≡ none →
        Tells place (queue_state q m.queues) ts mark → Needs moved mark (demand_on q ds) →
        After (if none then [] else record { entry = entry; taken = (queue_state q m.queues).taken; demand = demand_on q ds } ∷ [])
        (if none then None else Some (judged (verdict_at q ds entry m) q instr ds entry m))
    at_demand entry true j there is tells needs = stays m ds place ts mark j tells needs
    at_demand entry false j there is tells needs =
        let v = verdict_at q ds entry m in
        let a : Application = made m ds entry place ts mark j there is tells needs in
        let new = taking_by v at place a in
        subst (λ (t : List Taking). Served m (burst count q (judged v q instr ds entry m)) ds place ts
        (t ++ burst_takings count q at (place + left q m (judged v q instr ds entry m)) (judged v q instr ds entry m)) mark
        (then_flags (flags_by v a) (flags_of (applications count q (judged v q instr ds entry m)))))
        (sym (append-nil new))
        (behind_one (judged v q instr ds entry m) a new (flags_by v a) (gives_up_by v a) refl
        (one m ds entry place ts mark j there is tells needs v refl))

    at_front : (top : Option Entry) → m.job ≡ Running instr ds → front (queue_state q m.queues) ≡ top →
        Tells place (queue_state q m.queues) ts mark →
        Needs moved mark (demand_on q ds) → After (served_application top q ds m) (served top q instr ds m)
    at_front None j there tells needs = stays m ds place ts mark j tells needs
    at_front (Some entry) j there tells needs = at_demand entry ((demand_on q ds).rest == 0) j there refl tells needs

    one_more : m.job ≡ Running instr ds → Tells place (queue_state q m.queues) ts mark → Needs moved mark (demand_on q ds) →
        Served m (burst (suc count) q m) ds place ts (burst_takings (suc count) q at place m) mark (flags_of (applications (suc count) q m))
    one_more j tells needs =
        subst (λ (job : Job). After (application_in job q m) (apply_in job q m)) (sym j)
        (at_front (front (queue_state q m.queues)) j refl tells needs)

  pub burst-Served : (count : ℕ) → BurstServed count
  burst-Served zero m ds place ts mark j tells needs = stays m ds place ts mark j tells needs
  burst-Served (suc count) m ds place ts mark j tells needs = one_more count (burst-Served count) m ds place ts mark j tells needs
