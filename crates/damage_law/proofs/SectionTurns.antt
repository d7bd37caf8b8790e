-- A turn within a section keeps what the track holds of the section's lines, up to the closing.
use Rattle.std.proofs.Common.{◌≡◌, ℕ, zero, suc, ◌+◌, ◌*◌, ◌<◌, ◌≤◌, ◌⊎◌, inl, inr, Bool, true, false, ◌==◌, List, [], ◌∷◌, ◌++◌, length}
use Rattle.std.proofs.Common.{map, Option, Some, None, Ok, refl, sym, ap, ap₂, ◌∙◌, subst, arith, if◌then◌else◌}
use Rattle.std.specs.List.{list_all}
use Rattle.std.proofs.lemmas.Bool.{cond-false, cond-true}
use Rattle.std.proofs.lemmas.List.{append-nil}
use Rattle.risc_word.specs.declared.Code.{Code}
use Rattle.risc_word.specs.declared.Ctl.{Ctl}
use Rattle.risc_word.specs.declared.Instr.{Instr}
use Rattle.risc_word.specs.declared.Instr.TheVariants.{Write, Skip, WriteC, Jump, Sync, Write123, Skip123, Write1S23}
use Rattle.risc_word.specs.Words.{Reading, code_number, encoded}
use Rattle.fifo_model.specs.declared.Queue.{Queue}
use Rattle.fifo_model.specs.declared.Queue.TheVariants.{One, Two, Three}
use Rattle.fifo_model.specs.declared.Entry.{Entry}
use Rattle.fifo_model.specs.Queues.{QueueState, front, more, queue_state}
use Rattle.sync_status.specs.declared.Verdict.{Verdict}
use Rattle.sync_status.specs.declared.Verdict.TheVariants.{Take, Discard, Broken, Missing}
use Rattle.picture_model.specs.Programs.{sync}
use Rattle.picture_model.proofs.Each.{Each, each_append, each_only}
use Rattle.machine_model.specs.declared.Cause.{Cause}
use Rattle.machine_model.specs.declared.Demand.{Demand}
use Rattle.machine_model.specs.declared.Demands.{Demands}
use Rattle.machine_model.specs.declared.Did.{Did}
use Rattle.machine_model.specs.declared.Did.TheVariants.{Still, Jumped, Synced, Passed, Begun, Matched, Missed, Retired, Moved, GivenUp}
use Rattle.machine_model.specs.declared.Job.{Job}
use Rattle.machine_model.specs.declared.Job.TheVariants.{Idle, Waiting, Running}
use Rattle.machine_model.specs.declared.Seen.{Seen}
use Rattle.machine_model.specs.declared.Skipping.{Skipping}
use Rattle.machine_model.specs.declared.Skipping.TheVariants.{Nothing, ToEol, ToSync}
use Rattle.machine_model.specs.Paths.{RiscProgram, data_cause, demands_cause, demands_of, fetch, is_data, is_word, target_before}
use Rattle.risc_word.specs.Parts.{instr_ends}
use Rattle.machine_model.specs.States.{State}
use Rattle.machine_model.specs.Turns.{apply, apply_in, begun_with, burst, burst_of, code_seen, common_code, counted, data_fetched}
use Rattle.machine_model.specs.Turns.{demand_on, ended, fetched, is_cut_short, is_done, judged, jumped}
use Rattle.machine_model.specs.Turns.{lowest_served, lowest_stray, met, passed, ran, retired, served, skipping_after, stray_seen, took}
use Rattle.machine_model.specs.Turns.{turn, turn_if, verdict_at, waited, with_fdsr_unless, worked}
use Rattle.machine_model.specs.Seen.{Application, address_before, application, application_in, applications, served_application, data_did}
use Rattle.machine_model.specs.Seen.{fetched_did, seen, seen_alone, seen_burst, seen_if, seen_in, seen_running, seen_served, waited_did}
use Rattle.machine_model.specs.Steps.{Turn}
use Rattle.machine_model.proofs.BeforeTurns.{fetch-KnownAt}
use Rattle.field_law.specs.Sections.{HoldsFrom, IsPlain, words_in}
use Rattle.field_law.specs.Arrivals.{is_queue}
use Rattle.field_law.proofs.Running.{done_rest}
use Rattle.damage_model.specs.Takings.{Taking, burst_takings, left, ran_takings, retired_at, served_takings, step_takings, takings_if}
use Rattle.damage_model.specs.Takings.{worked_takings}
use Rattle.damage_model.specs.Marks.{addresses_from, is_among}
use Rattle.damage_model.proofs.Orders.{queue_is}
use Rattle.damage_map.specs.declared.mark.LineMark.{LineMark}
use Rattle.damage_map.specs.declared.mark.LineMark.TheVariants.{Fresh}
use Rattle.damage_map.specs.declared.mark.LineMarks.{LineMarks}
use Rattle.damage_map.specs.Tracks.{FieldTrack, ends_line, field_of, mark_on, max_lines, opened, opens, signalled, signals, through, turned}
use Rattle.damage_map.specs.Tracks.{with_loss, with_mark}
use Rattle.damage_law.proofs.LineTold.{Tells, kept-tells}
use Rattle.damage_law.proofs.Bursts.{Flags, Needs, RunsOn, Served, burst-Served, flags_of, mark_by}
use Rattle.damage_law.proofs.Sections.{AreBelow, AreParts, GoesIn, GoesOn, Part, Await, Cut, Past, TakenBelow, below_more, instrs_of}
use Rattle.damage_law.proofs.Sections.{is_none, lines_at, lines_stay, retired_here, taken_here, taken_more, takes_in, unretired_here}
use Rattle.damage_law.proofs.Sections.{whole_over}
use Rattle.damage_law.proofs.Visits.{Behind, GapJob, InGap, InLine, IsBegun, IsTold, LineJob, Visit, advance, enters, gap_job-same}
use Rattle.damage_law.proofs.Visits.{gap_stays, line_job-same, line_stays}

-- what keeps a queue's mark true where nothing leaves it
pub record QueueKept (held after : QueueState) : Type 0 where
  pub taken : after.taken ≡ held.taken
  pub top : 0 < held.taken → front after ≡ front held
  pub more : length held.entries ≤ length after.entries

pub queue_same : (held : QueueState) → QueueKept held held
queue_same held = record { taken = refl; top = λ some. refl; more = omega arith }

-- a turn that changes nothing of the track and retires nothing
abbrev pub IsQuiet : Did → Type 0
IsQuiet did = (program : RiscProgram) (s : Seen) (t : FieldTrack) (at : ℕ) → (turned program did s t ≡ t) × (retired_at did at ≡ [])

pub waited-quiet : (stray : Option Queue) (common : Option Code) (code : Code) → IsQuiet (waited_did stray common code)
waited-quiet (Some q) common code = λ program s t at. (refl, refl)
waited-quiet None None code = λ program s t at. (refl, refl)
waited-quiet None (Some seen_code) code = by_code (code_number seen_code == code_number code)
  where
    by_code : (same : Bool) → IsQuiet (if same then Matched else Missed)
    by_code true = λ program s t at. (refl, refl)
    by_code false = λ program s t at. (refl, refl)

-- while a SYNC waits
module _ (here : ℕ) where
  abbrev WaitsAt : State → Type 0
  WaitsAt m = GapJob here m.pc m.job

  unless : (resync : Bool) (m : State) → WaitsAt m → WaitsAt (with_fdsr_unless resync m)
  unless true m h = h
  unless false m h = h

  meets : (same : Bool) (ctl : Ctl) (resync : Bool) (m : State) → m.pc ≡ here → WaitsAt m → WaitsAt (met same ctl resync m)
  meets true ctl resync m there h = there
  meets false ctl resync m there h = unless resync _ h

  sees : (common : Option Code) (ctl : Ctl) (resync : Bool) (code : Code) (m : State) → m.pc ≡ here → WaitsAt m →
      WaitsAt (code_seen common ctl resync code m)
  sees None ctl resync code m there h = h
  sees (Some seen_code) ctl resync code m there h = meets _ ctl resync m there h

  waits : (stray : Option Queue) (ctl : Ctl) (resync : Bool) (code : Code) (m : State) → m.pc ≡ here → WaitsAt m →
      WaitsAt (stray_seen stray ctl resync code m)
  waits None ctl resync code m there h = sees (common_code m.queues) ctl resync code m there h
  waits (Some q) ctl resync code m there h = unless resync _ h

-- ---- which queue

pub queue_itself : (q : Queue) → is_queue q q ≡ true
queue_itself One = refl
queue_itself Two = refl
queue_itself Three = refl

queue_apart : (p q : Queue) → is_queue p q ≡ false → is_queue q p ≡ false
queue_apart One One apart = apart
queue_apart One Two apart = refl
queue_apart One Three apart = refl
queue_apart Two One apart = refl
queue_apart Two Two apart = apart
queue_apart Two Three apart = refl
queue_apart Three One apart = refl
queue_apart Three Two apart = refl
queue_apart Three Three apart = apart

pub mark_same : (q : Queue) (mark : LineMark) (marks : LineMarks) → mark_on q (with_mark q mark marks) ≡ mark
mark_same One mark marks = refl
mark_same Two mark marks = refl
mark_same Three mark marks = refl

pub mark_other : (p q : Queue) (mark : LineMark) (marks : LineMarks) → is_queue p q ≡ false →
    mark_on p (with_mark q mark marks) ≡ mark_on p marks
mark_other One One mark marks apart = cc
mark_other One Two mark marks apart = refl
mark_other One Three mark marks apart = refl
mark_other Two One mark marks apart = refl
mark_other Two Two mark marks apart = cc
mark_other Two Three mark marks apart = refl
mark_other Three One mark marks apart = refl
mark_other Three Two mark marks apart = refl
mark_other Three Three mark marks apart = cc

-- ---- the count of turns changes no application

abbrev with_turns : ℕ → State → State
with_turns count m = record m { turns = count }

abbrev after_turns : ℕ → Option State → Option State
after_turns count None = None
after_turns count (Some after) = Some (with_turns count after)

module _ (q : Queue) where
  judged_turns : (v : Verdict) (instr : Instr) (ds : Demands) (entry : Entry) (m : State) (count : ℕ) →
      judged v q instr ds entry (with_turns count m) ≡ with_turns count (judged v q instr ds entry m)
  judged_turns Broken instr ds entry m count = refl
  judged_turns Missing instr ds entry m count = refl
  judged_turns Discard instr ds entry m count = refl
  judged_turns (Take n) instr ds entry m count = by_cut (is_cut_short entry (queue_state q m.queues).taken n (demand_on q ds).rest)
    where
      by_cut : (cut : Bool) →
          ended cut instr (took q n instr ds entry (with_turns count m)) ≡ with_turns count (ended cut instr (took q n instr ds entry m))
      by_cut true = refl
      by_cut false = refl

  served_turns : (top : Option Entry) (instr : Instr) (ds : Demands) (m : State) (count : ℕ) →
      served top q instr ds (with_turns count m) ≡ after_turns count (served top q instr ds m)
  served_turns None instr ds m count = refl
  served_turns (Some entry) instr ds m count = by_rest ((demand_on q ds).rest == 0)
    where
      by_rest : (none : Bool) → (if none then None else Some (judged (verdict_at q ds entry m) q instr ds entry (with_turns count m)))
          ≡ after_turns count (if none then None else Some (judged (verdict_at q ds entry m) q instr ds entry m))
      by_rest true = refl
      by_rest false = ap Some (judged_turns (verdict_at q ds entry m) instr ds entry m count)

  apply_turns : (job : Job) (m : State) (count : ℕ) → apply_in job q (with_turns count m) ≡ after_turns count (apply_in job q m)
  apply_turns Idle m count = refl
  apply_turns (Waiting ctl resync code) m count = refl
  apply_turns (Running instr ds) m count = served_turns (front (queue_state q m.queues)) instr ds m count

  front_turns : (top : Option Entry) (ds : Demands) (m : State) (count : ℕ) →
      served_application top q ds (with_turns count m) ≡ served_application top q ds m
  front_turns None ds m count = refl
  front_turns (Some entry) ds m count = refl

  application_turns : (job : Job) (m : State) (count : ℕ) → application_in job q (with_turns count m) ≡ application_in job q m
  application_turns Idle m count = refl
  application_turns (Waiting ctl resync code) m count = refl
  application_turns (Running instr ds) m count = front_turns (front (queue_state q m.queues)) ds m count

  abbrev applied_next : ℕ → Option State → List Application
  applied_next number next = elim next as (λ _. List Application) [ None ↦ [] | Some after ↦ applications number q after ]

  next_alike : (number : ℕ) (next : Option State) (count : ℕ) →
      ((m : State) → applications number q (with_turns count m) ≡ applications number q m) →
      applied_next number (after_turns count next) ≡ applied_next number next
  next_alike number None count same = refl
  next_alike number (Some after) count same = same after

  alike : (number : ℕ) (m : State) (count : ℕ) → applications number q (with_turns count m) ≡ applications number q m
  alike zero m count = refl
  alike (suc number) m count =
      ap₂ (λ (made : List Application) (next : Option State). made ++ applied_next number next) (application_turns m.job m count)
      (apply_turns m.job m count)
      ∙ ap (λ (later : List Application). application q m ++ later)
      (next_alike number (apply q m) count (λ (other : State). alike number other count))

  pub uncounted : (number : ℕ) (m : State) → applications number q (counted m) ≡ applications number q m
  uncounted number m = alike number m (more m.turns 1)

-- what an idle machine fetches that isn't about to close the section
pub record Plainly (r : Reading) : Type 0 where
  pub instr : Instr
  pub many : ℕ
  pub read : r ≡ Ok (instr, many)
  pub plain : (is_data instr ≡ true) ⊎ ((code : Code) × (instr ≡ sync false code))

module _ (program : RiscProgram) (closing : Ctl) (target end : ℕ) (all : List (List ℕ)) (few : length all ≤ max_lines) (m : State)
    (t : FieldTrack) (past : Past) (gone : Queue → ℕ) where
  abbrev pub next_past : Seen → (Queue → List Taking) → Past
  next_past s new = record { takes = λ q. past.takes q ++ new q; retired = past.retired ++ retired_at s.did s.at }

  abbrev pub next_gone : State → Queue → ℕ
  next_gone after q = gone q + left q m after

  -- behind the closing
  pub record Closed (after : State) (told : FieldTrack) : Type 0 where
    pub idle : after.job ≡ Idle
    pub there : after.pc ≡ target
    pub lines : t.lines ≡ map (whole_over past) all
    pub was_idle : m.job ≡ Idle
    pub was_there : m.pc ≡ end
    pub fetched_there : fetch program m.pc ≡ Ok (Jump closing target, 2)
    pub signals_field : told ≡ signalled (field_of closing.set) t

  abbrev pub Result : State → Seen → (Queue → List Taking) → Type 0
  Result after s new = Visit program closing target end all after (turned program s.did s t) (next_past s new) (next_gone after)

  later_ends : (l : InLine program closing target end all m t past gone) →
      l.here + 4 * length (encoded l.instr) + 4 * words_in (l.rest ++ instrs_of l.parts) ≡ end
  later_ends l = let ends = l.ends in omega arith

  -- ---- nothing is done

  same_past : (s : Seen) → retired_at s.did s.at ≡ [] → next_past s (λ q. []) ≡ past
  same_past s none =
      let takes : (λ (q : Queue). past.takes q ++ []) ≡ past.takes = λ i q. append-nil (past.takes q) i in
      ap₂ (λ (takes : Queue → List Taking) (retired : List ℕ). record { takes = takes; retired = retired }) takes
      (ap (λ (r : List ℕ). past.retired ++ r) none ∙ append-nil past.retired)

  kept_told : (lost : Bool) (after : State) (done line : List ℕ) →
      ((q : Queue) → QueueKept (queue_state q m.queues) (queue_state q after.queues)) →
      IsTold lost past gone m.queues t.marks done line → IsTold lost past (next_gone after) after.queues t.marks done line
  kept_told true after done line kept told = told
  kept_told false after done line kept told = (
    told.0,
    λ q.
        let k = kept q in
        let more = k.more in
        let same : gone q + left q m after ≡ gone q = omega arith in
        subst (λ (n : ℕ). Tells n (queue_state q after.queues) (takes_in line (past.takes q)) (mark_on q t.marks)) (sym same)
        (kept-tells (gone q) (queue_state q m.queues) (queue_state q after.queues) (takes_in line (past.takes q))
        (mark_on q t.marks) k.taken k.top (told.1 q)),
  )

  pub quiet : (after : State) → after.job ≡ m.job → after.pc ≡ m.pc → after.skipping ≡ m.skipping →
      ((q : Queue) → QueueKept (queue_state q m.queues) (queue_state q after.queues)) →
      Visit program closing target end all m t past gone → Visit program closing target end all after t past (next_gone after)
  quiet after j p s kept (inl g) =
      inl (gap_stays program closing target end all m after t t.marks past g g.fresh (gap_job-same g.here m after j p g.job))
  quiet after j p s kept (inr l) =
      inr (line_stays program closing target end all m after t t.marks past past gone (next_gone after) l l.through
      (kept_told t.lost after l.done (l.done ++ addresses_from l.here (l.instr ∷ l.rest)) kept l.told)
      (line_job-same l.here l.begins l.moved l.instr t.lost t.marks m after j p s l.job))

  -- with a quiet turn
  as_quiet : (after : State) (s : Seen) → IsQuiet s.did → Visit program closing target end all after t past (next_gone after) →
      Result after s (λ q. [])
  as_quiet after s is visit =
      let same = is program s t s.at in
      subst (λ (told : FieldTrack). Visit program closing target end all after told (next_past s (λ q. [])) (next_gone after)) (sym same.0)
      (subst (λ (p : Past). Visit program closing target end all after t p (next_gone after)) (sym (same_past s same.1)) visit)

  pub still : (at : ℕ) → Visit program closing target end all m t past gone → Result (counted m) (seen_alone Still at) (λ q. [])
  still at visit =
      as_quiet (counted m) (seen_alone Still at) (λ program s t at. (refl, refl))
      (quiet (counted m) refl refl refl (λ q. queue_same (queue_state q m.queues)) visit)

  -- ---- waiting

  pub waited_on : (ctl : Ctl) (resync : Bool) (code : Code) (at : ℕ) → m.job ≡ Waiting ctl resync code →
      Visit program closing target end all m t past gone →
      Result (waited ctl resync code (counted m)) (seen_alone (waited_did (lowest_stray m.queues) (common_code m.queues) code) at) (λ q. [])
  waited_on ctl resync code at j (inl g) =
      let after = waited ctl resync code (counted m) in
      let there : m.pc ≡ g.here = subst (λ (job : Job). GapJob g.here m.pc job) j g.job in
      as_quiet after (seen_alone (waited_did (lowest_stray m.queues) (common_code m.queues) code) at)
      (waited-quiet (lowest_stray m.queues) (common_code m.queues) code)
      (inl (gap_stays program closing target end all m after t t.marks past g g.fresh
      (waits g.here (lowest_stray m.queues) ctl resync code (counted m) there g.job)))
  waited_on ctl resync code at j (inr l) =
      absurd (subst (λ (job : Job). LineJob l.here l.begins l.moved l.instr m.pc m.skipping t.lost t.marks job) j l.job)

  -- ---- fetching between lines

  abbrev Fetched : Reading → Type 0
  Fetched r = Result (fetched r (counted m)) (seen_alone (fetched_did r m.skipping) m.pc) (λ q. [])

  syncs : (g : InGap program closing target end all m t past) (code : Code) (rest : List Part) → m.job ≡ Idle →
      g.parts ≡ Await code ∷ rest → Fetched (fetch program m.pc)
  syncs g code rest j is =
      let there : m.pc ≡ g.here = subst (λ (job : Job). GapJob g.here m.pc job) j g.job in
      let stands = subst (λ (ps : List Part). HoldsFrom program g.here (instrs_of ps) closing target) is g.stands in
      let here : fetch program m.pc ≡ Ok (sync false code, length (encoded (sync false code))) = ap (fetch program) there ∙ stands.0 in
      let whole = subst (λ (ps : List Part). all ≡ g.lines ++ lines_at g.here ps) is g.whole in
      let are = subst AreParts is g.are in
      let ends : g.here + 4 * words_in (instrs_of (Await code ∷ rest)) ≡ end =
      subst (λ (ps : List Part). g.here + 4 * words_in (instrs_of ps) ≡ end) is g.ends in
      let later : g.here + 8 + 4 * words_in (instrs_of rest) ≡ end = omega arith in
      let through = g.through in
      let s = seen_alone Synced m.pc in
      let after = fetched (Ok (sync false code, length (encoded (sync false code)))) (counted m) in
      let next : InGap program closing target end all after t past =
      record {
        here = g.here + 8;
        lines = g.lines;
        parts = rest;
        whole = whole;
        stands = stands.3;
        ends = later;
        are = are;
        through = record {
          told = through.told;
          below =
              each_only (AreBelow g.here) (AreBelow (g.here + 8)) g.lines
              (λ line below. below_more g.here (g.here + 8) line (omega arith) below) through.below;
          taken = λ q. taken_more g.here (g.here + 8) (past.takes q) (omega arith) (through.taken q);
          retired = below_more g.here (g.here + 8) past.retired (omega arith) through.retired;
        };
        fresh = g.fresh;
        unlost = g.unlost;
        job = ap (λ (pc : ℕ). pc + 8) there;
      }
      in
      let opened_not : turned program Synced s t ≡ t = ap (λ (r : Reading). turned_synced r) here in
      subst Fetched (sym here)
      (subst (λ (told : FieldTrack). Visit program closing target end all after told (next_past s (λ q. [])) (next_gone after))
      (sym opened_not)
      (subst (λ (p : Past). Visit program closing target end all after t p (next_gone after)) (sym (same_past s refl)) (inl next)))
    where
      turned_synced : Reading → FieldTrack
      turned_synced r = opened (opens r) t

  abbrev ClosedBy : Reading → Type 0
  ClosedBy r = Closed (fetched r (counted m)) (turned program (fetched_did r m.skipping) (seen_alone (fetched_did r m.skipping) m.pc) t)

  closes : (g : InGap program closing target end all m t past) → m.program ≡ program → m.job ≡ Idle → g.parts ≡ [] →
      ClosedBy (fetch program m.pc)
  closes g same j is =
      let there : m.pc ≡ g.here = subst (λ (job : Job). GapJob g.here m.pc job) j g.job in
      let stands = subst (λ (ps : List Part). HoldsFrom program g.here (instrs_of ps) closing target) is g.stands in
      let here : fetch program m.pc ≡ Ok (Jump closing target, 2) = ap (fetch program) there ∙ stands.0 in
      let word : is_word m.program target ≡ true = ap (λ (p : RiscProgram). is_word p target) same ∙ stands.1 in
      let ends : g.here + 4 * words_in (instrs_of []) ≡ end =
      subst (λ (ps : List Part). g.here + 4 * words_in (instrs_of ps) ≡ end) is g.ends in
      let whole : all ≡ g.lines ++ [] = subst (λ (ps : List Part). all ≡ g.lines ++ lines_at g.here ps) is g.whole in
      subst ClosedBy (sym here)
      (subst
      (λ (inside : Bool). Closed (jumped inside closing target (counted m)) (turned program Jumped (seen_alone Jumped m.pc) t)) (sym word)
      (record {
        idle = j;
        there = refl;
        lines = g.through.told ∙ ap (map (whole_over past)) (sym (append-nil g.lines) ∙ sym whole);
        was_idle = j;
        was_there = omega arith;
        fetched_there = here;
        signals_field = ap (λ (r : Reading). signalled (signals r) t) here;
      }))

  -- ---- fetching within a line

  line_told : (lost : Bool) (told_lost : t.lost ≡ lost) (l : InLine program closing target end all m t past gone) →
      IsTold lost past gone m.queues t.marks l.done (l.done ++ addresses_from l.here (l.instr ∷ l.rest))
  line_told lost is l =
      subst (λ (b : Bool). IsTold b past gone m.queues t.marks l.done (l.done ++ addresses_from l.here (l.instr ∷ l.rest))) is l.told

  with_same_past : (after : State) (told : FieldTrack) (s : Seen) → retired_at s.did s.at ≡ [] →
      Visit program closing target end all after told past (next_gone after) →
      Visit program closing target end all after told (next_past s (λ q. [])) (next_gone after)
  with_same_past after told s none visit =
      subst (λ (p : Past). Visit program closing target end all after told p (next_gone after)) (sym (same_past s none)) visit

  module _ (l : InLine program closing target end all m t past gone) (j : m.job ≡ Idle) where
    abbrev instr : Instr
    instr = l.instr

    abbrev many : ℕ
    many = length (encoded l.instr)

    idle_job : (m.pc ≡ l.here) × (m.skipping ≡ Nothing → t.lost ≡ false)
        × (t.lost ≡ false → (q : Queue) → IsBegun l.begins (l.moved q) (mark_on q t.marks))
    idle_job = subst (λ (job : Job). LineJob l.here l.begins l.moved l.instr m.pc m.skipping t.lost t.marks job) j l.job

    read_here : fetch program m.pc ≡ Ok (l.instr, many)
    read_here = ap (fetch program) idle_job.0 ∙ l.stands.0

    some : 0 < many
    some = let known = fetch-KnownAt program l.here l.instr many l.stands.0 in let positive = known.positive in omega arith

    needed : (begins : Bool) (q : Queue) (before : Option ℕ) → GoesIn begins l.moved (is_none l.rest) l.instr →
        IsBegun begins (l.moved q) (mark_on q t.marks) →
        Needs (l.moved q) (mark_on q t.marks) (demand_on q (demands_of l.instr before))
    needed true q before goes begun =
        record {
          unmoved = goes.unmoved q before;
          first = λ sol. (begun, (goes.first q before sol).1);
          later = λ does sol same. let never = goes.awaits q before does sol in cc;
        }
    needed false q before goes begun =
        record {
          unmoved = goes.unmoved q before;
          first = λ sol. let never = (goes.first q before sol).0 in cc;
          later = λ does sol same. begun does same;
        }

    begins_with : (cause : Option Cause) (before : Option ℕ) → cause ≡ None → m.skipping ≡ Nothing →
        Result (begun_with cause l.instr many before (counted m)) (seen_alone Begun m.pc) (λ q. [])
    begins_with (Some cause) before fine unskipped = cc
    begins_with None before fine unskipped =
        let lost = idle_job.1 unskipped in
        let after = begun_with None l.instr many before (counted m) in
        as_quiet after (seen_alone Begun m.pc) (λ program s t at. (refl, refl))
        (inr (line_stays program closing target end all m after t t.marks past past gone (next_gone after) l l.through
        (kept_told t.lost after l.done (l.done ++ addresses_from l.here (l.instr ∷ l.rest))
        (λ q. queue_same (queue_state q m.queues)) l.told)
        (refl, ap (λ (pc : ℕ). pc + 4 * many) idle_job.0, lost, λ q. needed l.begins q before l.goes.0 (idle_job.2 lost q))))

    never_skips : (skipping : Skipping) (eol : Bool) → (skipping ≡ Nothing → ⊥) → eol ≡ false → skipping_after skipping eol ≡ Nothing → ⊥
    never_skips Nothing eol skips goes_on same = skips refl
    never_skips ToEol true skips goes_on same = cc
    never_skips ToEol false skips goes_on same = cc
    never_skips ToSync true skips goes_on same = cc
    never_skips ToSync false skips goes_on same = cc

    passes : (m.skipping ≡ Nothing → ⊥) → Result (passed l.instr many (counted m)) (seen_alone Passed m.pc) (λ q. [])
    passes skips =
        let after = passed l.instr many (counted m) in
        let s = seen_alone Passed m.pc in
        let line = l.done ++ addresses_from l.here (l.instr ∷ l.rest) in
        let through_is : through (is_none l.rest) (with_loss t) ≡ turned program Passed s t =
        ap (λ (b : Bool). through b (with_loss t)) (sym (l.goes.0.ends))
        ∙ ap (λ (r : Reading). through (ends_line r) (with_loss t)) (sym read_here) in
        let behind : Behind program closing target end all after (with_loss t) past
        (next_gone after) l.here l.lines l.done l.moved l.instr line =
        record {
          idle = j;
          there = ap (λ (pc : ℕ). pc + 4 * many) idle_job.0;
          unskipped = λ on same. absurd (never_skips m.skipping (instr_ends l.instr).eol skips on same);
          told_lines = l.through.told;
          taken = l.through.taken;
          retired = below_more l.here (l.here + 1) past.retired (omega arith) l.through.retired;
          told = unretired_here l.here past.retired l.done l.through.retired;
          begun = λ lost. cc;
        }
        in
        subst (λ (told : FieldTrack). Visit program closing target end all after told (next_past s (λ q. [])) (next_gone after)) through_is
        (with_same_past after (through (is_none l.rest) (with_loss t)) s refl
        (advance program closing target end all few after (with_loss t) past
        (next_gone after) l.here l.lines l.done l.moved l.instr l.parts l.are l.through.below l.before some
        l.rest behind l.goes.0.ends l.whole l.stands.3 (later_ends l) l.goes.1))

    skips_by : (skipping : Skipping) → m.skipping ≡ skipping → data_cause m.program.grants l.instr (target_before l.instr m.target) ≡ None →
        Result (data_fetched skipping l.instr many (counted m)) (seen_alone (data_did skipping) m.pc) (λ q. [])
    skips_by Nothing is fine =
        begins_with (data_cause m.program.grants l.instr (target_before l.instr m.target)) (target_before l.instr m.target) fine is
    skips_by ToEol is fine = passes (λ none. cc)
    skips_by ToSync is fine = passes (λ none. cc)

    as_data : (i : Instr) (n : ℕ) → is_data i ≡ true → IsPlain i → demands_cause m.program.grants (demands_of i None) ≡ None →
        (data_cause m.program.grants i (target_before i m.target) ≡ None →
        Result (data_fetched m.skipping i n (counted m)) (seen_alone (data_did m.skipping) m.pc) (λ q. [])) →
        Fetched (Ok (i, n))
    as_data (Jump ctl addr) n data_is plain fine then_fetched = cc
    as_data (Sync ctl resync code) n data_is plain fine then_fetched = cc
    as_data (WriteC ctl ends off count) n data_is plain fine then_fetched = absurd plain
    as_data (Write ctl ends off count addr) n data_is plain fine then_fetched = then_fetched fine
    as_data (Skip ctl ends count) n data_is plain fine then_fetched = then_fetched fine
    as_data (Write123 ctl ends off counts addrs) n data_is plain fine then_fetched = then_fetched fine
    as_data (Skip123 ctl ends counts) n data_is plain fine then_fetched = then_fetched fine
    as_data (Write1S23 ctl ends off counts addr) n data_is plain fine then_fetched = then_fetched fine

    goes_in : m.program ≡ program → Fetched (fetch program m.pc)
    goes_in same =
        let fine = ap (λ (p : RiscProgram). demands_cause p.grants (demands_of l.instr None)) same ∙ l.stands.2 in
        subst Fetched (sym read_here)
        (as_data l.instr many l.goes.0.moves l.stands.1 fine (λ fine_there. skips_by m.skipping refl fine_there))

  abbrev Split : Reading → Type 0
  Split r = (Fetched r × Plainly r) ⊎ ClosedBy r

  line_split : InLine program closing target end all m t past gone → m.program ≡ program → m.job ≡ Idle → Split (fetch program m.pc)
  line_split l same j =
      inl (goes_in l j same, record { instr = l.instr; many = length (encoded l.instr); read = read_here l j; plain = inl l.goes.0.moves })

  by_parts : (g : InGap program closing target end all m t past) (parts : List Part) → m.program ≡ program → m.job ≡ Idle →
      g.parts ≡ parts → Split (fetch program m.pc)
  by_parts g [] same j is = inr (closes g same j is)
  by_parts g (Await code ∷ rest) same j is =
      let there : m.pc ≡ g.here = subst (λ (job : Job). GapJob g.here m.pc job) j g.job in
      let stands = subst (λ (ps : List Part). HoldsFrom program g.here (instrs_of ps) closing target) is g.stands in
      inl (
        syncs g code rest j is,
        record {
          instr = sync false code;
          many = length (encoded (sync false code));
          read = ap (fetch program) there ∙ stands.0;
          plain = inr (code, refl);
        },
      )
  by_parts g (Cut moved line ∷ rest) same j is =
      line_split (enters program closing target end all m t past gone g moved line rest j is) same j

  fetches_on : m.program ≡ program → m.job ≡ Idle → Visit program closing target end all m t past gone → Split (fetch program m.pc)
  fetches_on same j (inl g) = by_parts g g.parts same j refl
  fetches_on same j (inr l) = line_split l same j

  -- ---- an instruction retires

  module _ (l : InLine program closing target end all m t past gone) (ds : Demands) (j : m.job ≡ Running l.instr ds) where
    running_job : (l.instr ≡ l.instr) × (m.pc ≡ l.here + 4 * length (encoded l.instr)) × (t.lost ≡ false)
        × ((q : Queue) → Needs (l.moved q) (mark_on q t.marks) (demand_on q ds))
    running_job = subst (λ (job : Job). LineJob l.here l.begins l.moved l.instr m.pc m.skipping t.lost t.marks job) j l.job

    abbrev line : List ℕ
    line = l.done ++ addresses_from l.here (l.instr ∷ l.rest)

    long : 0 < length (encoded l.instr)
    long =
        let known = fetch-KnownAt program l.here l.instr (length (encoded l.instr)) l.stands.0 in
        let positive = known.positive in omega arith

    stands_before : address_before m.pc l.instr ≡ l.here
    stands_before = let there = running_job.1 in omega arith

    begun_by : (awaits : Bool) (q : Queue) → (demand_on q ds).needs_sol ≡ awaits → (demand_on q ds).rest ≡ 0 → l.moved q ≡ true →
        mark_on q t.marks ≡ Fresh → ⊥
    begun_by true q is none does same = let more = ((running_job.3 q).first is).1 in omega arith
    begun_by false q is none does same = (running_job.3 q).later does is same

    retires_here : is_done ds ≡ true → Result (retired l.instr (counted m)) (seen_alone Retired l.here) (λ q. [])
    retires_here done_is =
        let after = retired l.instr (counted m) in
        let s = seen_alone Retired l.here in
        let next = next_past s (λ q. []) in
        let lost = running_job.2 in
        let told = line_told false lost l in
        let kept = kept_told false after l.done line (λ q. queue_same (queue_state q m.queues)) told in
        let on : GoesOn l.here past next = record {
          new = λ q. [];
          takes = λ q. refl;
          at = λ q. tt;
          retires = l.here ∷ [];
          retired = refl;
          retires_at = (refl, tt);
        } in
        let behind : Behind program closing target end all after t next (next_gone after) l.here l.lines l.done l.moved l.instr line =
        record {
          idle = refl;
          there = running_job.1;
          unskipped = λ on same. lost;
          told_lines = l.through.told ∙ sym (lines_stay l.here past next l.lines on l.through.below);
          taken = λ q. subst (λ (ts : List Taking). TakenBelow (l.here + 1) ts) (sym (append-nil (past.takes q))) (l.through.taken q);
          retired =
              each_append (λ a. a < l.here + 1) past.retired (l.here ∷ [])
              (below_more l.here (l.here + 1) past.retired (omega arith) l.through.retired) (omega arith, tt);
          told =
              subst (λ (b : Bool). IsTold b next (next_gone after) after.queues t.marks (l.done ++ l.here ∷ []) line) (sym lost) (
                retired_here l.here past.retired l.done told.0 l.before,
                λ q. subst
                    (λ (ts : List Taking). Tells (next_gone after q) (queue_state q after.queues) (takes_in line ts) (mark_on q t.marks))
                    (sym (append-nil (past.takes q))) (kept.1 q),
              );
          begun = λ lost q does same. begun_by (demand_on q ds).needs_sol q refl (done_rest ds done_is q) does same;
        }
        in
        let through_is : through (is_none l.rest) t ≡ turned program Retired s t =
        ap (λ (b : Bool). through b t) (sym (l.goes.0.ends)) ∙ ap (λ (r : Reading). through (ends_line r) t) (sym l.stands.0) in
        subst (λ (told : FieldTrack). Visit program closing target end all after told next (next_gone after)) through_is
        (advance program closing target end all few after t next (next_gone after) l.here l.lines l.done l.moved l.instr l.parts l.are
        l.through.below l.before long l.rest behind l.goes.0.ends l.whole l.stands.3 (later_ends l) l.goes.1)

    -- ---- a burst to a queue

    marks_with : Queue → Flags → LineMarks
    marks_with q f = with_mark q (mark_by f (mark_on q t.marks)) t.marks

    module _ (q : Queue) (after : State) (f : Flags) (new : Queue → List Taking)
        (served : Served q (l.moved q) l.instr l.here (counted m) after ds (gone q) (takes_in line (past.takes q)) (new q)
        (mark_on q t.marks) f)
        (others : (p : Queue) → is_queue p q ≡ false → new p ≡ []) where
      abbrev seen_there : Bool → Seen
      seen_there gave = record { did = if gave then GivenUp q else Moved q; at = l.here; took = f.took; ended = f.ended; reserved = f.left }

      ats_by : (p : Queue) (same : Bool) → is_queue p q ≡ same → Each (λ t. t.at ≡ l.here) (new p)
      ats_by p true is = subst (λ (x : Queue). Each (λ t. t.at ≡ l.here) (new x)) (sym (queue_is p q is)) served.ats
      ats_by p false is = subst (λ (ts : List Taking). Each (λ t. t.at ≡ l.here) ts) (sym (others p is)) tt

      ats : (p : Queue) → Each (λ t. t.at ≡ l.here) (new p)
      ats p = ats_by p (is_queue p q) refl

      told_by : (p : Queue) (same : Bool) → is_queue p q ≡ same →
          Tells (next_gone after p) (queue_state p after.queues) (takes_in line (past.takes p) ++ new p)
          (mark_on p (with_mark q (mark_by f (mark_on q t.marks)) t.marks))
      told_by p true is =
          let behind = served.behind in
          let counts = served.counts in
          let forward = served.forward in
          let there : behind ≡ gone q + left q m after = omega arith in
          subst (λ (x : Queue). Tells (next_gone after x) (queue_state x after.queues) (takes_in line (past.takes x) ++ new x)
          (mark_on x (with_mark q (mark_by f (mark_on q t.marks)) t.marks)))
          (sym (queue_is p q is))
          (subst (λ (mark : LineMark). Tells (next_gone after q) (queue_state q after.queues) (takes_in line (past.takes q) ++ new q) mark)
          (sym (mark_same q (mark_by f (mark_on q t.marks)) t.marks))
          (subst (λ (n : ℕ). Tells n (queue_state q after.queues) (takes_in line (past.takes q) ++ new q) (mark_by f (mark_on q t.marks)))
          there served.tells))
      told_by p false is =
          let told = (line_told false running_job.2 l).1 p in
          let same = served.others p is in
          let none : gone p + left p m after ≡ gone p = let long = ap (λ (held : QueueState). length held.entries) same in omega arith in
          subst (λ (ts : List Taking). Tells (next_gone after p) (queue_state p after.queues) (takes_in line (past.takes p) ++ ts)
          (mark_on p (with_mark q (mark_by f (mark_on q t.marks)) t.marks))) (sym (others p is))
          (subst (λ (ts : List Taking). Tells (next_gone after p) (queue_state p after.queues) ts
          (mark_on p (with_mark q (mark_by f (mark_on q t.marks)) t.marks))) (sym (append-nil (takes_in line (past.takes p))))
          (subst (λ (mark : LineMark). Tells (next_gone after p) (queue_state p after.queues) (takes_in line (past.takes p)) mark)
          (sym (mark_other p q (mark_by f (mark_on q t.marks)) t.marks is))
          (subst (λ (held : QueueState). Tells (next_gone after p) held (takes_in line (past.takes p)) (mark_on p t.marks)) (sym same)
          (subst (λ (n : ℕ). Tells n (queue_state p m.queues) (takes_in line (past.takes p)) (mark_on p t.marks)) (sym none) told))))

      told_all : (p : Queue) → Tells (next_gone after p) (queue_state p after.queues) (takes_in line (past.takes p ++ new p))
          (mark_on p (with_mark q (mark_by f (mark_on q t.marks)) t.marks))
      told_all p =
          subst (λ (ts : List Taking).
          Tells (next_gone after p) (queue_state p after.queues) ts (mark_on p (with_mark q (mark_by f (mark_on q t.marks)) t.marks)))
          (sym (taken_here l.here l.done (addresses_from (l.here + 4 * length (encoded l.instr)) l.rest) (past.takes p) (new p) (ats p)))
          (told_by p (is_queue p q) refl)

      next_takes : (p : Queue) → TakenBelow (l.here + 1) (past.takes p ++ new p)
      next_takes p =
          each_append (λ t. t.at < l.here + 1) (past.takes p) (new p) (l.through.taken p)
          (each_only (λ t. t.at ≡ l.here) (λ t. t.at < l.here + 1) (new p) (λ t is. omega arith) (ats p))

      next_of : Bool → Past
      next_of gave = next_past (seen_there gave) new

      none_retired : (gave : Bool) → retired_at (seen_there gave).did l.here ≡ []
      none_retired true = refl
      none_retired false = refl

      retired_same : (gave : Bool) → (next_of gave).retired ≡ past.retired
      unfolding next_of
      retired_same gave = ap (λ (r : List ℕ). past.retired ++ r) (none_retired gave) ∙ append-nil past.retired

      on_from : (gave : Bool) → GoesOn l.here past (next_of gave)
      unfolding next_of
      on_from gave =
          record {
            new = new;
            takes = λ p. refl;
            at = ats;
            retires = [];
            retired = retired_same gave ∙ sym (append-nil past.retired);
            retires_at = tt;
          }

      lines_same : (gave : Bool) → t.lines ≡ map (whole_over (next_of gave)) l.lines
      unfolding next_of
      lines_same gave = l.through.told ∙ sym (lines_stay l.here past (next_of gave) l.lines (on_from gave) l.through.below)

      pc_there : after.pc ≡ l.here + 4 * length (encoded l.instr)
      pc_there = served.pc ∙ running_job.1

      by_gave : (gave : Bool) → f.gave ≡ gave → Result after (seen_there gave) new
      unfolding next_of
      by_gave false is =
          let runs : RunsOn q (l.moved q) l.instr l.here ds (mark_by f (mark_on q t.marks)) false after =
          subst (λ (b : Bool). RunsOn q (l.moved q) l.instr l.here ds (mark_by f (mark_on q t.marks)) b after) is served.job in
          let lost = running_job.2 in
          inr (line_stays program closing target end all m after t (with_mark q (mark_by f (mark_on q t.marks)) t.marks) past
          (next_of false) gone (next_gone after) l
          (record {
            told = lines_same false;
            below = l.through.below;
            taken = next_takes;
            retired = subst (AreBelow l.here) (sym (retired_same false)) l.through.retired;
          })
          (subst (λ (b : Bool). IsTold b (next_of false) (next_gone after) after.queues
          (with_mark q (mark_by f (mark_on q t.marks)) t.marks) l.done line) (sym lost) (
            ap (λ (r : List ℕ). list_all (is_among r) l.done) (retired_same false) ∙ (line_told false lost l).0,
            told_all,
          ))
          (subst (λ (job : Job). LineJob l.here l.begins l.moved l.instr after.pc after.skipping t.lost
          (with_mark q (mark_by f (mark_on q t.marks)) t.marks) job) (sym runs.1)
          (refl, pc_there, lost, λ p. needs_by runs.0 runs.2 runs.3 p (is_queue p q) refl)))
        where
          needs_by : (asks : Demands) → Needs (l.moved q) (mark_by f (mark_on q t.marks)) (demand_on q asks) →
              ((p : Queue) → is_queue p q ≡ false → demand_on p asks ≡ demand_on p ds) →
              (p : Queue) (same : Bool) → is_queue p q ≡ same →
              Needs (l.moved p) (mark_on p (with_mark q (mark_by f (mark_on q t.marks)) t.marks)) (demand_on p asks)
          needs_by asks needs alike p true same =
              subst (λ (x : Queue). Needs (l.moved x) (mark_on x (with_mark q (mark_by f (mark_on q t.marks)) t.marks)) (demand_on x asks))
              (sym (queue_is p q same))
              (subst (λ (mark : LineMark). Needs (l.moved q) mark (demand_on q asks))
              (sym (mark_same q (mark_by f (mark_on q t.marks)) t.marks)) needs)
          needs_by asks needs alike p false apart =
              subst (λ (mark : LineMark). Needs (l.moved p) mark (demand_on p asks))
              (sym (mark_other p q (mark_by f (mark_on q t.marks)) t.marks apart))
              (subst (λ (d : Demand). Needs (l.moved p) (mark_on p t.marks) d) (sym (alike p apart)) (running_job.3 p))
      by_gave true is =
          let idle : RunsOn q (l.moved q) l.instr l.here ds (mark_by f (mark_on q t.marks)) true after =
          subst (λ (b : Bool). RunsOn q (l.moved q) l.instr l.here ds (mark_by f (mark_on q t.marks)) b after) is served.job in
          let told = with_loss (record t { marks = with_mark q (mark_by f (mark_on q t.marks)) t.marks }) in
          let behind : Behind program closing target end all after told (next_of true)
          (next_gone after) l.here l.lines l.done l.moved l.instr line =
          record {
            idle = idle.0;
            there = pc_there;
            unskipped = λ on same. let ends = idle.1 same in cc;
            told_lines = lines_same true;
            taken = next_takes;
            retired =
                subst (AreBelow (l.here + 1)) (sym (retired_same true))
                (below_more l.here (l.here + 1) past.retired (omega arith) l.through.retired);
            told =
                ap (λ (r : List ℕ). list_all (is_among r) (l.done ++ l.here ∷ [])) (retired_same true)
                ∙ unretired_here l.here past.retired l.done l.through.retired;
            begun = λ lost. cc;
          }
          in
          let through_is : through (is_none l.rest) told ≡ turned program (GivenUp q) (seen_there true) t =
          ap (λ (b : Bool). through b told) (sym (l.goes.0.ends)) ∙ ap (λ (r : Reading). through (ends_line r) told) (sym l.stands.0) in
          subst (λ (x : FieldTrack). Visit program closing target end all after x (next_of true) (next_gone after)) through_is
          (advance program closing target end all few after told (next_of true)
          (next_gone after) l.here l.lines l.done l.moved l.instr l.parts l.are l.through.below l.before long
          l.rest behind l.goes.0.ends l.whole l.stands.3 (later_ends l) l.goes.1)

    burst_on : (q : Queue) → Result (burst m.trigger q (counted m)) (seen_burst q l.here (applications m.trigger q m))
        (λ p. served_takings (Some q) p l.here (gone p) (counted m))
    burst_on q =
        let after = burst m.trigger q (counted m) in
        let told = (line_told false running_job.2 l).1 q in
        let served =
        burst-Served q (l.moved q) l.instr l.here m.trigger (counted m) ds (gone q) (takes_in line (past.takes q))
        (mark_on q t.marks) j told (running_job.3 q) in
        let f = flags_of (applications m.trigger q (counted m)) in
        let same : f ≡ flags_of (applications m.trigger q m) = ap flags_of (uncounted q m.trigger m) in
        let new = λ (p : Queue). served_takings (Some q) p l.here (gone p) (counted m) in
        let of_queue : burst_takings m.trigger q l.here (gone q) (counted m) ≡ new q =
        sym (cond-true (is_queue q q) _ _ (queue_itself q)) in
        subst (λ (g : Flags). Result after
        (record { did = if g.gave then GivenUp q else Moved q; at = l.here; took = g.took; ended = g.ended; reserved = g.left }) new) same
        (by_gave q after f new (subst (λ (ts : List Taking). Served q (l.moved q) l.instr l.here (counted m) after ds (gone q)
        (takes_in line (past.takes q)) ts (mark_on q t.marks) f) of_queue served)
        (λ p apart. cond-false (is_queue q p) _ _ (queue_apart p q apart)) f.gave refl)

    serves : (q : Option Queue) → lowest_served ds m ≡ q →
        Result (burst_of q (counted m)) (seen_served q l.here m) (λ p. served_takings q p l.here (gone p) (counted m))
    serves None is = still l.here (inr l)
    serves (Some q) is = burst_on q

    abbrev Ran : Bool → Type 0
    Ran done =
        Result (ran done l.instr ds (counted m)) (seen_running done l.here ds m) (λ p. ran_takings done ds p l.here (gone p) (counted m))

    ran_by : (done : Bool) → is_done ds ≡ done → Ran done
    ran_by true is = retires_here is
    ran_by false is = serves (lowest_served ds m) refl

    pub runs_here : Result (worked (Running l.instr ds) (counted m)) (seen_in (Running l.instr ds) m)
        (λ p. worked_takings (Running l.instr ds) p (gone p) (counted m))
    runs_here =
        subst (λ (at : ℕ). Result (ran (is_done ds) l.instr ds (counted m)) (seen_running (is_done ds) at ds m)
        (λ p. ran_takings (is_done ds) ds p at (gone p) (counted m))) (sym stands_before)
        (ran_by (is_done ds) refl)

  runs_on : (runs : Instr) (ds : Demands) → m.job ≡ Running runs ds → Visit program closing target end all m t past gone →
      Result (worked (Running runs ds) (counted m)) (seen_in (Running runs ds) m)
      (λ p. worked_takings (Running runs ds) p (gone p) (counted m))
  runs_on runs ds j (inl g) = absurd (subst (λ (job : Job). GapJob g.here m.pc job) j g.job)
  runs_on runs ds j (inr l) =
      let job = subst (λ (job : Job). LineJob l.here l.begins l.moved l.instr m.pc m.skipping t.lost t.marks job) j l.job in
      subst (λ (i : Instr). Result (worked (Running i ds) (counted m)) (seen_in (Running i ds) m)
      (λ p. worked_takings (Running i ds) p (gone p) (counted m))) (sym job.0)
      (runs_here l ds (j ∙ ap (λ (i : Instr). Running i ds) job.0))

  -- ---- a turn

  -- a turn goes on in the section, or executes its closing
  abbrev pub Turned : State → Seen → (Queue → List Taking) → Type 0
  Turned after s new =
      (Result after s new × (m.risc_on ≡ true → m.job ≡ Idle → Plainly (fetch program m.pc)))
      ⊎ (Closed after (turned program s.did s t) × (m.risc_on ≡ true))

  idle_turned : m.risc_on ≡ true → Split (fetch program m.pc) →
      Turned (fetched (fetch program m.pc) (counted m)) (seen_alone (fetched_did (fetch program m.pc) m.skipping) m.pc) (λ q. [])
  idle_turned on (inl goes) = inl (goes.0, λ is j. goes.1)
  idle_turned on (inr closed) = inr (closed, on)

  by_job : (job : Job) → m.program ≡ program → m.risc_on ≡ true → m.job ≡ job → Visit program closing target end all m t past gone →
      Turned (worked job (counted m)) (seen_in job m) (λ p. worked_takings job p (gone p) (counted m))
  by_job Idle same on j visit =
      subst
      (λ (p : RiscProgram). Turned (fetched (fetch p m.pc) (counted m)) (seen_alone (fetched_did (fetch p m.pc) m.skipping) m.pc) (λ q. []))
      (sym same)
      (idle_turned on (fetches_on same j visit))
  by_job (Waiting ctl resync code) same on j visit =
      inl (waited_on ctl resync code (address_before m.pc (Sync ctl resync code)) j visit, λ is idle. absurd (idle_waits idle))
    where
      idle_waits : m.job ≡ Idle → ⊥
      idle_waits idle = cc
  by_job (Running instr ds) same on j visit = inl (runs_on instr ds j visit, λ is idle. absurd (idle_runs idle))
    where
      idle_runs : m.job ≡ Idle → ⊥
      idle_runs idle = cc

  by_risc : (on : Bool) → m.risc_on ≡ on → m.program ≡ program → Visit program closing target end all m t past gone →
      Turned (turn_if on (counted m)) (seen_if on m) (λ p. takings_if on p (gone p) (counted m))
  by_risc false is same visit = inl (still m.pc visit, λ on idle. cc)
  by_risc true is same visit = by_job m.job same is refl visit

  pub turn_on : m.program ≡ program → Visit program closing target end all m t past gone →
      Turned (turn m) (seen m) (λ q. step_takings q (gone q) m Turn)
  turn_on same visit = by_risc m.risc_on refl same visit
