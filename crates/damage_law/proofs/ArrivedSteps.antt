-- While a field arrives, each step keeps every line whole, as the track has it.
use Rattle.std.proofs.Common.{◌≡◌, ℕ, ◌+◌, ◌-◌, ◌*◌, ◌<◌, inl, inr, Bool, true, false, ◌&&◌, ◌==◌, List, [], ◌∷◌, ◌++◌, length, Option}
use Rattle.std.proofs.Common.{Some, None, Ok, if◌then◌else◌, refl, sym, ap, ap₂, ◌∙◌, subst, arith, eq-eqb}
use Rattle.std.specs.List.{list_any}
use Rattle.std.proofs.lemmas.Bool.{and_from, both_ways}
use Rattle.risc_word.specs.declared.Code.{Code}
use Rattle.risc_word.specs.declared.Ctl.{Ctl}
use Rattle.risc_word.specs.declared.Instr.{Instr}
use Rattle.risc_word.specs.declared.Instr.TheVariants.{Write, Skip, WriteC, Jump, Sync, Write123, Skip123, Write1S23}
use Rattle.risc_word.specs.Words.{Reading, encoded}
use Rattle.fifo_model.specs.declared.Entry.{Entry}
use Rattle.fifo_model.specs.declared.Queue.{Queue}
use Rattle.irq_status.specs.declared.HostWrite.TheVariants.{Ack, Enable, Trigger}
use Rattle.page_table.specs.Blocks.{Block}
use Rattle.pixel_layout.specs.declared.Parity.{Parity}
use Rattle.machine_model.specs.declared.Cause.{Cause}
use Rattle.machine_model.specs.declared.Demand.{Demand}
use Rattle.machine_model.specs.declared.Demands.{Demands}
use Rattle.machine_model.specs.declared.Did.TheVariants.{Moved, GivenUp}
use Rattle.machine_model.specs.declared.Job.{Job}
use Rattle.machine_model.specs.declared.Job.TheVariants.{Idle, Waiting, Running}
use Rattle.machine_model.specs.declared.Seen.{Seen}
use Rattle.machine_model.specs.declared.Skipping.{Skipping}
use Rattle.machine_model.specs.declared.Skipping.TheVariants.{Nothing}
use Rattle.machine_model.specs.Paths.{RiscProgram, data_cause, demands_cause, demands_of, fetch, target_before}
use Rattle.machine_model.specs.States.{State}
use Rattle.machine_model.specs.Steps.{Step, Push, Control, Turn, Host, host, push, push_control, step, with_program}
use Rattle.machine_model.specs.Turns.{Store, begun_with, burst, burst_of, common_code, counted, data_fetched, demand_on, fetched}
use Rattle.machine_model.specs.Turns.{instr_fetched, is_done, lowest_served, lowest_stray, ran, retired, synced, turn, turn_if, worked}
use Rattle.machine_model.specs.Seen.{Application, address_before, applications, data_did, discards_reserved, ends, fetched_did, instr_did}
use Rattle.machine_model.specs.Seen.{seen, seen_alone, seen_burst, seen_if, seen_in, seen_running, seen_served, takes, waited_did}
use Rattle.capture_desc.specs.declared.desc.Desc.{Desc}
use Rattle.picture_model.specs.Programs.{compiled}
use Rattle.picture_model.proofs.FaultlessGeometry.{IsRight}
use Rattle.field_law.specs.Arrivals.{IsKept, is_idle, is_queue, is_signal}
use Rattle.field_law.specs.Fields.{Token}
use Rattle.field_law.specs.Sections.{Ask, Holds, HoldsFrom, IsPlain, Section, Uses, IsUsedUp, ask_of, asked, asks, closing_at, words_in}
use Rattle.field_law.specs.Trails.{trail_of}
use Rattle.field_law.proofs.InSection.{StandsIn, begins_in}
use Rattle.field_law.proofs.Painting.{Settling}
use Rattle.field_law.proofs.Opening.{IsReached}
use Rattle.field_law.proofs.Running.{done_rest}
use Rattle.field_law.proofs.AskedAndToCome.{AnyRest}
use Rattle.field_law.proofs.Within.{IsMade, IsWithin, job_asks}
use Rattle.damage_model.proofs.ArrivedTakes.{Took, burst-Took, left_in_line}
use Rattle.damage_model.proofs.Orders.{queue_is}
use Rattle.damage_map.specs.declared.mark.LineMark.{LineMark}
use Rattle.damage_map.specs.declared.mark.LineMark.TheVariants.{Fresh, Done}
use Rattle.damage_map.specs.Tracks.{FieldTrack, ends_line, fresh, is_good, mark_on, met, met_mark, opened, opens, through, track_next}
use Rattle.damage_map.specs.Tracks.{turned, with_mark}
use Rattle.damage_law.proofs.Compiled.{SkipsFew}
use Rattle.damage_law.proofs.AnswersKept.{Keeps, Place}
use Rattle.damage_law.proofs.ArrivedTurns.{GoesWell, IsMarked, left_later, marked_good, marked_taken, parts_left, same_body, well_fetched}
use Rattle.damage_law.proofs.ArrivedTurns.{well_fresh, well_still, well_through}
use Rattle.damage_law.proofs.Bursts.{Needs}
use Rattle.damage_law.proofs.Histories.{Opened}
use Rattle.damage_law.proofs.Sections.{Past, instrs_of, is_none}
use Rattle.damage_law.proofs.SectionSteps.{push-Unmoved, push_control-Unmoved}
use Rattle.damage_law.proofs.SectionTurns.{mark_other, mark_same, uncounted, waited-quiet}
use Rattle.damage_law.proofs.Visits.{GapJob, InLine, LineJob}

-- nothing is known of the stores
abbrev pub Unknown : List Block → (Queue → List Store) → Type 0
Unknown = Settling ⊥ [] (λ address. 0)

unknown_made : IsMade Unknown
unknown_made memory stores q made rest split comes = λ known. absurd known

module _ (d : Desc) (right : IsRight d) (skips : SkipsFew d) (m : State) (t : FieldTrack) (opens_since : Parity → Opened)
    (tolds : Parity → Option (List Bool))
    (h : Keeps d right skips m t opens_since tolds) (g : GoesWell (compiled d) m t) where
  abbrev Well : State → FieldTrack → Type 0
  Well after next = GoesWell (compiled d) after next

  -- ---- a SYNC waits

  fresh_by : (ctl : Ctl) (resync : Bool) (code : Code) → m.job ≡ Waiting ctl resync code → Place d right skips m t opens_since →
      t.marks ≡ fresh
  fresh_by ctl resync code j (inl o) = let idle = o.idle in cc
  fresh_by ctl resync code j (inr i) =
      elim i.visit as (λ _. t.marks ≡ fresh) [
        | inl gap ↦ gap.fresh
        | inr l ↦ absurd (subst (λ (job : Job). LineJob l.here l.begins l.moved l.instr m.pc m.skipping t.lost t.marks job) j l.job)
      ]

  waits : (ctl : Ctl) (resync : Bool) (code : Code) → m.risc_on ≡ true → m.job ≡ Waiting ctl resync code →
      Well (turn m) (track_next m Turn t)
  waits ctl resync code on j =
      let at = address_before m.pc (Sync ctl resync code) in
      let did = waited_did (lowest_stray m.queues) (common_code m.queues) code in
      let seen_is : seen m ≡ seen_alone did at = ap (λ (b : Bool). seen_if b m) on ∙ ap (λ (job : Job). seen_in job m) j in
      let same : track_next m Turn t ≡ t =
      ap (λ (s : Seen). turned m.program s.did s t) seen_is
      ∙ (waited-quiet (lowest_stray m.queues) (common_code m.queues) code m.program (seen_alone did at) t at).0 in
      subst (λ (next : FieldTrack). Well (turn m) next) (sym same)
      (well_fresh (compiled d) (turn m) t g.lines g.lost (fresh_by ctl resync code j h.place))

  -- ---- an instruction is fetched

  module _ (i : Instr) (rest : List Instr) (closing : Ctl) (target : ℕ) (idle : m.job ≡ Idle) (on : m.risc_on ≡ true)
      (unskipped : m.skipping ≡ Nothing)
      (holds : HoldsFrom (compiled d) m.pc (i ∷ rest) closing target) where
    longer : (body : List Instr) (ctl : Ctl) (to : ℕ) → HoldsFrom (compiled d) (m.pc + 4 * length (encoded i)) body ctl to →
        HoldsFrom (compiled d) m.pc (i ∷ body) ctl to
    longer body ctl to later = (holds.0, holds.1, holds.2, later)

    read : fetch m.program m.pc ≡ Ok (i, length (encoded i))
    read = ap (λ (p : RiscProgram). fetch p m.pc) h.program ∙ holds.0

    turn_is : turn m ≡ instr_fetched i (length (encoded i)) (counted m)
    turn_is =
        ap (λ (b : Bool). turn_if b (counted m)) on ∙ ap (λ (job : Job). worked job (counted m)) idle
        ∙ ap (λ (r : Reading). fetched r (counted m)) read

    seen_is : seen m ≡ seen_alone (instr_did i m.skipping) m.pc
    seen_is =
        ap (λ (b : Bool). seen_if b m) on ∙ ap (λ (job : Job). seen_in job m) idle
        ∙ ap (λ (r : Reading). seen_alone (fetched_did r m.skipping) m.pc) read

    abbrev WellWith : Instr → Type 0
    WellWith x =
        Well (instr_fetched x (length (encoded x)) (counted m))
        (turned m.program (instr_did x m.skipping) (seen_alone (instr_did x m.skipping) m.pc) t)

    begins : (cause : Option Cause) (before : Option ℕ) → cause ≡ None →
        ((q : Queue) → ask_of (demand_on q (demands_of i before)) ≡ asked q i) →
        Well (begun_with cause i (length (encoded i)) before (counted m)) t
    begins (Some cause) before fine same = cc
    begins None before fine same =
        well_fetched (compiled d) m (begun_with None i (length (encoded i)) before (counted m)) t i idle refl longer
        (λ q later. ap (λ (a : Ask). left_in_line (a ∷ later)) (same q)) g

    data_begins : data_cause m.program.grants i (target_before i m.target) ≡ None →
        ((q : Queue) → ask_of (demand_on q (demands_of i (target_before i m.target))) ≡ asked q i) →
        Well (data_fetched m.skipping i (length (encoded i)) (counted m))
        (turned m.program (data_did m.skipping) (seen_alone (data_did m.skipping) m.pc) t)
    data_begins fine same =
        subst (λ (skipping : Skipping). Well (data_fetched skipping i (length (encoded i)) (counted m))
        (turned m.program (data_did skipping) (seen_alone (data_did skipping) m.pc) t)) (sym unskipped)
        (begins (data_cause m.program.grants i (target_before i m.target)) (target_before i m.target) fine same)

    syncs : (ctl : Ctl) (resync : Bool) (code : Code) → i ≡ Sync ctl resync code →
        Well (synced ctl resync code (length (encoded i)) (counted m)) (opened resync t)
    syncs ctl true code is =
        well_fresh (compiled d) (synced ctl true code (length (encoded i)) (counted m))
        (record t { marks = fresh; lost = false; lines = [] }) tt refl refl
    syncs ctl false code is =
        well_fetched (compiled d) m (synced ctl false code (length (encoded i)) (counted m)) t i idle refl longer
        (λ q later. ap (λ (x : Instr). left_in_line (asked q x ∷ later)) (sym is)) g

  fetches : (i : Instr) (rest : List Instr) (closing : Ctl) (target : ℕ) (idle : m.job ≡ Idle) (on : m.risc_on ≡ true)
      (unskipped : m.skipping ≡ Nothing)
      (holds : HoldsFrom (compiled d) m.pc (i ∷ rest) closing target) → IsPlain i →
      demands_cause m.program.grants (demands_of i None) ≡ None → WellWith i rest closing target idle on unskipped holds i
  fetches (Jump ctl to) rest closing target idle on unskipped holds plain fine = absurd plain
  fetches (WriteC ctl ends_there off count) rest closing target idle on unskipped holds plain fine = absurd plain
  fetches (Sync ctl resync code) rest closing target idle on unskipped holds plain fine =
      subst (λ (next : FieldTrack). Well (synced ctl resync code (length (encoded (Sync ctl resync code))) (counted m)) next)
      (ap (λ (r : Reading). opened (opens r) t) (sym (read (Sync ctl resync code) rest closing target idle on unskipped holds)))
      (syncs (Sync ctl resync code) rest closing target idle on unskipped holds ctl resync code refl)
  fetches (Write ctl ends_there off count addr) rest closing target idle on unskipped holds plain fine =
      data_begins (Write ctl ends_there off count addr) rest closing target idle on unskipped holds fine (λ q. refl)
  fetches (Skip ctl ends_there count) rest closing target idle on unskipped holds plain fine =
      data_begins (Skip ctl ends_there count) rest closing target idle on unskipped holds fine (λ q. refl)
  fetches (Write123 ctl ends_there off counts addrs) rest closing target idle on unskipped holds plain fine =
      data_begins (Write123 ctl ends_there off counts addrs) rest closing target idle on unskipped holds fine (λ q. refl)
  fetches (Skip123 ctl ends_there counts) rest closing target idle on unskipped holds plain fine =
      data_begins (Skip123 ctl ends_there counts) rest closing target idle on unskipped holds fine (λ q. refl)
  fetches (Write1S23 ctl ends_there off counts addr) rest closing target idle on unskipped holds plain fine =
      data_begins (Write1S23 ctl ends_there off counts addr) rest closing target idle on unskipped holds fine (λ q. refl)

  fetches_first : (body : List Instr) (s : Section) → HoldsFrom (compiled d) m.pc body s.closing s.target →
      m.pc + 4 * words_in body ≡ closing_at s → m.job ≡ Idle → m.risc_on ≡ true → m.skipping ≡ Nothing →
      is_signal s m Turn ≡ false → Well (turn m) (track_next m Turn t)
  fetches_first [] s holds ends_there idle on unskipped silent =
      let here : m.pc ≡ closing_at s = omega arith in
      let signals : is_signal s m Turn ≡ true =
      and_from (m.risc_on && is_idle m.job) (m.pc == closing_at s) (and_from m.risc_on (is_idle m.job) on (ap is_idle idle))
      (eq-eqb m.pc (closing_at s) here) in
      absurd (both_ways (is_signal s m Turn) silent signals)
  fetches_first (i ∷ rest) s holds ends_there idle on unskipped silent =
      let fine = ap (λ (p : RiscProgram). demands_cause p.grants (demands_of i None)) h.program ∙ holds.2 in
      subst (λ (after : State). Well after (track_next m Turn t)) (sym (turn_is i rest s.closing s.target idle on unskipped holds))
      (subst (λ (x : Seen). Well (instr_fetched i (length (encoded i)) (counted m)) (turned m.program x.did x t))
      (sym (seen_is i rest s.closing s.target idle on unskipped holds))
      (fetches i rest s.closing s.target idle on unskipped holds holds.1 fine))

  -- ---- an instruction runs

  module _ (runs : Instr) (ds : Demands) (j : m.job ≡ Running runs ds) (on : m.risc_on ≡ true) where
    abbrev at : ℕ
    at = address_before m.pc runs

    seen_runs : seen m ≡ seen_running (is_done ds) at ds m
    seen_runs = ap (λ (b : Bool). seen_if b m) on ∙ ap (λ (job : Job). seen_in job m) j

    turn_runs : turn m ≡ ran (is_done ds) runs ds (counted m)
    turn_runs = ap (λ (b : Bool). turn_if b (counted m)) on ∙ ap (λ (job : Job). worked job (counted m)) j

    abbrev left_of : Queue → List Instr → ℕ
    left_of q body = left_in_line (ask_of (demand_on q ds) ∷ asks q body)

    was_marked : (q : Queue) (ctl : Ctl) (to : ℕ) (body : List Instr) → HoldsFrom (compiled d) m.pc body ctl to →
        IsMarked (left_of q body) (mark_on q t.marks)
    was_marked q ctl to body holds =
        subst (λ (job : Job). IsMarked (left_in_line (job_asks q job (asks q body))) (mark_on q t.marks)) j (g.marks q ctl to body holds)

    module _ (closing : Ctl) (target end : ℕ) (all : List (List ℕ)) (past : Past) (gone : Queue → ℕ)
        (l : InLine (compiled d) closing target end all m t past gone) where
      line_job : (runs ≡ l.instr) × (m.pc ≡ l.here + 4 * length (encoded l.instr)) × (t.lost ≡ false)
          × ((q : Queue) → Needs (l.moved q) (mark_on q t.marks) (demand_on q ds))
      line_job = subst (λ (job : Job). LineJob l.here l.begins l.moved l.instr m.pc m.skipping t.lost t.marks job) j l.job

      at_here : at ≡ l.here
      at_here = let there = line_job.1 in ap (λ (i : Instr). m.pc - 4 * length (encoded i)) line_job.0 ∙ omega arith

      ends_is : ends_line (fetch m.program at) ≡ is_none l.rest
      ends_is = ap ends_line (ap₂ fetch h.program at_here ∙ l.stands.0) ∙ l.goes.0.ends

      -- it retires
      retired_left : is_done ds ≡ true → (q : Queue) (body : List Instr) → left_of q body ≡ left_in_line (asks q body)
      retired_left done q body = by_sol (demand_on q ds).needs_sol refl
        where
          by_sol : (sol : Bool) → (demand_on q ds).needs_sol ≡ sol → left_of q body ≡ left_in_line (asks q body)
          by_sol true is = let some = ((line_job.3 q).first is).1 in let none = done_rest ds done q in absurd (omega arith)
          by_sol false is =
              let none = done_rest ds done q in
              left_later (demand_on q ds).needs_sol (demand_on q ds).rest (demand_on q ds).address (asks q body) is ∙ omega arith

      ends_line_well : is_done ds ≡ true → l.rest ≡ [] → (q : Queue) → is_good (mark_on q t.marks) ≡ true
      ends_line_well done last q =
          let holds : HoldsFrom (compiled d) m.pc (instrs_of l.parts) closing target =
          subst (λ (pc : ℕ). HoldsFrom (compiled d) pc (instrs_of l.parts) closing target) (sym line_job.1)
          (subst (λ (rest : List Instr).
          HoldsFrom (compiled d) (l.here + 4 * length (encoded l.instr)) (rest ++ instrs_of l.parts) closing target) last l.stands.3) in
          marked_good (left_of q (instrs_of l.parts)) (mark_on q t.marks)
          (retired_left done q (instrs_of l.parts) ∙ parts_left q l.parts l.are) (was_marked q closing target (instrs_of l.parts) holds)

      retires_by : is_done ds ≡ true → (rest : List Instr) → l.rest ≡ rest → Well (retired runs (counted m)) (through (is_none rest) t)
      retires_by done [] last = well_through (compiled d) (retired runs (counted m)) t g.lines g.lost (ends_line_well done last)
      retires_by done (x ∷ more) goes_on =
          record {
            lines = g.lines;
            lost = g.lost;
            marks = λ q ctl to body holds.
                subst (λ (n : ℕ). IsMarked n (mark_on q t.marks)) (retired_left done q body) (was_marked q ctl to body holds);
          }

      retires : is_done ds ≡ true → Well (retired runs (counted m)) (through (ends_line (fetch m.program at)) t)
      retires done =
          subst (λ (ends_there : Bool). Well (retired runs (counted m)) (through ends_there t)) (sym ends_is) (retires_by done l.rest refl)

      runs_by : (done : Bool) → is_done ds ≡ done →
          ((found : Option Queue) →
          Well (burst_of found (counted m)) (turned m.program (seen_served found at m).did (seen_served found at m) t)) →
          Well (ran done runs ds (counted m)) (turned m.program (seen_running done at ds m).did (seen_running done at ds m) t)
      runs_by true done serves = retires done
      runs_by false done serves = serves (lowest_served ds m)

      runs_on : ((found : Option Queue) →
          Well (burst_of found (counted m)) (turned m.program (seen_served found at m).did (seen_served found at m) t)) →
          Well (turn m) (track_next m Turn t)
      runs_on serves =
          subst (λ (after : State). Well after (track_next m Turn t)) (sym turn_runs)
          (subst (λ (x : Seen). Well (ran (is_done ds) runs ds (counted m)) (turned m.program x.did x t)) (sym seen_runs)
          (runs_by (is_done ds) refl serves))

    -- it takes bytes
    module _ (s : Section) (holds : Holds s (compiled d)) (later : Queue → List Entry) (bound : ℕ)
        (w : IsWithin IsUsedUp AnyRest (StandsIn s) Unknown later bound m)
        (needs : (q : Queue) → (demand_on q ds).needs_sol ≡ true → mark_on q t.marks ≡ Fresh) where
      holds_body : HoldsFrom (compiled d) m.pc w.body s.closing s.target
      holds_body = w.stands.holds (compiled d) holds

      only : (other : List Instr) → StandsIn s m.pc other → other ≡ w.body
      only other stands =
          (same_body (compiled d) m.pc other w.body s.closing s.closing s.target s.target (stands.holds (compiled d) holds) holds_body).0

      module _ (q : Queue) where
        abbrev made : List Application
        made = applications m.trigger q m

        abbrev after : State
        after = burst m.trigger q (counted m)

        abbrev TookBy : List Application → Type 0
        TookBy list = Took (StandsIn s) Unknown later unknown_made m.pc w.body only q runs ds after list

        took_there : TookBy made
        took_there =
            subst TookBy (uncounted q m.trigger m)
            (burst-Took (StandsIn s) Unknown later unknown_made m.pc w.body only q runs m.trigger bound ds (counted m) j refl w)

        abbrev mark : LineMark
        mark = mark_on q t.marks

        abbrev next_mark : LineMark
        next_mark = met_mark (list_any takes made) (list_any discards_reserved made) (list_any ends made) mark

        abbrev left_after : Queue → ℕ
        left_after p = left_in_line (ask_of (demand_on p took_there.left) ∷ asks p w.body)

        marked_before : IsMarked (left_of q w.body) mark
        marked_before = was_marked q s.closing s.target w.body holds_body

        still_open : 0 < (demand_on q ds).rest → mark ≡ Done → left_of q w.body ≡ 0 → ⊥
        still_open some is_done_mark none = by_sol (demand_on q ds).needs_sol refl
          where
            by_sol : (sol : Bool) → (demand_on q ds).needs_sol ≡ sol → ⊥
            by_sol true is = let first = needs q is in let never : Fresh ≡ Done = sym first ∙ is_done_mark in cc
            by_sol false is =
                let long = left_later (demand_on q ds).needs_sol (demand_on q ds).rest (demand_on q ds).address (asks q w.body) is in
                absurd (omega arith)

        marked_by : (took_some ended_there : Bool) → list_any takes made ≡ took_some → list_any ends made ≡ ended_there →
            IsMarked (left_after q) (met_mark took_some false ended_there mark)
        marked_by false ended_there is _ =
            subst (λ (x : Demands). IsMarked (left_in_line (ask_of (demand_on q x) ∷ asks q w.body)) mark)
            (sym (took_there.none is).1) marked_before
        marked_by true ended_there is there_ends =
            marked_taken ended_there (left_of q w.body) (left_after q) mark marked_before (still_open (took_there.some is))
            (λ last. took_there.ended (there_ends ∙ last))
            (λ goes. took_there.unended is (there_ends ∙ goes))

        marked_here : IsMarked (left_after q) next_mark
        marked_here =
            subst (λ (left : Bool). IsMarked (left_after q) (met_mark (list_any takes made) left (list_any ends made) mark))
            (sym took_there.reserved)
            (marked_by (list_any takes made) (list_any ends made) refl refl)

        marked_on : (p : Queue) (same : Bool) → is_queue p q ≡ same → IsMarked (left_after p) (mark_on p (with_mark q next_mark t.marks))
        marked_on p true is =
            subst (λ (x : Queue). IsMarked (left_after x) (mark_on x (with_mark q next_mark t.marks))) (sym (queue_is p q is))
            (subst (IsMarked (left_after q)) (sym (mark_same q next_mark t.marks)) marked_here)
        marked_on p false is =
            subst (IsMarked (left_after p)) (sym (mark_other p q next_mark t.marks is))
            (subst (λ (demanded : Demand). IsMarked (left_in_line (ask_of demanded ∷ asks p w.body)) (mark_on p t.marks))
            (sym (took_there.others p is)) (was_marked p s.closing s.target w.body holds_body))

        moved_well : Well after (met q (seen_burst q at made) t)
        moved_well =
            record {
              lines = g.lines;
              lost = g.lost;
              marks =
                  λ p ctl to other holds_other.
                  let there : HoldsFrom (compiled d) m.pc other ctl to =
                  subst (λ (pc : ℕ). HoldsFrom (compiled d) pc other ctl to) took_there.there holds_other in
                  let same = (same_body (compiled d) m.pc other w.body ctl s.closing to s.target there holds_body).0 in
                  subst (λ (job : Job). IsMarked (left_in_line (job_asks p job (asks p other))) (mark_on p (with_mark q next_mark t.marks)))
                  (sym took_there.job)
                  (subst (λ (body : List Instr). IsMarked (left_in_line (ask_of (demand_on p took_there.left) ∷ asks p body))
                  (mark_on p (with_mark q next_mark t.marks))) (sym same)
                  (marked_on p (is_queue p q) refl));
            }

        burst_well : Well after (turned m.program (seen_burst q at made).did (seen_burst q at made) t)
        burst_well =
            subst (λ (gave : Bool). Well after (turned m.program (if gave then GivenUp q else Moved q) (seen_burst q at made) t))
            (sym took_there.gave) moved_well

      serves_well : (found : Option Queue) →
          Well (burst_of found (counted m)) (turned m.program (seen_served found at m).did (seen_served found at m) t)
      serves_well None = well_still (compiled d) m (counted m) t refl refl g
      serves_well (Some q) = burst_well q

    runs_well : (s : Section) → Holds s (compiled d) → (later : Queue → List Entry) (bound : ℕ) →
        IsWithin IsUsedUp AnyRest (StandsIn s) Unknown later bound m → Place d right skips m t opens_since →
        Well (turn m) (track_next m Turn t)
    runs_well s holds later bound w (inl o) = let idle = o.idle in cc
    runs_well s holds later bound w (inr i) =
        elim i.visit as (λ _. Well (turn m) (track_next m Turn t)) [
          | inl gap ↦ absurd (subst (λ (job : Job). GapJob gap.here m.pc job) j gap.job)
          | inr l ↦ in_line _ _ _ _ _ _ l
        ]
      where
        in_line : (closing : Ctl) (target end : ℕ) (all : List (List ℕ)) (past : Past) (gone : Queue → ℕ) →
            InLine (compiled d) closing target end all m t past gone → Well (turn m) (track_next m Turn t)
        in_line closing target end all past gone l =
            let needs = (line_job closing target end all past gone l).3 in
            runs_on closing target end all past gone l (serves_well s holds later bound w (λ q sol. ((needs q).first sol).0))

  -- ---- a step

  module _ (s : Section) (holds : Holds s (compiled d)) (tokens : Queue → List Token) (uses : Uses s tokens) (later : Queue → List Entry)
      (bound : ℕ) where
    abbrev Reached : Type 0
    Reached = IsReached (trail_of s) tokens uses AnyRest (StandsIn s) Unknown (begins_in s) later bound m

    within_turn : (job : Job) → m.job ≡ job → IsWithin IsUsedUp AnyRest (StandsIn s) Unknown later bound m → is_signal s m Turn ≡ false →
        Well (turn m) (track_next m Turn t)
    within_turn Idle j w silent = fetches_first w.body s (w.stands.holds (compiled d) holds) w.stands.there j w.on w.unskipped silent
    within_turn (Waiting ctl resync code) j w silent = waits ctl resync code w.on j
    within_turn (Running runs ds) j w silent = runs_well runs ds j w.on s holds later bound w h.place

    turn_well : Reached → is_signal s m Turn ≡ false → Well (turn m) (track_next m Turn t)
    turn_well (inl o) silent = waits s.opening true s.code o.on o.waits
    turn_well (inr w) silent = within_turn m.job refl w silent

    pub step_well : (st : Step) → IsKept (with_program (compiled d) m) st → Reached → is_signal s m st ≡ false →
        Well (step st m) (track_next m st t)
    step_well Turn kept reached silent = turn_well reached silent
    step_well (Push q entry) kept reached silent =
        let u = push-Unmoved q entry m h.orderly.queues in well_still (compiled d) m (push q entry m) t u.job u.pc g
    step_well (Control code) kept reached silent =
        let u = push_control-Unmoved code m h.orderly.queues in well_still (compiled d) m (push_control code m) t u.job u.pc g
    step_well (Host (Ack mask)) kept reached silent = well_still (compiled d) m (host (Ack mask) m) t refl refl g
    step_well (Host (Trigger number)) kept reached silent = well_still (compiled d) m (host (Trigger number) m) t refl refl g
    step_well (Host (Enable fifo risc)) kept reached silent = absurd kept
