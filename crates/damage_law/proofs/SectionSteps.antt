-- Pushes and host writes within a section keep what the track holds of its lines.
use Rattle.std.proofs.Common.{◌≡◌, ℕ, ◌+◌, ◌-◌, ◌<◌, ◌≤◌, ◌⊎◌, inl, inr, Bool, true, false, List, [], ◌∷◌, ◌++◌, length, length-append}
use Rattle.std.proofs.Common.{Option, Some, None, refl, sym, ap, ap₂, ◌∙◌, subst, arith, if◌then◌else◌}
use Rattle.std.specs.Prelude.{is_some}
use Rattle.risc_word.specs.declared.Code.{Code}
use Rattle.risc_word.specs.declared.Ctl.{Ctl}
use Rattle.risc_word.specs.declared.Instr.{Instr}
use Rattle.fifo_model.specs.declared.Entry.{Entry}
use Rattle.fifo_model.specs.declared.Queue.{Queue}
use Rattle.fifo_model.specs.declared.Queue.TheVariants.{One, Two, Three}
use Rattle.fifo_model.specs.Queues.{IsFifo, IsQueue, QueueState, Queues, all_entered, cleared, control_entry, emptied, entered, first}
use Rattle.fifo_model.specs.Queues.{front, is_full, more, overrun, queue_state, some_full, valid_of, with_queue_state}
use Rattle.fifo_model.proofs.ChangesKeepQueues.{IsQueue-queue_state}
use Rattle.machine_model.specs.declared.Demand.{Demand}
use Rattle.machine_model.specs.declared.Job.{Job}
use Rattle.machine_model.specs.declared.Job.TheVariants.{Idle, Waiting, Running}
use Rattle.machine_model.specs.Paths.{RiscProgram}
use Rattle.machine_model.specs.States.{State}
use Rattle.machine_model.specs.Turns.{demand_on}
use Rattle.machine_model.specs.Steps.{push, push_control, push_control_if, push_if, with_fbus_if}
use Rattle.damage_model.specs.Takings.{Taking, left}
use Rattle.damage_model.specs.Marks.{addresses_from}
use Rattle.damage_model.proofs.Orders.{cleared_queue}
use Rattle.dma_machine.specs.Looks.{holds}
use Rattle.damage_map.specs.declared.mark.LineMark.{LineMark}
use Rattle.damage_map.specs.declared.mark.LineMark.TheVariants.{Fresh, Within, Done, Spoilt}
use Rattle.damage_map.specs.declared.mark.LineMarks.{LineMarks}
use Rattle.damage_map.specs.Tracks.{FieldTrack, emptied_mark, emptied_marks, fresh, left_mark, mark_on, max_lines}
use Rattle.damage_law.proofs.LineTold.{Tells, kept-tells, left-tells}
use Rattle.damage_law.proofs.Bursts.{Needs}
use Rattle.damage_law.proofs.Sections.{Past, takes_in}
use Rattle.damage_law.proofs.Visits.{IsBegun, IsTold, LineJob, Visit, gap_job-same, gap_stays, line_job-same, line_stays}
use Rattle.damage_law.proofs.SectionTurns.{QueueKept, next_gone, queue_same, quiet}

-- what a step that isn't a turn leaves as it is
pub record Unmoved (m after : State) : Type 0 where
  pub job : after.job ≡ m.job
  pub pc : after.pc ≡ m.pc
  pub skipping : after.skipping ≡ m.skipping
  pub memory : after.memory ≡ m.memory
  pub queues : (q : Queue) → QueueKept (queue_state q m.queues) (queue_state q after.queues)

-- ---- pushes

first_kept : (entries more : List Entry) (taken : ℕ) → (taken ≡ 0) ⊎ (taken < valid_of (first entries)) → 0 < taken →
    first (entries ++ more) ≡ first entries
first_kept [] more taken (inl none) some = absurd (omega arith)
first_kept [] more taken (inr less) some = absurd (omega arith)
first_kept (entry ∷ rest) more taken part some = refl

entered_kept : (entry : Entry) (held : QueueState) → IsQueue held → QueueKept held (entered entry held)
entered_kept entry held is =
    record {
      taken = refl;
      top = λ some. first_kept held.entries (entry ∷ []) held.taken is.part some;
      more = omega (arith, length-append held.entries (entry ∷ []));
    }

one_changed : (p q : Queue) (held : QueueState) (queues : Queues) → QueueKept (queue_state q queues) held →
    QueueKept (queue_state p queues) (queue_state p (with_queue_state q held queues))
one_changed One One held queues kept = kept
one_changed One Two held queues kept = queue_same queues.one
one_changed One Three held queues kept = queue_same queues.one
one_changed Two One held queues kept = queue_same queues.two
one_changed Two Two held queues kept = kept
one_changed Two Three held queues kept = queue_same queues.two
one_changed Three One held queues kept = queue_same queues.three
one_changed Three Two held queues kept = queue_same queues.three
one_changed Three Three held queues kept = kept

all_changed : (entry : Entry) (queues : Queues) → IsFifo queues → (q : Queue) →
    QueueKept (queue_state q queues) (queue_state q (all_entered entry queues))
all_changed entry queues is One = entered_kept entry queues.one is.one
all_changed entry queues is Two = entered_kept entry queues.two is.two
all_changed entry queues is Three = entered_kept entry queues.three is.three

none_changed : (queues : Queues) (count : ℕ) (q : Queue) →
    QueueKept (queue_state q queues) (queue_state q (record queues { control_overruns = count }))
none_changed queues count One = queue_same queues.one
none_changed queues count Two = queue_same queues.two
none_changed queues count Three = queue_same queues.three

push_by : (full : Bool) (q : Queue) (entry : Entry) (m : State) → IsFifo m.queues →
    Unmoved m (record (with_fbus_if full m) {
      queues =
          if full then with_queue_state q (overrun (queue_state q m.queues)) m.queues
          else with_queue_state q (entered entry (queue_state q m.queues)) m.queues;
    })
push_by true q entry m is =
    record {
      job = refl;
      pc = refl;
      skipping = refl;
      memory = refl;
      queues = λ p.
          one_changed p q (overrun (queue_state q m.queues)) m.queues (record { taken = refl; top = λ some. refl; more = omega arith });
    }
push_by false q entry m is =
    record {
      job = refl;
      pc = refl;
      skipping = refl;
      memory = refl;
      queues =
          λ p. one_changed p q (entered entry (queue_state q m.queues)) m.queues
          (entered_kept entry (queue_state q m.queues) (IsQueue-queue_state q m.queues is));
    }

unmoved_same : (m : State) → Unmoved m m
unmoved_same m = record { job = refl; pc = refl; skipping = refl; memory = refl; queues = λ q. queue_same (queue_state q m.queues) }

push_if_by : (on : Bool) (q : Queue) (entry : Entry) (m : State) → IsFifo m.queues → Unmoved m (push_if on q entry m)
push_if_by true q entry m is = push_by (is_full (queue_state q m.queues)) q entry m is
push_if_by false q entry m is = unmoved_same m

pub push-Unmoved : (q : Queue) (entry : Entry) (m : State) → IsFifo m.queues → Unmoved m (push q entry m)
push-Unmoved q entry m is = push_if_by m.fifo_on q entry m is

control_by : (full : Bool) (code : Code) (m : State) → IsFifo m.queues →
    Unmoved m (record (with_fbus_if full m) {
      queues = if full then record m.queues {
        control_overruns = more m.queues.control_overruns 1;
      } else all_entered (control_entry code) m.queues;
    })
control_by true code m is =
    record { job = refl; pc = refl; skipping = refl; memory = refl; queues = none_changed m.queues (more m.queues.control_overruns 1) }
control_by false code m is =
    record { job = refl; pc = refl; skipping = refl; memory = refl; queues = all_changed (control_entry code) m.queues is }

control_if_by : (on : Bool) (code : Code) (m : State) → IsFifo m.queues → Unmoved m (push_control_if on code m)
control_if_by true code m is = control_by (some_full m.queues) code m is
control_if_by false code m is = unmoved_same m

pub push_control-Unmoved : (code : Code) (m : State) → IsFifo m.queues → Unmoved m (push_control code m)
push_control-Unmoved code m is = control_if_by m.fifo_on code m is

-- ---- the host empties the queues

same_fresh : (some : Bool) (mark : LineMark) → emptied_mark some mark ≡ Fresh → mark ≡ Fresh
same_fresh false mark is = is
same_fresh true Fresh is = refl
same_fresh true Within is = cc
same_fresh true Done is = cc
same_fresh true Spoilt is = cc

stays_fresh : (some : Bool) (mark : LineMark) → mark ≡ Fresh → emptied_mark some mark ≡ Fresh
stays_fresh true mark is = ap left_mark is
stays_fresh false mark is = is

emptied_on : (q : Queue) (one two three : Bool) (marks : LineMarks) →
    (some : Bool) × (mark_on q (emptied_marks one two three marks) ≡ emptied_mark some (mark_on q marks))
emptied_on One one two three marks = (one, refl)
emptied_on Two one two three marks = (two, refl)
emptied_on Three one two three marks = (three, refl)

all_fresh : (one two three : Bool) → emptied_marks one two three fresh ≡ fresh
all_fresh one two three =
    let one_is = stays_fresh one Fresh refl in
    let two_is = stays_fresh two Fresh refl in
    let three_is = stays_fresh three Fresh refl in
    ap₂ (λ (a b : LineMark). record { one = a; two = b; three = emptied_mark three Fresh }) one_is two_is
    ∙ ap (λ (c : LineMark). record { one = Fresh; two = Fresh; three = c }) three_is

-- a queue that is emptied
tells_emptied : (place : ℕ) (held : QueueState) (mark : LineMark) (ts : List Taking) (top : Option Entry) → front held ≡ top →
    IsQueue held → Tells place held ts mark →
    Tells (place + (length held.entries - 0)) (emptied held) ts (emptied_mark (is_some top) mark)
tells_emptied place held mark ts None is queue tells = tells_none (first_none held.entries is)
  where
    first_none : (entries : List Entry) → first entries ≡ None → entries ≡ []
    first_none [] is = refl
    first_none (entry ∷ rest) is = cc

    taken_none : (held.taken ≡ 0) ⊎ (held.taken < valid_of (front held)) → held.taken ≡ 0
    taken_none (inl none) = none
    taken_none (inr less) = let valid : valid_of (front held) ≡ 0 = ap valid_of is in absurd (omega arith)

    tells_none : held.entries ≡ [] → Tells (place + (length held.entries - 0)) (emptied held) ts mark
    tells_none none =
        let long : length held.entries ≡ 0 = ap length none in
        let zero_taken = taken_none queue.part in
        let same : place + (length held.entries - 0) ≡ place = omega arith in
        subst (λ (n : ℕ). Tells n (emptied held) ts mark) (sym same)
        (kept-tells place held (emptied held) ts mark (sym zero_taken) (λ some. absurd (omega arith)) tells)
tells_emptied place held mark ts (Some entry) is queue tells =
    left-tells place (place + (length held.entries - 0)) held (emptied held) ts mark (first_some held.entries is) tells
  where
    first_some : (entries : List Entry) → first entries ≡ Some entry → place < place + (length entries - 0)
    first_some [] is = cc
    first_some (e ∷ rest) is = omega arith

emptied_holds : (q : Queue) (m : State) (marks : LineMarks) →
    mark_on q (emptied_marks (holds One m) (holds Two m) (holds Three m) marks)
    ≡ emptied_mark (is_some (front (queue_state q m.queues))) (mark_on q marks)
emptied_holds One m marks = refl
emptied_holds Two m marks = refl
emptied_holds Three m marks = refl

module _ (program : RiscProgram) (closing : Ctl) (target end : ℕ) (all : List (List ℕ)) (few : length all ≤ max_lines) (m : State)
    (t : FieldTrack) (past : Past) (gone : Queue → ℕ) where
  pub unmoved_on : (after : State) → Unmoved m after → Visit program closing target end all m t past gone →
      Visit program closing target end all after t past (next_gone program closing target end all few m t past gone after)
  unmoved_on after u visit = quiet program closing target end all few m t past gone after u.job u.pc u.skipping u.queues visit

  abbrev marks_emptied : LineMarks
  marks_emptied = emptied_marks (holds One m) (holds Two m) (holds Three m) t.marks

  abbrev emptied_track : FieldTrack
  emptied_track = record t { marks = marks_emptied }

  begun_still : (begins moved : Bool) (q : Queue) → IsBegun begins moved (mark_on q t.marks) →
      IsBegun begins moved (mark_on q marks_emptied)
  begun_still true moved q begun =
      let e = emptied_on q (holds One m) (holds Two m) (holds Three m) t.marks in
      e.1 ∙ stays_fresh e.0 (mark_on q t.marks) begun
  begun_still false moved q begun =
      let e = emptied_on q (holds One m) (holds Two m) (holds Three m) t.marks in
      λ does same. begun does (same_fresh e.0 (mark_on q t.marks) (sym e.1 ∙ same))

  needs_still : (moved : Bool) (q : Queue) (d : Demand) → Needs moved (mark_on q t.marks) d → Needs moved (mark_on q marks_emptied) d
  needs_still moved q d needs =
      let e = emptied_on q (holds One m) (holds Two m) (holds Three m) t.marks in
      record {
        unmoved = needs.unmoved;
        first = λ sol. let f = needs.first sol in (e.1 ∙ stays_fresh e.0 (mark_on q t.marks) f.0, f.1);
        later = λ does sol same. needs.later does sol (same_fresh e.0 (mark_on q t.marks) (sym e.1 ∙ same));
      }

  job_still : (here : ℕ) (begins : Bool) (moved : Queue → Bool) (instr : Instr) (job : Job) →
      LineJob here begins moved instr m.pc m.skipping t.lost t.marks job →
      LineJob here begins moved instr m.pc m.skipping t.lost marks_emptied job
  job_still here begins moved instr Idle h = (h.0, h.1, λ lost q. begun_still begins (moved q) q (h.2 lost q))
  job_still here begins moved instr (Waiting ctl resync code) h = h
  job_still here begins moved instr (Running runs ds) h = (h.0, h.1, h.2, λ q. needs_still (moved q) q (demand_on q ds) (h.3 q))

  module _ (orderly : IsFifo m.queues) (after : State) (queues : after.queues ≡ cleared m.queues) where
    left_all : (q : Queue) → gone q + (length (queue_state q m.queues).entries - 0) ≡ gone q + left q m after
    left_all q =
        let none : length (queue_state q after.queues).entries ≡ 0 =
        ap (λ (qs : Queues). length (queue_state q qs).entries) queues
        ∙ ap (λ (h : QueueState). length h.entries) (cleared_queue q m.queues) in
        omega arith

    told_still : (lost : Bool) (done line : List ℕ) → IsTold lost past gone m.queues t.marks done line →
        IsTold lost past (next_gone program closing target end all few m t past gone after) after.queues marks_emptied done line
    told_still true done line told = told
    told_still false done line told = (
      told.0,
      λ q.
          let held = queue_state q m.queues in
          let now : queue_state q after.queues ≡ emptied held = ap (queue_state q) queues ∙ cleared_queue q m.queues in
          subst (λ (n : ℕ). Tells n (queue_state q after.queues) (takes_in line (past.takes q)) (mark_on q marks_emptied)) (left_all q)
          (subst (λ (h : QueueState). Tells (gone q + (length held.entries - 0)) h (takes_in line (past.takes q)) (mark_on q marks_emptied))
          (sym now)
          (subst (λ (mark : LineMark). Tells (gone q + (length held.entries - 0)) (emptied held) (takes_in line (past.takes q)) mark)
          (sym (emptied_holds q m t.marks))
          (tells_emptied (gone q) held (mark_on q t.marks) (takes_in line (past.takes q)) (front held) refl
          (IsQueue-queue_state q m.queues orderly) (told.1 q)))),
    )

    pub emptied_visit : after.job ≡ m.job → after.pc ≡ m.pc → after.skipping ≡ m.skipping →
        Visit program closing target end all m t past gone →
        Visit program closing target end all after emptied_track past (next_gone program closing target end all few m t past gone after)
    emptied_visit j p s (inl g) =
        inl (gap_stays program closing target end all m after t marks_emptied past g
        (ap (emptied_marks (holds One m) (holds Two m) (holds Three m)) g.fresh ∙ all_fresh (holds One m) (holds Two m) (holds Three m))
        (gap_job-same g.here m after j p g.job))
    emptied_visit j p s (inr l) =
        inr (line_stays program closing target end all m after t marks_emptied past past gone
        (next_gone program closing target end all few m t past gone after) l l.through
        (told_still t.lost l.done (l.done ++ addresses_from l.here (l.instr ∷ l.rest)) l.told)
        (line_job-same l.here l.begins l.moved l.instr t.lost marks_emptied m after j p s
        (job_still l.here l.begins l.moved l.instr m.job l.job)))
