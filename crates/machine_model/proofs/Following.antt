-- A machine that runs a sound program stays on its path, and never sets OCERR.
use Rattle.std.proofs.Common.{◌≡◌, ℕ, suc, ◌+◌, ◌*◌, ◌≤◌, Bool, true, false, Option, Some, None, Ok, IsTrue, refl, sym, ap, ap₂, subst, ◌∙◌}
use Rattle.std.proofs.Common.{arith, if◌then◌else◌}
use Rattle.risc_word.specs.declared.Code.{Code}
use Rattle.risc_word.specs.declared.Ctl.{Ctl}
use Rattle.risc_word.specs.declared.Instr.{Instr}
use Rattle.risc_word.specs.declared.Instr.TheVariants.{Jump, Sync}
use Rattle.sync_status.specs.declared.Verdict.{Verdict}
use Rattle.sync_status.specs.declared.Verdict.TheVariants.{Take, Discard, Broken, Missing}
use Rattle.sync_status.specs.Statuses.{kind_of}
use Rattle.fifo_model.specs.declared.Entry.{Entry}
use Rattle.fifo_model.specs.declared.Queue.{Queue}
use Rattle.fifo_model.specs.Queues.{Queues, queue_state, is_full, some_full, pushed, control_pushed}
use Rattle.irq_status.specs.declared.HostWrite.{HostWrite}
use Rattle.irq_status.specs.declared.HostWrite.TheVariants.{Ack, Enable, Trigger}
use Rattle.irq_status.specs.Register.{fbus, fdsr, has_ocerr}
use Rattle.irq_status.proofs.Laws.{ocerr-applied, ocerr-raised, ocerr-acknowledged}
use Rattle.machine_model.specs.declared.Cause.{Cause}
use Rattle.machine_model.specs.declared.Demands.{Demands}
use Rattle.machine_model.specs.declared.Job.{Job}
use Rattle.machine_model.specs.declared.Job.TheVariants.{Idle, Waiting, Running}
use Rattle.machine_model.specs.declared.Skipping.{Skipping}
use Rattle.machine_model.specs.declared.Skipping.TheVariants.{Nothing, ToEol, ToSync}
use Rattle.machine_model.specs.Paths.{RiscProgram, Place, is_word, fetch, is_data, instr_cause, data_cause, target_before, target_after}
use Rattle.machine_model.specs.Paths.{target_moved, place_after, path, IsSound}
use Rattle.risc_word.specs.Parts.{instr_ctl, instr_ends}
use Rattle.machine_model.specs.States.{State}
use Rattle.machine_model.specs.Turns.{given_up, rest_of_line, jumped, skipping_after, begun_with, data_fetched, instr_fetched, fetched}
use Rattle.machine_model.specs.Turns.{with_fdsr_unless, met, code_seen, stray_seen, demand_on}
use Rattle.machine_model.specs.Turns.{demand_less, with_demand, verdict_at, took, ended, judged, retired, turn}
use Rattle.machine_model.specs.Steps.{Step, Push, Control, Turn, Host, with_fbus_if, push_if, push_control_if, with_fifo, with_risc, host}
use Rattle.machine_model.specs.Steps.{step}
use Rattle.machine_model.specs.Safety.{TargetAt, RunsAt, JobAt}
use Rattle.machine_model.proofs.Fronts.{take-Takes}
use Rattle.machine_model.proofs.Places.{place-IsFine, path-suc, place_after-data, cause-data, jump-is_word, first-none}
use Rattle.machine_model.proofs.Demanded.{demand-granted, demand_less-granted, with_demand-granted}
use Rattle.machine_model.proofs.Turning.{IsKept, turn-kept}

-- the machine runs this program, is on its path, and OCERR is 0
pub record Follows (program : RiscProgram) (m : State) : Type 0 where
  pub same : m.program ≡ program
  pub number : ℕ
  pub there : JobAt program (path program number) m.pc m.skipping m.target m.job
  pub no_error : has_ocerr m.interrupts ≡ false

-- ---- the facts of each job

pub idle_there : (program : RiscProgram) (place : Place) (pc : ℕ) (skipping : Skipping) (target : Option ℕ) (job : Job) → job ≡ Idle →
    JobAt program place pc skipping target job → (pc ≡ place.pc) × TargetAt skipping target place.target
idle_there program place pc skipping target job e h = subst (λ j. JobAt program place pc skipping target j) e h

pub waits_there : (program : RiscProgram) (place : Place) (pc : ℕ) (skipping : Skipping) (target : Option ℕ) (job : Job) (ctl : Ctl)
    (resync : Bool) (code : Code) →
    job ≡ Waiting ctl resync code → JobAt program place pc skipping target job →
    (pc ≡ place.pc) × (skipping ≡ Nothing) × (target ≡ None) × (place.target ≡ None)
waits_there program place pc skipping target job ctl resync code e h = subst (λ j. JobAt program place pc skipping target j) e h

pub runs_there : (program : RiscProgram) (place : Place) (pc : ℕ) (skipping : Skipping) (target : Option ℕ) (job : Job) (instr : Instr)
    (ds : Demands) →
    job ≡ Running instr ds → JobAt program place pc skipping target job → RunsAt program place pc skipping target instr ds
runs_there program place pc skipping target job instr ds e h = subst (λ j. JobAt program place pc skipping target j) e h

idle_at : (program : RiscProgram) (place next : Place) (pc : ℕ) (skipping : Skipping) (target : Option ℕ) (job : Job) → job ≡ Idle →
    next ≡ place →
    pc ≡ place.pc → TargetAt skipping target place.target → JobAt program next pc skipping target job
idle_at program place next pc skipping target job e n p t =
    subst (λ j. JobAt program next pc skipping target j) (sym e)
    (subst (λ at. (pc ≡ at.pc) × TargetAt skipping target at.target) (sym n) (p, t))

abbrev place_of : ℕ → Option ℕ → Place
place_of pc target = record { pc = pc; target = target }

no_target : (skipping : Skipping) → TargetAt skipping None None
no_target Nothing = refl
no_target ToEol = refl
no_target ToSync = refl

module _ (program : RiscProgram) (sound : IsSound program) where
  -- ---- fetching

  jumps : (inside : Bool) (ctl : Ctl) (addr : ℕ) (count : ℕ) (m : State) (h : Follows program m) → m.job ≡ Idle →
      fetch program (path program h.number).pc ≡ Ok (Jump ctl addr, count) → inside ≡ true → Follows program (jumped inside ctl addr m)
  jumps false ctl addr count m h e f i = cc
  jumps true ctl addr count m h e f i =
      record {
        same = h.same;
        number = suc h.number;
        there =
            idle_at program (place_after (Jump ctl addr) count (path program h.number))
            (path program (suc h.number)) addr m.skipping None m.job e
            (path-suc program h.number (Jump ctl addr) count sound f) refl (no_target m.skipping);
        no_error = ocerr-applied ctl m.interrupts ∙ h.no_error;
      }

  syncs : (ctl : Ctl) (resync : Bool) (code : Code) (count : ℕ) (m : State) (h : Follows program m) → m.job ≡ Idle →
      fetch program (path program h.number).pc ≡ Ok (Sync ctl resync code, count) →
      Follows program (instr_fetched (Sync ctl resync code) count m)
  syncs ctl resync code count m h e f =
      let place = path program h.number in
      let next : path program (suc h.number) ≡ place_after (Sync ctl resync code) count place =
      path-suc program h.number (Sync ctl resync code) count sound f in
      let at = idle_there program place m.pc m.skipping m.target m.job e h.there in
      record {
        same = h.same;
        number = suc h.number;
        there = (ap (λ pc. pc + 4 * count) at.0 ∙ sym (ap (λ p. p.pc) next), refl, refl, ap (λ p. p.target) next);
        no_error = h.no_error;
      }

  begins : (cause : Option Cause) (instr : Instr) (count : ℕ) (target : Option ℕ) (m : State) (h : Follows program m) →
      m.skipping ≡ Nothing →
      m.pc ≡ (path program h.number).pc → IsTrue (is_data instr) → fetch program (path program h.number).pc ≡ Ok (instr, count) →
      target ≡ target_before instr (path program h.number).target → data_cause program.grants instr target ≡ None → cause ≡ None →
      Follows program (begun_with cause instr count target m)
  begins (Some cause) instr count target m h s p d f t c n = cc
  begins None instr count target m h s p d f t c n =
      record {
        same = h.same;
        number = h.number;
        there =
            record {
              length_in_words = count;
              stands = f;
              moves_data = d;
              after = ap (λ pc. pc + 4 * count) p;
              acting = t;
              unskipped = s;
              within = (first-none _ _ c).1;
            };
        no_error = h.no_error;
      }

  skips_on : (skipping : Skipping) (eol : Bool) (target there moved : Option ℕ) → ((skipping ≡ Nothing) → ⊥) →
      TargetAt skipping target there →
      TargetAt (skipping_after skipping eol) target (if eol then None else moved)
  skips_on Nothing eol target there moved n h = absurd (n refl)
  skips_on ToEol true target there moved n h = h
  skips_on ToEol false target there moved n h = h
  skips_on ToSync true target there moved n h = h
  skips_on ToSync false target there moved n h = h

  passes : (instr : Instr) (count : ℕ) (m : State) (h : Follows program m) → m.job ≡ Idle → ((m.skipping ≡ Nothing) → ⊥) →
      IsTrue (is_data instr) →
      fetch program (path program h.number).pc ≡ Ok (instr, count) → Follows program (data_fetched ToEol instr count m)
  passes instr count m h e n d f =
      let place = path program h.number in
      let at = idle_there program place m.pc m.skipping m.target m.job e h.there in
      let moved = target_moved instr (target_before instr place.target) in
      let next : path program (suc h.number) ≡ record {
        pc = place.pc + 4 * count;
        target = target_after instr (target_before instr place.target);
      } =
      path-suc program h.number instr count sound f ∙ place_after-data instr count place d in
      record {
        same = h.same;
        number = suc h.number;
        there =
            idle_at program (record { pc = place.pc + 4 * count; target = target_after instr (target_before instr place.target) })
            (path program (suc h.number))
            (m.pc + 4 * count) (skipping_after m.skipping (instr_ends instr).eol) m.target m.job e next (ap (λ pc. pc + 4 * count) at.0)
            (skips_on m.skipping (instr_ends instr).eol m.target place.target moved n at.1);
        no_error = h.no_error;
      }

  moves : (skipping : Skipping) (instr : Instr) (count : ℕ) (m : State) (h : Follows program m) → m.job ≡ Idle → m.skipping ≡ skipping →
      IsTrue (is_data instr) → fetch program (path program h.number).pc ≡ Ok (instr, count) →
      instr_cause program instr (path program h.number).target ≡ None → Follows program (data_fetched skipping instr count m)
  moves Nothing instr count m h e s d f c =
      let place = path program h.number in
      let at = idle_there program place m.pc m.skipping m.target m.job e h.there in
      let target : m.target ≡ place.target = subst (λ skipping. TargetAt skipping m.target place.target) s at.1 in
      let acting : target_before instr m.target ≡ target_before instr place.target = ap (target_before instr) target in
      let fine : data_cause program.grants instr (target_before instr m.target) ≡ None =
      ap (data_cause program.grants instr) acting ∙ sym (cause-data program instr place.target d) ∙ c in
      let seen : data_cause m.program.grants instr (target_before instr m.target) ≡ None =
      ap (λ p. data_cause p.grants instr (target_before instr m.target)) h.same ∙ fine in
      begins _ instr count (target_before instr m.target) m h s at.0 d f acting fine seen
  moves ToEol instr count m h e s d f c = passes instr count m h e (λ n. cc) d f
  moves ToSync instr count m h e s d f c = passes instr count m h e (λ n. cc) d f

  executes : (instr : Instr) (count : ℕ) (m : State) (h : Follows program m) → m.job ≡ Idle →
      fetch program (path program h.number).pc ≡ Ok (instr, count) →
      instr_cause program instr (path program h.number).target ≡ None → Follows program (instr_fetched instr count m)
  executes (Jump ctl addr) count m h e f c =
      jumps _ ctl addr count m h e f
      (ap (λ p. is_word p addr) h.same ∙ jump-is_word program ctl addr (path program h.number).target c)
  executes (Sync ctl resync code) count m h e f c = syncs ctl resync code count m h e f
  executes instr count m h e f c = moves m.skipping instr count m h e refl refl f c

  pub fetch-stands : (m : State) (h : Follows program m) → m.job ≡ Idle → fetch m.program m.pc ≡ fetch program (path program h.number).pc
  fetch-stands m h e =
      ap₂ fetch h.same (idle_there program (path program h.number) m.pc m.skipping m.target m.job e h.there).0

  fetches : (m : State) → m.job ≡ Idle → Follows program m → Follows program (fetched (fetch m.program m.pc) m)
  fetches m e h =
      let fine = place-IsFine program h.number sound in
      subst (λ reading. Follows program (fetched reading m)) (sym (fetch-stands m h e ∙ fine.stands))
      (executes fine.instr fine.length_in_words m h e fine.stands fine.fine)

  -- ---- waiting

  signals : (resync : Bool) (m : State) → Follows program m → Follows program (with_fdsr_unless resync m)
  signals true m h = h
  signals false m h =
      record { same = h.same; number = h.number; there = h.there; no_error = ocerr-raised m.interrupts fdsr h.no_error refl }

  meets : (same : Bool) (ctl : Ctl) (resync : Bool) (code : Code) (m : State) → m.job ≡ Waiting ctl resync code → Follows program m →
      Follows program (met same ctl resync m)
  meets true ctl resync code m e h =
      let place = path program h.number in
      let at = waits_there program place m.pc m.skipping m.target m.job ctl resync code e h.there in
      record {
        same = h.same;
        number = h.number;
        there = (at.0, subst (λ skipping. TargetAt skipping m.target place.target) (sym at.1) (at.2 ∙ sym at.3));
        no_error = ocerr-applied ctl m.interrupts ∙ h.no_error;
      }
  meets false ctl resync code m e h =
      signals resync _ (record { same = h.same; number = h.number; there = h.there; no_error = h.no_error })

  sees : (seen : Option Code) (ctl : Ctl) (resync : Bool) (code : Code) (m : State) → m.job ≡ Waiting ctl resync code → Follows program m →
      Follows program (code_seen seen ctl resync code m)
  sees None ctl resync code m e h = h
  sees (Some seen) ctl resync code m e h = meets _ ctl resync code m e h

  drops : (stray : Option Queue) (ctl : Ctl) (resync : Bool) (code : Code) (m : State) → m.job ≡ Waiting ctl resync code →
      Follows program m →
      Follows program (stray_seen stray ctl resync code m)
  drops None ctl resync code m e h = sees _ ctl resync code m e h
  drops (Some q) ctl resync code m e h =
      signals resync _ (record { same = h.same; number = h.number; there = h.there; no_error = h.no_error })

  -- ---- running

  -- the place after the running instruction
  pub after_running : (instr : Instr) (ds : Demands) (number : ℕ) (m : State) →
      RunsAt program (path program number) m.pc m.skipping m.target instr ds →
      path program (suc number) ≡ place_of m.pc (target_after instr m.target)
  after_running instr ds number m r =
      let place = path program number in
      path-suc program number instr r.length_in_words sound r.stands ∙ place_after-data instr r.length_in_words place r.moves_data
      ∙ ap₂ (λ (pc : ℕ) (target : Option ℕ). place_of pc (target_after instr target)) (sym r.after) (sym r.acting)

  gives_up : (skipping : Skipping) (instr : Instr) (ds : Demands) (m : State) → m.job ≡ Running instr ds →
      TargetAt skipping None (target_after instr m.target) → Follows program m → Follows program (given_up skipping m)
  gives_up skipping instr ds m e t h =
      let runs = runs_there program (path program h.number) m.pc m.skipping m.target m.job instr ds e h.there in
      record {
        same = h.same;
        number = suc h.number;
        there =
            idle_at program (place_of m.pc (target_after instr m.target)) (path program (suc h.number)) m.pc skipping None Idle refl
            (after_running instr ds h.number m runs) refl t;
        no_error = ocerr-raised m.interrupts fdsr h.no_error refl;
      }

  rest_target : (eol : Bool) (moved : Option ℕ) → TargetAt (if eol then Nothing else ToEol) None (if eol then None else moved)
  rest_target true moved = refl
  rest_target false moved = refl

  ends : (cut : Bool) (instr : Instr) (ds : Demands) (m : State) → m.job ≡ Running instr ds → Follows program m →
      Follows program (ended cut instr m)
  ends true instr ds m e h = gives_up (rest_of_line instr) instr ds m e (rest_target (instr_ends instr).eol (target_moved instr m.target)) h
  ends false instr ds m e h = h

  takes : (q : Queue) (count : ℕ) (instr : Instr) (ds : Demands) (entry : Entry) (m : State) → m.job ≡ Running instr ds →
      count ≤ (demand_on q ds).rest → Follows program m → Follows program (took q count instr ds entry m)
  takes q count instr ds entry m e le h =
      let runs = runs_there program (path program h.number) m.pc m.skipping m.target m.job instr ds e h.there in
      record {
        same = h.same;
        number = h.number;
        there =
            record {
              length_in_words = runs.length_in_words;
              stands = runs.stands;
              moves_data = runs.moves_data;
              after = runs.after;
              acting = runs.acting;
              unskipped = runs.unskipped;
              within =
                  with_demand-granted program.grants q (demand_less count (demand_on q ds)) ds
                  (demand_less-granted program.grants (demand_on q ds) count le (demand-granted program.grants q ds runs.within))
                  runs.within;
            };
        no_error = h.no_error;
      }

  judges : (verdict : Verdict) (q : Queue) (instr : Instr) (ds : Demands) (entry : Entry) (m : State) → m.job ≡ Running instr ds →
      verdict_at q ds entry m ≡ verdict → Follows program m → Follows program (judged verdict q instr ds entry m)
  judges Broken q instr ds entry m e v h = gives_up ToSync instr ds m e refl h
  judges Missing q instr ds entry m e v h =
      gives_up (rest_of_line instr) instr ds m e (rest_target (instr_ends instr).eol (target_moved instr m.target)) h
  judges Discard q instr ds entry m e v h =
      record { same = h.same; number = h.number; there = h.there; no_error = ocerr-raised m.interrupts fdsr h.no_error refl }
  judges (Take count) q instr ds entry m e v h =
      let least =
      (take-Takes (kind_of entry.status) (demand_on q ds).needs_sol (queue_state q m.queues).taken (demand_on q ds).rest count v).least in
      ends _ instr (with_demand q (demand_less count (demand_on q ds)) ds) (took q count instr ds entry m) refl
      (takes q count instr ds entry m e (omega arith) h)

  retires : (instr : Instr) (ds : Demands) (m : State) → m.job ≡ Running instr ds → Follows program m → Follows program (retired instr m)
  retires instr ds m e h =
      let runs = runs_there program (path program h.number) m.pc m.skipping m.target m.job instr ds e h.there in
      record {
        same = h.same;
        number = suc h.number;
        there =
            idle_at program (place_of m.pc (target_after instr m.target)) (path program (suc h.number)) m.pc m.skipping
            (target_after instr m.target) Idle refl
            (after_running instr ds h.number m runs) refl
            (subst (λ skipping. TargetAt skipping (target_after instr m.target) (target_after instr m.target)) (sym runs.unskipped) refl);
        no_error = ocerr-applied (instr_ctl instr) m.interrupts ∙ h.no_error;
      }

  pub follows : IsKept (Follows program)
  follows =
      record {
        counts = λ m h. record { same = h.same; number = h.number; there = h.there; no_error = h.no_error };
        fetches = λ m e h. fetches m e h;
        waits = λ ctl resync code m e h. drops _ ctl resync code m e h;
        retires = λ instr ds m e d h. retires instr ds m e h;
        judges = λ q instr ds entry m e f n h. judges _ q instr ds entry m e refl h;
      }

  pub Follows-turn : (m : State) → Follows program m → Follows program (turn m)
  Follows-turn m h = turn-kept (Follows program) follows m h

  -- ---- the other steps

  with_queues : (full : Bool) (m : State) (queues : Queues) → Follows program m →
      Follows program (record (with_fbus_if full m) { queues = queues })
  with_queues true m queues h =
      record { same = h.same; number = h.number; there = h.there; no_error = ocerr-raised m.interrupts fbus h.no_error refl }
  with_queues false m queues h = record { same = h.same; number = h.number; there = h.there; no_error = h.no_error }

  pushes : (on : Bool) (q : Queue) (entry : Entry) (m : State) → Follows program m → Follows program (push_if on q entry m)
  pushes true q entry m h = with_queues (is_full (queue_state q m.queues)) m (pushed q entry m.queues) h
  pushes false q entry m h = h

  controls : (on : Bool) (code : Code) (m : State) → Follows program m → Follows program (push_control_if on code m)
  controls true code m h = with_queues (some_full m.queues) m (control_pushed code m.queues) h
  controls false code m h = h

  enables_fifo : (fifo : Bool) (m : State) → Follows program m → Follows program (with_fifo fifo m)
  enables_fifo true m h = record { same = h.same; number = h.number; there = h.there; no_error = h.no_error }
  enables_fifo false m h = record { same = h.same; number = h.number; there = h.there; no_error = h.no_error }

  enables_risc : (risc was_on : Bool) (m : State) → Follows program m → Follows program (with_risc risc was_on m)
  enables_risc true true m h = h
  enables_risc true false m h =
      record { same = h.same; number = 0; there = (ap (λ p. p.base) h.same, refl); no_error = h.no_error }
  enables_risc false was_on m h = record { same = h.same; number = h.number; there = h.there; no_error = h.no_error }

  pub Follows-host : (write : HostWrite) (m : State) → Follows program m → Follows program (host write m)
  Follows-host (Ack mask) m h =
      record { same = h.same; number = h.number; there = h.there; no_error = ocerr-acknowledged m.interrupts mask h.no_error }
  Follows-host (Enable fifo risc) m h = enables_risc risc m.risc_on (with_fifo fifo m) (enables_fifo fifo m h)
  Follows-host (Trigger number) m h = record { same = h.same; number = h.number; there = h.there; no_error = h.no_error }

  pub Follows-step : (s : Step) (m : State) → Follows program m → Follows program (step s m)
  Follows-step (Push q entry) m h = pushes m.fifo_on q entry m h
  Follows-step (Control code) m h = controls m.fifo_on code m h
  Follows-step Turn m h = Follows-turn m h
  Follows-step (Host write) m h = Follows-host write m h
