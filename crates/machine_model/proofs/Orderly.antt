-- Every step keeps what every program keeps.
use Rattle.std.proofs.Common.{◌≡◌, ℕ, zero, suc, ◌*◌, ◌^◌, ◌<◌, ◌≤◌, Bool, true, false, ◌⊎◌, Option, Some, None, Ok, Err, IsTrue, refl, sym}
use Rattle.std.proofs.Common.{pow_pos, ap, subst, ◌∙◌, arith, ◌==◌}
use Rattle.risc_word.specs.declared.Code.{Code}
use Rattle.risc_word.specs.declared.Ctl.{Ctl}
use Rattle.risc_word.specs.declared.Instr.{Instr}
use Rattle.risc_word.specs.declared.Instr.TheVariants.{Jump, Sync}
use Rattle.risc_word.specs.Words.{Reading}
use Rattle.sync_status.specs.declared.Verdict.{Verdict}
use Rattle.sync_status.specs.declared.Verdict.TheVariants.{Take, Discard, Broken, Missing}
use Rattle.sync_status.specs.Statuses.{kind_of, valid_bytes, is_control}
use Rattle.fifo_model.specs.declared.Entry.{Entry}
use Rattle.fifo_model.specs.declared.Queue.{Queue}
use Rattle.fifo_model.specs.Queues.{QueueState, Queues, pushed, control_pushed, queue_state, front, front_code, front_valid, valid_of}
use Rattle.fifo_model.specs.Queues.{front_code_of, IsFifo, is_full, some_full}
use Rattle.fifo_model.proofs.Codes.{code-data}
use Rattle.fifo_model.proofs.ChangesKeepQueues.{IsQueue-queue_state, IsFifo-empty, IsFifo-pushed, IsFifo-control_pushed, IsFifo-taken_from}
use Rattle.fifo_model.proofs.ChangesKeepQueues.{IsFifo-removed, IsFifo-all_removed, IsFifo-cleared}
use Rattle.irq_status.specs.declared.HostWrite.{HostWrite}
use Rattle.irq_status.specs.declared.HostWrite.TheVariants.{Ack, Enable, Trigger}
use Rattle.machine_model.specs.declared.Cause.{Cause}
use Rattle.machine_model.specs.declared.Demands.{Demands}
use Rattle.machine_model.specs.declared.Job.TheVariants.{Idle, Waiting, Running}
use Rattle.machine_model.specs.declared.Skipping.{Skipping}
use Rattle.machine_model.specs.declared.Skipping.TheVariants.{Nothing, ToEol, ToSync}
use Rattle.machine_model.specs.Paths.{RiscProgram, fetch, is_data, target_after}
use Rattle.risc_word.specs.Parts.{instr_ends}
use Rattle.machine_model.specs.States.{State, first_state}
use Rattle.machine_model.specs.Turns.{halted, jumped, skipping_after, passed, begun_with, data_fetched, instr_fetched, fetched}
use Rattle.machine_model.specs.Turns.{lowest_stray, common_code, with_fdsr_unless, without_codes, met}
use Rattle.machine_model.specs.Turns.{code_seen, stray_seen, rest_of_line, demand_on, verdict_at, took, ended, judged, retired, turn}
use Rattle.machine_model.specs.Steps.{Step, Push, Control, Turn, Host, with_fbus_if, push_if, push, push_control_if, push_control}
use Rattle.machine_model.specs.Steps.{with_fifo, with_risc, host, step, with_program}
use Rattle.machine_model.specs.Safety.{NoTargetIn, JobFits, IsOrderly, IsStep}
use Rattle.machine_model.proofs.Fronts.{front-stray, codes_there, discarded-data, Takes, take-Takes, valid-some}
use Rattle.machine_model.proofs.Turning.{IsKept, turn-kept}

no_target : (skipping : Skipping) → NoTargetIn skipping None
no_target Nothing = tt
no_target ToEol = refl
no_target ToSync = refl

-- ---- a turn

halts : (m : State) → IsOrderly m → IsOrderly (halted m)
halts m h = record { job = h.job; queues = h.queues; triggered = h.triggered }

jumps : (inside : Bool) (ctl : Ctl) (addr : ℕ) (m : State) → m.job ≡ Idle → IsOrderly m → IsOrderly (jumped inside ctl addr m)
jumps false ctl addr m e h = halts m h
jumps true ctl addr m e h =
    record {
      job = subst (λ job. JobFits m.skipping None job) (sym e) (no_target m.skipping);
      queues = h.queues;
      triggered = h.triggered;
    }

begins : (cause : Option Cause) (instr : Instr) (count : ℕ) (target : Option ℕ) (m : State) → m.job ≡ Idle → m.skipping ≡ Nothing →
    IsTrue (is_data instr) → IsOrderly m → IsOrderly (begun_with cause instr count target m)
begins (Some cause) instr count target m e s d h =
    record {
      job = subst (λ job. JobFits m.skipping target job) (sym e) (subst (λ skipping. NoTargetIn skipping target) (sym s) tt);
      queues = h.queues;
      triggered = h.triggered;
    }
begins None instr count target m e s d h = record { job = (s, d); queues = h.queues; triggered = h.triggered }

skips_on : (skipping : Skipping) (eol : Bool) (target : Option ℕ) → NoTargetIn skipping target →
    NoTargetIn (skipping_after skipping eol) target
skips_on Nothing eol target h = tt
skips_on ToEol true target h = tt
skips_on ToEol false target h = h
skips_on ToSync eol target h = h

passes : (instr : Instr) (count : ℕ) (m : State) → m.job ≡ Idle → IsOrderly m → IsOrderly (passed instr count m)
passes instr count m e h =
    record {
      job =
          subst (λ job. JobFits (skipping_after m.skipping (instr_ends instr).eol) m.target job) (sym e)
          (skips_on m.skipping (instr_ends instr).eol m.target (subst (λ job. JobFits m.skipping m.target job) e h.job));
      queues = h.queues;
      triggered = h.triggered;
    }

moves : (skipping : Skipping) (instr : Instr) (count : ℕ) (m : State) → m.job ≡ Idle → m.skipping ≡ skipping → IsTrue (is_data instr) →
    IsOrderly m → IsOrderly (data_fetched skipping instr count m)
moves Nothing instr count m e s d h = begins _ instr count _ m e s d h
moves ToEol instr count m e s d h = passes instr count m e h
moves ToSync instr count m e s d h = passes instr count m e h

executes : (instr : Instr) (count : ℕ) (m : State) → m.job ≡ Idle → IsOrderly m → IsOrderly (instr_fetched instr count m)
executes (Jump ctl addr) count m e h = jumps _ ctl addr m e h
executes (Sync ctl resync code) count m e h = record { job = (refl, refl); queues = h.queues; triggered = h.triggered }
executes instr count m e h = moves m.skipping instr count m e refl refl h

fetches : (reading : Reading) (m : State) → m.job ≡ Idle → IsOrderly m → IsOrderly (fetched reading m)
fetches (Err fault) m e h = halts m h
fetches (Ok (instr, count)) m e h = executes instr count m e h

signals : (resync : Bool) (m : State) → IsOrderly m → IsOrderly (with_fdsr_unless resync m)
signals true m h = h
signals false m h = record { job = h.job; queues = h.queues; triggered = h.triggered }

meets : (same : Bool) (ctl : Ctl) (resync : Bool) (code : Code) (m : State) → m.job ≡ Waiting ctl resync code → IsOrderly m →
    IsOrderly (without_codes m) → IsOrderly (met same ctl resync m)
meets true ctl resync code m e h gone =
    let fits : JobFits m.skipping m.target (Waiting ctl resync code) = subst (λ job. JobFits m.skipping m.target job) e h.job in
    record {
      job = subst (λ target. NoTargetIn m.skipping target) (sym fits.1) (no_target m.skipping);
      queues = gone.queues;
      triggered = h.triggered;
    }
meets false ctl resync code m e h gone = signals resync (without_codes m) gone

sees : (seen : Option Code) (ctl : Ctl) (resync : Bool) (code : Code) (m : State) → common_code m.queues ≡ seen →
    m.job ≡ Waiting ctl resync code → IsOrderly m → IsOrderly (code_seen seen ctl resync code m)
sees None ctl resync code m s e h = h
sees (Some seen) ctl resync code m s e h =
    let there = codes_there (front_code m.queues.one) (front_code m.queues.two) (front_code m.queues.three) seen s in
    let gone = IsFifo-all_removed m.queues there.0 there.1 there.2 h.queues in
    meets _ ctl resync code m e h (record { job = h.job; queues = gone; triggered = h.triggered })

drops : (stray : Option Queue) (ctl : Ctl) (resync : Bool) (code : Code) (m : State) → lowest_stray m.queues ≡ stray →
    m.job ≡ Waiting ctl resync code → IsOrderly m → IsOrderly (stray_seen stray ctl resync code m)
drops None ctl resync code m s e h = sees _ ctl resync code m refl e h
drops (Some q) ctl resync code m s e h =
    signals resync _
    (record { job = h.job; queues = IsFifo-removed q m.queues (front-stray q m.queues s) h.queues; triggered = h.triggered })

ends : (cut : Bool) (instr : Instr) (m : State) → IsOrderly m → IsOrderly (ended cut instr m)
ends true instr m h = record { job = no_target (rest_of_line instr); queues = h.queues; triggered = h.triggered }
ends false instr m h = h

nonzero : (n : ℕ) → (n == 0) ≡ false → 1 ≤ n
nonzero zero h = cc
nonzero (suc n) h = omega arith

enough : (taken valid : ℕ) → (taken ≡ 0) ⊎ (taken < valid) → 1 ≤ valid → taken < valid
enough taken valid part some = omega arith

takes : (q : Queue) (count : ℕ) (instr : Instr) (ds : Demands) (entry : Entry) (m : State) → m.job ≡ Running instr ds →
    front (queue_state q m.queues) ≡ Some entry → ((demand_on q ds).rest == 0) ≡ false → verdict_at q ds entry m ≡ Take count →
    IsOrderly m →
    IsOrderly (took q count instr ds entry m)
takes q count instr ds entry m e f n v h =
    let held : QueueState = queue_state q m.queues in
    let fits : JobFits m.skipping m.target (Running instr ds) = subst (λ job. JobFits m.skipping m.target job) e h.job in
    let takes : Takes (kind_of entry.status) held.taken (demand_on q ds).rest count =
    take-Takes (kind_of entry.status) (demand_on q ds).needs_sol held.taken (demand_on q ds).rest count v in
    let valid : front_valid held ≡ valid_bytes entry.status = ap valid_of f in
    let some = valid-some entry.status held.taken (demand_on q ds).rest count takes in
    let part = (IsQueue-queue_state q m.queues h.queues).part in
    let below : held.taken < front_valid held = enough held.taken (front_valid held) part (omega arith) in
    let asked : 1 ≤ (demand_on q ds).rest = nonzero (demand_on q ds).rest n in
    let least = takes.least in
    record { job = fits; queues = IsFifo-taken_from q count m.queues (omega arith) (omega arith) h.queues; triggered = h.triggered }

judges : (verdict : Verdict) (q : Queue) (instr : Instr) (ds : Demands) (entry : Entry) (m : State) → m.job ≡ Running instr ds →
    front (queue_state q m.queues) ≡ Some entry → ((demand_on q ds).rest == 0) ≡ false → verdict_at q ds entry m ≡ verdict → IsOrderly m →
    IsOrderly (judged verdict q instr ds entry m)
judges Broken q instr ds entry m e f n v h = record { job = refl; queues = h.queues; triggered = h.triggered }
judges Missing q instr ds entry m e f n v h = record { job = no_target (rest_of_line instr); queues = h.queues; triggered = h.triggered }
judges Discard q instr ds entry m e f n v h =
    let kind = discarded-data (kind_of entry.status) (demand_on q ds).needs_sol (queue_state q m.queues).taken (demand_on q ds).rest v in
    let code : front_code (queue_state q m.queues) ≡ None = ap front_code_of f ∙ code-data (kind_of entry.status) kind in
    record { job = h.job; queues = IsFifo-removed q m.queues code h.queues; triggered = h.triggered }
judges (Take count) q instr ds entry m e f n v h = ends _ instr _ (takes q count instr ds entry m e f n v h)

retires : (instr : Instr) (ds : Demands) (m : State) → m.job ≡ Running instr ds → IsOrderly m → IsOrderly (retired instr m)
retires instr ds m e h =
    let fits : JobFits m.skipping m.target (Running instr ds) = subst (λ job. JobFits m.skipping m.target job) e h.job in
    record {
      job = subst (λ skipping. NoTargetIn skipping (target_after instr m.target)) (sym fits.0) tt;
      queues = h.queues;
      triggered = h.triggered;
    }

orderly : IsKept IsOrderly
orderly =
    record {
      counts = λ m h. record { job = h.job; queues = h.queues; triggered = h.triggered };
      fetches = λ m e h. fetches (fetch m.program m.pc) m e h;
      waits = λ ctl resync code m e h. drops _ ctl resync code m refl e h;
      retires = λ instr ds m e d h. retires instr ds m e h;
      judges = λ q instr ds entry m e f n h. judges _ q instr ds entry m e f n refl h;
    }

pub IsOrderly-turn : (m : State) → IsOrderly m → IsOrderly (turn m)
IsOrderly-turn m h = turn-kept IsOrderly orderly m h

-- ---- the other steps

with_queues : (full : Bool) (m : State) (queues : Queues) → IsFifo queues → IsOrderly m →
    IsOrderly (record (with_fbus_if full m) { queues = queues })
with_queues true m queues f h = record { job = h.job; queues = f; triggered = h.triggered }
with_queues false m queues f h = record { job = h.job; queues = f; triggered = h.triggered }

pushes : (on : Bool) (q : Queue) (entry : Entry) (m : State) → is_control (kind_of entry.status) ≡ false → IsOrderly m →
    IsOrderly (push_if on q entry m)
pushes true q entry m n h =
    with_queues (is_full (queue_state q m.queues)) m (pushed q entry m.queues) (IsFifo-pushed q entry m.queues n h.queues) h
pushes false q entry m n h = h

pub IsOrderly-push : (q : Queue) (entry : Entry) (m : State) → is_control (kind_of entry.status) ≡ false → IsOrderly m →
    IsOrderly (push q entry m)
IsOrderly-push q entry m n h = pushes m.fifo_on q entry m n h

controls : (on : Bool) (code : Code) (m : State) → IsOrderly m → IsOrderly (push_control_if on code m)
controls true code m h = with_queues (some_full m.queues) m (control_pushed code m.queues) (IsFifo-control_pushed code m.queues h.queues) h
controls false code m h = h

pub IsOrderly-push_control : (code : Code) (m : State) → IsOrderly m → IsOrderly (push_control code m)
IsOrderly-push_control code m h = controls m.fifo_on code m h

enables_fifo : (fifo : Bool) (m : State) → IsOrderly m → IsOrderly (with_fifo fifo m)
enables_fifo true m h = record { job = h.job; queues = h.queues; triggered = h.triggered }
enables_fifo false m h = record { job = h.job; queues = IsFifo-cleared m.queues h.queues; triggered = h.triggered }

enables_risc : (risc was_on : Bool) (m : State) → IsOrderly m → IsOrderly (with_risc risc was_on m)
enables_risc true true m h = h
enables_risc true false m h = record { job = tt; queues = h.queues; triggered = h.triggered }
enables_risc false was_on m h = record { job = h.job; queues = h.queues; triggered = h.triggered }

some_power : (number : ℕ) → 0 < 4 * 2 ^ number
some_power number = let some : 0 < 2 ^ number = pow_pos number in omega arith

pub IsOrderly-host : (write : HostWrite) (m : State) → IsOrderly m → IsOrderly (host write m)
IsOrderly-host (Ack mask) m h = record { job = h.job; queues = h.queues; triggered = h.triggered }
IsOrderly-host (Enable fifo risc) m h = enables_risc risc m.risc_on (with_fifo fifo m) (enables_fifo fifo m h)
IsOrderly-host (Trigger number) m h = record { job = h.job; queues = h.queues; triggered = some_power number }

pub IsOrderly-step : (s : Step) (m : State) → IsStep s → IsOrderly m → IsOrderly (step s m)
IsOrderly-step (Push q entry) m n h = IsOrderly-push q entry m n h
IsOrderly-step (Control code) m n h = IsOrderly-push_control code m h
IsOrderly-step Turn m n h = IsOrderly-turn m h
IsOrderly-step (Host write) m n h = IsOrderly-host write m h

pub IsOrderly-first_state : (program : RiscProgram) (fill : ℕ) → IsOrderly (first_state program fill)
IsOrderly-first_state program fill =
    record {
      job = tt;
      queues = IsFifo-empty 70 35 35 (omega arith) (omega arith) (omega arith) (omega arith) (omega arith) (omega arith);
      triggered = omega arith;
    }

-- another program changes nothing of this
pub IsOrderly-with_program : (program : RiscProgram) (m : State) → IsOrderly m → IsOrderly (with_program program m)
IsOrderly-with_program program m h = record { job = h.job; queues = h.queues; triggered = h.triggered }
