-- Where there is room for plain entries the machine takes them, whatever its program is, and stays a machine.
use Rattle.std.proofs.Common.{◌≡◌, ℕ, zero, suc, ◌*◌, ◌<◌, ◌≤◌, Bool, true, false, not, List, [], ◌∷◌}
use Rattle.std.proofs.Common.{length, replicate, refl, sym, ap, subst, ◌∙◌, arith, if◌then◌else◌, ◌==◌}
use Rattle.std.specs.Prelude.{◌&&◌, is_none}
use Rattle.std.proofs.lemmas.Bool.{and_parts, not-true}
use Rattle.risc_word.specs.declared.Instr.{Instr}
use Rattle.risc_word.specs.Parts.{instr_off}
use Rattle.fifo_model.specs.declared.Queue.{Queue}
use Rattle.fifo_model.specs.declared.Queue.TheVariants.{One, Two, Three}
use Rattle.fifo_model.specs.Queues.{Queues, IsFifo, front, queue_state}
use Rattle.fifo_model.proofs.ChangesKeepQueues.{IsQueue-queue_state}
use Rattle.machine_model.specs.declared.Demands.{Demands}
use Rattle.machine_model.specs.declared.Job.{Job}
use Rattle.machine_model.specs.declared.Job.TheVariants.{Idle, Running, Waiting}
use Rattle.machine_model.specs.Paths.{RiscProgram}
use Rattle.machine_model.specs.PlainEntries.{plain_entry, plain_steps}
use Rattle.machine_model.specs.States.{State}
use Rattle.machine_model.specs.Steps.{Push, Turn, push, run, step, with_program}
use Rattle.machine_model.specs.Turns.{demand_on}
use Rattle.machine_model.proofs.Runs.{run-append}
use Rattle.dma_machine.specs.declared.engine.Phase.{Phase}
use Rattle.dma_machine.specs.declared.engine.Phase.TheVariants as phase
use Rattle.dma_machine.specs.declared.engine.Wait.{Wait}
use Rattle.dma_machine.specs.Views.{job_of}
use Rattle.dma_machine.specs.Facts.{HaveRoom, IsMachine}
use Rattle.dma_machine.specs.Plain.{AreRun, lets_plain, plain_room, room_in}
use Rattle.dma_machine.specs.Plain.{whole_entries}
use Rattle.dma_machine.specs.Stills.{none_served}
use Rattle.dma_machine.proofs.FallThrough.{empty_queue}
use Rattle.dma_machine.proofs.Machines.{IsMachine-step}
use Rattle.dma_machine.proofs.PlainRuns.{length_dwords}
use Rattle.dma_machine.proofs.PlainTakes.{Takes}

-- ---- where there is room for them

pub record Chosen (is : Bool) (most count : ℕ) : Type 0 where
  true_is : is ≡ true
  within : count ≤ most

pub chosen : (is : Bool) (most count : ℕ) → 0 < count → count ≤ (if is then most else 0) → Chosen is most count
chosen true most count some le = record { true_is = refl; within = le }
chosen false most count some le = absurd (omega (arith, some, le))

pub capacity_of : (q : Queue) (trigger : ℕ) (queues : Queues) → HaveRoom trigger queues → trigger ≤ (queue_state q queues).capacity
capacity_of One trigger queues h = let most = h.most in let one = h.one in omega (arith, most, one)
capacity_of Two trigger queues h = let most = h.most in let two = h.two in omega (arith, most, two)
capacity_of Three trigger queues h = let most = h.most in let three = h.three in omega (arith, most, three)

pub takes_room : (q : Queue) (count : ℕ) (m : State) (instr : Instr) (ds : Demands) → m.job ≡ Running instr ds → IsFifo m.queues →
    1 ≤ m.trigger → HaveRoom m.trigger m.queues → 0 < count → count ≤ plain_room q m → Takes q count instr ds m
takes_room q count m instr ds job fifo triggered queues some le =
    let works = chosen (m.fifo_on && m.risc_on) (room_in m.job q m) count some le in
    let on = and_parts m.fifo_on m.risc_on works.true_is in
    let lets = chosen (lets_plain q instr ds m) (whole_entries q ds) count some (subst (λ job. count ≤ room_in job q m) job works.within) in
    let within = lets.within in
    let none =
    and_parts (is_none (front (queue_state q m.queues)))
    (not (demand_on q ds).needs_sol && ((instr_off instr == 0) && none_served ds m)) lets.true_is in
    let sol = and_parts (not (demand_on q ds).needs_sol) ((instr_off instr == 0) && none_served ds m) none.1 in
    let off = and_parts (instr_off instr == 0) (none_served ds m) sol.1 in
    record {
      on = on.0;
      runs = on.1;
      job = job;
      empty = empty_queue (queue_state q m.queues) (IsQueue-queue_state q m.queues fifo) none.0;
      some = triggered;
      room = capacity_of q m.trigger m.queues queues;
      sol = not-true _ sol.0;
      off = grind (arith, off.0);
      still = off.1;
      rest = omega (arith, within, some);
      all = omega (arith, within, some);
    }

-- there is room for as many as are given
pub takes_all : (q : Queue) (m : State) (instr : Instr) (ds : Demands) → m.job ≡ Running instr ds → IsFifo m.queues → 1 ≤ m.trigger →
    HaveRoom m.trigger m.queues → (sum : ℕ) (dwords : List ℕ) (entries : List (ℕ × ℕ)) → 0 < length dwords →
    length dwords ≤ 4 * plain_room q m → AreRun dwords sum entries → Takes q (length entries) instr ds m
takes_all q m instr ds job fifo triggered queues sum dwords entries some room given =
    let many = ap length (sym given.plain.dwords) ∙ length_dwords entries in
    takes_room q (length entries) m instr ds job fifo triggered queues (omega (arith, many, some)) (omega (arith, many, room))

-- an instruction runs there
pub room_running : (at : Phase) (wait : Wait) (instr : Instr) (ds : Demands) (q : Queue) (count : ℕ) (m : State) →
    m.job ≡ job_of at wait instr ds →
    0 < count → count ≤ plain_room q m → at ≡ phase.Running
room_running at wait instr ds q count m is some le =
    by_phase at (subst (λ job. count ≤ room_in job q m) is (chosen (m.fifo_on && m.risc_on) (room_in m.job q m) count some le).within)
  where
    by_phase : (at : Phase) → count ≤ room_in (job_of at wait instr ds) q m → at ≡ phase.Running
    by_phase phase.Idle le = absurd (omega (arith, some, le))
    by_phase phase.Waiting le = absurd (omega (arith, some, le))
    by_phase phase.Running le = refl

-- ---- whatever the program is

pub room-program : (program : RiscProgram) (job : Job) (q : Queue) (m : State) → room_in job q (with_program program m) ≡ room_in job q m
room-program program Idle q m = refl
room-program program (Waiting ctl resync code) q m = refl
room-program program (Running instr ds) q m = refl

pub plain_room-program : (program : RiscProgram) (q : Queue) (m : State) → plain_room q (with_program program m) ≡ plain_room q m
plain_room-program program q m = ap (λ room. if m.fifo_on && m.risc_on then room else 0) (room-program program m.job q m)

-- ---- they leave a machine

pub turns_leave : (count : ℕ) (m : State) → IsMachine m → IsMachine (run m (replicate count Turn))
turns_leave zero m h = h
turns_leave (suc count) m h = turns_leave count (step Turn m) (IsMachine-step Turn m (step Turn m) refl tt tt h)

pub plain_leave : (q : Queue) (entries : List (ℕ × ℕ)) (m : State) → IsMachine m → IsMachine (run m (plain_steps q entries))
plain_leave q [] m h = h
plain_leave q (entry ∷ entries) m h =
    let pushed : IsMachine (push q (plain_entry entry.0) m) =
    IsMachine-step (Push q (plain_entry entry.0)) m (push q (plain_entry entry.0) m) refl refl tt h in
    let turned = turns_leave entry.1 (push q (plain_entry entry.0) m) pushed in
    subst IsMachine (sym (run-append (push q (plain_entry entry.0) m) (replicate entry.1 Turn) (plain_steps q entries)))
    (plain_leave q entries (run (push q (plain_entry entry.0) m) (replicate entry.1 Turn)) turned)
