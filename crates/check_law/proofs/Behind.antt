-- Between the end of a field and the next one nothing is stored.
use Rattle.std.proofs.Common.{◌≡◌, ℕ, zero, suc, ◌+◌, ◌-◌, ◌<◌, ◌≤◌, Bool, true, false, ◌==◌, List, take, Option, Some, None, Ok, Err, refl}
use Rattle.std.proofs.Common.{sym, ap, subst, ◌∙◌, arith, ◌⊎◌, inl, inr}
use Rattle.risc_word.specs.declared.Code.{Code}
use Rattle.risc_word.specs.declared.Ctl.{Ctl}
use Rattle.risc_word.specs.declared.Instr.{Instr}
use Rattle.risc_word.specs.declared.Instr.TheVariants.{Write, Skip, WriteC, Jump, Sync, Write123, Skip123, Write1S23}
use Rattle.risc_word.specs.Words.{Reading}
use Rattle.fifo_model.specs.declared.Entry.{Entry}
use Rattle.fifo_model.specs.declared.Queue.{Queue}
use Rattle.fifo_model.specs.Queues.{Queues, queue_state, control_pushed, is_full, pushed, some_full}
use Rattle.irq_status.specs.declared.HostWrite.TheVariants.{Ack, Enable, Trigger}
use Rattle.pixel_layout.specs.declared.Parity.{Parity}
use Rattle.machine_model.specs.declared.Job.{Job}
use Rattle.machine_model.specs.declared.Job.TheVariants.{Idle, Waiting, Running}
use Rattle.machine_model.specs.Paths.{RiscProgram, fetch, is_word}
use Rattle.machine_model.specs.States.{State, first_state}
use Rattle.machine_model.specs.Turns.{counted, fetched, instr_fetched, jumped, lowest_stray, turn, turn_if, worked}
use Rattle.machine_model.specs.Steps.{Step, Push, Control, Turn, Host, push_control_if, push_if, step, with_fbus_if}
use Rattle.machine_model.proofs.Runs.{program-run}
use Rattle.machine_model.proofs.Stored.{stray-memory}
use Rattle.capture_desc.specs.declared.desc.Desc.{Desc}
use Rattle.field_law.specs.Arrivals.{is_end}
use Rattle.field_law.proofs.Closing.{AtEnd, end-AtEnd}
use Rattle.picture_law.specs.Pictures.{After}
use Rattle.picture_law.specs.Runs.{step_at}
use Rattle.picture_law.proofs.Between.{end_turn, state_next}
use Rattle.check_model.specs.Checks.{behind, behind_at}
use Rattle.check_model.specs.declared.Why.{Why}
use Rattle.check_model.specs.declared.Why.TheVariants.{NothingAwaited, Unread}
use Rattle.check_law.specs.Laws.{Found}
use Rattle.check_law.specs.Runs.{state_of}
use Rattle.check_law.specs.Behind.{IsBehind, IsNoEnable, NothingStoredBehind, RunShowsBoth, is_waiting}
use Rattle.check_law.proofs.Laws.{found}
use Rattle.check_law.proofs.Places.{run_shows_picture}

-- the machine waits in a SYNC, or comes to one by JUMPs alone, or stands still
abbrev IsQuiet : RiscProgram → State → Type 0
IsQuiet program m =
    (m.risc_on ≡ false) ⊎ ((is_waiting m.job ≡ true) ⊎ ((m.job ≡ Idle) × (fuel : ℕ) × (behind fuel program m.pc ≡ None)))

-- what a step leaves
record Stays (program : RiscProgram) (before after : State) : Type 0 where
  memory : after.memory ≡ before.memory
  quiet : IsQuiet program after

-- ---- a turn that waits

waits_memory : (job : Job) (m : State) → is_waiting job ≡ true → (worked job m).memory ≡ m.memory
waits_memory Idle m h = cc
waits_memory (Running instr ds) m h = cc
waits_memory (Waiting ctl resync code) m h = stray-memory (lowest_stray m.queues) ctl resync code m

-- ---- a turn that fetches

not_behind : (fault : ℕ × Why) → Some fault ≡ None → ⊥
not_behind fault h = cc

module _ (program : RiscProgram) (fuel : ℕ) (m : State) (idle : m.job ≡ Idle) where
  jumps_on : (inside : Bool) (ctl : Ctl) (target : ℕ) → behind fuel program target ≡ None → Stays program m (jumped inside ctl target m)
  jumps_on true ctl target h = record { memory = refl; quiet = inr (inr (idle, fuel, h)) }
  jumps_on false ctl target h = record { memory = refl; quiet = inl refl }

  fetches_on : (instr : Instr) (count : ℕ) → behind_at instr m.pc (behind fuel program) ≡ None →
      Stays program m (instr_fetched instr count m)
  fetches_on (Jump ctl target) count h = jumps_on (is_word m.program target) ctl target h
  fetches_on (Sync ctl resync code) count h = record { memory = refl; quiet = inr (inl refl) }
  fetches_on (Write ctl ends off n addr) count h = absurd (not_behind (m.pc, NothingAwaited) h)
  fetches_on (Skip ctl ends n) count h = absurd (not_behind (m.pc, NothingAwaited) h)
  fetches_on (WriteC ctl ends off n) count h = absurd (not_behind (m.pc, NothingAwaited) h)
  fetches_on (Write123 ctl ends off counts addrs) count h = absurd (not_behind (m.pc, NothingAwaited) h)
  fetches_on (Skip123 ctl ends counts) count h = absurd (not_behind (m.pc, NothingAwaited) h)
  fetches_on (Write1S23 ctl ends off counts addr) count h = absurd (not_behind (m.pc, NothingAwaited) h)

  reads_on : (reading : Reading) →
      elim reading as (λ _. Option (ℕ × Why)) [
        | Err fault ↦ Some (m.pc, Unread)
        | Ok read ↦ behind_at read.0 m.pc (behind fuel program)
      ] ≡ None →
      Stays program m (fetched reading m)
  reads_on (Err fault) h = cc
  reads_on (Ok (instr, count)) h = fetches_on instr count h

-- ---- a step

module _ (program : RiscProgram) (m : State) (own : m.program ≡ program) (h : IsQuiet program m) where
  still : Stays program m m
  still = record { memory = refl; quiet = h }

  fetches_by : (fuel : ℕ) → m.job ≡ Idle → behind fuel program m.pc ≡ None → Stays program m (fetched (fetch m.program m.pc) (counted m))
  fetches_by zero idle none = cc
  fetches_by (suc fuel) idle none =
      let s = reads_on program fuel (counted m) idle (fetch m.program m.pc)
      (ap
      (λ (p : RiscProgram).
      elim (fetch p m.pc) as (λ _. Option (ℕ × Why)) [
        | Err fault ↦ Some (m.pc, Unread)
        | Ok read ↦ behind_at read.0 m.pc (behind fuel program)
      ])
      own
      ∙ none) in
      record { memory = s.memory; quiet = s.quiet }

  works_on : (is_waiting m.job ≡ true → is_waiting (worked m.job (counted m)).job ≡ true) → m.risc_on ≡ true →
      Stays program m (worked m.job (counted m))
  works_on waits on = by h
    where
      by : IsQuiet program m → Stays program m (worked m.job (counted m))
      by (inl off) = cc
      by (inr (inl waiting)) = record { memory = waits_memory m.job (counted m) waiting; quiet = inr (inl (waits waiting)) }
      by (inr (inr behind_end)) =
          subst (λ (job : Job). Stays program m (worked job (counted m))) (sym behind_end.0)
          (fetches_by behind_end.1 behind_end.0 behind_end.2)

  turns_on : (is_waiting m.job ≡ true → is_waiting (turn m).job ≡ true) → Stays program m (turn m)
  turns_on waits = by m.risc_on refl
    where
      by : (on : Bool) → m.risc_on ≡ on → Stays program m (turn m)
      by true on =
          let works : turn m ≡ worked m.job (counted m) = ap (λ (on : Bool). turn_if on (counted m)) on in
          subst (λ (after : State). Stays program m after) (sym works)
          (works_on (λ waiting. ap (λ (after : State). is_waiting after.job) (sym works) ∙ waits waiting) on)
      by false off =
          subst (λ (on : Bool). Stays program m (turn_if on (counted m))) (sym off) (record { memory = refl; quiet = inl off })

  pushed_on : (full : Bool) (queues : Queues) → Stays program m (record (with_fbus_if full m) { queues = queues })
  pushed_on true queues = record { memory = refl; quiet = h }
  pushed_on false queues = record { memory = refl; quiet = h }

  pushes_on : (on : Bool) (q : Queue) (entry : Entry) → Stays program m (push_if on q entry m)
  pushes_on true q entry = pushed_on (is_full (queue_state q m.queues)) (pushed q entry m.queues)
  pushes_on false q entry = still

  codes_on : (on : Bool) (code : Code) → Stays program m (push_control_if on code m)
  codes_on true code = pushed_on (some_full m.queues) (control_pushed code m.queues)
  codes_on false code = still

  steps_on : (st : Step) → IsNoEnable st → (is_waiting m.job ≡ true → is_waiting (step st m).job ≡ true) → Stays program m (step st m)
  steps_on Turn none waits = turns_on waits
  steps_on (Push q entry) none waits = pushes_on m.fifo_on q entry
  steps_on (Control code) none waits = codes_on m.fifo_on code
  steps_on (Host (Ack mask)) none waits = record { memory = refl; quiet = h }
  steps_on (Host (Trigger number)) none waits = record { memory = refl; quiet = h }
  steps_on (Host (Enable fifo risc)) none waits = absurd none

-- ---- from the end on

module _ (program : RiscProgram) (d : Desc) (field : Parity) (f : Found) (fill : ℕ) (steps : List Step) (k l : ℕ)
    (b : IsBehind program d field f fill steps k l) where
  abbrev place : ℕ → State
  place i = state_of program fill steps i

  own : (i : ℕ) → (place i).program ≡ program
  own i = program-run (first_state program fill) (take i steps)

  last_turn : step_at steps k ≡ Turn
  last_turn = end_turn f.end (place k) (step_at steps k) b.ended

  at_end : AtEnd f.end (place k)
  at_end = end-AtEnd f.end (place k) (ap (is_end f.end (place k)) (sym last_turn) ∙ b.ended)

  first_quiet : IsQuiet program (place k)
  first_quiet =
      let last = found program d field f b.shown in
      inr (inr (at_end.idle, last.fuel_left, ap (behind last.fuel_left program) at_end.there ∙ last.last))

  enabled_at : (n : ℕ) → k + n < l → IsNoEnable (step_at steps (k + n))
  enabled_at zero lt =
      let here : k ≡ k + 0 = omega arith in
      subst IsNoEnable (sym last_turn ∙ ap (step_at steps) here) tt
  enabled_at (suc n) lt = b.enabled (k + suc n) (omega arith) lt

  unopened_at : (n : ℕ) → k + n < l → is_waiting (place (k + n)).job ≡ true → is_waiting (place (k + n + 1)).job ≡ true
  unopened_at zero lt waits =
      let here : k ≡ k + 0 = omega arith in
      let idle : (place (k + 0)).job ≡ Idle = ap (λ (i : ℕ). (place i).job) (sym here) ∙ at_end.idle in
      let never : false ≡ true = ap is_waiting (sym idle) ∙ waits in cc
  unopened_at (suc n) lt waits = b.unopened (k + suc n) (omega arith) lt waits

  goes : (n : ℕ) → k + n ≤ l → Stays program (place k) (place (k + n))
  goes zero le =
      let here : k ≡ k + 0 = omega arith in
      subst (λ (i : ℕ). Stays program (place k) (place i)) here (record { memory = refl; quiet = first_quiet })
  goes (suc n) le =
      let there = b.there in
      let so_far = goes n (omega arith) in
      let next : place (k + n + 1) ≡ step (step_at steps (k + n)) (place (k + n)) =
      state_next (first_state program fill) steps (k + n) (omega arith) in
      let one = steps_on program (place (k + n)) (own (k + n)) so_far.quiet (step_at steps (k + n)) (enabled_at n (omega arith))
      (λ waits. ap (λ (m : State). is_waiting m.job) (sym next) ∙ unopened_at n (omega arith) waits) in
      let here : k + n + 1 ≡ k + suc n = omega arith in
      subst (λ (i : ℕ). Stays program (place k) (place i)) here
      (subst (λ (m : State). Stays program (place k) m) (sym next) (record { memory = one.memory ∙ so_far.memory; quiet = one.quiet }))

  memory_at : (i : ℕ) → k ≤ i → i ≤ l → (place i).memory ≡ (place k).memory
  memory_at i from to =
      let there : k + (i - k) ≡ i = omega arith in
      subst (λ (i : ℕ). (place i).memory ≡ (place k).memory) there (goes (i - k) (omega arith)).memory

pub nothing_stored_behind : NothingStoredBehind
nothing_stored_behind program d field f fill steps k l b =
    let later = b.later in
    memory_at program d field f fill steps k l b l (omega arith) (omega arith)
    ∙ sym (memory_at program d field f fill steps k l b (k + 1) (omega arith) (omega arith))

pub run_shows_both : RunShowsBoth
run_shows_both program d field other f g picture next fill steps j k i l first between second = (
  subst (After d field picture (state_of program fill steps j).memory)
      (sym (nothing_stored_behind program d field f fill steps k i between))
      (run_shows_picture program d field f picture fill steps j k first),
  run_shows_picture program d other g next fill steps i l second,
)
