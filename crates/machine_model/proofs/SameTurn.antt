-- A turn is the same beside another program that is read alike, another INT_STAT and another count of turns.
use Rattle.std.proofs.Common.{◌≡◌, ℕ, zero, suc, Bool, true, false, ◌||◌, Option, Some, None, Ok, Err, option_map, refl, sym, ap, ◌∙◌}
use Rattle.std.proofs.Common.{if◌then◌else◌, ◌==◌}
use Rattle.std.proofs.Math.Bool.{or-false, or-true, or_assoc}
use Rattle.risc_word.specs.declared.Code.{Code}
use Rattle.risc_word.specs.declared.Ctl.{Ctl}
use Rattle.risc_word.specs.declared.Instr.{Instr}
use Rattle.risc_word.specs.declared.Instr.TheVariants.{Jump, Sync}
use Rattle.risc_word.specs.Words.{Reading, code_number}
use Rattle.sync_status.specs.declared.Verdict.{Verdict}
use Rattle.sync_status.specs.declared.Verdict.TheVariants.{Take, Discard, Broken, Missing}
use Rattle.fifo_model.specs.declared.Entry.{Entry}
use Rattle.fifo_model.specs.declared.Queue.{Queue}
use Rattle.fifo_model.specs.Queues.{more, queue_state, front, removed, all_removed}
use Rattle.irq_status.specs.Register.{has, fdsr, ocerr, raised, applied}
use Rattle.irq_status.proofs.Laws.{fdsr-applied, fdsr-raised_ocerr, fdsr-raised_fdsr}
use Rattle.machine_model.specs.declared.Cause.{Cause}
use Rattle.machine_model.specs.declared.Demands.{Demands}
use Rattle.machine_model.specs.declared.Job.{Job}
use Rattle.machine_model.specs.declared.Job.TheVariants.{Idle, Waiting, Running}
use Rattle.machine_model.specs.declared.Skipping.{Skipping}
use Rattle.machine_model.specs.declared.Skipping.TheVariants.{Nothing, ToEol, ToSync}
use Rattle.machine_model.specs.Paths.{RiscProgram, is_word, fetch, target_before, data_cause}
use Rattle.risc_word.specs.Parts.{instr_ctl}
use Rattle.machine_model.specs.States.{State}
use Rattle.machine_model.specs.Turns.{with_interrupts, sets_fdsr, jumped, begun_with, data_fetched, instr_fetched, fetched}
use Rattle.machine_model.specs.Turns.{with_fdsr_unless, met, code_seen, common_code, stray_seen, lowest_stray}
use Rattle.machine_model.specs.Turns.{demand_on, ended, took, with_queue, is_cut_short, judged, verdict_at, served, apply_in, apply, burst}
use Rattle.machine_model.specs.Turns.{lowest_served, burst_of, is_done, ran, worked, turn_if}
use Rattle.machine_model.specs.Turns.{turn}
use Rattle.machine_model.specs.Steps.{with_program}
use Rattle.machine_model.specs.Accesses.{AreFetchedAlike}

-- a state beside another program, register and count of turns
abbrev pub beside : RiscProgram → ℕ → ℕ → State → State
beside program register count m = record m { program = program; interrupts = register; turns = count }

-- what is made beside each program that fits, and each register and count, is what was made beside it, with a change of
-- the register that sets FDSR or doesn't
record ActsAlike (Fits : RiscProgram → Type 0) (acted : RiscProgram → ℕ → ℕ → State) (made : State) : Type 0 where
  change : ℕ → ℕ
  sets : Bool
  alike : (program : RiscProgram) → Fits program → (register count : ℕ) →
      acted program register count ≡ beside program (change register) count made
  fdsr_after : (register : ℕ) → has fdsr (change register) ≡ (has fdsr register || sets)

-- the same of one application, if there is one
record AppliesAlike (Fits : RiscProgram → Type 0) (applied_to : RiscProgram → ℕ → ℕ → Option State) (made : Option State) : Type 0 where
  change : ℕ → ℕ
  sets : Bool
  alike : (program : RiscProgram) → Fits program → (register count : ℕ) →
      applied_to program register count ≡ option_map (beside program (change register) count) made
  fdsr_after : (register : ℕ) → has fdsr (change register) ≡ (has fdsr register || sets)

module _ (Fits : RiscProgram → Type 0) where
  -- the four changes: none, FDSR, OCERR, and control bits
  stays : (acted : RiscProgram → ℕ → ℕ → State) (made : State) →
      ((program : RiscProgram) → Fits program → (register count : ℕ) → acted program register count ≡ beside program register count made) →
      ActsAlike Fits acted made
  stays acted made alike = record { change = λ r. r; sets = false; alike = alike; fdsr_after = λ r. sym (or-false (has fdsr r)) }

  signals : (acted : RiscProgram → ℕ → ℕ → State) (made : State) →
      ((program : RiscProgram) → Fits program → (register count : ℕ) →
      acted program register count ≡ beside program (raised register fdsr) count made) → ActsAlike Fits acted made
  signals acted made alike =
      record { change = λ r. raised r fdsr; sets = true; alike = alike; fdsr_after = λ r. fdsr-raised_fdsr r ∙ sym (or-true (has fdsr r)) }

  halts : (acted : RiscProgram → ℕ → ℕ → State) (made : State) →
      ((program : RiscProgram) → Fits program → (register count : ℕ) →
      acted program register count ≡ beside program (raised register ocerr) count made) → ActsAlike Fits acted made
  halts acted made alike =
      record {
        change = λ r. raised r ocerr;
        sets = false;
        alike = alike;
        fdsr_after = λ r. fdsr-raised_ocerr r ∙ sym (or-false (has fdsr r));
      }

  applies : (ctl : Ctl) (acted : RiscProgram → ℕ → ℕ → State) (made : State) →
      ((program : RiscProgram) → Fits program → (register count : ℕ) →
      acted program register count ≡ beside program (applied ctl register) count made) → ActsAlike Fits acted made
  applies ctl acted made alike =
      record { change = applied ctl; sets = false; alike = alike; fdsr_after = λ r. fdsr-applied ctl r ∙ sym (or-false (has fdsr r)) }

  -- ---- fetching

  jumps : (inside : Bool) (ctl : Ctl) (addr : ℕ) (m : State) →
      ActsAlike Fits (λ p r t. jumped inside ctl addr (beside p r t m)) (jumped inside ctl addr m)
  jumps true ctl addr m = applies ctl _ _ (λ p f r t. refl)
  jumps false ctl addr m = halts _ _ (λ p f r t. refl)

  begins : (cause : Option Cause) (instr : Instr) (count : ℕ) (target : Option ℕ) (m : State) →
      ActsAlike Fits (λ p r t. begun_with cause instr count target (beside p r t m)) (begun_with cause instr count target m)
  begins (Some cause) instr count target m = halts _ _ (λ p f r t. refl)
  begins None instr count target m = stays _ _ (λ p f r t. refl)

  -- what is done by a choice that comes out the same beside each program that fits
  by_choice : {C : Type 0} (choose : RiscProgram → C) (chosen : C) (act : C → State → State) (m : State) →
      ((program : RiscProgram) → Fits program → choose program ≡ chosen) →
      ActsAlike Fits (λ p r t. act chosen (beside p r t m)) (act chosen m) →
      ActsAlike Fits (λ p r t. act (choose p) (beside p r t m)) (act chosen m)
  by_choice choose chosen act m same acts =
      record {
        change = acts.change;
        sets = acts.sets;
        alike = λ p f r t. ap (λ c. act c (beside p r t m)) (same p f) ∙ acts.alike p f r t;
        fdsr_after = acts.fdsr_after;
      }

  module _ (m : State) (alike : (program : RiscProgram) → Fits program → AreFetchedAlike m.pc m.program program) where
    moves : (skipping : Skipping) (instr : Instr) (count : ℕ) →
        ActsAlike Fits (λ p r t. data_fetched skipping instr count (beside p r t m)) (data_fetched skipping instr count m)
    moves Nothing instr count =
        let target : Option ℕ = target_before instr m.target in
        by_choice (λ p. data_cause p.grants instr target) (data_cause m.program.grants instr target)
        (λ c. begun_with c instr count target) m
        (λ p f. ap (λ grants. data_cause grants instr target) (sym (alike p f).grants)) (begins _ instr count target m)
    moves ToEol instr count = stays _ _ (λ p f r t. refl)
    moves ToSync instr count = stays _ _ (λ p f r t. refl)

    executes : (instr : Instr) (count : ℕ) →
        ActsAlike Fits (λ p r t. instr_fetched instr count (beside p r t m)) (instr_fetched instr count m)
    executes (Jump ctl addr) count =
        by_choice (λ p. is_word p addr) (is_word m.program addr) (λ inside. jumped inside ctl addr) m
        (λ p f. sym ((alike p f).words addr)) (jumps _ ctl addr m)
    executes (Sync ctl resync code) count = stays _ _ (λ p f r t. refl)
    executes instr count = moves m.skipping instr count

    reads : (reading : Reading) → ActsAlike Fits (λ p r t. fetched reading (beside p r t m)) (fetched reading m)
    reads (Err fault) = halts _ _ (λ p f r t. refl)
    reads (Ok (instr, count)) = executes instr count

    fetches : ActsAlike Fits (λ p r t. fetched (fetch p m.pc) (beside p r t m)) (fetched (fetch m.program m.pc) m)
    fetches = by_choice (λ p. fetch p m.pc) (fetch m.program m.pc) fetched m (λ p f. sym (alike p f).instruction) (reads _)

  -- ---- waiting

  drops : (resync : Bool) (m : State) → ActsAlike Fits (λ p r t. with_fdsr_unless resync (beside p r t m)) (with_fdsr_unless resync m)
  drops true m = stays _ _ (λ p f r t. refl)
  drops false m = signals _ _ (λ p f r t. refl)

  meets : (awaited : Bool) (ctl : Ctl) (resync : Bool) (m : State) →
      ActsAlike Fits (λ p r t. met awaited ctl resync (beside p r t m)) (met awaited ctl resync m)
  meets true ctl resync m = applies ctl _ _ (λ p f r t. refl)
  meets false ctl resync m = drops resync (record m { queues = all_removed m.queues })

  sees : (seen : Option Code) (ctl : Ctl) (resync : Bool) (code : Code) (m : State) →
      ActsAlike Fits (λ p r t. code_seen seen ctl resync code (beside p r t m)) (code_seen seen ctl resync code m)
  sees None ctl resync code m = stays _ _ (λ p f r t. refl)
  sees (Some seen) ctl resync code m = meets (code_number seen == code_number code) ctl resync m

  strays : (stray : Option Queue) (ctl : Ctl) (resync : Bool) (code : Code) (m : State) →
      ActsAlike Fits (λ p r t. stray_seen stray ctl resync code (beside p r t m)) (stray_seen stray ctl resync code m)
  strays (Some q) ctl resync code m = drops resync (with_queue q (removed (queue_state q m.queues)) m)
  strays None ctl resync code m = sees (common_code m.queues) ctl resync code m

  -- ---- running

  ends : (cut : Bool) (instr : Instr) (m : State) → ActsAlike Fits (λ p r t. ended cut instr (beside p r t m)) (ended cut instr m)
  ends true instr m = signals _ _ (λ p f r t. refl)
  ends false instr m = stays _ _ (λ p f r t. refl)

  judges : (verdict : Verdict) (q : Queue) (instr : Instr) (ds : Demands) (entry : Entry) (m : State) →
      ActsAlike Fits (λ p r t. judged verdict q instr ds entry (beside p r t m)) (judged verdict q instr ds entry m)
  judges Broken q instr ds entry m = signals _ _ (λ p f r t. refl)
  judges Discard q instr ds entry m = signals _ _ (λ p f r t. refl)
  judges Missing q instr ds entry m = signals _ _ (λ p f r t. refl)
  judges (Take count) q instr ds entry m =
      ends (is_cut_short entry (queue_state q m.queues).taken count (demand_on q ds).rest) instr (took q count instr ds entry m)

  none_applied : (applied_to : RiscProgram → ℕ → ℕ → Option State) →
      ((program : RiscProgram) → Fits program → (register count : ℕ) → applied_to program register count ≡ None) →
      AppliesAlike Fits applied_to None
  none_applied applied_to none = record { change = λ r. r; sets = false; alike = none; fdsr_after = λ r. sym (or-false (has fdsr r)) }

  asks : (none : Bool) (acted : RiscProgram → ℕ → ℕ → State) (made : State) → ActsAlike Fits acted made →
      AppliesAlike Fits (λ p r t. if none then None else Some (acted p r t)) (if none then None else Some made)
  asks true acted made acts = none_applied _ (λ p f r t. refl)
  asks false acted made acts =
      record { change = acts.change; sets = acts.sets; alike = λ p f r t. ap Some (acts.alike p f r t); fdsr_after = acts.fdsr_after }

  serves : (top : Option Entry) (q : Queue) (instr : Instr) (ds : Demands) (m : State) →
      AppliesAlike Fits (λ p r t. served top q instr ds (beside p r t m)) (served top q instr ds m)
  serves None q instr ds m = none_applied _ (λ p f r t. refl)
  serves (Some entry) q instr ds m =
      asks ((demand_on q ds).rest == 0) (λ p r t. judged (verdict_at q ds entry m) q instr ds entry (beside p r t m)) _
      (judges (verdict_at q ds entry m) q instr ds entry m)

  applied_in : (job : Job) (q : Queue) (m : State) → AppliesAlike Fits (λ p r t. apply_in job q (beside p r t m)) (apply_in job q m)
  applied_in Idle q m = none_applied _ (λ p f r t. refl)
  applied_in (Waiting ctl resync code) q m = none_applied _ (λ p f r t. refl)
  applied_in (Running instr ds) q m = serves (front (queue_state q m.queues)) q instr ds m

  -- one act after another
  continued : (count : ℕ) (q : Queue) (m : State) (next : Option State) → AppliesAlike Fits (λ p r t. apply q (beside p r t m)) next →
      ((after : State) → ActsAlike Fits (λ p r t. burst count q (beside p r t after)) (burst count q after)) →
      ActsAlike Fits (λ p r t. burst (suc count) q (beside p r t m))
      (elim next as (λ _. State) [ None ↦ m | Some after ↦ burst count q after ])
  continued count q m None one rest =
      stays _ _
      (λ p f r t. ap (λ next. elim next as (λ _. State) [ None ↦ beside p r t m | Some after ↦ burst count q after ]) (one.alike p f r t))
  continued count q m (Some after) one rest =
      let more : ActsAlike Fits (λ p r t. burst count q (beside p r t after)) (burst count q after) = rest after in
      record {
        change = λ r. more.change (one.change r);
        sets = one.sets || more.sets;
        alike =
            λ p f r t.
            ap (λ next. elim next as (λ _. State) [ None ↦ beside p r t m | Some after ↦ burst count q after ]) (one.alike p f r t)
            ∙ more.alike p f (one.change r) t;
        fdsr_after =
            λ r. more.fdsr_after (one.change r) ∙ ap (λ b. b || more.sets) (one.fdsr_after r) ∙ or_assoc (has fdsr r) one.sets more.sets;
      }

  bursts : (count : ℕ) (q : Queue) (m : State) → ActsAlike Fits (λ p r t. burst count q (beside p r t m)) (burst count q m)
  bursts zero q m = stays _ _ (λ p f r t. refl)
  bursts (suc count) q m = continued count q m (apply q m) (applied_in m.job q m) (bursts count q)

  bursts_of : (q : Option Queue) (m : State) → ActsAlike Fits (λ p r t. burst_of q (beside p r t m)) (burst_of q m)
  bursts_of None m = stays _ _ (λ p f r t. refl)
  bursts_of (Some q) m = bursts m.trigger q m

  runs : (done : Bool) (instr : Instr) (ds : Demands) (m : State) →
      ActsAlike Fits (λ p r t. ran done instr ds (beside p r t m)) (ran done instr ds m)
  runs true instr ds m = applies (instr_ctl instr) _ _ (λ p f r t. refl)
  runs false instr ds m = bursts_of (lowest_served ds m) m

  -- ---- a turn

  works : (job : Job) (m : State) → (job ≡ Idle → (program : RiscProgram) → Fits program → AreFetchedAlike m.pc m.program program) →
      ActsAlike Fits (λ p r t. worked job (beside p r t m)) (worked job m)
  works Idle m alike = fetches m (alike refl)
  works (Waiting ctl resync code) m alike = strays (lowest_stray m.queues) ctl resync code m
  works (Running instr ds) m alike = runs (is_done ds) instr ds m

  turns : (on : Bool) (m : State) →
      (on ≡ true → m.job ≡ Idle → (program : RiscProgram) → Fits program → AreFetchedAlike m.pc m.program program) →
      ActsAlike Fits (λ p r t. turn_if on (beside p r t m)) (turn_if on m)
  turns false m alike = stays _ _ (λ p f r t. refl)
  turns true m alike = works m.job m (alike refl)

-- a program that is read alike, if the turn reads one
abbrev pub IsReadAlike : State → RiscProgram → Type 0
IsReadAlike m program = m.risc_on ≡ true → m.job ≡ Idle → AreFetchedAlike m.pc m.program program

alike-itself : (m : State) → IsReadAlike m m.program
alike-itself m on idle = record { instruction = refl; grants = refl; words = λ address. refl }

module _ (m : State) where
  -- what the turn does once it is counted
  acts : ActsAlike (IsReadAlike m) (λ p r t. turn_if m.risc_on (beside p r t m)) (turn_if m.risc_on m)
  acts = turns (IsReadAlike m) m.risc_on m (λ on idle program fits. fits on idle)

  -- the turn beside another program that is read alike and another register
  beside_turn : (program : RiscProgram) (register : ℕ) → IsReadAlike m program →
      turn (with_program program (with_interrupts register m))
      ≡ beside program (acts.change register) (more m.turns 1) (turn_if m.risc_on m)
  beside_turn program register fits = acts.alike program fits register (more m.turns 1)

  -- the turn itself
  its_turn : turn m ≡ beside m.program (acts.change m.interrupts) (more m.turns 1) (turn_if m.risc_on m)
  its_turn = beside_turn m.program m.interrupts (alike-itself m)

  pub turn-with_program : (program : RiscProgram) → IsReadAlike m program → turn (with_program program m) ≡ with_program program (turn m)
  turn-with_program program fits = beside_turn program m.interrupts fits ∙ sym (ap (with_program program) its_turn)

  pub turn-with_interrupts : (register : ℕ) →
      turn (with_interrupts register m) ≡ with_interrupts (turn (with_interrupts register m)).interrupts (turn m)
  turn-with_interrupts register =
      let other : turn (with_interrupts register m) ≡ beside m.program (acts.change register) (more m.turns 1) (turn_if m.risc_on m) =
      beside_turn m.program register (alike-itself m) in
      let changed : acts.change register ≡ (turn (with_interrupts register m)).interrupts = sym (ap (λ (n : State). n.interrupts) other) in
      other ∙ sym (ap (with_interrupts (acts.change register)) its_turn) ∙ ap (λ r. with_interrupts r (turn m)) changed

  -- what the turn does is done whatever the count of turns
  pub turn_if-turns : (count : ℕ) → turn_if m.risc_on (record m { turns = count }) ≡ record (turn_if m.risc_on m) { turns = count }
  turn_if-turns count =
      let there = acts.alike m.program (alike-itself m) m.interrupts in
      there count ∙ sym (ap (λ (n : State). record n { turns = count }) (there m.turns))

  -- the bit FDSR after the turn
  pub fdsr-turn : has fdsr (turn m).interrupts ≡ (has fdsr m.interrupts || sets_fdsr m)
  fdsr-turn =
      let cleared : (turn (with_interrupts 0 m)).interrupts ≡ acts.change 0 =
      ap (λ (n : State). n.interrupts) (beside_turn m.program 0 (alike-itself m)) in
      let sets : sets_fdsr m ≡ acts.sets = ap (has fdsr) cleared ∙ acts.fdsr_after 0 in
      ap (λ (n : State). has fdsr n.interrupts) its_turn ∙ acts.fdsr_after m.interrupts ∙ ap (λ b. has fdsr m.interrupts || b) (sym sets)
