-- Every step leaves a machine, and a machine can take its turn.
use Rattle.std.proofs.Common.{◌≡◌, ℕ, ◌<◌, ◌^◌, true, Ok, Err, refl, sym, ap, subst, ◌∙◌, arith}
use Rattle.risc_word.specs.declared.Instr.{Instr}
use Rattle.risc_word.specs.declared.Instr.TheVariants.{Jump, Sync}
use Rattle.risc_word.specs.Words.{Reading}
use Rattle.machine_model.specs.declared.Job.{Job}
use Rattle.machine_model.specs.declared.Job.TheVariants.{Idle, Waiting, Running}
use Rattle.machine_model.specs.declared.Skipping.{Skipping}
use Rattle.machine_model.specs.declared.Skipping.TheVariants.{Nothing, ToEol, ToSync}
use Rattle.machine_model.specs.Paths.{RiscProgram, IsProgram, IsSound, fetch, is_data, demands_cause}
use Rattle.machine_model.specs.States.{State}
use Rattle.machine_model.specs.Steps.{Step, Turn, step, with_program}
use Rattle.machine_model.specs.Turns.{turn}
use Rattle.machine_model.specs.Safety.{IsStep}
use Rattle.machine_model.proofs.ProgramStays.{program-step}
use Rattle.machine_model.proofs.Safe.{IsSafe-step}
use Rattle.machine_model.proofs.BeforeTurns.{word-ends, pc-is_word, idle-data, running-RunsAt, target-Reaches}
use Rattle.dma_machine.specs.Counts.{acted, with_turns}
use Rattle.dma_machine.specs.Facts.{HaveRoom, IsMachine}
use Rattle.dma_machine.specs.Looks.{CanGoOn}
use Rattle.dma_machine.specs.Needs.{CanBegin, CanExecute, CanFetch, CanWork}
use Rattle.dma_machine.proofs.Counting.{acted-turns, turn-acted}
use Rattle.dma_machine.proofs.Rooms.{HaveRoom-step, WritesFit}

pub IsMachine-step : (s : Step) (m after : State) → after ≡ step s m → IsStep s → WritesFit s → IsMachine m → IsMachine after
IsMachine-step s m after made n fits h =
    subst IsMachine (sym made)
    (record {
      made = subst IsProgram (sym (program-step s m)) h.made;
      sound = subst IsSound (sym (program-step s m)) h.sound;
      safe = IsSafe-step s m n h.sound h.safe;
      room = HaveRoom-step s m fits h.room;
    })

-- whatever the count of turns
pub IsMachine-turns : (t : ℕ) (m : State) → IsMachine m → IsMachine (with_turns t m)
IsMachine-turns t m h =
    record {
      made = h.made;
      sound = h.sound;
      safe =
          record {
            on_path = record { number = h.safe.on_path.number; there = h.safe.on_path.there };
            chunks = h.safe.chunks;
            no_error = h.safe.no_error;
            orderly = record { job = h.safe.orderly.job; queues = h.safe.orderly.queues; triggered = h.safe.orderly.triggered };
          };
      room = h.room;
    }

pub IsMachine-acted : (m after : State) → after ≡ acted m → IsMachine m → IsMachine after
IsMachine-acted m after made h =
    let same : with_turns m.turns (turn m) ≡ acted m = ap (with_turns m.turns) (turn-acted m) ∙ sym (acted-turns m.turns m) in
    subst IsMachine (same ∙ sym made) (IsMachine-turns m.turns (turn m) (IsMachine-step Turn m (turn m) refl tt tt h))

-- pc is the address of a word
pub IsMachine-pc : (m : State) → IsMachine m → m.pc < 2 ^ 32
IsMachine-pc m h =
    let ends = word-ends m.program m.pc h.made (pc-is_word m h.sound h.safe) in
    omega arith

-- with another program that can be made and is sound
pub IsMachine-program : (program : RiscProgram) (m : State) → IsProgram program → IsSound program → CanGoOn program m →
    HaveRoom m.trigger m.queues → IsMachine (with_program program m)
IsMachine-program program m made sound h room = record { made = made; sound = sound; safe = h.safe; room = room }

module _ (m : State) (h : IsMachine m) where
  can_begin : (skipping : Skipping) (instr : Instr) (count : ℕ) → m.job ≡ Idle → m.skipping ≡ skipping →
      fetch m.program m.pc ≡ Ok (instr, count) →
      is_data instr ≡ true → CanBegin skipping m.program.grants instr m.target
  can_begin Nothing instr count e s f d = idle-data m h.sound h.safe instr count e s f d
  can_begin ToEol instr count e s f d = tt
  can_begin ToSync instr count e s f d = tt

  can_execute : (instr : Instr) (count : ℕ) → m.job ≡ Idle → fetch m.program m.pc ≡ Ok (instr, count) → CanExecute instr m
  can_execute (Jump ctl addr) count e f = tt
  can_execute (Sync ctl resync code) count e f = tt
  can_execute instr count e f = can_begin m.skipping instr count e refl f refl

  can_fetch : (reading : Reading) → m.job ≡ Idle → fetch m.program m.pc ≡ reading → CanFetch reading m
  can_fetch (Err fault) e f = tt
  can_fetch (Ok (instr, count)) e f = can_execute instr count e f

  can_work : (job : Job) → m.job ≡ job → CanWork job m
  can_work Idle e = can_fetch _ e refl
  can_work (Waiting ctl resync code) e = tt
  can_work (Running instr ds) e =
      record {
        target = target-Reaches m h.sound h.safe;
        within = ap (λ grants. demands_cause grants ds) h.safe.chunks ∙ (running-RunsAt m h.sound h.safe instr ds e).within;
      }

  pub IsMachine-CanWork : CanWork m.job m
  IsMachine-CanWork = can_work m.job refl
