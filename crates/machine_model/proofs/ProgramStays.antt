-- No step changes the program or the chunks of memory.
use Rattle.std.proofs.Common.{◌≡◌, ℕ, Bool, true, false, List, Option, Some, None, Ok, Err, refl, ◌∙◌}
use Rattle.risc_word.specs.declared.Code.{Code}
use Rattle.risc_word.specs.declared.Ctl.{Ctl}
use Rattle.risc_word.specs.declared.Instr.{Instr}
use Rattle.risc_word.specs.declared.Instr.TheVariants.{Jump, Sync}
use Rattle.risc_word.specs.Words.{Reading}
use Rattle.sync_status.specs.declared.Verdict.{Verdict}
use Rattle.sync_status.specs.declared.Verdict.TheVariants.{Take, Discard, Broken, Missing}
use Rattle.fifo_model.specs.declared.Entry.{Entry}
use Rattle.fifo_model.specs.declared.Queue.{Queue}
use Rattle.fifo_model.specs.Queues.{queue_state, is_full, some_full}
use Rattle.irq_status.specs.declared.HostWrite.{HostWrite}
use Rattle.irq_status.specs.declared.HostWrite.TheVariants.{Ack, Enable, Trigger}
use Rattle.page_table.specs.Grants.{Chunk}
use Rattle.page_table.specs.Blocks.{chunks_of}
use Rattle.machine_model.specs.declared.Cause.{Cause}
use Rattle.machine_model.specs.declared.Demands.{Demands}
use Rattle.machine_model.specs.declared.Skipping.{Skipping}
use Rattle.machine_model.specs.declared.Skipping.TheVariants.{Nothing, ToEol, ToSync}
use Rattle.machine_model.specs.Paths.{RiscProgram, fetch}
use Rattle.machine_model.specs.States.{State}
use Rattle.machine_model.specs.Turns.{stores_of, demand_on, jumped, begun_with, data_fetched, instr_fetched, fetched, with_fdsr_unless, met}
use Rattle.machine_model.specs.Turns.{code_seen, stray_seen, took, ended, judged, turn}
use Rattle.machine_model.specs.Steps.{Step, Push, Control, Turn, Host, with_fbus_if, push_if, push_control_if, with_fifo, with_risc, host}
use Rattle.machine_model.specs.Steps.{step}
use Rattle.machine_model.proofs.Memory.{chunks-stored_all}
use Rattle.machine_model.proofs.Turning.{IsKept, turn-kept}

-- the machine runs this program over these chunks
pub record Over (program : RiscProgram) (chunks : List Chunk) (m : State) : Type 0 where
  pub same : m.program ≡ program
  pub there : chunks_of m.memory ≡ chunks

module _ (program : RiscProgram) (chunks : List Chunk) where
  jumps : (inside : Bool) (ctl : Ctl) (addr : ℕ) (m : State) → Over program chunks m → Over program chunks (jumped inside ctl addr m)
  jumps true ctl addr m h = record { same = h.same; there = h.there }
  jumps false ctl addr m h = record { same = h.same; there = h.there }

  begins : (cause : Option Cause) (instr : Instr) (count : ℕ) (target : Option ℕ) (m : State) → Over program chunks m →
      Over program chunks (begun_with cause instr count target m)
  begins (Some cause) instr count target m h = record { same = h.same; there = h.there }
  begins None instr count target m h = record { same = h.same; there = h.there }

  moves : (skipping : Skipping) (instr : Instr) (count : ℕ) (m : State) → Over program chunks m →
      Over program chunks (data_fetched skipping instr count m)
  moves Nothing instr count m h = begins _ instr count _ m h
  moves ToEol instr count m h = record { same = h.same; there = h.there }
  moves ToSync instr count m h = record { same = h.same; there = h.there }

  executes : (instr : Instr) (count : ℕ) (m : State) → Over program chunks m → Over program chunks (instr_fetched instr count m)
  executes (Jump ctl addr) count m h = jumps _ ctl addr m h
  executes (Sync ctl resync code) count m h = record { same = h.same; there = h.there }
  executes instr count m h = moves m.skipping instr count m h

  fetches : (reading : Reading) (m : State) → Over program chunks m → Over program chunks (fetched reading m)
  fetches (Err fault) m h = record { same = h.same; there = h.there }
  fetches (Ok (instr, count)) m h = executes instr count m h

  signals : (resync : Bool) (m : State) → Over program chunks m → Over program chunks (with_fdsr_unless resync m)
  signals true m h = h
  signals false m h = record { same = h.same; there = h.there }

  meets : (same : Bool) (ctl : Ctl) (resync : Bool) (m : State) → Over program chunks m → Over program chunks (met same ctl resync m)
  meets true ctl resync m h = record { same = h.same; there = h.there }
  meets false ctl resync m h = signals resync _ (record { same = h.same; there = h.there })

  sees : (seen : Option Code) (ctl : Ctl) (resync : Bool) (code : Code) (m : State) → Over program chunks m →
      Over program chunks (code_seen seen ctl resync code m)
  sees None ctl resync code m h = h
  sees (Some seen) ctl resync code m h = meets _ ctl resync m h

  drops : (stray : Option Queue) (ctl : Ctl) (resync : Bool) (code : Code) (m : State) → Over program chunks m →
      Over program chunks (stray_seen stray ctl resync code m)
  drops None ctl resync code m h = sees _ ctl resync code m h
  drops (Some q) ctl resync code m h = signals resync _ (record { same = h.same; there = h.there })

  ends : (cut : Bool) (instr : Instr) (m : State) → Over program chunks m → Over program chunks (ended cut instr m)
  ends true instr m h = record { same = h.same; there = h.there }
  ends false instr m h = h

  takes : (q : Queue) (count : ℕ) (instr : Instr) (ds : Demands) (entry : Entry) (m : State) → Over program chunks m →
      Over program chunks (took q count instr ds entry m)
  takes q count instr ds entry m h =
      record {
        same = h.same;
        there = chunks-stored_all m.memory (stores_of instr (demand_on q ds) entry (queue_state q m.queues).taken count) ∙ h.there;
      }

  judges : (verdict : Verdict) (q : Queue) (instr : Instr) (ds : Demands) (entry : Entry) (m : State) → Over program chunks m →
      Over program chunks (judged verdict q instr ds entry m)
  judges Broken q instr ds entry m h = record { same = h.same; there = h.there }
  judges Missing q instr ds entry m h = record { same = h.same; there = h.there }
  judges Discard q instr ds entry m h = record { same = h.same; there = h.there }
  judges (Take count) q instr ds entry m h = ends _ instr _ (takes q count instr ds entry m h)

  over : IsKept (Over program chunks)
  over =
      record {
        counts = λ m h. record { same = h.same; there = h.there };
        fetches = λ m e h. fetches (fetch m.program m.pc) m h;
        waits = λ ctl resync code m e h. drops _ ctl resync code m h;
        retires = λ instr ds m e d h. record { same = h.same; there = h.there };
        judges = λ q instr ds entry m e f n h. judges _ q instr ds entry m h;
      }

  pub Over-turn : (m : State) → Over program chunks m → Over program chunks (turn m)
  Over-turn m h = turn-kept (Over program chunks) over m h

  filled : (full : Bool) (m : State) → Over program chunks m → Over program chunks (with_fbus_if full m)
  filled true m h = record { same = h.same; there = h.there }
  filled false m h = h

  pushes : (on : Bool) (q : Queue) (entry : Entry) (m : State) → Over program chunks m → Over program chunks (push_if on q entry m)
  pushes true q entry m h = let f = filled (is_full (queue_state q m.queues)) m h in record { same = f.same; there = f.there }
  pushes false q entry m h = h

  controls : (on : Bool) (code : Code) (m : State) → Over program chunks m → Over program chunks (push_control_if on code m)
  controls true code m h = let f = filled (some_full m.queues) m h in record { same = f.same; there = f.there }
  controls false code m h = h

  enables_fifo : (fifo : Bool) (m : State) → Over program chunks m → Over program chunks (with_fifo fifo m)
  enables_fifo true m h = record { same = h.same; there = h.there }
  enables_fifo false m h = record { same = h.same; there = h.there }

  enables_risc : (risc was_on : Bool) (m : State) → Over program chunks m → Over program chunks (with_risc risc was_on m)
  enables_risc true true m h = h
  enables_risc true false m h = record { same = h.same; there = h.there }
  enables_risc false was_on m h = record { same = h.same; there = h.there }

  pub Over-host : (write : HostWrite) (m : State) → Over program chunks m → Over program chunks (host write m)
  Over-host (Ack mask) m h = record { same = h.same; there = h.there }
  Over-host (Enable fifo risc) m h = enables_risc risc m.risc_on (with_fifo fifo m) (enables_fifo fifo m h)
  Over-host (Trigger number) m h = record { same = h.same; there = h.there }

  pub Over-step : (s : Step) (m : State) → Over program chunks m → Over program chunks (step s m)
  Over-step (Push q entry) m h = pushes m.fifo_on q entry m h
  Over-step (Control code) m h = controls m.fifo_on code m h
  Over-step Turn m h = Over-turn m h
  Over-step (Host write) m h = Over-host write m h

over_itself : (m : State) → Over m.program (chunks_of m.memory) m
over_itself m = record { same = refl; there = refl }

pub program-step : (s : Step) (m : State) → (step s m).program ≡ m.program
program-step s m = (Over-step m.program (chunks_of m.memory) s m (over_itself m)).same

pub chunks-step : (s : Step) (m : State) → chunks_of (step s m).memory ≡ chunks_of m.memory
chunks-step s m = (Over-step m.program (chunks_of m.memory) s m (over_itself m)).there
