-- What stays true of a queue's state where its front leaves it and where more of its front is taken, every turn keeps.
use Rattle.std.proofs.Common.{ℕ, ◌+◌, Bool, true, false, List, [], ◌∷◌, Option, Some, None, Ok, Err, if◌then◌else◌, ◌==◌}
use Rattle.risc_word.specs.declared.Code.{Code}
use Rattle.risc_word.specs.declared.Ctl.{Ctl}
use Rattle.risc_word.specs.declared.Instr.{Instr}
use Rattle.risc_word.specs.declared.Instr.TheVariants.{Write, Skip, WriteC, Jump, Sync, Write123, Skip123, Write1S23}
use Rattle.risc_word.specs.Words.{Reading}
use Rattle.sync_status.specs.declared.Verdict.{Verdict}
use Rattle.sync_status.specs.declared.Verdict.TheVariants.{Take, Discard, Broken, Missing}
use Rattle.sync_status.specs.Statuses.{valid_bytes}
use Rattle.fifo_model.specs.declared.Entry.{Entry}
use Rattle.fifo_model.specs.declared.Queue.{Queue}
use Rattle.fifo_model.specs.declared.Queue.TheVariants.{One, Two, Three}
use Rattle.fifo_model.specs.Queues.{QueueState, Queues, all_removed, queue_state, removed, taken_from, taken_more, with_queue_state}
use Rattle.machine_model.specs.declared.Cause.{Cause}
use Rattle.machine_model.specs.declared.Demands.{Demands}
use Rattle.machine_model.specs.declared.Skipping.{Skipping}
use Rattle.machine_model.specs.declared.Skipping.TheVariants.{Nothing, ToEol, ToSync}
use Rattle.machine_model.specs.Paths.{fetch}
use Rattle.machine_model.specs.States.{State}
use Rattle.machine_model.specs.Turns.{begun_with, code_seen, data_fetched, ended, fetched, instr_fetched, judged, jumped, met, stray_seen}
use Rattle.machine_model.specs.Turns.{took, turn, with_fdsr_unless, without_codes}
use Rattle.machine_model.proofs.Turning.{IsKept, turn-kept}

-- the fact stays true where the front leaves a queue, and where more of the front is taken
pub record IsKeptShrinking (P : QueueState → Type 0) : Type 0 where
  pub removes : (held : QueueState) → P held → P (removed held)
  pub takes : (held : QueueState) (count : ℕ) → P held → P (record held { taken = held.taken + count })

module _ (P : QueueState → Type 0) (kept : IsKeptShrinking P) where
  -- ---- the queues

  with_queue : (p q : Queue) (held : QueueState) (queues : Queues) → P (queue_state p queues) → (P (queue_state q queues) → P held) →
      P (queue_state p (with_queue_state q held queues))
  with_queue One One held queues h next = next h
  with_queue One Two held queues h next = h
  with_queue One Three held queues h next = h
  with_queue Two One held queues h next = h
  with_queue Two Two held queues h next = next h
  with_queue Two Three held queues h next = h
  with_queue Three One held queues h next = h
  with_queue Three Two held queues h next = h
  with_queue Three Three held queues h next = next h

  removes : (p q : Queue) (queues : Queues) → P (queue_state p queues) →
      P (queue_state p (with_queue_state q (removed (queue_state q queues)) queues))
  removes p q queues h = with_queue p q (removed (queue_state q queues)) queues h (λ here. kept.removes (queue_state q queues) here)

  removes_all : (p : Queue) (queues : Queues) → P (queue_state p queues) → P (queue_state p (all_removed queues))
  removes_all One queues h = kept.removes queues.one h
  removes_all Two queues h = kept.removes queues.two h
  removes_all Three queues h = kept.removes queues.three h

  takes_if : (whole : Bool) (held : QueueState) (count : ℕ) → P held →
      P (if whole then removed held else record held { taken = held.taken + count })
  takes_if true held count h = kept.removes held h
  takes_if false held count h = kept.takes held count h

  takes_more : (held : QueueState) (count : ℕ) (entries : List Entry) → P held → P (taken_more count held entries)
  takes_more held count [] h = h
  takes_more held count (entry ∷ rest) h = takes_if (held.taken + count == valid_bytes entry.status) held count h

  takes : (p q : Queue) (count : ℕ) (queues : Queues) → P (queue_state p queues) →
      P (queue_state p (with_queue_state q (taken_from count (queue_state q queues)) queues))
  takes p q count queues h =
      with_queue p q (taken_from count (queue_state q queues)) queues h
      (λ here. takes_more (queue_state q queues) count (queue_state q queues).entries here)

  -- ---- the parts of a turn

  module _ (p : Queue) where
    abbrev Holds : State → Type 0
    Holds m = P (queue_state p m.queues)

    begins : (cause : Option Cause) (instr : Instr) (count : ℕ) (target : Option ℕ) (m : State) → Holds m →
        Holds (begun_with cause instr count target m)
    begins (Some cause) instr count target m h = h
    begins None instr count target m h = h

    fetches_data : (skipping : Skipping) (instr : Instr) (count : ℕ) (m : State) → Holds m → Holds (data_fetched skipping instr count m)
    fetches_data Nothing instr count m h = begins _ instr count _ m h
    fetches_data ToEol instr count m h = h
    fetches_data ToSync instr count m h = h

    jumps : (inside : Bool) (ctl : Ctl) (addr : ℕ) (m : State) → Holds m → Holds (jumped inside ctl addr m)
    jumps true ctl addr m h = h
    jumps false ctl addr m h = h

    fetches_instr : (instr : Instr) (count : ℕ) (m : State) → Holds m → Holds (instr_fetched instr count m)
    fetches_instr (Jump ctl addr) count m h = jumps _ ctl addr m h
    fetches_instr (Sync ctl resync code) count m h = h
    fetches_instr (Write ctl ends off n addr) count m h = fetches_data m.skipping _ count m h
    fetches_instr (Skip ctl ends n) count m h = fetches_data m.skipping _ count m h
    fetches_instr (WriteC ctl ends off n) count m h = fetches_data m.skipping _ count m h
    fetches_instr (Write123 ctl ends off counts addrs) count m h = fetches_data m.skipping _ count m h
    fetches_instr (Skip123 ctl ends counts) count m h = fetches_data m.skipping _ count m h
    fetches_instr (Write1S23 ctl ends off counts addr) count m h = fetches_data m.skipping _ count m h

    fetches : (r : Reading) (m : State) → Holds m → Holds (fetched r m)
    fetches (Err fault) m h = h
    fetches (Ok (instr, count)) m h = fetches_instr instr count m h

    signals : (resync : Bool) (m : State) → Holds m → Holds (with_fdsr_unless resync m)
    signals true m h = h
    signals false m h = h

    meets : (same : Bool) (ctl : Ctl) (resync : Bool) (m : State) → Holds m → Holds (met same ctl resync m)
    meets true ctl resync m h = removes_all p m.queues h
    meets false ctl resync m h = signals resync (without_codes m) (removes_all p m.queues h)

    sees : (seen : Option Code) (ctl : Ctl) (resync : Bool) (code : Code) (m : State) → Holds m → Holds (code_seen seen ctl resync code m)
    sees None ctl resync code m h = h
    sees (Some seen) ctl resync code m h = meets _ ctl resync m h

    waits : (stray : Option Queue) (ctl : Ctl) (resync : Bool) (code : Code) (m : State) → Holds m →
        Holds (stray_seen stray ctl resync code m)
    waits None ctl resync code m h = sees _ ctl resync code m h
    waits (Some q) ctl resync code m h = signals resync _ (removes p q m.queues h)

    ends : (cut : Bool) (instr : Instr) (m : State) → Holds m → Holds (ended cut instr m)
    ends true instr m h = h
    ends false instr m h = h

    judges : (verdict : Verdict) (q : Queue) (instr : Instr) (ds : Demands) (entry : Entry) (m : State) → Holds m →
        Holds (judged verdict q instr ds entry m)
    judges Broken q instr ds entry m h = h
    judges Missing q instr ds entry m h = h
    judges Discard q instr ds entry m h = removes p q m.queues h
    judges (Take count) q instr ds entry m h = ends _ instr (took q count instr ds entry m) (takes p q count m.queues h)

    each_part : IsKept Holds
    each_part =
        record {
          counts = λ m h. h;
          fetches = λ m e h. fetches (fetch m.program m.pc) m h;
          waits = λ ctl resync code m e h. waits _ ctl resync code m h;
          retires = λ instr ds m e d h. h;
          judges = λ q instr ds entry m e f n h. judges _ q instr ds entry m h;
        }

    pub turn-keeps : (m : State) → Holds m → Holds (turn m)
    turn-keeps m h = turn-kept Holds each_part m h
