-- Every step leaves the queues with the room that they have.
use Rattle.std.proofs.Common.{◌≡◌, ℕ, zero, suc, ◌+◌, ◌*◌, ◌^◌, ◌<◌, ◌≤◌, Bool, true, false, List, [], ◌∷◌, Option, Some, None, Ok, Err}
use Rattle.std.proofs.Common.{refl, ◌∙◌, arith, if◌then◌else◌, ◌==◌}
use Rattle.risc_word.specs.declared.Code.{Code}
use Rattle.risc_word.specs.declared.Ctl.{Ctl}
use Rattle.risc_word.specs.declared.Instr.{Instr}
use Rattle.risc_word.specs.declared.Instr.TheVariants.{Jump, Sync}
use Rattle.risc_word.specs.Words.{Reading}
use Rattle.sync_status.specs.declared.Verdict.{Verdict}
use Rattle.sync_status.specs.declared.Verdict.TheVariants.{Take, Discard, Broken, Missing}
use Rattle.sync_status.specs.Statuses.{valid_bytes}
use Rattle.fifo_model.specs.declared.Entry.{Entry}
use Rattle.fifo_model.specs.declared.Queue.{Queue}
use Rattle.fifo_model.specs.declared.Queue.TheVariants.{One, Two, Three}
use Rattle.fifo_model.specs.Queues.{QueueState, Queues, all_entered, control_entry, control_pushed, entered, is_full, more, overrun}
use Rattle.fifo_model.specs.Queues.{pushed, queue_state, removed, some_full, taken_from, taken_more, with_queue_state}
use Rattle.irq_status.specs.declared.HostWrite.{HostWrite}
use Rattle.irq_status.specs.declared.HostWrite.TheVariants.{Ack, Enable, Trigger}
use Rattle.irq_status.specs.Writes.{IsWrite}
use Rattle.machine_model.specs.declared.Cause.{Cause}
use Rattle.machine_model.specs.declared.Demands.{Demands}
use Rattle.machine_model.specs.declared.Skipping.{Skipping}
use Rattle.machine_model.specs.declared.Skipping.TheVariants.{Nothing, ToEol, ToSync}
use Rattle.machine_model.specs.Paths.{fetch}
use Rattle.machine_model.specs.States.{State}
use Rattle.machine_model.specs.Steps.{Step, Push, Control, Turn, Host, host, push_control_if, push_if, step, with_fbus_if, with_fifo}
use Rattle.machine_model.specs.Steps.{with_risc}
use Rattle.machine_model.specs.Turns.{begun_with, code_seen, data_fetched, ended, fetched, instr_fetched, judged, jumped, met, stray_seen}
use Rattle.machine_model.specs.Turns.{took}
use Rattle.machine_model.specs.Turns.{with_fdsr_unless}
use Rattle.machine_model.proofs.Turning.{IsKept, turn-kept}
use Rattle.dma_machine.specs.Facts.{HaveRoom}

abbrev Has : State → Type 0
Has m = HaveRoom m.trigger m.queues

-- ---- a turn

jumps : (inside : Bool) (ctl : Ctl) (addr : ℕ) (m : State) → Has m → Has (jumped inside ctl addr m)
jumps true ctl addr m h = h
jumps false ctl addr m h = h

begins : (cause : Option Cause) (instr : Instr) (count : ℕ) (target : Option ℕ) (m : State) → Has m →
    Has (begun_with cause instr count target m)
begins (Some cause) instr count target m h = h
begins None instr count target m h = h

moves : (skipping : Skipping) (instr : Instr) (count : ℕ) (m : State) → Has m → Has (data_fetched skipping instr count m)
moves Nothing instr count m h = begins _ instr count _ m h
moves ToEol instr count m h = h
moves ToSync instr count m h = h

executes : (instr : Instr) (count : ℕ) (m : State) → Has m → Has (instr_fetched instr count m)
executes (Jump ctl addr) count m h = jumps _ ctl addr m h
executes (Sync ctl resync code) count m h = h
executes instr count m h = moves m.skipping instr count m h

fetches : (reading : Reading) (m : State) → Has m → Has (fetched reading m)
fetches (Err fault) m h = h
fetches (Ok (instr, count)) m h = executes instr count m h

signals : (resync : Bool) (m : State) → Has m → Has (with_fdsr_unless resync m)
signals true m h = h
signals false m h = h

meets : (same : Bool) (ctl : Ctl) (resync : Bool) (m : State) → Has m → Has (met same ctl resync m)
meets true ctl resync m h = record { most = h.most; one = h.one; two = h.two; three = h.three }
meets false ctl resync m h = signals resync _ (record { most = h.most; one = h.one; two = h.two; three = h.three })

sees : (seen : Option Code) (ctl : Ctl) (resync : Bool) (code : Code) (m : State) → Has m → Has (code_seen seen ctl resync code m)
sees None ctl resync code m h = h
sees (Some seen) ctl resync code m h = meets _ ctl resync m h

-- a queue is another, of the same capacity
replaced : (q : Queue) (held : QueueState) (trigger : ℕ) (queues : Queues) → held.capacity ≡ (queue_state q queues).capacity →
    HaveRoom trigger queues → HaveRoom trigger (with_queue_state q held queues)
replaced One held trigger queues e h = record { most = h.most; one = e ∙ h.one; two = h.two; three = h.three }
replaced Two held trigger queues e h = record { most = h.most; one = h.one; two = e ∙ h.two; three = h.three }
replaced Three held trigger queues e h = record { most = h.most; one = h.one; two = h.two; three = e ∙ h.three }

drops : (stray : Option Queue) (ctl : Ctl) (resync : Bool) (code : Code) (m : State) → Has m → Has (stray_seen stray ctl resync code m)
drops None ctl resync code m h = sees _ ctl resync code m h
drops (Some q) ctl resync code m h = signals resync _ (replaced q (removed (queue_state q m.queues)) m.trigger m.queues refl h)

ends : (cut : Bool) (instr : Instr) (m : State) → Has m → Has (ended cut instr m)
ends true instr m h = h
ends false instr m h = h

whole_or_part : (whole : Bool) (count : ℕ) (held : QueueState) →
    (if whole then removed held else record held { taken = held.taken + count }).capacity ≡ held.capacity
whole_or_part true count held = refl
whole_or_part false count held = refl

capacity-taken_more : (count : ℕ) (held : QueueState) (entries : List Entry) → (taken_more count held entries).capacity ≡ held.capacity
capacity-taken_more count held [] = refl
capacity-taken_more count held (entry ∷ rest) = whole_or_part (held.taken + count == valid_bytes entry.status) count held

judges : (verdict : Verdict) (q : Queue) (instr : Instr) (ds : Demands) (entry : Entry) (m : State) → Has m →
    Has (judged verdict q instr ds entry m)
judges Broken q instr ds entry m h = h
judges Missing q instr ds entry m h = h
judges Discard q instr ds entry m h = replaced q (removed (queue_state q m.queues)) m.trigger m.queues refl h
judges (Take count) q instr ds entry m h =
    let held : QueueState = queue_state q m.queues in
    ends _ instr (took q count instr ds entry m)
    (replaced q (taken_from count held) m.trigger m.queues (capacity-taken_more count held held.entries) h)

has : IsKept Has
has =
    record {
      counts = λ m h. h;
      fetches = λ m e h. fetches (fetch m.program m.pc) m h;
      waits = λ ctl resync code m e h. drops _ ctl resync code m h;
      retires = λ instr ds m e d h. h;
      judges = λ q instr ds entry m e f n h. judges _ q instr ds entry m h;
    }

-- ---- the other steps

filled : (full : Bool) (m : State) (queues : Queues) → HaveRoom m.trigger queues → Has (record (with_fbus_if full m) { queues = queues })
filled true m queues h = h
filled false m queues h = h

entered_or_lost : (full : Bool) (q : Queue) (entry : Entry) (trigger : ℕ) (queues : Queues) → HaveRoom trigger queues →
    HaveRoom trigger (if full then with_queue_state q (overrun (queue_state q queues)) queues
    else with_queue_state q (entered entry (queue_state q queues)) queues)
entered_or_lost true q entry trigger queues h = replaced q (overrun (queue_state q queues)) trigger queues refl h
entered_or_lost false q entry trigger queues h = replaced q (entered entry (queue_state q queues)) trigger queues refl h

pushes : (on : Bool) (q : Queue) (entry : Entry) (m : State) → Has m → Has (push_if on q entry m)
pushes true q entry m h =
    filled (is_full (queue_state q m.queues)) m (pushed q entry m.queues)
    (entered_or_lost (is_full (queue_state q m.queues)) q entry m.trigger m.queues h)
pushes false q entry m h = h

all_or_none : (full : Bool) (code : Code) (trigger : ℕ) (queues : Queues) → HaveRoom trigger queues →
    HaveRoom trigger (if full then record queues { control_overruns = more queues.control_overruns 1 }
    else all_entered (control_entry code) queues)
all_or_none true code trigger queues h = record { most = h.most; one = h.one; two = h.two; three = h.three }
all_or_none false code trigger queues h = record { most = h.most; one = h.one; two = h.two; three = h.three }

controls : (on : Bool) (code : Code) (m : State) → Has m → Has (push_control_if on code m)
controls true code m h = filled (some_full m.queues) m (control_pushed code m.queues)
    (all_or_none (some_full m.queues) code m.trigger m.queues h)
controls false code m h = h

enables_fifo : (fifo : Bool) (m : State) → Has m → Has (with_fifo fifo m)
enables_fifo true m h = h
enables_fifo false m h = record { most = h.most; one = h.one; two = h.two; three = h.three }

enables_risc : (risc was_on : Bool) (m : State) → Has m → Has (with_risc risc was_on m)
enables_risc true true m h = h
enables_risc true false m h = h
enables_risc false was_on m h = h

four_times : (number : ℕ) → number < 4 → 4 * 2 ^ number ≤ 32
four_times zero few = omega arith
four_times (suc zero) few = omega arith
four_times (suc (suc zero)) few = omega arith
four_times (suc (suc (suc zero))) few = omega arith
four_times (suc (suc (suc (suc number)))) few = absurd (omega (arith, few))

writes : (write : HostWrite) (m : State) → IsWrite write → Has m → Has (host write m)
writes (Ack mask) m fits h = h
writes (Enable fifo risc) m fits h = enables_risc risc m.risc_on (with_fifo fifo m) (enables_fifo fifo m h)
writes (Trigger number) m fits h = record { most = four_times number fits; one = h.one; two = h.two; three = h.three }

-- the host writes what it can
abbrev pub WritesFit : Step → Type 0
WritesFit (Host write) = IsWrite write
WritesFit _ = Unit {0}

pub HaveRoom-step : (s : Step) (m : State) → WritesFit s → HaveRoom m.trigger m.queues → HaveRoom (step s m).trigger (step s m).queues
HaveRoom-step (Push q entry) m fits h = pushes m.fifo_on q entry m h
HaveRoom-step (Control code) m fits h = controls m.fifo_on code m h
HaveRoom-step Turn m fits h = turn-kept Has has m h
HaveRoom-step (Host write) m fits h = writes write m fits h
