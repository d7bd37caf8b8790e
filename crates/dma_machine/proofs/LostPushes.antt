-- Where all queues are full, it doesn't matter in which order entries are pushed: only how many are lost of each queue.
use Rattle.std.proofs.Common.{◌≡◌, ℕ, zero, suc, ◌+◌, ◌-◌, ◌<◌, Bool, true, false, List, [], ◌∷◌, slice_index, replicate}
use Rattle.std.proofs.Common.{refl, sym, ap, subst, ◌∙◌, arith, if◌then◌else◌}
use Rattle.std.specs.Prelude.{◌&&◌}
use Rattle.std.proofs.lemmas.Bool.{and_parts}
use Rattle.sync_status.specs.Statuses.{is_control, kind_of}
use Rattle.fifo_model.specs.declared.Entry.{Entry}
use Rattle.fifo_model.specs.declared.Queue.{Queue}
use Rattle.fifo_model.specs.declared.Queue.TheVariants.{One, Two, Three}
use Rattle.fifo_model.specs.Queues.{QueueState, entered, is_full, overrun, queue_state, with_queue_state}
use Rattle.irq_status.specs.Register.{fbus, raised}
use Rattle.machine_model.specs.PlainEntries.{plain_entry}
use Rattle.machine_model.specs.States.{State}
use Rattle.machine_model.specs.Steps.{Push, Step, push, push_if, run, step, with_fbus_if}
use Rattle.dma_machine.specs.Facts.{IsMachine}
use Rattle.dma_machine.specs.Lost.{counts_for, counts_of, loses_all, pushes, pushes_to}
use Rattle.dma_machine.proofs.Machines.{IsMachine-step}

-- ---- what so many lost pushes make of a machine

abbrev overrun_times : ℕ → QueueState → QueueState
overrun_times zero held = held
overrun_times (suc count) held = overrun_times count (overrun held)

abbrev raised_times : ℕ → ℕ → ℕ
raised_times zero bits = bits
raised_times (suc count) bits = raised_times count (raised bits fbus)

abbrev lost : ℕ → ℕ → ℕ → State → State
lost one two three m =
    record m {
      queues =
          record m.queues {
            one = overrun_times one m.queues.one;
            two = overrun_times two m.queues.two;
            three = overrun_times three m.queues.three;
          };
      interrupts = raised_times (one + two + three) m.interrupts;
    }

overrun_more : (first later : ℕ) (held : QueueState) → overrun_times later (overrun_times first held) ≡ overrun_times (first + later) held
overrun_more zero later held =
    let all : later ≡ 0 + later = omega arith in ap (λ (n : ℕ). overrun_times n held) all
overrun_more (suc first) later held =
    let all : suc (first + later) ≡ suc first + later = omega arith in
    overrun_more first later (overrun held) ∙ ap (λ (n : ℕ). overrun_times n held) all

raised_more : (first later bits : ℕ) → raised_times later (raised_times first bits) ≡ raised_times (first + later) bits
raised_more zero later bits =
    let all : later ≡ 0 + later = omega arith in ap (λ (n : ℕ). raised_times n bits) all
raised_more (suc first) later bits =
    let all : suc (first + later) ≡ suc first + later = omega arith in
    raised_more first later (raised bits fbus) ∙ ap (λ (n : ℕ). raised_times n bits) all

full_still : (count : ℕ) (held : QueueState) → is_full (overrun_times count held) ≡ is_full held
full_still zero held = refl
full_still (suc count) held = full_still count (overrun held)

lost_same : (a b c x y z : ℕ) (m : State) → a ≡ x → b ≡ y → c ≡ z → lost a b c m ≡ lost x y z m
lost_same a b c x y z m one two three =
    ap (λ (n : ℕ). lost n b c m) one ∙ ap (λ (n : ℕ). lost x n c m) two ∙ ap (λ (n : ℕ). lost x y n m) three

-- so many, and more behind them
lost_more : (a b c x y z : ℕ) (m : State) → lost a b c (lost x y z m) ≡ lost (x + a) (y + b) (z + c) m
lost_more a b c x y z m =
    let sum : x + y + z + (a + b + c) ≡ x + a + (y + b) + (z + c) = omega arith in
    ap (λ (held : QueueState). record m {
      queues =
          record m.queues {
            one = held;
            two = overrun_times b (overrun_times y m.queues.two);
            three = overrun_times c (overrun_times z m.queues.three);
          };
      interrupts = raised_times (a + b + c) (raised_times (x + y + z) m.interrupts);
    }) (overrun_more x a m.queues.one)
    ∙ ap (λ (held : QueueState). record m {
      queues =
          record m.queues {
            one = overrun_times (x + a) m.queues.one;
            two = held;
            three = overrun_times c (overrun_times z m.queues.three);
          };
      interrupts = raised_times (a + b + c) (raised_times (x + y + z) m.interrupts);
    }) (overrun_more y b m.queues.two)
    ∙ ap (λ (held : QueueState). record m {
      queues =
          record m.queues {
            one = overrun_times (x + a) m.queues.one;
            two = overrun_times (y + b) m.queues.two;
            three = held;
          };
      interrupts = raised_times (a + b + c) (raised_times (x + y + z) m.interrupts);
    }) (overrun_more z c m.queues.three)
    ∙ ap (λ (bits : ℕ). record m {
      queues =
          record m.queues {
            one = overrun_times (x + a) m.queues.one;
            two = overrun_times (y + b) m.queues.two;
            three = overrun_times (z + c) m.queues.three;
          };
      interrupts = bits;
    }) (raised_more (x + y + z) (a + b + c) m.interrupts ∙ ap (λ (n : ℕ). raised_times n m.interrupts) sum)

-- ---- a push is lost

module _ (m : State) (full : loses_all m ≡ true) where
  on : m.fifo_on ≡ true
  on = (and_parts m.fifo_on _ full).0

  all : (is_full m.queues.one && (is_full m.queues.two && is_full m.queues.three)) ≡ true
  all = (and_parts m.fifo_on _ full).1

  others : (is_full m.queues.two && is_full m.queues.three) ≡ true
  others = (and_parts (is_full m.queues.one) _ all).1

  each_full : (q : Queue) → is_full (queue_state q m.queues) ≡ true
  each_full One = (and_parts (is_full m.queues.one) _ all).0
  each_full Two = (and_parts (is_full m.queues.two) _ others).0
  each_full Three = (and_parts (is_full m.queues.two) _ others).1

  chosen : (is : Bool) (q : Queue) (entry : Entry) → is ≡ true →
      (record (with_fbus_if is m) {
        queues =
            if is then with_queue_state q (overrun (queue_state q m.queues)) m.queues
            else with_queue_state q (entered entry (queue_state q m.queues)) m.queues;
      }) ≡ lost (counts_for One q) (counts_for Two q) (counts_for Three q) m
  chosen true One entry e = refl
  chosen true Two entry e = refl
  chosen true Three entry e = refl
  chosen _ q entry e = absurd cc

  one_lost : (q : Queue) (entry : Entry) → push q entry m ≡ lost (counts_for One q) (counts_for Two q) (counts_for Three q) m
  one_lost q entry = ap (λ (b : Bool). push_if b q entry m) on ∙ chosen (is_full (queue_state q m.queues)) q entry (each_full q)

  full_behind : (one two three : ℕ) → loses_all (lost one two three m) ≡ true
  full_behind one two three =
      ap (λ (b : Bool). m.fifo_on && (b && (is_full (overrun_times two m.queues.two) && is_full (overrun_times three m.queues.three))))
      (full_still one m.queues.one)
      ∙ ap (λ (b : Bool). m.fifo_on && (is_full m.queues.one && (b && is_full (overrun_times three m.queues.three))))
      (full_still two m.queues.two)
      ∙ ap (λ (b : Bool). m.fifo_on && (is_full m.queues.one && (is_full m.queues.two && b))) (full_still three m.queues.three)
      ∙ full

  pub still_full : (q : Queue) (entry : Entry) → loses_all (push q entry m) ≡ true
  still_full q entry =
      ap loses_all (one_lost q entry) ∙ full_behind (counts_for One q) (counts_for Two q) (counts_for Three q)

-- ---- so many are

all_lost : (entries : List (Queue × Entry)) (m : State) → loses_all m ≡ true →
    run m (pushes entries) ≡ lost (pushes_to One entries) (pushes_to Two entries) (pushes_to Three entries) m
all_lost [] m full = refl
all_lost (pushed ∷ later) m full =
    let q : Queue = pushed.0 in
    ap (λ (x : State). run x (pushes later)) (one_lost m full q pushed.1)
    ∙ all_lost later (lost (counts_for One q) (counts_for Two q) (counts_for Three q) m)
    (full_behind m full (counts_for One q) (counts_for Two q) (counts_for Three q))
    ∙ lost_more (pushes_to One later) (pushes_to Two later) (pushes_to Three later) (counts_for One q) (counts_for Two q)
    (counts_for Three q) m

-- to one queue
abbrev lost_of : Queue → ℕ → State → State
lost_of One count m = lost count 0 0 m
lost_of Two count m = lost 0 count 0 m
lost_of Three count m = lost 0 0 count m

one_more : (q : Queue) (count : ℕ) (m : State) →
    lost_of q count (lost (counts_for One q) (counts_for Two q) (counts_for Three q) m) ≡ lost_of q (suc count) m
one_more One count m = let more : 1 + count ≡ suc count = omega arith in lost_more count 0 0 1 0 0 m ∙ ap (λ (n : ℕ). lost n 0 0 m) more
one_more Two count m = let more : 1 + count ≡ suc count = omega arith in lost_more 0 count 0 0 1 0 m ∙ ap (λ (n : ℕ). lost 0 n 0 m) more
one_more Three count m = let more : 1 + count ≡ suc count = omega arith in lost_more 0 0 count 0 0 1 m ∙ ap (λ (n : ℕ). lost 0 0 n m) more

times_lost : (count : ℕ) (q : Queue) (entry : Entry) (m : State) → loses_all m ≡ true →
    run m (replicate count (Push q entry)) ≡ lost_of q count m
times_lost zero One entry m full = refl
times_lost zero Two entry m full = refl
times_lost zero Three entry m full = refl
times_lost (suc count) q entry m full =
    ap (λ (x : State). run x (replicate count (Push q entry))) (one_lost m full q entry)
    ∙ times_lost count q entry (lost (counts_for One q) (counts_for Two q) (counts_for Three q) m)
    (full_behind m full (counts_for One q) (counts_for Two q) (counts_for Three q))
    ∙ one_more q count m

-- and to each queue in turn
three_lost : (one two three : ℕ) (entry : Entry) (m : State) → loses_all m ≡ true →
    run (run (run m (replicate one (Push One entry))) (replicate two (Push Two entry))) (replicate three (Push Three entry))
    ≡ lost one two three m
three_lost one two three entry m full =
    ap (λ (x : State). run (run x (replicate two (Push Two entry))) (replicate three (Push Three entry))) (times_lost one One entry m full)
    ∙ ap (λ (x : State). run x (replicate three (Push Three entry)))
    (times_lost two Two entry (lost one 0 0 m) (full_behind m full one 0 0)
    ∙ lost_more 0 two 0 one 0 0 m
    ∙ lost_same (one + 0) (0 + two) 0 one two 0 m (omega arith) (omega arith) refl)
    ∙ times_lost three Three entry (lost one two 0 m) (full_behind m full one two 0)
    ∙ lost_more 0 0 three one two 0 m
    ∙ lost_same (one + 0) (two + 0) (0 + three) one two three m (omega arith) (omega arith) (omega arith)

-- as they are in whatever order
pub any_order : (counts : List ℕ) (entry : Entry) (m : State) → loses_all m ≡ true → (entries : List (Queue × Entry)) →
    counts_of entries ≡ counts →
    run (run (run m (replicate (slice_index counts 0) (Push One entry))) (replicate (slice_index counts 1) (Push Two entry)))
    (replicate (slice_index counts 2) (Push Three entry))
    ≡ run m (pushes entries)
any_order counts entry m full entries is =
    ap (λ (list : List ℕ).
    run (run (run m (replicate (slice_index list 0) (Push One entry))) (replicate (slice_index list 1) (Push Two entry)))
    (replicate (slice_index list 2) (Push Three entry))) (sym is)
    ∙ three_lost (pushes_to One entries) (pushes_to Two entries) (pushes_to Three entries) entry m full
    ∙ sym (all_lost entries m full)

-- ---- one by one

-- one fewer is left
pub one_fewer : (count at : ℕ) (s : Step) (m after end : State) → at < count → after ≡ step s m → run m (replicate (count - at) s) ≡ end →
    run after (replicate (count - (at + 1)) s) ≡ end
one_fewer count at s m after end some made lead =
    let left : suc (count - (at + 1)) ≡ count - at = omega (arith, some) in
    ap (λ (x : State). run x (replicate (count - (at + 1)) s)) made ∙ ap (λ (n : ℕ). run m (replicate n s)) left ∙ lead

-- ---- pushes leave a machine

pushes_leave : (count : ℕ) (q : Queue) (entry : Entry) (m : State) → is_control (kind_of entry.status) ≡ false → IsMachine m →
    IsMachine (run m (replicate count (Push q entry)))
pushes_leave zero q entry m is h = h
pushes_leave (suc count) q entry m is h =
    pushes_leave count q entry (push q entry m) is (IsMachine-step (Push q entry) m _ refl is tt h)

pub three_pushed : (one two three : ℕ) (m first second third : State) → first ≡ run m (replicate one (Push One (plain_entry 0))) →
    second ≡ run first (replicate two (Push Two (plain_entry 0))) → third ≡ run second (replicate three (Push Three (plain_entry 0))) →
    IsMachine m → IsMachine third
three_pushed one two three m first second third f s t h =
    subst IsMachine (sym t)
    (pushes_leave three Three (plain_entry 0) second refl
    (subst IsMachine (sym s)
    (pushes_leave two Two (plain_entry 0) first refl (subst IsMachine (sym f) (pushes_leave one One (plain_entry 0) m refl h)))))
