-- One of the three queues changes.
use Rattle.std.proofs.Common.{◌≡◌, ℕ, List, refl}
use Rattle.fifo_model.specs.declared.Queue.{Queue}
use Rattle.fifo_model.specs.declared.Queue.TheVariants.{One, Two, Three}
use Rattle.fifo_model.specs.Queues.{QueueState, Queues, queue_state, with_queue_state}
use Rattle.machine_model.specs.declared.Demand.{Demand}
use Rattle.machine_model.specs.declared.Demands.{Demands}
use Rattle.machine_model.specs.Turns.{Store, demand_on, with_demand}

-- something for each queue, with one of them changed
abbrev pub changed : {A : Type 0} → Queue → A → (Queue → A) → Queue → A
changed One new old One = new
changed One new old Two = old Two
changed One new old Three = old Three
changed Two new old One = old One
changed Two new old Two = new
changed Two new old Three = old Three
changed Three new old One = old One
changed Three new old Two = old Two
changed Three new old Three = new

pub changed_here : {A : Type 0} (q : Queue) (new : A) (old : Queue → A) → changed q new old q ≡ new
changed_here One new old = refl
changed_here Two new old = refl
changed_here Three new old = refl

-- what holds of each holds after the change, where it holds of what changed
pub each_changed : {A : Type 0} (P : Queue → A → Type 0) (q : Queue) (new : A) (old : Queue → A) → ((p : Queue) → P p (old p)) → P q new →
    (p : Queue) → P p (changed q new old p)
each_changed P One new old all one One = one
each_changed P One new old all one Two = all Two
each_changed P One new old all one Three = all Three
each_changed P Two new old all one One = all One
each_changed P Two new old all one Two = one
each_changed P Two new old all one Three = all Three
each_changed P Three new old all one One = all One
each_changed P Three new old all one Two = all Two
each_changed P Three new old all one Three = one

-- and the other way round
pub each_unchanged : {A : Type 0} (P : Queue → A → Type 0) (q : Queue) (new : A) (old : Queue → A) →
    ((p : Queue) → P p (changed q new old p)) → P q (old q) →
    (p : Queue) → P p (old p)
each_unchanged P One new old all one One = one
each_unchanged P One new old all one Two = all Two
each_unchanged P One new old all one Three = all Three
each_unchanged P Two new old all one One = all One
each_unchanged P Two new old all one Two = one
each_unchanged P Two new old all one Three = all Three
each_unchanged P Three new old all one One = all One
each_unchanged P Three new old all one Two = all Two
each_unchanged P Three new old all one Three = one

-- a queue changes with what is asked of it, its stores and its entries left
pub each_served : (P : Queue → QueueState → Demand → List Store → ℕ → Type 0) (q : Queue) (held : QueueState) (d : Demand)
    (stores : List Store) (left : ℕ)
    (queues : Queues) (ds : Demands) (all_stores : Queue → List Store) (all_left : Queue → ℕ) →
    ((p : Queue) → P p (queue_state p queues) (demand_on p ds) (all_stores p) (all_left p)) → P q held d stores left →
    (p : Queue) → P p (queue_state p (with_queue_state q held queues)) (demand_on p (with_demand q d ds)) (changed q stores all_stores p)
    (changed q left all_left p)
each_served P One held d stores left queues ds all_stores all_left all one One = one
each_served P One held d stores left queues ds all_stores all_left all one Two = all Two
each_served P One held d stores left queues ds all_stores all_left all one Three = all Three
each_served P Two held d stores left queues ds all_stores all_left all one One = all One
each_served P Two held d stores left queues ds all_stores all_left all one Two = one
each_served P Two held d stores left queues ds all_stores all_left all one Three = all Three
each_served P Three held d stores left queues ds all_stores all_left all one One = all One
each_served P Three held d stores left queues ds all_stores all_left all one Two = all Two
each_served P Three held d stores left queues ds all_stores all_left all one Three = one

-- a queue changes, and with it something else that belongs to it
pub each_queue : {A : Type 0} (P : Queue → QueueState → A → Type 0) (q : Queue) (held : QueueState) (new : A) (queues : Queues)
    (old : Queue → A) →
    ((p : Queue) → P p (queue_state p queues) (old p)) → P q held new → (p : Queue) →
    P p (queue_state p (with_queue_state q held queues)) (changed q new old p)
each_queue P One held new queues old all one One = one
each_queue P One held new queues old all one Two = all Two
each_queue P One held new queues old all one Three = all Three
each_queue P Two held new queues old all one One = all One
each_queue P Two held new queues old all one Two = one
each_queue P Two held new queues old all one Three = all Three
each_queue P Three held new queues old all one One = all One
each_queue P Three held new queues old all one Two = all Two
each_queue P Three held new queues old all one Three = one
