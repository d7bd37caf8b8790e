-- One of three queues: reading it and changing it.
use Rattle.std.proofs.Common.{◌≡◌, refl}
use Rattle.fifo_model.specs.declared.Queue.{Queue}
use Rattle.fifo_model.specs.declared.Queue.TheVariants.{One, Two, Three}
use Rattle.fifo_model.specs.Queues.{QueueState, Queues, queue_state, with_queue_state}

-- the queue that was changed
pub queue_state-with_queue_state : (queue : Queue) (held : QueueState) (queues : Queues) →
    queue_state queue (with_queue_state queue held queues) ≡ held
queue_state-with_queue_state One held queues = refl
queue_state-with_queue_state Two held queues = refl
queue_state-with_queue_state Three held queues = refl

-- a queue put back as it was
pub with_queue_state-same : (queue : Queue) (queues : Queues) → with_queue_state queue (queue_state queue queues) queues ≡ queues
with_queue_state-same One queues = refl
with_queue_state-same Two queues = refl
with_queue_state-same Three queues = refl

-- the later of two changes
pub with_queue_state-twice : (queue : Queue) (early late : QueueState) (queues : Queues) →
    with_queue_state queue late (with_queue_state queue early queues) ≡ with_queue_state queue late queues
with_queue_state-twice One early late queues = refl
with_queue_state-twice Two early late queues = refl
with_queue_state-twice Three early late queues = refl
