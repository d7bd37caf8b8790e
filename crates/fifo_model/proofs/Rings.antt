-- The list of the three queues after a call, by the queues that it gives.
use Rattle.std.proofs.Common.{◌≡◌, ℕ, List, length, sym, subst}
use Rattle.fifo_model.specs.Queues.{QueueState, Queues, IsFifo}
use Rattle.fifo_model.specs.Rings.{queues_of, AreRings}

pub AreRings-kept : (states : List QueueState) (lost : ℕ) (queues : Queues) → length states ≡ 3 → queues_of states lost ≡ queues →
    IsFifo queues → AreRings states lost
AreRings-kept states lost queues three same held =
    record { three = three; facts = subst IsFifo (sym same) held }
