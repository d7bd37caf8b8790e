-- Data pushes while all queues are full: each of them is lost.
use Rattle.std.specs.Prelude.{ℕ, ◌+◌, Bool, ◌&&◌, List, [], ◌∷◌}
use Rattle.fifo_model.specs.declared.Entry.{Entry}
use Rattle.fifo_model.specs.declared.Queue.{Queue}
use Rattle.fifo_model.specs.declared.Queue.TheVariants.{One, Two, Three}
use Rattle.fifo_model.specs.Queues.{is_full}
use Rattle.machine_model.specs.States.{State}
use Rattle.machine_model.specs.Steps.{Push, Step}

-- the FIFO is enabled, and each queue is full
abbrev pub loses_all : State → Bool
loses_all m = m.fifo_on && (is_full m.queues.one && (is_full m.queues.two && is_full m.queues.three))

-- entries are pushed one after the other, each to its queue
abbrev pub pushes : List (Queue × Entry) → List Step
pushes [] = []
pushes (pushed ∷ later) = Push pushed.0 pushed.1 ∷ pushes later

-- 1 where the two are one queue
abbrev pub counts_for : Queue → Queue → ℕ
counts_for One One = 1
counts_for Two Two = 1
counts_for Three Three = 1
counts_for _ _ = 0

-- how many of them are to a queue
abbrev pub pushes_to : Queue → List (Queue × Entry) → ℕ
pushes_to q [] = 0
pushes_to q (pushed ∷ later) = counts_for q pushed.0 + pushes_to q later

-- to queues 1, 2 and 3
abbrev pub counts_of : List (Queue × Entry) → List ℕ
counts_of entries = pushes_to One entries ∷ pushes_to Two entries ∷ pushes_to Three entries ∷ []
