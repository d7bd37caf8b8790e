use Rattle.std.proofs.Common.{[], ◌∷◌, refl}
use Rattle.fifo_model.specs.declared.Queue.TheVariants.{One, Three}
use Rattle.machine_model.specs.PlainEntries.{plain_entry}
use Rattle.machine_cases.proofs.buffers.loses_three.Goals as goal

-- any entries: one for queue 1, and two for queue 3
pub push_lost-requires-clause-counted : goal.push_lost-requires-clause-counted
push_lost-requires-clause-counted c = ((One, plain_entry 0) ∷ (Three, plain_entry 0) ∷ (Three, plain_entry 0) ∷ [], refl)
