use Rattle.std.proofs.Common.{◌≡◌, ◌-◌, ◌≤◌, List, ℕ, drop, length}
use Rattle.dma_machine.specs.Plain.{AreDwords, all_pushed}
use Rattle.dma_machine.specs.Views.{state_of}
use Rattle.machine_model.specs.PlainEntries.{dwords_of}
use Rattle.dma_machine.proofs.engine.Engine.push_all.Given as goal

-- those that are left are pushed to what is made of the others
abbrev pub invariant-loop-at : goal.invariant-loop-at
invariant-loop-at g l =
    (l.at ≤ length l.dwords)
    × ((entries : List (ℕ × ℕ)) → dwords_of entries ≡ l.dwords → AreDwords entries →
    (rest : List (ℕ × ℕ))
    × (dwords_of rest ≡ drop l.at l.dwords)
    × AreDwords rest
    × (all_pushed l.q rest (state_of g.R.Ram.memory l.self) ≡ all_pushed l.q entries (state_of g.R.Ram.memory l.initial.self)))

abbrev pub decreases-loop-at : goal.decreases-loop-at
decreases-loop-at g l = length l.dwords - l.at
