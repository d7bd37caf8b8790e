use Rattle.std.proofs.Common.{◌≡◌, List, ℕ, None, map}
use Rattle.std.specs.List.{All}
use Rattle.capture_desk.specs.declared.memory.Slot.{Slot}
use Rattle.capture_desk.specs.Inside.{entry}
use Rattle.capture_desk.specs.Desks.{Outputs}
use Rattle.capture_desk.proofs.memory.slots_for.Given as goal

abbrev pub absent : List (List ℕ) → Outputs
absent names = map (λ name. (name, None)) names

abbrev pub invariant-loop-name : goal.invariant-loop-name
invariant-loop-name l =
    record {
      entries : map entry l.slots.items ≡ absent l.yielded;
      rooms : All (λ (slot : Slot). slot.held.room ≡ l.room) l.slots.items;
    }
