use Rattle.std.proofs.Common.{◌≡◌, ◌+◌, length}
use Rattle.machine_model.specs.Paths.{all_words}
use Rattle.risc_verify.specs.Places.{IsAt}
use Rattle.risc_verify.proofs.Walking.{Walks}
use Rattle.risc_verify.proofs.walk.walk.Given as goal

abbrev pub invariant-loop-nth : goal.invariant-loop-nth
invariant-loop-nth g l =
    Walks l.program l.nth l.next.place l.marks
    × (length l.marks ≡ length (all_words l.program))
    × (l.steps ≡ l.fn.steps + l.nth)
    × (l.words ≡ length (all_words l.program))
    × IsAt l.program l.near l.next.words.now l.next.number l.next.place.pc
