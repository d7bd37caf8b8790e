use Rattle.std.proofs.Common.{length, ◌-◌, ◌≤◌}
use Rattle.risc_asm.specs.Texts.{front_of}
use Rattle.risc_asm.proofs.Settling.{SoFar}
use Rattle.risc_asm.proofs.text.settle.Given as goal

abbrev pub invariant-loop-next : goal.invariant-loop-next
invariant-loop-next l =
    record {
      so_far : SoFar l.settled.base l.settled.draft.words.items l.settled.number l.settled.front (front_of l.fn.settled) l.tail l.rest;
      long : length l.rest ≤ length l.tail;
    }

abbrev pub decreases-loop-next : goal.decreases-loop-next
decreases-loop-next l = length l.settled.draft.words.items - l.settled.number
