use Rattle.std.proofs.Common.{◌≡◌, ◌+◌, ◌++◌, ℕ}
use Rattle.field_check.specs.Cursors.{asks_from}
use Rattle.field_check.proofs.plan.last_asked.Given as goal

abbrev pub invariant-loop-number : goal.invariant-loop-number
invariant-loop-number l = record {
  last : asks_from l.last l.plan l.q 0 ≡ asks_from l.number l.plan l.q 0;
  later : (more : ℕ) → asks_from (l.number + more) l.plan l.q 0 ≡ asks_from l.number l.plan l.q 0 ++ asks_from more l.plan l.q l.at;
}
