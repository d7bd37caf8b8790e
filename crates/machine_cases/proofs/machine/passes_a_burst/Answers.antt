use Rattle.std.proofs.Common.{◌≤◌, [], ◌∷◌, arith, refl}
use Rattle.machine_cases.proofs.machine.passes_a_burst.Goals as goal

-- 0x23222120 with two turns behind it, and 0x27262524, 0x2b2a2928, 0x2f2e2d2c and 0x33323130 with one each
pub push_plain-requires-clause-plain : goal.push_plain-requires-clause-plain
push_plain-requires-clause-plain c = (
  (589439264, 2) ∷ (656811300, 1) ∷ (724183336, 1) ∷ (791555372, 1) ∷ (858927408, 1) ∷ [],
  record {
    plain =
        record {
          dwords = refl;
          turns = refl;
          each = (omega arith, (omega arith, (omega arith, (omega arith, (omega arith, tt)))));
        };
    dwords = (omega arith, (omega arith, (omega arith, (omega arith, (omega arith, tt)))));
  },
)
