use Rattle.std.proofs.Common.{◌≤◌, [], ◌∷◌, arith, refl}
use Rattle.machine_cases.proofs.machine.passes_two_plain_entries.Goals as goal

-- 0x17161514 with two turns behind it, and 0x1b1a1918 with three
pub push_plain-requires-clause-plain : goal.push_plain-requires-clause-plain
push_plain-requires-clause-plain c = (
  (387323156, 2) ∷ (454695192, 3) ∷ [],
  record {
    plain = record { dwords = refl; turns = refl; each = (omega arith, (omega arith, tt)) };
    dwords = (omega arith, (omega arith, tt));
  },
)
