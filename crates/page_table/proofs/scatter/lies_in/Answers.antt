use Rattle.std.proofs.Common.{◌≡◌, ◌-◌, false, inr, get_or, arith}
use Rattle.std.proofs.lemmas.Bool.{leb-true, leb-false, ltb-false}
use Rattle.std.proofs.lemmas.List.Sums.{prefix_len_passes, prefix_len_stops}
use Rattle.std.specs.Prelude.{nat_le}
use Rattle.page_table.proofs.Ends.{between_ends}
use Rattle.page_table.proofs.scatter.lies_in.Goals as goal

pub returns-else-i-eq0-clause-there : goal.returns-else-i-eq0-clause-there
returns-else-i-eq0-clause-there c before =
    between_ends c.args.ends.now c.args.i c.args.off c.requires c.if-i-ends.false c.if-off-ends.true
    (inr (leb-true (get_or c.args.ends.now (c.args.i - 1) 0) c.args.off before))

pub returns-else-i-eq0-clause-elsewhere : goal.returns-else-i-eq0-clause-elsewhere
returns-else-i-eq0-clause-elsewhere c late inside is =
    let passes = prefix_len_passes (λ end. nat_le end c.args.off) c.args.ends.now (c.args.i - 1) 0 (omega (arith, is, c.if-i-eq0.false)) in
    absurd (cc (passes, late))

pub returns-else-off-ends-clause-elsewhere : goal.returns-else-off-ends-clause-elsewhere
returns-else-off-ends-clause-elsewhere c early inside is =
    let at = get_or c.args.ends.now c.args.i 0 in
    let stops : nat_le at c.args.off ≡ false =
    rw is (prefix_len_stops (λ end. nat_le end c.args.off) c.args.ends.now 0 (omega (arith, is, inside))) in
    absurd (omega (arith, leb-false at c.args.off stops, ltb-false c.args.off at early))
