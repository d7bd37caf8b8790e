use Rattle.std.proofs.Common.{◌+◌, ℕ, ap, arith}
use Rattle.risc_asm.proofs.Searching.{ends_short, line_at_fault, rest_at_fault}
use Rattle.risc_asm.proofs.assemble.Goals as goal
use Rattle.risc_asm.proofs.assemble.Goals.{in-Whole+else-end-text, in-Begun, in-Wrong+in_ok-first_wrong-in-Wrong}

pub returns : goal.returns
returns c =
    let text = c.args.text.now in
    let end = c.whole_lines-end.result in
    let split = c.whole_lines-end.ensures in
    let told = c.in_ok-file.ensures in
    elim c.match-branch-2.branch [
      | in-Whole+else-end-text w ↦ rw w.fault-is (
        omega arith,
        rest_at_fault text end _ c.in_ok-file.field-0 _ (omega arith) split.whole split.plain
            (ap (λ (n : ℕ). n + 1) w.count_lines.ensures.value) w.in-Whole.is told,
      )
      | in-Begun w ↦ rw w.fault-is (
        omega arith,
        ends_short text end _ c.in_ok-file.field-0 split.whole split.plain w.count_lines-in-Begun.ensures.value w.in-Begun.is told,
      )
      | in-Wrong+in_ok-first_wrong-in-Wrong w ↦ rw w.fault-is (omega arith, line_at_fault text end _ w.in_ok-first_wrong-in-Wrong.ensures)
    ]
