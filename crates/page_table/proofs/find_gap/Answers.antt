use Rattle.std.proofs.Common.{◌≤◌, ◌<◌, ◌+◌, length, arith, sym, subst}
use Rattle.page_table.proofs.Covering.{ended-le, scan_begins, scan_more_at, scan_meets_at, scan_runs_out_at, ungranted-length}
use Rattle.page_table.proofs.find_gap.Goals as goal
use Rattle.page_table.proofs.find_gap.Goals.{then-i-chunks-via-then-i-chunks, then-i-chunks-via-else-i-chunks+then-from-next}

pub loop-next-init : goal.loop-next-init
loop-next-init c = (
  scan_begins c.args.chunks.now c.args.addr
      (c.from.result + c.from-2.result) c.ended-i.result c.from-next.result c.requires.rising c.ended-i.ensures c.from-next.ensures,
  subst (λ n. n ≤ length c.args.chunks.now) (sym c.ended-i.ensures) (ended-le c.args.addr c.args.chunks.now),
  omega arith,
)

pub returns-then-i-chunks : goal.returns-then-i-chunks
returns-then-i-chunks c =
    let scan = c.loop-next.invariant.0 in
    ungranted-length _ c.args.addr _ c.args.len _ c.loop-next.invariant.2
    (elim c.then-i-chunks.branch [
      | then-i-chunks-via-then-i-chunks w ↦
          scan_runs_out_at c.args.chunks.now c.args.addr _ c.loop-next.i c.loop-next.next w.if-i-chunks.true scan c.loop-next-test.true
      | then-i-chunks-via-else-i-chunks+then-from-next w ↦ scan_meets_at c.args.chunks.now c.args.addr _ c.loop-next.i c.loop-next.next
          (omega arith) scan c.loop-next-test.true (omega arith)
    ])

pub loop-next-preserved : goal.loop-next-preserved
loop-next-preserved c =
    let within : c.loop-next.i < length c.args.chunks.now = omega arith in (
      rw (c.from-in-loop-next.ensures, c.from-in-loop-next-2.ensures)
          (scan_more_at c.args.chunks.now c.args.addr
          (c.from.result + c.from-2.result) c.loop-next.i c.loop-next.next within c.loop-next.invariant.0 (omega arith)),
      omega arith,
      c.loop-next.invariant.2,
    )
