use Rattle.std.proofs.Common.{◌≡◌, ℕ, arith, ap, ◌∙◌}
use Rattle.page_table.specs.Taken.{listed}
use Rattle.page_table.specs.Scattered.{ScatterList, room_at}
use Rattle.page_table.proofs.Scattered.{lt-room_at}
use Rattle.page_table.proofs.scatter.Scatter.run.Goals as goal

pub returns-clause-bytes : goal.returns-clause-bytes
returns-clause-bytes c =
    let chunks = listed c.self.inside.chunks.items in
    let same = ap (λ pairs. room_at (listed pairs) c.args.off) c.deref.ensures.value in
    let room : c.place-at.result.1 ≡ room_at chunks c.args.off = ap (λ (p : ℕ × ℕ). p.1) c.place-at.ensures ∙ same in
    let len = ap (λ (s : ScatterList). s.len) c.self.view_is in
    let enough = c.self.invariant.0.enough in
    let some = lt-room_at chunks c.args.off (omega arith) in
    let here = c.min.ensures in
    let from = c.from.ensures in
    let left = c.min-left.ensures in
    omega arith
