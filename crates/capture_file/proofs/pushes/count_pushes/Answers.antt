use Rattle.std.proofs.Common.{◌≡◌, ◌+◌, ◌*◌, ◌≤◌, [], ◌∷◌, ◌++◌, drop, get_or, subst, sym, arith, length-drop, slice_index, slice_set}
use Rattle.std.proofs.lemmas.List.{take_rest}
use Rattle.fifo_model.specs.declared.Queue.{Queue}
use Rattle.capture_file.specs.Pairs.{push_tag}
use Rattle.capture_file.proofs.PushRuns.{AreCounted, few_counted, next_counted, no_push, push_found}
use Rattle.capture_file.proofs.pushes.count_pushes.Goals as goal

pub returns-in_default-clause-all : goal.returns-in_default-clause-all
returns-in_default-clause-all c =
    no_push (drop (6 * c.loop-count.count) c.args.piece.now)
    (subst (λ bytes. (queue : Queue) → get_or bytes 0 0 ≡ push_tag queue → get_or bytes 1 0 ≡ 0 → ⊥)
    (take_rest c.args.piece.now (6 * c.loop-count.count)) c.in_default.ensures.none)

pub overflow_add-counts : goal.overflow_add-counts
overflow_add-counts c =
    let known = c.loop-count.invariant in
    let more = c.loop-count-test.true in
    let whose = c.in-Some.ensures.some in
    let few = few_counted c.args.piece.now c.loop-count.count c.loop-count.counts known.0 whose.0 known.1 in
    let here : slice_index c.loop-count.counts c.in-Some.place ≤ c.loop-count.count =
    subst (λ n. slice_index c.loop-count.counts n ≤ c.loop-count.count) (sym whose.1) few in
    omega (arith, here, more)

pub loop-count-preserved : goal.loop-count-preserved
loop-count-preserved c =
    let known = c.loop-count.invariant in
    let piece = c.args.piece.now in
    let at = 6 * c.loop-count.count in
    let size = length-drop at piece in
    let more = c.loop-count-test.true in
    let whose = c.in-Some.ensures.some in
    let queue = whose.0 in
    let front = subst (λ bytes. (get_or bytes 0 0 ≡ push_tag queue) × (get_or bytes 1 0 ≡ 0)) (take_rest piece at) (whose.2, whose.3) in
    let found = push_found queue (drop at piece) (omega (arith, size, more)) front.0 front.1 in (
      known.0 ++ (queue, found.0) ∷ [],
      subst
          (λ n. AreCounted piece (c.loop-count.count + 1) (slice_set c.loop-count.counts n (slice_index c.loop-count.counts n + 1))
          (known.0 ++ (queue, found.0) ∷ []))
          (sym whose.1)
          (next_counted piece c.loop-count.count c.loop-count.counts known.0 queue found.0 known.1 found.1),
      omega (arith, more),
    )
