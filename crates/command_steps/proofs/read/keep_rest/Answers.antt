use Rattle.std.proofs.Common.{ℕ, ◌+◌, ◌-◌, min, [], ◌≤◌, ◌≡◌, List, length, take, drop, ◌++◌, Option, Some, None, option_map, ◌∙◌, ap, sym}
use Rattle.std.proofs.Common.{subst, arith, append_assoc, length-drop}
use Rattle.std.proofs.Math.Seq.{take-add}
use Rattle.std.proofs.lemmas.List.{take_all}
use Rattle.capture_desk.specs.Desks.{Told, after_read}
use Rattle.capture_desk.proofs.Laws.{after_read-after_read}
use Rattle.command_steps.specs.Inputs.{Always, OfRest}
use Rattle.command_steps.specs.Reading.{IsPiece, IsNextRead}
use Rattle.command_steps.proofs.Taking.{all_read_end, all_reads_end, read_end, read_failed, read_more, reads_end}
use Rattle.command_steps.proofs.read.keep_rest.Goals as goal

-- what is kept is what was kept at first and the first bytes of the rest
abbrev IsKept : List ℕ → List ℕ → ℕ → Option (List ℕ) → Type 0
IsKept first kept at o = OfRest o (λ rest. (at ≤ length rest) × (kept ≡ first ++ take at rest))

-- a piece that is kept behind them
more_kept : (first kept new : List ℕ) (at n : ℕ) (o : Option (List ℕ)) (buffer : List ℕ) → IsKept first kept at o →
    OfRest (option_map (λ rest. drop at rest) o) (λ rest. IsPiece n rest buffer) → new ≡ kept ++ take n buffer → IsKept first new (at + n) o
more_kept first kept new at n None buffer h read is = tt
more_kept first kept new at n (Some rest) buffer h read is =
    let few = simp length-drop at read.0 in (
      omega (arith, few, h.0),
      is ∙ ap (λ x. kept ++ x) read.2 ∙ ap (λ x. x ++ take n (drop at rest)) h.1 ∙ append_assoc first (take at rest) (take n (drop at rest))
          ∙ ap (λ x. first ++ x) (sym (take-add at n rest)),
    )

-- no bytes are left
all_kept : (first kept : List ℕ) (at n most : ℕ) (o : Option (List ℕ)) (buffer : List ℕ) → at ≤ most → IsKept first kept at o →
    OfRest (option_map (λ rest. drop at rest) o) (λ rest. IsPiece n rest buffer) → n ≡ 0 →
    OfRest o (λ rest. kept ≡ first ++ take (most + 1) rest)
all_kept first kept at n most None buffer few h read none = tt
all_kept first kept at n most (Some rest) buffer few h read none =
    let size = length-drop at rest in
    let left = ap length (read.1 none) in
    let short : length rest ≤ at = omega (arith, size, left, h.0) in
    h.1 ∙ ap (λ x. first ++ x) (take_all at rest short ∙ sym (take_all (most + 1) rest (omega (arith, short, few))))

abbrev Before : ℕ → Type 0
Before at = Always []

-- a read asks for a piece, or for what is left
next_read : (most at piece : ℕ) → at ≤ most → piece ≡ min (most + 1 - at) 65536 → IsNextRead Before most at piece
next_read most at piece few is = (few, tt, omega (arith, few, is))

pub loop-at-preserved : goal.loop-at-preserved
loop-at-preserved g c =
    let see = g.D.Desk.seen in
    let kept = g.K.Keeps.kept in
    let at = c.loop-at.at in
    let n = c.in-Ok.count in
    let i = c.loop-at.invariant in
    let e = c.in-Ok.ensures in
    record {
      within = omega (arith, e.few, c.min-piece.ensures, c.loop-at-test.true);
      told = e.told ∙ ap (λ t. after_read n t) i.told ∙ after_read-after_read at n _;
      taken =
          more_kept (kept c.args.keeper.now) (kept c.loop-at.keeper) (kept c.keep.new.self) at n _ c.read_into.new.buffer i.taken
          (subst (λ (t : Told). OfRest t.rest (λ rest. IsPiece n rest c.read_into.new.buffer)) i.told e.piece) c.in_ok-keep.ensures;
      counts = (e.counts.0 ∙ i.counts.0, e.counts.1 ∙ i.counts.1);
      calls =
          read_more Before c.args.most at c.min-piece.result n (see c.args.desk.now) (see c.loop-at.desk) (see c.read_into.new.desk) i.calls
          (next_read c.args.most at c.min-piece.result (omega (arith, c.loop-at-test.true)) c.min-piece.ensures)
          c.if-count-eq0.false e.calls;
    }

pub returns-in-Err-clause-calls : goal.returns-in-Err-clause-calls
returns-in-Err-clause-calls g c =
    let see = g.D.Desk.seen in
    let at = c.loop-at.at in
    read_failed Before c.args.most at c.min-piece.result (see c.args.desk.now) (see c.loop-at.desk)
    (see c.read_into.new.desk) c.loop-at.invariant.calls
    (next_read c.args.most at c.min-piece.result (omega (arith, c.loop-at-test.true)) c.min-piece.ensures) c.in-Err.ensures.calls

pub returns-then-count-eq0-clause-bytes : goal.returns-then-count-eq0-clause-bytes
returns-then-count-eq0-clause-bytes g c =
    let kept = g.K.Keeps.kept in
    let i = c.loop-at.invariant in
    all_kept (kept c.args.keeper.now) (kept c.loop-at.keeper) c.loop-at.at c.in-Ok.count c.args.most _ c.read_into.new.buffer
    (omega (arith, c.loop-at-test.true)) i.taken
    (subst (λ (t : Told). OfRest t.rest (λ rest. IsPiece c.in-Ok.count rest c.read_into.new.buffer)) i.told c.in-Ok.ensures.piece)
    c.if-count-eq0.true

pub returns-then-count-eq0-clause-calls : goal.returns-then-count-eq0-clause-calls
returns-then-count-eq0-clause-calls g c =
    let see = g.D.Desk.seen in
    let at = c.loop-at.at in
    read_end Before c.args.most at c.min-piece.result c.in-Ok.count (see c.args.desk.now) (see c.loop-at.desk)
    (see c.read_into.new.desk) c.loop-at.invariant.calls
    (next_read c.args.most at c.min-piece.result (omega (arith, c.loop-at-test.true)) c.min-piece.ensures) c.in-Ok.ensures.calls

pub returns-then-count-eq0-clause-through : goal.returns-then-count-eq0-clause-through
returns-then-count-eq0-clause-through g c =
    let see = g.D.Desk.seen in
    let at = c.loop-at.at in
    all_read_end Before c.args.most at c.min-piece.result c.in-Ok.count (see c.args.desk.now) (see c.loop-at.desk)
    (see c.read_into.new.desk) c.loop-at.invariant.calls
    (next_read c.args.most at c.min-piece.result (omega (arith, c.loop-at-test.true)) c.min-piece.ensures) c.if-count-eq0.true
    c.in-Ok.ensures.calls

pub returns-in_err-keep-clause-calls : goal.returns-in_err-keep-clause-calls
returns-in_err-keep-clause-calls g c =
    let see = g.D.Desk.seen in
    let at = c.loop-at.at in
    read_end Before c.args.most at c.min-piece.result c.in-Ok.count (see c.args.desk.now) (see c.loop-at.desk)
    (see c.read_into.new.desk) c.loop-at.invariant.calls
    (next_read c.args.most at c.min-piece.result (omega (arith, c.loop-at-test.true)) c.min-piece.ensures) c.in-Ok.ensures.calls

pub returns-clause-calls : goal.returns-clause-calls
returns-clause-calls g c =
    let see = g.D.Desk.seen in
    reads_end Before c.args.most c.loop-at.at (see c.args.desk.now) (see c.loop-at.desk) c.loop-at.invariant.calls

pub returns-clause-through : goal.returns-clause-through
returns-clause-through g c =
    let see = g.D.Desk.seen in
    all_reads_end Before c.args.most c.loop-at.at (see c.args.desk.now) (see c.loop-at.desk) c.loop-at.invariant.calls
    (omega (arith, c.loop-at-test.false))
