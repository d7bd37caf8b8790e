use Rattle.std.proofs.Common.{◌≡◌, ◌+◌, ◌*◌, ◌++◌, ◌∙◌, List, [], ℕ, drop, ap, subst, arith}
use Rattle.std.proofs.lemmas.Result.{err_from_is_err_and}
use Rattle.capture_desk.specs.Desks.{OnlySaid, after_say}
use Rattle.risc_listing.specs.Listings.{word_lines}
use Rattle.risc_listing.proofs.Passing.{lines_end}
use Rattle.bt878_top.proofs.Saying.{fault_later, piece_said, piece_breaks_off, said_both}
use Rattle.bt878_top.proofs.listings.say_words.Goals as goal

-- a piece, and the lines that are left
split : (base next result : ℕ) (words shown text pushed cleared : List ℕ) → shown ≡ text → text ≡ pushed → cleared ≡ [] →
    pushed ++ word_lines (base + 4 * result) 0 (drop result words) ≡ cleared ++ word_lines (base + 4 * next) 0 (drop next words) →
    shown ++ word_lines (base + 4 * result) 0 (drop result words) ≡ word_lines (base + 4 * next) 0 (drop next words)
split base next result words shown text pushed cleared is held none lines =
    ap (λ (list : List ℕ). list ++ word_lines (base + 4 * result) 0 (drop result words)) (is ∙ held)
    ∙ lines
    ∙ ap (λ (list : List ℕ). list ++ word_lines (base + 4 * next) 0 (drop next words)) none

pub loop-next-preserved : goal.loop-next-preserved
loop-next-preserved g c =
    let see = g.D.Desk.seen in
    let before = c.loop-next.invariant.said in
    record {
      within = c.push_words-next.ensures.within.1;
      said =
          let said = piece_said before.0 c.as_bytes.result.now _ _ _ _ _ _
          (split c.args.base c.loop-next.next c.push_words-next.result c.args.words.now _ _ _ _ c.as_bytes.ensures.value
          c.as_str.ensures.value c.clear.ensures c.push_words-next.ensures.lines)
          before.1 before.2 c.in_ok-say_all.ensures.says in (
            before.0 ++ c.as_bytes.result.now,
            said.0,
            said.1,
            said_both before.0 c.as_bytes.result.now (see c.args.desk.now) (see c.loop-next.desk)
                (see c.say_all.new.desk) before.3 c.in_ok-say_all.ensures.counts,
          );
    }

pub returns-in_err-say_all-clause-counts : goal.returns-in_err-say_all-clause-counts
returns-in_err-say_all-clause-counts g c =
    let p = err_from_is_err_and c.from_residual.result c.from_residual.ensures.1 in
    let see = g.D.Desk.seen in
    let before = c.loop-next.invariant.said in
    rw p.1 (fault_later before.0 c.as_bytes.result.now [] c.in_err-say_all.field-0.0 (see c.args.desk.now) (see c.loop-next.desk)
    (see c.say_all.new.desk) before.3 c.in_err-say_all.ensures.counts)

pub returns-in_err-say_all-clause-says : goal.returns-in_err-say_all-clause-says
returns-in_err-say_all-clause-says g c =
    let p = err_from_is_err_and c.from_residual.result c.from_residual.ensures.1 in
    let before = c.loop-next.invariant.said in
    rw p.1 (piece_breaks_off before.0 c.as_bytes.result.now _ _ _ _ _ _
    (split c.args.base c.loop-next.next c.push_words-next.result c.args.words.now _ _ _ _ c.as_bytes.ensures.value c.as_str.ensures.value
    c.clear.ensures c.push_words-next.ensures.lines)
    before.1 before.2 c.in_err-say_all.ensures.says)

pub returns-clause-says : goal.returns-clause-says
returns-clause-says g c =
    let before = c.loop-next.invariant.said in
    before.2
    ∙ ap (λ (text : List ℕ). after_say text (g.D.Desk.seen c.args.desk.now).told)
    (lines_end _ c.loop-next.next c.args.words.now _ _ (omega arith) before.1)

pub returns-clause-counts : goal.returns-clause-counts
returns-clause-counts g c =
    let see = g.D.Desk.seen in
    let before = c.loop-next.invariant.said in
    subst (λ (text : List ℕ). OnlySaid text (see c.args.desk.now) (see c.loop-next.desk))
    (lines_end _ c.loop-next.next c.args.words.now _ _ (omega arith) before.1) before.3
