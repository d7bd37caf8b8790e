use Rattle.std.proofs.Common.{◌≡◌, ℕ, ◌∙◌, ◌+◌, ◌*◌, ◌<◌, ◌++◌, ap, subst, arith}
use Rattle.std.specs.Prelude.{◌==◌}
use Rattle.risc_word.specs.declared.Ctl.{Ctl}
use Rattle.picture_model.specs.Programs.{words_of}
use Rattle.ring_model.specs.Rings.{Ring, last_with, line_instrs, mark}
use Rattle.ring_model.proofs.Lines.{block_lines}
use Rattle.ring_compile.specs.Writes.{control_at}
use Rattle.ring_compile.proofs.Appending.{block_goes_on}
use Rattle.ring_compile.proofs.words.push_block.Goals as goal

pub push_line-requires-clause-line : goal.push_line-requires-clause-line
push_line-requires-clause-line c =
    let r = c.args.values.now in
    let within = block_lines c.args.block r.lines r.blocks c.requires.block in
    let inside : c.loop-n.n < r.lines =
    subst (λ (m : ℕ). c.loop-n.n < m) (ap (λ (v : Ring). v.lines) c.values.view_is) c.loop-n-test.true in
    let first = c.loop-n.invariant.first in
    let here = c.from-in-loop-n.ensures in
    omega arith

pub loop-n-preserved : goal.loop-n-preserved
loop-n-preserved c =
    let r = c.args.values.now in
    let n = c.loop-n.n in
    let block = c.args.block in
    let lines = ap (λ (v : Ring). v.lines) c.values.view_is in
    let inside : n < r.lines = subst (λ (m : ℕ). n < m) lines c.loop-n-test.true in
    let number : c.from.result * c.from-2.result + c.from-in-loop-n.result ≡ block * r.lines + n =
    ap (λ (m : ℕ). m + c.from-in-loop-n.result) c.loop-n.invariant.first ∙ ap (λ (m : ℕ). block * r.lines + m) c.from-in-loop-n.ensures
    in
    let same : c.control_at-last.result ≡ control_at (mark block) (n + 1 == r.lines) =
    c.control_at-last.ensures.value ∙ ap (λ (ctl : Ctl). control_at ctl (n + 1 == c.values.inside.lines)) c.mark.ensures.value
    ∙ ap (λ (m : ℕ). control_at (mark block) (n + 1 == m)) lines
    in
    record {
      first = c.loop-n.invariant.first;
      left =
          block_goes_on r c.requires.ring block c.requires.block c.args.out.now.items c.loop-n.out.items c.push_line.new.out.items n
          c.control_at-last.result inside same
          (subst (λ (m : ℕ). c.push_line.new.out.items
          ≡ c.loop-n.out.items ++ words_of (last_with c.control_at-last.result (line_instrs r m))) number c.in_ok-push_line.ensures)
          c.loop-n.invariant.left;
    }
