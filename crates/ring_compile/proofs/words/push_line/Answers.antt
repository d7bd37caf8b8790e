use Rattle.std.proofs.Common.{ℕ, ◌∙◌, ◌<◌, ap, subst}
use Rattle.ring_model.specs.Rings.{Ring}
use Rattle.ring_compile.proofs.Appending.{line_goes_on}
use Rattle.ring_compile.proofs.words.push_line.Goals as goal

pub loop-at-preserved : goal.loop-at-preserved
loop-at-preserved c =
    let r = c.args.values.now in
    let inside : c.loop-at.at < r.line_bytes =
    subst (λ (n : ℕ). c.loop-at.at < n) (c.from.ensures ∙ ap (λ (v : Ring). v.line_bytes) c.values.view_is) c.loop-at-test.true
    in
    record {
      within = c.write_at-instr.ensures.inside;
      left =
          line_goes_on r c.requires.ring c.args.number c.requires.line c.args.last c.args.out.now.items c.loop-at.out.items
          c.push_instr.new.out.items c.loop-at.at c.write_at-instr.result.1 c.write_at-instr.result.0
          inside c.write_at-instr.ensures.bytes c.write_at-instr.ensures.inside c.write_at-instr.ensures.instr
          c.in_ok-push_instr.ensures.words c.loop-at.invariant.left;
    }
