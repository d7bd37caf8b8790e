use Rattle.std.proofs.Common.{◌<◌, ◌∙◌, [], ap, arith, get_or, length, sym}
use Rattle.page_table.specs.Grants.{chunk, is_met}
use Rattle.machine_model.specs.Paths.{Span, end_of, span}
use Rattle.capture_file.proofs.SpansRead.{get_or-any, is_any, not_any}
use Rattle.capture_file.proofs.program.Placed.shares.Goals as goal

pub returns-then-is_met : goal.returns-then-is_met
returns-then-is_met c =
    let inside : c.loop-number.number < length c.args.self.now.spans = omega arith in
    let s : Span = get_or c.args.self.now.spans c.loop-number.number (span 0 []) in
    sym
    (is_any c.args.self.now.spans c.loop-number.number inside (λ s. is_met s.at (end_of s) (chunk c.args.at c.args.len)) s
    (λ d. get_or-any c.args.self.now.spans c.loop-number.number (span 0 []) d inside)
    (ap (λ at. is_met at (end_of s) (chunk c.args.at c.args.len)) (sym (c.at.ensures (span 0 [])))
    ∙ ap (λ end. is_met c.at.result end (chunk c.args.at c.args.len)) (sym (c.span_end.ensures (span 0 [])))
    ∙ sym c.is_met.ensures ∙ c.if-is_met.true) c.loop-number.invariant)

pub loop-number-preserved : goal.loop-number-preserved
loop-number-preserved c =
    let inside : c.loop-number.number < length c.args.self.now.spans = omega arith in
    let s : Span = get_or c.args.self.now.spans c.loop-number.number (span 0 []) in
    not_any c.args.self.now.spans c.loop-number.number inside (λ s. is_met s.at (end_of s) (chunk c.args.at c.args.len)) s
    (λ d. get_or-any c.args.self.now.spans c.loop-number.number (span 0 []) d inside)
    (ap (λ at. is_met at (end_of s) (chunk c.args.at c.args.len)) (sym (c.at.ensures (span 0 [])))
    ∙ ap (λ end. is_met c.at.result end (chunk c.args.at c.args.len)) (sym (c.span_end.ensures (span 0 [])))
    ∙ sym c.is_met.ensures ∙ c.if-is_met.false) c.loop-number.invariant
