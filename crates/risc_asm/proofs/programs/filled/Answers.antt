use Rattle.std.proofs.Common.{◌-◌, ◌∙◌, ap, arith, length, sym}
use Rattle.risc_listing.proofs.Spans.{no_span}
use Rattle.risc_asm.proofs.Filling.{filled_none, filled_some}
use Rattle.risc_asm.proofs.programs.filled.Goals as goal

pub returns-then-words_of-gt0 : goal.returns-then-words_of-gt0
returns-then-words_of-gt0 c =
    let words = ap length (c.words_of.ensures no_span) in
    let len = c.len.ensures in
    let some = c.requires in
    let more = c.if-words_of-gt0.true in
    sym (filled_some c.args.spans (c.len.result - 1) no_span (omega arith) (omega arith))

pub returns : goal.returns
returns c =
    let words = ap length (c.words_of.ensures no_span) in
    let len = c.len.ensures in
    let some = c.requires in
    let none = c.if-words_of-gt0.false in
    c.in_ok-push.ensures.pushed ∙ filled_none c.args.spans (c.len.result - 1) no_span (omega arith) (omega arith)
