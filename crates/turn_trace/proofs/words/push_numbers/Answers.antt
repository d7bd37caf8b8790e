use Rattle.std.proofs.Common.{◌≡◌, ℕ, List, ◌++◌, ap, ◌∙◌}
use Rattle.fifo_model.specs.declared.Queue.TheVariants.{One, Two, Three}
use Rattle.dma_machine.specs.declared.Report.{Report}
use Rattle.risc_listing.specs.Lines.{at_text, count_text, line_end}
use Rattle.turn_trace.specs.Kept.{kept_words}
use Rattle.turn_trace.specs.Traces.{level_text, levels_text}
use Rattle.turn_trace.proofs.KeptWords.{kept-first, levels-first, numbers-end}
use Rattle.turn_trace.proofs.Tracings.{appended}
use Rattle.turn_trace.proofs.words.push_numbers.Goals as goal

pub returns-clause-bytes : goal.returns-clause-bytes
returns-clause-bytes g c =
    let m = c.args.machine.now in
    let old = c.args.text.now.bytes in
    let front = c.append.new.text.bytes in
    let levels = c.push_levels.new.text.bytes in
    let counted = c.push_number.new.text.bytes in
    let new = c.push_str.new.self.bytes in
    let kept_is : front ≡ old ++ kept_words m.pc m.interrupts =
    c.append.ensures.bytes
    ∙ ap (λ (k : ℕ × ℕ). old ++ kept_words k.0 k.1) c.keep.ensures
    ∙ ap (λ n. old ++ kept_words n c.report-report.result.int_stat) c.pc.ensures.address
    ∙ ap (λ (r : Report). old ++ kept_words m.pc r.int_stat) c.report-report.ensures.report in
    let last = count_text m.moved ++ line_end in
    let first = level_text One m ++ (level_text Two m ++ (level_text Three m ++ last)) in
    let last_is : new ≡ levels ++ last =
    appended levels counted new (count_text c.report-report.result.moved) line_end c.push_number.ensures.bytes c.push_str.ensures.bytes
    ∙ ap (λ (r : Report). levels ++ (count_text r.moved ++ line_end)) c.report-report.ensures.report in
    appended old front new (kept_words m.pc m.interrupts) (levels_text m ++ last) kept_is
    (appended front levels new (levels_text m) last c.push_levels.ensures.bytes last_is)
    ∙ ap (λ (list : List ℕ). old ++ (kept_words m.pc m.interrupts ++ list))
    (levels-first (level_text One m) (level_text Two m) (level_text Three m) last)
    ∙ ap (λ (list : List ℕ). old ++ list) (kept-first m.pc m.interrupts first)
    ∙ ap (λ (list : List ℕ). old ++ list) (numbers-end (at_text m.pc) (at_text m.interrupts) (level_text One m) (level_text Two m)
    (level_text Three m) (count_text m.moved) line_end)
