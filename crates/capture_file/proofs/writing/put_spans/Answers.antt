use Rattle.std.proofs.Common.{◌<◌, ◌∙◌, [], ap, arith, length, refl, sym}
use Rattle.std.proofs.lemmas.Result.{err_from_is_err_and}
use Rattle.capture_desk.proofs.Laws.{after_write-nil}
use Rattle.machine_model.specs.Paths.{span}
use Rattle.capture_file.proofs.Puts.{span_breaks, span_more}
use Rattle.capture_file.proofs.SpansRead.{by_parts, some_words}
use Rattle.capture_file.proofs.writing.put_spans.Goals as goal

pub loop-number-init : goal.loop-number-init
loop-number-init g c = record { done = sym (after_write-nil _); counts = (refl, refl, refl) }

pub loop-number-preserved : goal.loop-number-preserved
loop-number-preserved g c =
    let inside : c.loop-number.number < length c.args.spans.now = omega arith in
    record {
      done =
          span_more c.args.spans.now c.loop-number.number inside (span c.at.result c.words_of.result.now)
          (λ d. by_parts _ c.at.result c.words_of.result.now (c.at.ensures d) (c.words_of.ensures d))
          _ _ _ c.loop-number.invariant.done c.in_ok-put_span.ensures.puts;
      counts = (
        c.in_ok-put_span.ensures.counts.0 ∙ c.loop-number.invariant.counts.0,
        c.in_ok-put_span.ensures.counts.1 ∙ c.loop-number.invariant.counts.1,
        c.in_ok-put_span.ensures.counts.2 ∙ c.loop-number.invariant.counts.2,
      );
    }

pub returns-in_err-put_span-clause-puts : goal.returns-in_err-put_span-clause-puts
returns-in_err-put_span-clause-puts g c =
    let p = err_from_is_err_and c.from_residual.result c.from_residual.ensures.1 in
    let inside : c.loop-number.number < length c.args.spans.now = omega arith in
    rw p.1
    (span_breaks c.args.spans.now c.loop-number.number inside (span c.at.result c.words_of.result.now)
    (λ d. by_parts _ c.at.result c.words_of.result.now (c.at.ensures d) (c.words_of.ensures d))
    _ _ _ c.loop-number.invariant.done c.in_err-put_span.ensures.puts)

pub put_span-requires-clause-few : goal.put_span-requires-clause-few
put_span-requires-clause-few g c =
    let inside : c.loop-number.number < length c.args.spans.now = omega arith in
    let some = some_words c.args.spans.now c.loop-number.number (span 0 []) inside in
    let len = ap length (c.words_of.ensures (span 0 [])) in
    let few = c.requires.few in
    omega (arith, some, len, few)
