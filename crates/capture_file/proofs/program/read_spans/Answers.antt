use Rattle.std.proofs.Common.{◌≡◌, ◌∙◌, List, ℕ, Ok, arith, inl, subst}
use Rattle.std.proofs.lemmas.Result.{err_from_is_err_and}
use Rattle.machine_model.specs.Paths.{Span}
use Rattle.capture_file.specs.Programs.{Fails, passed, span_field, spans_field}
use Rattle.capture_file.proofs.SpansRead.{first_read, passed_is_ok, spans_done, spans_fail, spans_more}
use Rattle.capture_file.proofs.program.read_spans.Goals as goal

pub returns-in_err-above-clause-value : goal.returns-in_err-above-clause-value
returns-in_err-above-clause-value c =
    let p = err_from_is_err_and c.from_residual.result c.from_residual.ensures.1 in
    let fails : Fails c.in_err-above.field-0.0
    (passed c.loop.spans c.loop.above.words (span_field c.args.size c.loop.above.from c.loop.above.words c.loop.rest.bytes.now)) =
    subst (λ size. Fails c.in_err-above.field-0.0
    (passed c.loop.spans c.loop.above.words (span_field size c.loop.above.from c.loop.above.words c.loop.rest.bytes.now)))
    c.loop.invariant.size c.in_err-above.ensures.value in
    rw (p.1, p.2)
    (spans_fail c.args.size c.loop.spans c.args.count c.loop.counter c.loop.above.from c.loop.above.words c.loop.rest.bytes.now
    (spans_field c.args.size c.args.count 0 0 c.args.bytes.now)
    c.loop.invariant.spans c.in_err-above.field-0.0 c.loop-test.true fails)

pub loop-preserved : goal.loop-preserved
loop-preserved c =
    let above = c.in_ok-above.field-0-0 in
    let rest = c.in_ok-above.field-0-1 in
    let x : ((ℕ × ℕ) × List Span) × List ℕ = (((above.from, above.words), c.span.new.spans), rest.bytes.now) in
    let read : passed c.loop.spans c.loop.above.words (span_field c.args.size c.loop.above.from c.loop.above.words c.loop.rest.bytes.now)
    ≡ Ok x =
    subst (λ size. passed c.loop.spans c.loop.above.words (span_field size c.loop.above.from c.loop.above.words c.loop.rest.bytes.now)
    ≡ Ok x) c.loop.invariant.size c.in_ok-above.ensures.value in
    record {
      spans =
          spans_more c.args.size c.loop.spans c.args.count c.loop.counter c.loop.above.from c.loop.above.words c.loop.rest.bytes.now
          (spans_field c.args.size c.args.count 0 0 c.args.bytes.now)
          c.loop.invariant.spans x c.loop-test.true read;
      first = inl (first_read c.args.size c.args.bytes.now c.loop.above.from c.loop.above.words c.loop.rest.bytes.now c.loop.invariant.first
          (passed_is_ok c.loop.spans c.loop.above.words
          (span_field c.args.size c.loop.above.from c.loop.above.words c.loop.rest.bytes.now) x read));
      size = c.in_ok-above.ensures.rest.0 ∙ c.loop.invariant.size;
      inside = omega (arith, c.in_ok-above.ensures.rest.1);
    }

pub returns-clause-value : goal.returns-clause-value
returns-clause-value c =
    spans_done c.args.size c.loop.spans c.args.count c.loop.counter c.loop.above.from c.loop.above.words c.loop.rest.bytes.now
    (spans_field c.args.size c.args.count 0 0 c.args.bytes.now)
    c.loop.invariant.spans c.loop-test.false
