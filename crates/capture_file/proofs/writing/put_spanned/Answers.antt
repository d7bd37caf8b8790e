use Rattle.std.proofs.lemmas.Result.{err_from_is_err_and}
use Rattle.capture_file.proofs.Puts.{count_breaks, each_breaks, entry_then}
use Rattle.capture_file.proofs.writing.put_spanned.Goals as goal

pub returns-in_err-put_numbers-clause-puts : goal.returns-in_err-put_numbers-clause-puts
returns-in_err-put_numbers-clause-puts g c =
    let p = err_from_is_err_and c.from_residual.result c.from_residual.ensures.1 in
    rw p.1 (count_breaks c.args.entry c.args.spans.now _ _ (rw c.len.ensures at c.in_err-put_numbers.ensures.puts))

pub returns-in_err-put_spans-clause-puts : goal.returns-in_err-put_spans-clause-puts
returns-in_err-put_spans-clause-puts g c =
    let p = err_from_is_err_and c.from_residual-in_err-put_spans.result c.from_residual-in_err-put_spans.ensures.1 in
    rw p.1
    (each_breaks c.args.entry c.args.spans.now _ _ _ (rw c.len.ensures at c.in_ok-put_numbers.ensures.puts) c.in_err-put_spans.ensures.puts)

pub returns-clause-puts : goal.returns-clause-puts
returns-clause-puts g c =
    entry_then c.args.entry c.args.spans.now _ _ _ _ c.put_numbers-2.result
    (rw c.len.ensures at c.in_ok-put_numbers.ensures.puts) c.in_ok-put_spans.ensures.puts c.put_numbers-2.ensures.puts
