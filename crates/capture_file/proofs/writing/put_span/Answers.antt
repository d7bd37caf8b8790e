use Rattle.std.proofs.lemmas.Result.{err_from_is_err_and}
use Rattle.capture_file.proofs.Puts.{two_break, two_then}
use Rattle.capture_file.proofs.writing.put_span.Goals as goal

pub returns-in_err-put_numbers-clause-puts : goal.returns-in_err-put_numbers-clause-puts
returns-in_err-put_numbers-clause-puts g c =
    let p = err_from_is_err_and c.from_residual.result c.from_residual.ensures.1 in
    rw p.1 (two_break c.args.at _ c.args.words.now _ _ c.in_err-put_numbers.ensures.puts)

pub returns-clause-puts : goal.returns-clause-puts
returns-clause-puts g c =
    two_then c.args.at _ c.args.words.now _ _ _ c.put_numbers-2.result c.in_ok-put_numbers.ensures.puts c.put_numbers-2.ensures.puts
