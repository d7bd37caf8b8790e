use Rattle.std.proofs.lemmas.Result.{err_from_is_err_and}
use Rattle.capture_file.proofs.Puts.{grants_break, chunks_then}
use Rattle.capture_file.proofs.writing.put_grants.Goals as goal

pub returns-in_err-put_numbers-clause-puts : goal.returns-in_err-put_numbers-clause-puts
returns-in_err-put_numbers-clause-puts g c =
    let p = err_from_is_err_and c.from_residual.result c.from_residual.ensures.1 in
    rw p.1 (grants_break c.args.layout c.args.grants.now _ _ (rw c.len.ensures.value at c.in_err-put_numbers.ensures.puts))

pub returns-clause-puts : goal.returns-clause-puts
returns-clause-puts g c =
    chunks_then c.args.layout c.args.grants.now _ _ _ c.put_chunks.result
    (rw c.len.ensures.value at c.in_ok-put_numbers.ensures.puts) c.put_chunks.ensures.puts
