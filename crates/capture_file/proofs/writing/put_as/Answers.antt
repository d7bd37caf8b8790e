use Rattle.std.proofs.Common.{subst}
use Rattle.std.proofs.lemmas.Result.{err_from_is_err_and}
use Rattle.capture_file.specs.Programs.{grants_spelled, layout_of}
use Rattle.capture_file.proofs.Puts.{Breaks, fill_then, grants_break_after, name_breaks, placed_breaks}
use Rattle.capture_file.proofs.writing.put_as.Goals as goal

pub returns-in_err-put-clause-puts : goal.returns-in_err-put-clause-puts
returns-in_err-put-clause-puts g c =
    let p = err_from_is_err_and c.from_residual.result c.from_residual.ensures.1 in
    rw p.1 (name_breaks c.args.form c.args.program.now c.args.fill _ _ (rw c.name.ensures at c.in_err-put.ensures.puts))

pub returns-in_err-put_placed-clause-puts : goal.returns-in_err-put_placed-clause-puts
returns-in_err-put_placed-clause-puts g c =
    let p = err_from_is_err_and c.from_residual-in_err-put_placed.result c.from_residual-in_err-put_placed.ensures.1 in
    rw p.1 (placed_breaks c.args.form c.args.program.now c.args.fill _ _ _
    (rw c.name.ensures at c.in_ok-put.ensures.puts) c.in_err-put_placed.ensures.puts)

pub returns-in_err-put_grants-clause-puts : goal.returns-in_err-put_grants-clause-puts
returns-in_err-put_grants-clause-puts g c =
    let p = err_from_is_err_and c.from_residual-in_err-put_grants.result c.from_residual-in_err-put_grants.ensures.1 in
    rw p.1
    (grants_break_after c.args.form c.args.program.now c.args.fill _ _ _ _
    (rw c.name.ensures at c.in_ok-put.ensures.puts) c.in_ok-put_placed.ensures.puts
    (subst (λ grants. Breaks (grants_spelled (layout_of c.args.form) grants) (g.D.Desk.seen c.put_placed.new.desk).told
    (g.D.Desk.seen c.put_grants.new.desk).told) c.grants.ensures.value
    (subst (λ layout. Breaks (grants_spelled layout c.grants.result.now) (g.D.Desk.seen c.put_placed.new.desk).told
    (g.D.Desk.seen c.put_grants.new.desk).told) c.layout_of.ensures
    c.in_err-put_grants.ensures.puts)))

pub returns-clause-puts : goal.returns-clause-puts
returns-clause-puts g c =
    fill_then c.args.form c.args.program.now c.args.fill _ _ _ _ _ c.put-2.result
    (rw c.name.ensures at c.in_ok-put.ensures.puts) c.in_ok-put_placed.ensures.puts
    (rw (c.layout_of.ensures, c.grants.ensures.value) at c.in_ok-put_grants.ensures.puts) c.put-2.ensures.puts
