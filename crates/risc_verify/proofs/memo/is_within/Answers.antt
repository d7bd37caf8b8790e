use Rattle.std.proofs.Common.{arith}
use Rattle.std.proofs.lemmas.Bool.{leb-true}
use Rattle.page_table.proofs.Grants.{chunk_at-rising}
use Rattle.risc_verify.proofs.Chunks.{within_chunk}
use Rattle.risc_verify.proofs.memo.is_within.Goals as goal

pub returns-then-begin-address-clause-fits : goal.returns-then-begin-address-clause-fits
returns-then-begin-address-clause-fits c within =
    let ends = leb-true _ _ within in
    let high = (chunk_at-rising 0 c.args.grants.now c.args.place c.len.ensures.grants.rising (omega arith)).0.ends in
    omega arith

pub returns-then-begin-address-clause-granted : goal.returns-then-begin-address-clause-granted
returns-then-begin-address-clause-granted c within =
    let ends = leb-true _ _ within in
    within_chunk c.args.grants.now c.args.place c.args.address c.args.count (omega arith) (omega arith) (omega arith)
