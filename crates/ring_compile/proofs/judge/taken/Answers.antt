use Rattle.ring_compile.proofs.Judging.{addresses_fit}
use Rattle.ring_compile.proofs.judge.taken.Goals as goal

pub returns-clause-addresses : goal.returns-clause-addresses
returns-clause-addresses c = addresses_fit c.args.pages.now c.type_inv.pages
