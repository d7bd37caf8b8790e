use Rattle.risc_verify.proofs.Near.{known, near-small}
use Rattle.risc_verify.proofs.program.Program.word_in.Goals as goal

pub number-requires : goal.number-requires
number-requires c = near-small c.args.self.now c.base-base.ensures.made c.args.near c.requires

pub returns-clause-known : goal.returns-clause-known
returns-clause-known c =
    known c.args.self.now c.base-base.ensures.made c.args.near c.requires c.args.address c.number.result c.number.ensures
