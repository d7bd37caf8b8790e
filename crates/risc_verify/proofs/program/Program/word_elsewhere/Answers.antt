use Rattle.std.proofs.Common.{◌∙◌, ap, sym, is_some}
use Rattle.risc_verify.specs.Programs.{word_of}
use Rattle.risc_verify.proofs.Near.{none-there}
use Rattle.risc_verify.proofs.program.Program.word_elsewhere.Goals as goal

pub returns-in_err-near-clause-there : goal.returns-in_err-near-clause-there
returns-in_err-near-clause-there c =
    let none = sym (ap (λ program. word_of program c.args.address) c.self.view_is) ∙ c.in_err-near.ensures in
    none-there c.args.self.now c.args.address none ∙ sym (ap is_some c.from_residual.ensures)
