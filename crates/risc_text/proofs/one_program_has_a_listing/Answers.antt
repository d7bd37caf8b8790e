use Rattle.risc_text.proofs.Gathering.{one_program}
use Rattle.risc_text.proofs.one_program_has_a_listing.Goals as goal

pub returns : goal.returns
returns c = one_program
