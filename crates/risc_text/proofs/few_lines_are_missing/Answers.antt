use Rattle.risc_text.proofs.Cutting.{begins_where}
use Rattle.risc_text.proofs.few_lines_are_missing.Goals as goal

pub returns : goal.returns
returns c = begins_where
