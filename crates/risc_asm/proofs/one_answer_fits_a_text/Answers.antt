use Rattle.risc_asm.proofs.OneAnswer.{one_answer}
use Rattle.risc_asm.proofs.one_answer_fits_a_text.Goals as goal

pub returns : goal.returns
returns c = one_answer
