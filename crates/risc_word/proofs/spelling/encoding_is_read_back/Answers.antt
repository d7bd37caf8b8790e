use Rattle.risc_word.proofs.ReadBack.{reads_back}
use Rattle.risc_word.proofs.spelling.encoding_is_read_back.Goals as goal

pub returns : goal.returns
returns c = reads_back
