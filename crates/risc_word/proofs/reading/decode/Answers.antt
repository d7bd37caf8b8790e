use Rattle.risc_word.proofs.ReadInstructions.{if_read_instr, if_read_length, if_read_within}
use Rattle.risc_word.proofs.reading.decode.Goals as goal

pub returns-clause-instr : goal.returns-clause-instr
returns-clause-instr c = if_read_instr c.args.words.now c.args.at c.reading_at.result c.reading_at.ensures

pub returns-clause-length : goal.returns-clause-length
returns-clause-length c = if_read_length c.args.words.now c.args.at c.reading_at.result c.reading_at.ensures

pub returns-clause-within : goal.returns-clause-within
returns-clause-within c = if_read_within c.args.words.now c.args.at c.reading_at.result c.reading_at.ensures
