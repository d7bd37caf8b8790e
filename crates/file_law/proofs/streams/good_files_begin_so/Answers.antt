use Rattle.file_law.proofs.FaultyStreams.{good_beginning}
use Rattle.file_law.proofs.streams.good_files_begin_so.Goals as goal

pub returns : goal.returns
returns c = good_beginning
