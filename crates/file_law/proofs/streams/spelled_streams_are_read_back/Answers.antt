use Rattle.file_law.proofs.ReadBack.{spelled_back}
use Rattle.file_law.proofs.streams.spelled_streams_are_read_back.Goals as goal

pub returns : goal.returns
returns c = spelled_back
