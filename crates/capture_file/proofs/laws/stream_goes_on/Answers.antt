use Rattle.capture_file.proofs.Growing.{stream-goes}
use Rattle.capture_file.proofs.laws.stream_goes_on.Goals as goal

pub returns : goal.returns
returns c limit chained bytes more = stream-goes limit chained bytes more
