use Rattle.capture_file.proofs.Imaged.{memory_same}
use Rattle.capture_file.proofs.laws.one_image.Goals as goal

pub returns : goal.returns
returns c memory other is is' e = memory_same memory other is is' e
