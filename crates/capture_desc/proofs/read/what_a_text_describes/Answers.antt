use Rattle.capture_desc.proofs.Formed.{described-IsWellFormed}
use Rattle.capture_desc.proofs.Shown.{fault-shows}
use Rattle.capture_desc.proofs.read.what_a_text_describes.Goals as goal

pub returns : goal.returns
returns c = record { well_formed = described-IsWellFormed; shown = fault-shows }
