use Rattle.picture_model.proofs.Grains.{row_grains}
use Rattle.picture_model.proofs.Spans.{byte_clipped-grain}
use Rattle.picture_model.proofs.laws.grains_are_the_bytes_of_rows.Goals as goal

pub returns-clause-bytes : goal.returns-clause-bytes
returns-clause-bytes c = row_grains

pub returns-clause-clipped : goal.returns-clause-clipped
returns-clause-clipped c = byte_clipped-grain
