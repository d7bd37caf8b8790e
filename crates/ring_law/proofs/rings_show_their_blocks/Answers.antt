use Rattle.ring_law.proofs.Shown.{rings_show_blocks}
use Rattle.ring_law.proofs.rings_show_their_blocks.Goals as goal

pub returns : goal.returns
returns c = rings_show_blocks
