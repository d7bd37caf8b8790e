use Rattle.ring_law.proofs.Shown.{rings_show_no_fault}
use Rattle.ring_law.proofs.rings_show_no_fault.Goals as goal

pub returns : goal.returns
returns c = rings_show_no_fault
