use Rattle.std.proofs.Common.{refl}
use Rattle.ring_law.proofs.Worked.{ends_first_block_again, ends_second_block, three_made, two_made}
use Rattle.ring_law.proofs.worked_ring_run_ends_its_blocks.Goals as goal

pub returns-clause-twice : goal.returns-clause-twice
returns-clause-twice c = ends_second_block

pub returns-clause-again : goal.returns-clause-again
returns-clause-again c = ends_first_block_again

pub returns-clause-steps : goal.returns-clause-steps
returns-clause-steps c = (two_made, three_made)

pub returns-clause-filled : goal.returns-clause-filled
returns-clause-filled c = refl
