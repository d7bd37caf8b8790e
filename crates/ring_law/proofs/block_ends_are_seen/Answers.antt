use Rattle.ring_law.proofs.Seeing.{turns_seen_end_blocks, blocks_seen_are_ended}
use Rattle.ring_law.proofs.block_ends_are_seen.Goals as goal

pub returns-clause-turn : goal.returns-clause-turn
returns-clause-turn c = turns_seen_end_blocks

pub returns-clause-counted : goal.returns-clause-counted
returns-clause-counted c = blocks_seen_are_ended
