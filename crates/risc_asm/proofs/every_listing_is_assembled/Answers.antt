use Rattle.risc_asm.proofs.Lengths.{listing_assembled, listing_short}
use Rattle.risc_asm.proofs.every_listing_is_assembled.Goals as goal

pub returns-clause-short : goal.returns-clause-short
returns-clause-short c = listing_short

pub returns-clause-assembled : goal.returns-clause-assembled
returns-clause-assembled c = listing_assembled
