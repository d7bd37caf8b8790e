use Rattle.risc_text.proofs.Gathering.{listing_is_read}
use Rattle.risc_text.proofs.listings_are_read_back.Goals as goal

pub returns : goal.returns
returns c = listing_is_read
