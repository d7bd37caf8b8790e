-- the names that are left
use Rattle.std.proofs.Common.{length}
use Rattle.bt878_words.proofs.+clashes.Given as goal

abbrev pub decreases-clashes : goal.decreases-clashes
decreases-clashes l = length l.names.now
