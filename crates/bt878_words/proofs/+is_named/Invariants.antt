-- the names that are left
use Rattle.std.proofs.Common.{length}
use Rattle.bt878_words.proofs.+is_named.Given as goal

abbrev pub decreases-is_named : goal.decreases-is_named
decreases-is_named l = length l.names.now
