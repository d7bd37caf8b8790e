use Rattle.risc_listing.proofs.lines.+push_long_number.Given as goal

abbrev pub decreases-push_long_number : goal.decreases-push_long_number
decreases-push_long_number l = l.n
