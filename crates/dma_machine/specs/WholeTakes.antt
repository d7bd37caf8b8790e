-- What most fronts are.
use Rattle.std.specs.Prelude.{ℕ, ◌&&◌, ◌==◌, Bool, false, nat_le}
use Rattle.sync_status.specs.declared.StatusKind.{StatusKind}
use Rattle.sync_status.specs.declared.StatusKind.TheVariants.{Pixels}

-- a front of pixels, none of which is taken, where the line is under way and four bytes or more are asked for
abbrev pub takes_whole : StatusKind → Bool → ℕ → ℕ → Bool
takes_whole Pixels false taken rest = (taken == 0) && nat_le 4 rest
takes_whole kind sol taken rest = false
