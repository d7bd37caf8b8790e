use Rattle.std.proofs.Common.{◌≡◌, map, drop}
use Rattle.toml.specs.View.{view}
use Rattle.toml_keys.specs.Values.{each}
use Rattle.toml_keys.proofs.Listing.{after}
use Rattle.toml_keys.proofs.values.each.Given as goal

abbrev pub invariant-loop-member : goal.invariant-loop-member
invariant-loop-member g l =
    after l.values.items (each g.T.Member.value (map view (drop l.member-index l.members)))
    ≡ each g.T.Member.value (map view l.members)
