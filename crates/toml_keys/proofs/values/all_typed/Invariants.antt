use Rattle.std.proofs.Common.{◌≡◌, map, drop}
use Rattle.std.specs.List.{list_all}
use Rattle.toml.specs.View.{view}
use Rattle.toml_keys.proofs.values.all_typed.Given as goal

abbrev pub invariant-loop-member : goal.invariant-loop-member
invariant-loop-member g l =
    list_all g.T.Member.typed (map view (drop l.member-index l.members))
    ≡ list_all g.T.Member.typed (map view l.members)
