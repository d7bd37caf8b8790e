use Rattle.std.proofs.Common.{◌≡◌}
use Rattle.std.specs.List.Sorted.{IsStrictlySortedBy}
use Rattle.std.specs.Map.{keys_of}
use Rattle.std.specs.String.{string_cmp}
use Rattle.toml.specs.View.{members_view, table_view}
use Rattle.toml_keys.specs.Keys.{unknown_names}
use Rattle.toml_keys.proofs.table.unknown_key.Given as goal

abbrev pub invariant-loop-key : goal.invariant-loop-key
invariant-loop-key g l =
    ((goal.iterator-loop-key g).can_next l.key-iterator)
    × ((goal.iterator-loop-key g).is_finite l.key-iterator)
    × (unknown_names g.K.KnownKeys.is_known (members_view l.key-iterator) ≡ unknown_names g.K.KnownKeys.is_known (table_view l.table))
    × IsStrictlySortedBy string_cmp (keys_of l.key-iterator)
