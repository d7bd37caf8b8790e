use Rattle.std.proofs.Common.{map, Some, ap, ◌∙◌, sym}
use Rattle.toml.specs.View.{view}
use Rattle.toml_keys.proofs.Listing.{list_of-items_view}
use Rattle.toml_keys.proofs.values.items_of.Goals as goal

pub returns-in-Some : goal.returns-in-Some
returns-in-Some c =
    rw (← c.in-Some.ensures)
    (ap (λ vs. Some (map view vs)) c.as_slice.ensures.value
    ∙ ap Some (sym (list_of-items_view c.in-Some.array.now.items)))
