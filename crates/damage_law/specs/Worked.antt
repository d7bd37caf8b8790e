-- What is kept of worked fields, in the top field.
use Rattle.std.specs.Prelude.{Bool, List, Option}
use Rattle.pixel_layout.specs.declared.Parity.TheVariants.{Top}
use Rattle.machine_model.specs.Steps.{Step}
use Rattle.capture_desc.specs.declared.desc.Desc.{Desc}
use Rattle.damage_law.specs.Laws.{map_after}
use Rattle.damage_map.specs.Maps.{rows_of}

abbrev pub kept_of : Desc → List Step → Option (List Bool)
kept_of d steps = rows_of Top (map_after d d.fill steps)
