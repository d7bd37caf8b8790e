-- A machine and what is kept of its fields.
use Rattle.std.specs.Prelude.{Bool, List, Option}
use Rattle.pixel_layout.specs.declared.Parity.{Parity}
use Rattle.machine_watch.specs.Watches.{Watching}
use Rattle.damage_map.specs.Tracks.{FieldTrack, rows_kept}

abbrev pub Map : Type 0
Map = Watching FieldTrack

abbrev pub rows_of : Parity → Map → Option (List Bool)
rows_of field map = rows_kept field map.kept
