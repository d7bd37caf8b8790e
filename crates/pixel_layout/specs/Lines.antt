-- A line of the table as the code keeps it, without the name.
use Rattle.std.specs.Prelude.{◌≤◌}
use Rattle.pixel_layout.specs.Layouts.{Layout}
use Rattle.pixel_layout.specs.declared.Line.{Line}

abbrev pub line_of : Layout → Line
line_of l =
    record { pixels = l.pixels; bytes = l.bytes; planar = l.planar; across = l.across; down = l.down }

-- the numbers of the table are small, and none is divided by that is 0
abbrev pub IsSmall : Line → Type 0
IsSmall line = (1 ≤ line.pixels) × (line.bytes ≤ 12) × (1 ≤ line.across) × (1 ≤ line.down)
