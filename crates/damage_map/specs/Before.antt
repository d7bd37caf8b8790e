-- The lines of a field before its rows.
use Rattle.std.specs.Prelude.{ℕ, zero, suc, ◌+◌}
use Rattle.pixel_layout.specs.declared.Parity.{Parity}
use Rattle.pixel_layout.specs.declared.Parity.TheVariants.{Top, Bottom}
use Rattle.capture_desc.specs.declared.desc.Desc.{Desc}
use Rattle.picture_model.specs.Described.{vbi_skip}
use Rattle.damage_map.specs.declared.before.LinesBefore.{LinesBefore}

-- VBI lines, with those that are skipped before them: none where there are no VBI lines
abbrev pub vbi_count : ℕ → ℕ → ℕ
vbi_count zero skipped = 0
vbi_count (suc more) skipped = skipped + suc more

abbrev pub lines_before : Desc → Parity → ℕ
lines_before d field = vbi_count d.vbi_lines (vbi_skip d field) + d.skip_lines

-- of each field
abbrev pub before_rows : Desc → LinesBefore
before_rows d = record { top = lines_before d Top; bottom = lines_before d Bottom }

abbrev pub before_of : Parity → LinesBefore → ℕ
before_of Top before = before.top
before_of Bottom before = before.bottom
