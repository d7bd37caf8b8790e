-- What is printed of the rows of a capture: of each described field how many of its rows are whole lines, and which
-- picture rows are not. Numbers are decimal, and rows are counted from 0.
use Rattle.std.specs.Prelude.{ℕ, Bool, true, false, List, [], ◌∷◌, ◌++◌, Option, Some, None, codes, count_by, length}
use Rattle.std.specs.List.{flat_map}
use Rattle.std.specs.Fmt.{decimal}
use Rattle.pixel_layout.specs.declared.Parity.{Parity}
use Rattle.pixel_layout.specs.declared.Parity.TheVariants.{Top, Bottom}
use Rattle.capture_desc.specs.declared.desc.Desc.{Desc}
use Rattle.picture_model.specs.Described.{fields_of, rows_of}

abbrev pub field_name : Parity → List ℕ
field_name Top = codes "top"
field_name Bottom = codes "bottom"

-- the rows whose marks are false: they are not whole. The shorter list ends both
abbrev pub bad_rows : List ℕ → List Bool → List ℕ
bad_rows (row ∷ rows) (true ∷ marks) = bad_rows rows marks
bad_rows (row ∷ rows) (false ∷ marks) = row ∷ bad_rows rows marks
bad_rows [] marks = []
bad_rows rows [] = []

abbrev pub bad_line : ℕ → List ℕ
bad_line row = codes "bad " ++ (decimal row ++ codes "\n")

-- how many rows are whole, and how many there are
abbrev pub whole_text : List Bool → List ℕ
whole_text marks = decimal (count_by (λ is_whole. is_whole) marks) ++ (codes " of " ++ decimal (length marks))

-- a field, from its picture rows and the marks of its rows; it has no marks where it had no signal
abbrev pub field_text : Parity → List ℕ → Option (List Bool) → List ℕ
field_text field rows None = field_name field ++ codes " none\n"
field_text field rows (Some marks) =
    field_name field ++ (codes " " ++ (whole_text marks ++ (codes "\n" ++ flat_map bad_line (bad_rows rows marks))))

abbrev pub by_field : Option (List Bool) → Option (List Bool) → Parity → Option (List Bool)
by_field top bottom Top = top
by_field top bottom Bottom = bottom

-- the described fields, top first
abbrev pub damage_text : Desc → (Parity → Option (List Bool)) → List ℕ
damage_text d marks = flat_map (λ field. field_text field (rows_of d field) (marks field)) (fields_of d.fields)
