-- The program of a description shows its fields: what is found of it.
use Rattle.std.specs.Prelude.{◌≡◌, true, length}
use Rattle.pixel_layout.specs.declared.Parity.{Parity}
use Rattle.capture_desc.specs.declared.desc.Desc.{Desc}
use Rattle.picture_model.specs.Described.{IsDescription, describes}
use Rattle.picture_model.specs.Geometry.{IsValid}
use Rattle.picture_model.specs.Programs.{body, compiled, no_control, section_begin}
use Rattle.field_law.specs.Sections.{closing_at}
use Rattle.picture_law.specs.Sections.{section_of}
use Rattle.check_law.specs.Laws.{Found, IsChecked}

abbrev pub found_of : Desc → Parity → Found
found_of d field =
    record {
      begin = section_begin d d.base field;
      opening = no_control;
      end = closing_at (section_of d field);
      count = length (body d field);
    }

abbrev pub CompiledIsChecked : Type 0
CompiledIsChecked = (d : Desc) (field : Parity) → IsDescription d → IsValid d → describes d.fields field ≡ true →
    IsChecked (compiled d) d field (found_of d field)
