-- The section of a field, as the law of the picture sees it.
use Rattle.std.specs.Prelude.{ℕ, ◌+◌, ◌*◌, length}
use Rattle.risc_word.specs.Words.{encoded}
use Rattle.pixel_layout.specs.declared.Parity.{Parity}
use Rattle.capture_desc.specs.declared.desc.Desc.{Desc}
use Rattle.picture_model.specs.Programs.{body, no_control, opening, section_begin, section_next, signal, vertical}
use Rattle.field_law.specs.Sections.{Section}

-- that begins at an address, and whose closing leads to another
abbrev pub section_at : Desc → Parity → ℕ → ℕ → Section
section_at d field begin target =
    record {
      opening = no_control;
      code = vertical field;
      at = begin + 4 * length (encoded (opening field));
      body = body d field;
      closing = signal field;
      target = target;
    }

-- that in the program of the description
abbrev pub section_of : Desc → Parity → Section
section_of d field = section_at d field (section_begin d d.base field) (section_next d d.base d.base field)
