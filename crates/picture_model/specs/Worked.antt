-- The smallest description.
use Rattle.std.specs.Prelude.{[], ◌∷◌, None}
use Rattle.pixel_layout.specs.declared.Format.TheVariants.{Y8}
use Rattle.capture_desc.specs.declared.desc.Desc.{Desc}
use Rattle.capture_desc.specs.declared.desc.Fields.TheVariants as fields

-- one row of eight pixels, in the top field, on one page
abbrev pub smallest : Desc
smallest =
    record {
      format = Y8;
      width = 8;
      height = 1;
      fields = fields.Top;
      stride = None;
      offset = None;
      chroma_first = None;
      skip_lines = 0;
      vbi_lines = 0;
      vbi_bytes = 2044;
      vbi_offset = None;
      vbi_skip = None;
      vbi_stride = None;
      clip = [];
      base = 4096;
      pages = 131072 ∷ [];
      chunks = None;
      fill = 0;
    }
