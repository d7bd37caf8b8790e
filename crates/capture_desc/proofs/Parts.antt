-- A description that is read has the values of its keys, and so it meets what every description meets.
use Rattle.std.proofs.Common.{◌≡◌, Ok}
use Rattle.toml.specs.Data.{Members}
use Rattle.pixel_layout.specs.Layouts.{format_named}
use Rattle.capture_desc.specs.declared.desc.Desc.{Desc}
use Rattle.capture_desc.specs.declared.desc.Fields.{Fields}
use Rattle.capture_desc.specs.declared.desc.Fields.TheVariants.{Both}
use Rattle.capture_desc.specs.declared.read.VbiLines.{VbiLines}
use Rattle.capture_desc.specs.declared.fault.Key.TheVariants as key
use Rattle.toml_keys.specs.Values.{u32_max}
use Rattle.capture_desc.specs.Values.{number_or, optional_number, required_number, required_word, word_or}
use Rattle.capture_desc.specs.WellFormed.{max_skip_lines}
use Rattle.capture_desc.specs.Description.{values, chroma_first, field_numbers, fields_named, plane_numbers, clips, pages, chunks}
use Rattle.capture_desc.specs.Description.{vbi_lines}
use Rattle.toml_keys.proofs.Chains.{gone_on}

-- the lists of a description are those of its keys
pub record HasLists (ms : Members) (d : Desc) : Type 0 where
  pub stride : plane_numbers d.format key.Stride ms ≡ Ok d.stride
  pub offset : plane_numbers d.format key.Offset ms ≡ Ok d.offset
  pub chroma_first : chroma_first d.format d.fields ms ≡ Ok d.chroma_first
  pub vbi_skip : field_numbers d.fields max_skip_lines key.VbiSkip ms ≡ Ok d.vbi_skip
  pub clip : clips ms ≡ Ok d.clip
  pub pages : pages ms ≡ Ok d.pages
  pub chunks : chunks ms ≡ Ok d.chunks

vbi_lines-skip : (fields : Fields) (ms : Members) (vbi : VbiLines) → vbi_lines fields ms ≡ Ok vbi →
    field_numbers fields max_skip_lines key.VbiSkip ms ≡ Ok vbi.skip
vbi_lines-skip fields ms vbi h =
    gone_on (number_or 0 u32_max key.VbiLines ms) _ vbi h (λ lines _ h.
    gone_on (number_or 2044 u32_max key.VbiBytes ms) _ vbi h (λ bytes _ h.
    gone_on (optional_number key.VbiOffset ms) _ vbi h (λ offset _ h.
    gone_on (field_numbers fields max_skip_lines key.VbiSkip ms) _ vbi h (λ skip is_skip h.
    gone_on (optional_number key.VbiStride ms) _ vbi h (λ stride _ h.
    let same : record { lines = lines; bytes = bytes; offset = offset; skip = skip; stride = stride } ≡ vbi = cc in rw (← same) is_skip)))))

pub values-lists : (ms : Members) (d : Desc) → values ms ≡ Ok d → HasLists ms d
values-lists ms d h =
    gone_on (required_word format_named key.Format ms) _ d h (λ format _ h.
    gone_on (required_number key.Width ms) _ d h (λ width _ h.
    gone_on (required_number key.Height ms) _ d h (λ height _ h.
    gone_on (word_or Both fields_named key.Fields ms) _ d h (λ fields _ h.
    gone_on (plane_numbers format key.Stride ms) _ d h (λ stride is_stride h.
    gone_on (plane_numbers format key.Offset ms) _ d h (λ offset is_offset h.
    gone_on (chroma_first format fields ms) _ d h (λ first is_first h.
    gone_on (number_or 0 255 key.SkipLines ms) _ d h (λ skip_lines _ h.
    gone_on (vbi_lines fields ms) _ d h (λ vbi is_vbi h.
    let is_skip = vbi_lines-skip fields ms vbi is_vbi in
    gone_on (clips ms) _ d h (λ clip is_clip h.
    gone_on (number_or 4096 u32_max key.Base ms) _ d h (λ base _ h.
    gone_on (pages ms) _ d h (λ all_pages is_pages h.
    gone_on (chunks ms) _ d h (λ all_chunks is_chunks h.
    gone_on (number_or 0 255 key.Fill ms) _ d h (λ fill _ h.
    let same : record {
      format = format;
      width = width;
      height = height;
      fields = fields;
      stride = stride;
      offset = offset;
      chroma_first = first;
      skip_lines = skip_lines;
      vbi_lines = vbi.lines;
      vbi_bytes = vbi.bytes;
      vbi_offset = vbi.offset;
      vbi_skip = vbi.skip;
      vbi_stride = vbi.stride;
      clip = clip;
      base = base;
      pages = all_pages;
      chunks = all_chunks;
      fill = fill;
    } ≡ d = cc in
    rw (← same) (record {
      stride = is_stride;
      offset = is_offset;
      chroma_first = is_first;
      vbi_skip = is_skip;
      clip = is_clip;
      pages = is_pages;
      chunks = is_chunks;
    })
    ))))))))))))))
