-- What a text describes, or its first fault.
use Rattle.std.specs.Prelude.{ℕ, Bool, ◌&&◌, not, ◌==◌, List, [], length, map, Option, Some, None, Ok, Err, Result, ⊤, ◌≡◌, if◌then◌else◌}
use Rattle.std.specs.Prelude.{nat_le, codes, bytes_eq}
use Rattle.std.specs.List.{list_all}
use Rattle.toml.specs.Data.{Members}
use Rattle.toml_keys.specs.Keys.{document_of, is_there, least, unknown_names}
use Rattle.toml_keys.specs.Values.{◌>>=◌, four_of, is_integer, is_row, list, otherwise, required, told, two_of, u32_max, u32_of}
use Rattle.toml_keys.specs.Values as keys
use Rattle.pixel_layout.specs.Layouts.{format_named, layout, planes_of}
use Rattle.pixel_layout.specs.declared.Format.{Format}
use Rattle.page_table.specs.Grants.{max_bytes, max_chunks, total}
use Rattle.page_table.specs.Taken.{listed}
use Rattle.clip_spans.specs.Clipping.{max_rects}
use Rattle.clip_spans.specs.declared.Rect.{Rect}
use Rattle.capture_desc.specs.declared.desc.Desc.{Desc}
use Rattle.capture_desc.specs.declared.desc.Fields.{Fields}
use Rattle.capture_desc.specs.declared.desc.Fields.TheVariants.{Top, Bottom, Both}
use Rattle.capture_desc.specs.declared.read.VbiLines.{VbiLines}
use Rattle.capture_desc.specs.declared.fault.Key.{Key}
use Rattle.capture_desc.specs.declared.fault.Key.TheVariants as key
use Rattle.capture_desc.specs.declared.fault.DescFault.TheVariants.{NotToml, Unknown}
use Rattle.capture_desc.specs.declared.fault.DescError.{DescError}
use Rattle.capture_desc.specs.declared.fault.DescError.TheVariants.{Bad, Memory}
use Rattle.capture_desc.specs.Keys.{is_known, name_of}
use Rattle.capture_desc.specs.Values.{Reading, fault_of, number_or, optional_number, rect, required_number, required_word, word_or}
use Rattle.capture_desc.specs.WellFormed.{count, last_first, max_skip_lines}

abbrev pub fields_named : List ℕ → Option Fields
fields_named name =
    if bytes_eq name (codes "top") then Some Top
    else if bytes_eq name (codes "bottom") then Some Bottom
    else if bytes_eq name (codes "both") then Some Both
    else None

-- a number for each plane
abbrev pub plane_numbers : Format → Key → Members → Reading (Option (List ℕ))
plane_numbers format key members =
    told (fault_of key) (list is_integer u32_of (λ ns. length ns == planes_of (layout format)) (name_of key) members)

-- a number for each described field, of at most so much
abbrev pub fit_fields : Fields → ℕ → List ℕ → Bool
fit_fields fields most ns = length ns == count fields && list_all (λ n. nat_le n most) ns

abbrev pub field_numbers : Fields → ℕ → Key → Members → Reading (Option (List ℕ))
field_numbers fields most key members =
    told (fault_of key) (list is_integer u32_of (fit_fields fields most) (name_of key) members)

abbrev pub chroma_first : Format → Fields → Members → Reading (Option (List ℕ))
chroma_first format fields members = field_numbers fields (last_first format) key.ChromaFirst members

-- the keys of the vertical blanking interval
abbrev pub vbi_lines : Fields → Members → Reading VbiLines
vbi_lines fields members =
    number_or 0 u32_max key.VbiLines members >>= (λ lines.
    number_or 2044 u32_max key.VbiBytes members >>= (λ bytes.
    optional_number key.VbiOffset members >>= (λ offset.
    field_numbers fields max_skip_lines key.VbiSkip members >>= (λ skip.
    optional_number key.VbiStride members >>= (λ stride.
    Ok (record { lines = lines; bytes = bytes; offset = offset; skip = skip; stride = stride }))))))

abbrev pub clips : Members → Reading (List Rect)
clips members =
    told (fault_of key.Clip)
    (otherwise [] (list is_row four_of (λ rows. nat_le (length rows) max_rects) (name_of key.Clip) members))
    >>= (λ rows. Ok (map rect rows))

-- pages have to be there where no chunks are
abbrev pub pages_beside : Bool → keys.Reading (Option (List ℕ)) → keys.Reading (List ℕ)
pages_beside chunks pages = if chunks then otherwise [] pages else required pages

abbrev pub pages : Members → Reading (List ℕ)
pages members =
    told (fault_of key.Pages)
    (pages_beside (is_there (name_of key.Chunks) members)
    (list is_integer u32_of (λ ns. nat_le (length ns) max_chunks) (name_of key.Pages) members))

-- chunks come in place of pages, and have at most 16 MiB together
abbrev pub chunks_fit : Bool → List (ℕ × ℕ) → Bool
chunks_fit pages chunks =
    nat_le (length chunks) max_chunks && nat_le (total (listed chunks)) max_bytes && not pages

abbrev pub chunks : Members → Reading (Option (List (ℕ × ℕ)))
chunks members =
    told (fault_of key.Chunks)
    (list is_row two_of (chunks_fit (is_there (name_of key.Pages) members)) (name_of key.Chunks) members)

-- the keys one after the other, each with what it may be and what stands for it where it is absent
abbrev pub values : Members → Reading Desc
values members =
    required_word format_named key.Format members >>= (λ format.
    required_number key.Width members >>= (λ width.
    required_number key.Height members >>= (λ height.
    word_or Both fields_named key.Fields members >>= (λ fields.
    plane_numbers format key.Stride members >>= (λ stride.
    plane_numbers format key.Offset members >>= (λ offset.
    chroma_first format fields members >>= (λ chroma_first.
    number_or 0 max_skip_lines key.SkipLines members >>= (λ skip_lines.
    vbi_lines fields members >>= (λ vbi.
    clips members >>= (λ clip.
    number_or 4096 u32_max key.Base members >>= (λ base.
    pages members >>= (λ pages.
    chunks members >>= (λ chunks.
    number_or 0 255 key.Fill members >>= (λ fill.
    Ok (record {
      format = format;
      width = width;
      height = height;
      fields = fields;
      stride = stride;
      offset = offset;
      chroma_first = chroma_first;
      skip_lines = skip_lines;
      vbi_lines = vbi.lines;
      vbi_bytes = vbi.bytes;
      vbi_offset = vbi.offset;
      vbi_skip = vbi.skip;
      vbi_stride = vbi.stride;
      clip = clip;
      base = base;
      pages = pages;
      chunks = chunks;
      fill = fill;
    })))))))))))))))

-- a key that no description has comes before the faults of the others
abbrev pub unless_unknown : Option (List ℕ) → Reading Desc → Reading Desc
unless_unknown None reading = reading
unless_unknown (Some name) reading = Err (Unknown name)

abbrev pub described_in : Option Members → Reading Desc
described_in None = Err NotToml
described_in (Some members) = unless_unknown (least (unknown_names is_known members)) (values members)

abbrev pub described : List ℕ → Reading Desc
described text = described_in (document_of text)

-- an error is the fault, or out of memory
abbrev pub Refuses : {A : Type 0} → Reading A → DescError → Type 0
Refuses reading (Bad fault) = reading ≡ Err fault
Refuses reading Memory = ⊤

-- an answer is the reading's, or out of memory
abbrev pub Answers : {A : Type 0} → Reading A → Result A DescError → Type 0
Answers reading (Ok value) = reading ≡ Ok value
Answers reading (Err error) = Refuses reading error
