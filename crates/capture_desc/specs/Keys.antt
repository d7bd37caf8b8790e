-- The keys of a description.
use Rattle.std.specs.Prelude.{ℕ, Bool, List, [], ◌∷◌, codes, bytes_eq}
use Rattle.std.specs.List.{list_any}
use Rattle.capture_desc.specs.declared.fault.Key.{Key}
use Rattle.capture_desc.specs.declared.fault.Key.TheVariants as key

abbrev pub name_of : Key → List ℕ
name_of key.Format = codes "format"
name_of key.Width = codes "width"
name_of key.Height = codes "height"
name_of key.Fields = codes "fields"
name_of key.Stride = codes "stride"
name_of key.Offset = codes "offset"
name_of key.ChromaFirst = codes "chroma_first"
name_of key.SkipLines = codes "skip_lines"
name_of key.VbiLines = codes "vbi_lines"
name_of key.VbiBytes = codes "vbi_bytes"
name_of key.VbiOffset = codes "vbi_offset"
name_of key.VbiSkip = codes "vbi_skip"
name_of key.VbiStride = codes "vbi_stride"
name_of key.Clip = codes "clip"
name_of key.Base = codes "base"
name_of key.Pages = codes "pages"
name_of key.Chunks = codes "chunks"
name_of key.Fill = codes "fill"

abbrev pub keys : List Key
keys =
    key.Format ∷ key.Width ∷ key.Height ∷ key.Fields ∷ key.Stride ∷ key.Offset
    ∷ key.ChromaFirst ∷ key.SkipLines ∷ key.VbiLines ∷ key.VbiBytes ∷ key.VbiOffset
    ∷ key.VbiSkip ∷ key.VbiStride ∷ key.Clip
    ∷ key.Base ∷ key.Pages ∷ key.Chunks ∷ key.Fill ∷ []

abbrev pub is_known : List ℕ → Bool
is_known name = list_any (λ k. bytes_eq name (name_of k)) keys
