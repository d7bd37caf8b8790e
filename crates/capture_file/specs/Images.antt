-- The image file of a memory.
use Rattle.std.specs.Prelude.{ℕ, List, ◌++◌, length, codes}
use Rattle.std.specs.List.{flat_map}
use Rattle.byteorder.specs.Endian.{little_bytes}
use Rattle.page_table.specs.Blocks.{Block, chunks_of}
use Rattle.capture_file.specs.declared.program.Layout.{Layout}
use Rattle.capture_file.specs.declared.program.Layout.TheVariants.{Paged, Chunked}
use Rattle.capture_file.specs.Programs.{layout_for}

-- a page is its address and its bytes; any other chunk has its length between
abbrev pub place_image : Layout → ℕ → ℕ → List ℕ
place_image Paged at len = little_bytes 4 at
place_image Chunked at len = little_bytes 4 at ++ little_bytes 4 len

abbrev pub block_image : Layout → Block → List ℕ
block_image layout block = place_image layout block.at (length block.bytes) ++ block.bytes

abbrev pub image_name : Layout → List ℕ
image_name Paged = codes "BMI1"
image_name Chunked = codes "BMI2"

abbrev pub image_head : Layout → ℕ → List ℕ
image_head layout count = image_name layout ++ little_bytes 4 count

abbrev pub image_as : Layout → List Block → List ℕ
image_as layout memory = image_head layout (length memory) ++ flat_map (block_image layout) memory

-- BMI1 where all chunks are pages, else BMI2: the number of the chunks, and the chunks in rising order
unfoldable pub image_of : List Block → List ℕ
image_of memory = image_as (layout_for (chunks_of memory)) memory
