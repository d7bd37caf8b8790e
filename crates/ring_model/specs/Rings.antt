-- A ring of blocks in memory, and its program. Blocks, lines and pieces are counted from 0; offsets are bytes,
-- counted along the pages.
use Rattle.std.specs.Prelude.{◌≡◌, ℕ, suc, ◌+◌, ◌-◌, ◌*◌, ◌%◌, ◌^◌, ◌<◌, ◌≤◌, true, false, ◌==◌, List, [], ◌∷◌, ◌++◌, length, map, Option}
use Rattle.std.specs.Prelude.{Some, None}
use Rattle.std.specs.List.{All, flat_map, list_any, position, range_with_len}
use Rattle.risc_word.specs.declared.Code.TheVariants.{Fm1}
use Rattle.risc_word.specs.declared.Ctl.{Ctl}
use Rattle.risc_word.specs.declared.Instr.{Instr}
use Rattle.risc_word.specs.declared.Instr.TheVariants.{Write, Jump}
use Rattle.clip_spans.specs.Runs.{span}
use Rattle.page_table.specs.Grants.{Chunk, total}
use Rattle.page_table.specs.Scattered.{ArePages}
use Rattle.page_table.specs.Taken.{in_order, page_at}
use Rattle.machine_model.specs.Paths.{RiscProgram, one_span, shares_byte}
use Rattle.picture_model.specs.declared.PieceKind.TheVariants as kind
use Rattle.picture_model.specs.Plans.{Strip, plan, track}
use Rattle.picture_model.specs.Programs.{instr_of, no_control, sync, words_of}

-- the values of a ring: its blocks, the lines of each, the bytes of a line, the address of the program, the
-- addresses of the pages, and the byte that memory holds at first
pub record Ring : Type 0 where
  pub blocks : ℕ
  pub lines : ℕ
  pub line_bytes : ℕ
  pub base : ℕ
  pub pages : List ℕ
  pub fill : ℕ

-- the pages in the order in which the lines lie in them, and the bytes of all lines
abbrev pub memory_of : Ring → List Chunk
memory_of r = map page_at r.pages

abbrev pub bytes_of : Ring → ℕ
bytes_of r = r.blocks * r.lines * r.line_bytes

-- the lines

-- line n, over all blocks: packed, not clipped, and without a gap behind the line before it
abbrev pub line_strip : Ring → ℕ → Strip
line_strip r n =
    record {
      grains = r.line_bytes;
      spans = span 0 r.line_bytes false ∷ [];
      kind = kind.Write;
      planar = false;
      one = track 1 (Some (n * r.line_bytes));
      two = track 0 None;
      three = track 0 None;
    }

-- its WRITEs: each as long as its page and the line allow
abbrev pub line_instrs : Ring → ℕ → List Instr
line_instrs r n = map (instr_of false) (plan (memory_of r) (line_strip r n))

abbrev pub lines_instrs : Ring → ℕ → ℕ → List Instr
lines_instrs r first count = flat_map (line_instrs r) (range_with_len first count)

-- the blocks

-- the signal of a block: IRQ, and its number as the RISC status
abbrev pub mark : ℕ → Ctl
mark block = record { irq = true; set = block; reset = 15 - block }

-- a WRITE with other control bits
abbrev pub with_control : Ctl → Instr → Instr
with_control ctl (Write _ ends off count address) = Write ctl ends off count address
with_control ctl instr = instr

-- the last of some WRITEs has other control bits
abbrev pub last_with : Ctl → List Instr → List Instr
last_with ctl [] = []
last_with ctl (instr ∷ []) = with_control ctl instr ∷ []
last_with ctl (instr ∷ next ∷ rest) = instr ∷ last_with ctl (next ∷ rest)

-- a block's lines, of which the last WRITE signals
abbrev pub block_instrs : Ring → ℕ → List Instr
block_instrs r block = last_with (mark block) (lines_instrs r (block * r.lines) r.lines)

abbrev pub blocks_instrs : Ring → ℕ → ℕ → List Instr
blocks_instrs r first count = flat_map (block_instrs r) (range_with_len first count)

-- one round over all blocks
abbrev pub round : Ring → List Instr
round r = blocks_instrs r 0 r.blocks

-- the program

abbrev pub opening : Instr
opening = sync true Fm1

-- the JUMP to the word after the SYNC
abbrev pub closing : Ring → Instr
closing r = Jump no_control (r.base + 8)

abbrev pub ring_instrs : Ring → List Instr
ring_instrs r = opening ∷ round r ++ closing r ∷ []

abbrev pub ring_words : Ring → List ℕ
ring_words r = words_of (ring_instrs r)

-- the program may write the pages
abbrev pub ring_program : Ring → RiscProgram
ring_program r = one_span r.base (ring_words r) (in_order (memory_of r))

-- the address of a block's last WRITE: the two words before the end of the words up to and with the block's
abbrev pub last_write : Ring → ℕ → ℕ
last_write r block = r.base + 4 * (length (words_of (opening ∷ blocks_instrs r 0 (suc block))) - 2)

-- the block whose last WRITE is at an address
abbrev pub ends : Ring → ℕ → Option ℕ
ends r address = position (λ end. end == address) (map (last_write r) (range_with_len 0 r.blocks))

-- rings without a fault

-- the values are within their bounds, and the pages have room for the lines
pub record IsRing (r : Ring) : Type 0 where
  pub blocks : (2 ≤ r.blocks) × (r.blocks ≤ 16)
  pub lines : (1 ≤ r.lines) × (r.lines ≤ 64)
  pub line_bytes : (5 ≤ r.line_bytes) × (r.line_bytes ≤ 4092)
  pub few_pages : length r.pages ≤ 4096
  pub addresses : All (λ page. page < 2 ^ 32) r.pages
  pub pages : ArePages r.pages
  pub enough : bytes_of r ≤ total (memory_of r)

-- the program lies in memory, and apart from the pages
pub record IsPlaced (r : Ring) : Type 0 where
  pub aligned : r.base % 4 ≡ 0
  pub ends : r.base + 4 * length (ring_words r) ≤ 2 ^ 32
  pub apart : list_any (shares_byte (ring_program r)) (memory_of r) ≡ false
