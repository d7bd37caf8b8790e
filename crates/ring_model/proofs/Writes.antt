-- The instructions of a ring's lines and blocks are WRITEs, of two words each.
use Rattle.std.proofs.Common.{◌≡◌, ℕ, zero, suc, ◌+◌, ◌-◌, ◌*◌, false, List, [], ◌∷◌, length, length-append, map, arith, refl, sym, subst}
use Rattle.std.specs.List.{flat_map, range_with_len}
use Rattle.risc_word.specs.declared.Ctl.{Ctl}
use Rattle.risc_word.specs.declared.Instr.{Instr}
use Rattle.risc_word.specs.declared.Instr.TheVariants as instr
use Rattle.risc_word.specs.Words.{encoded}
use Rattle.page_table.specs.Grants.{Chunk}
use Rattle.clip_spans.specs.declared.Span.{Span}
use Rattle.picture_model.specs.declared.PieceKind.TheVariants as kind
use Rattle.picture_model.specs.declared.Piece.{Piece}
use Rattle.picture_model.specs.Plans.{Cut, Strip, cuts_from, cuts_of, longest, piece_of, kind_of}
use Rattle.picture_model.specs.Programs.{instr_of, instr_by, words_of}
use Rattle.picture_model.proofs.Each.{Each, each_append, each_map}
use Rattle.ring_model.specs.Rings.{Ring, block_instrs, blocks_instrs, last_with, line_instrs, line_strip, lines_instrs, mark, memory_of}
use Rattle.ring_model.specs.Rings.{with_control}

-- a WRITE of which no lane is off
abbrev pub IsWrite : Instr → Type 0
IsWrite (instr.Write ctl ends off count address) = off ≡ 0
IsWrite _ = ⊥

write_words : (i : Instr) → IsWrite i → length (encoded i) ≡ 2
write_words (instr.Write ctl ends off count address) is = refl
write_words (instr.Skip ctl ends count) is = absurd is
write_words (instr.WriteC ctl ends off count) is = absurd is
write_words (instr.Jump ctl target) is = absurd is
write_words (instr.Sync ctl resync code) is = absurd is
write_words (instr.Write123 ctl ends off counts addrs) is = absurd is
write_words (instr.Skip123 ctl ends counts) is = absurd is
write_words (instr.Write1S23 ctl ends off counts addr) is = absurd is

pub writes_words : (instrs : List Instr) → Each IsWrite instrs → length (words_of instrs) ≡ 2 * length instrs
writes_words [] are = refl
writes_words (i ∷ rest) are =
    let one = write_words i are.0 in
    let more = writes_words rest are.1 in
    let all = length-append (encoded i) (words_of rest) in omega arith

-- other control bits leave a WRITE one, and no instruction is added

with_write : (ctl : Ctl) (i : Instr) → IsWrite i → IsWrite (with_control ctl i)
with_write ctl (instr.Write before ends off count address) is = is
with_write ctl (instr.Skip before ends count) is = is
with_write ctl (instr.WriteC before ends off count) is = is
with_write ctl (instr.Jump before target) is = is
with_write ctl (instr.Sync before resync code) is = is
with_write ctl (instr.Write123 before ends off counts addrs) is = is
with_write ctl (instr.Skip123 before ends counts) is = is
with_write ctl (instr.Write1S23 before ends off counts addr) is = is

last_writes : (ctl : Ctl) (instrs : List Instr) → Each IsWrite instrs → Each IsWrite (last_with ctl instrs)
last_writes ctl [] are = tt
last_writes ctl (i ∷ []) are = (with_write ctl i are.0, tt)
last_writes ctl (i ∷ next ∷ rest) are = (are.0, last_writes ctl (next ∷ rest) are.1)

pub last_length : (ctl : Ctl) (instrs : List Instr) → length (last_with ctl instrs) ≡ length instrs
last_length ctl [] = refl
last_length ctl (i ∷ []) = refl
last_length ctl (i ∷ next ∷ rest) = let more = last_length ctl (next ∷ rest) in omega arith

-- the pieces of a line write

abbrev pub IsPlainCut : Cut → Type 0
IsPlainCut k = k.clipped ≡ false

plain_cuts : (memory : List Chunk) (strip : Strip) (s : Span) (fuel rest at : ℕ) → s.clipped ≡ false →
    Each IsPlainCut (cuts_from fuel rest memory strip s at)
plain_cuts memory strip s zero rest at plain = tt
plain_cuts memory strip s (suc fuel) zero at plain = tt
plain_cuts memory strip s (suc fuel) (suc rest) at plain =
    let n = longest memory strip s at in (plain, plain_cuts memory strip s fuel (suc rest - n) (at + n) plain)

pub write_piece : (r : Ring) (n : ℕ) (k : Cut) → IsPlainCut k → IsWrite (instr_of false (piece_of (memory_of r) (line_strip r n) k))
write_piece r n k plain =
    subst (λ clipped. IsWrite (instr_by false (kind_of clipped kind.Write) (piece_of (memory_of r) (line_strip r n) k))) (sym plain) refl

pub line_plain : (r : Ring) (n : ℕ) → Each IsPlainCut (cuts_of (memory_of r) (line_strip r n) (line_strip r n).spans)
line_plain r n =
    each_append IsPlainCut (cuts_from (r.line_bytes - 0) (r.line_bytes - 0) (memory_of r) (line_strip r n)
    (record { from = 0; to = r.line_bytes; clipped = false }) 0) []
    (plain_cuts (memory_of r) (line_strip r n) (record { from = 0; to = r.line_bytes; clipped = false }) (r.line_bytes - 0)
    (r.line_bytes - 0) 0 refl) tt

pub line_writes : (r : Ring) (n : ℕ) → Each IsWrite (line_instrs r n)
line_writes r n =
    let memory = memory_of r in
    let strip = line_strip r n in
    let cuts = cuts_of memory strip strip.spans in
    each_map (λ (p : Piece). IsWrite (instr_of false p)) IsWrite (instr_of false) (map (piece_of memory strip) cuts) (λ p write. write)
    (each_map IsPlainCut (λ (p : Piece). IsWrite (instr_of false p)) (piece_of memory strip) cuts (write_piece r n) (line_plain r n))

every : (instrs : ℕ → List Instr) (first count : ℕ) → ((n : ℕ) → Each IsWrite (instrs n)) →
    Each IsWrite (flat_map instrs (range_with_len first count))
every instrs first zero each = tt
every instrs first (suc count) each =
    each_append IsWrite (instrs first) (flat_map instrs (range_with_len (first + 1) count)) (each first)
    (every instrs (first + 1) count each)

pub block_writes : (r : Ring) (block : ℕ) → Each IsWrite (block_instrs r block)
block_writes r block =
    last_writes (mark block) (lines_instrs r (block * r.lines) r.lines) (every (line_instrs r) (block * r.lines) r.lines (line_writes r))

pub blocks_writes : (r : Ring) (first count : ℕ) → Each IsWrite (blocks_instrs r first count)
blocks_writes r first count = every (block_instrs r) first count (block_writes r)
