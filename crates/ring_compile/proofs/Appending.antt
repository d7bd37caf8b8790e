-- Words of instructions that are left, behind those that are there.
use Rattle.std.proofs.Common.{◌≡◌, ℕ, suc, ◌+◌, ◌-◌, ◌*◌, ◌<◌, ◌≤◌, List, [], ◌∷◌, ◌++◌, length, map, append_assoc, sym, ap, ◌∙◌, arith}
use Rattle.std.proofs.lemmas.Grind.{flat_map-append}
use Rattle.std.proofs.lemmas.List.{append-nil}
use Rattle.std.proofs.lemmas.List.FromFn.{map-range_with_len_more}
use Rattle.std.specs.List.{range_with_len}
use Rattle.std.specs.Prelude.{◌==◌}
use Rattle.ring_model.proofs.Lines.{block_lines}
use Rattle.risc_word.specs.declared.Ctl.{Ctl}
use Rattle.risc_word.specs.declared.Instr.{Instr}
use Rattle.risc_word.specs.Words.{encoded}
use Rattle.picture_model.specs.Programs.{words_of}
use Rattle.ring_model.specs.Rings.{IsRing, Ring, block_instrs, blocks_instrs, last_with, last_write, line_instrs, lines_instrs, mark}
use Rattle.ring_model.specs.Rings.{opening}
use Rattle.ring_compile.specs.Writes.{control_at, run_length, write_at}
use Rattle.ring_compile.proofs.Pieces.{line_is, next_block, next_line, next_write, none_left, writes_from}

-- with the words of the instructions that are left all are there
abbrev pub IsLeft : List ℕ → List ℕ → List Instr → List Instr → Type 0
IsLeft old out rest all = out ++ words_of rest ≡ old ++ words_of all

-- some instructions more
pub fewer_left : (old out new : List ℕ) (next rest all : List Instr) → IsLeft old out (next ++ rest) all → new ≡ out ++ words_of next →
    IsLeft old new rest all
fewer_left old out new next rest all left added =
    ap (λ (w : List ℕ). w ++ words_of rest) added
    ∙ append_assoc out (words_of next) (words_of rest)
    ∙ ap (λ (w : List ℕ). out ++ w) (sym (flat_map-append encoded next rest))
    ∙ left

pub none_more : (old out : List ℕ) (rest all : List Instr) → IsLeft old out rest all → rest ≡ [] → out ≡ old ++ words_of all
none_more old out rest all left none =
    sym (append-nil out) ∙ ap (λ (is : List Instr). out ++ words_of is) (sym none) ∙ left

module _ (r : Ring) (is : IsRing r) (number : ℕ) (below : number < r.blocks * r.lines) (last : Ctl) (old : List ℕ) where
  abbrev pub LineLeft : List ℕ → ℕ → Type 0
  LineLeft out at = IsLeft old out (last_with last (writes_from r number at)) (last_with last (line_instrs r number))

  pub line_begins : LineLeft old 0
  line_begins = ap (λ (instrs : List Instr). old ++ words_of (last_with last instrs)) (sym (line_is r number))

  pub line_goes_on : (out new : List ℕ) (at n : ℕ) (instr : Instr) → at < r.line_bytes → n ≡ run_length r number at →
      at + n ≤ r.line_bytes → instr ≡ write_at r number last at n →
      new ≡ out ++ encoded instr → LineLeft out at → LineLeft new (at + n)
  line_goes_on out new at n instr inside long within same added left =
      fewer_left old out new (write_at r number last at n ∷ []) (last_with last (writes_from r number (at + n)))
      (last_with last (line_instrs r number))
      (ap (λ (instrs : List Instr). out ++ words_of instrs) (sym (next_write r is number below last at n inside long within)) ∙ left)
      (added ∙ ap (λ (i : Instr). out ++ encoded i) same
      ∙ ap (λ (w : List ℕ). out ++ w) (sym (append-nil (encoded (write_at r number last at n)))))

  pub line_ends : (out : List ℕ) (at : ℕ) → r.line_bytes ≤ at → LineLeft out at →
      out ≡ old ++ words_of (last_with last (line_instrs r number))
  line_ends out at done left =
      none_more old out (last_with last (writes_from r number at)) (last_with last (line_instrs r number)) left
      (ap (last_with last) (none_left r is number below at done))

module _ (r : Ring) (is : IsRing r) (block : ℕ) (below : block < r.blocks) (old : List ℕ) where
  -- the words of the lines that are left of a block
  abbrev pub BlockLeft : List ℕ → ℕ → Type 0
  BlockLeft out n = IsLeft old out (last_with (mark block) (lines_instrs r (block * r.lines + n) (r.lines - n))) (block_instrs r block)

  pub block_begins : BlockLeft old 0
  block_begins =
      let first : block * r.lines + 0 ≡ block * r.lines = omega arith in
      let all : r.lines - 0 ≡ r.lines = omega arith in
      ap (λ (n : ℕ). old ++ words_of (last_with (mark block) (lines_instrs r n (r.lines - 0)))) first
      ∙ ap (λ (n : ℕ). old ++ words_of (last_with (mark block) (lines_instrs r (block * r.lines) n))) all

  pub block_goes_on : (out new : List ℕ) (n : ℕ) (last : Ctl) → n < r.lines → last ≡ control_at (mark block) (n + 1 == r.lines) →
      new ≡ out ++ words_of (last_with last (line_instrs r (block * r.lines + n))) → BlockLeft out n → BlockLeft new (n + 1)
  block_goes_on out new n last inside same added left =
      let within = block_lines block r.lines r.blocks below in
      let next = next_line r is (mark block) (block * r.lines) n r.lines inside within in
      fewer_left old out new (last_with (control_at (mark block) (n + 1 == r.lines)) (line_instrs r (block * r.lines + n)))
      (last_with (mark block) (lines_instrs r (block * r.lines + (n + 1)) (r.lines - (n + 1)))) (block_instrs r block)
      (ap (λ (instrs : List Instr). out ++ words_of instrs) (sym next) ∙ left)
      (added ∙ ap (λ (ctl : Ctl). out ++ words_of (last_with ctl (line_instrs r (block * r.lines + n)))) same)

  pub block_ends : (out : List ℕ) (n : ℕ) → r.lines ≤ n → BlockLeft out n → out ≡ old ++ words_of (block_instrs r block)
  block_ends out n done left =
      let none : r.lines - n ≡ 0 = omega arith in
      none_more old out (last_with (mark block) (lines_instrs r (block * r.lines + n) (r.lines - n))) (block_instrs r block) left
      (ap (λ (count : ℕ). last_with (mark block) (lines_instrs r (block * r.lines + n) count)) none)

-- one block more

abbrev pub blocks_words : Ring → ℕ → List ℕ
blocks_words r count = words_of (opening ∷ blocks_instrs r 0 count)

pub blocks_go_on : (r : Ring) (block : ℕ) (out new : List ℕ) → new ≡ out ++ words_of (block_instrs r block) → out ≡ blocks_words r block →
    new ≡ blocks_words r (block + 1)
blocks_go_on r block out new added so_far =
    let next : suc block ≡ block + 1 = omega arith in
    added
    ∙ ap (λ (w : List ℕ). w ++ words_of (block_instrs r block)) so_far
    ∙ sym (flat_map-append encoded (opening ∷ blocks_instrs r 0 block) (block_instrs r block))
    ∙ ap (λ (instrs : List Instr). words_of (opening ∷ instrs)) (sym (next_block r block))
    ∙ ap (blocks_words r) next

pub last_writes_go_on : (r : Ring) (block : ℕ) (out old new : List ℕ) (place : ℕ) → out ≡ blocks_words r (block + 1) →
    place ≡ r.base + 4 * (length out - 2) → new ≡ old ++ place ∷ [] →
    old ≡ map (last_write r) (range_with_len 0 block) → new ≡ map (last_write r) (range_with_len 0 (block + 1))
last_writes_go_on r block out old new place words is added so_far =
    let next : block + 1 ≡ suc block = omega arith in
    let here : place ≡ last_write r block = is ∙ ap (λ (w : List ℕ). r.base + 4 * (length w - 2)) (words ∙ ap (blocks_words r) next) in
    added
    ∙ ap (λ (places : List ℕ). places ++ place ∷ []) so_far
    ∙ ap (λ (p : ℕ). map (last_write r) (range_with_len 0 block) ++ p ∷ []) here
    ∙ sym (map-range_with_len_more (last_write r) 0 block block (omega arith))
