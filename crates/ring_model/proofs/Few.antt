-- The program of a ring has few words: a line has few pieces, and more only where it crosses a page end.
use Rattle.std.proofs.Common.{◌≡◌, ℕ, zero, suc, ◌+◌, ◌*◌, ◌<◌, ◌≤◌, false, length, length-append, map, ap, arith, Bool, true, List, []}
use Rattle.std.proofs.Common.{◌∷◌}
use Rattle.std.proofs.lemmas.List.{length-map}
use Rattle.page_table.specs.Taken.{page_at}
use Rattle.machine_model.specs.Paths.{max_words}
use Rattle.picture_model.specs.Plans.{Cut, cuts_of, piece_of}
use Rattle.picture_model.specs.Programs.{instr_of}
use Rattle.picture_model.proofs.Counting.{cut_words, line_words-few, words_for}
use Rattle.picture_model.proofs.Ends.{ended, ended-few}
use Rattle.ring_model.specs.Rings.{IsRing, Ring, block_instrs, blocks_instrs, line_instrs, line_strip, lines_instrs, mark, memory_of}
use Rattle.ring_model.specs.Rings.{ring_program, ring_words, round}
use Rattle.ring_model.proofs.Lines.{block_lines, line-IsStrip, line_end}
use Rattle.ring_model.proofs.Sound.{ring_length}
use Rattle.ring_model.proofs.Writes.{blocks_writes, last_length, writes_words}

-- the page ends before a line
abbrev pub ended_before : Ring → ℕ → ℕ
ended_before r n = ended (memory_of r) (n * r.line_bytes)

two_words : (clipped : Bool) → 2 ≤ words_for clipped
two_words true = omega arith
two_words false = omega arith

cuts_few : (cuts : List Cut) → 2 * length cuts ≤ cut_words cuts
cuts_few [] = omega arith
cuts_few (k ∷ rest) = let one = two_words k.clipped in let more = cuts_few rest in omega arith

module _ (r : Ring) (is : IsRing r) where
  line_few : (n : ℕ) → n < r.blocks * r.lines → 2 * length (line_instrs r n) + 5 * ended_before r n ≤ 5 * ended_before r (n + 1) + 10
  line_few n below =
      let memory = memory_of r in
      let strip = line_strip r n in
      let most = is.line_bytes.1 in
      let few = line_words-few memory strip (line-IsStrip r n is below) (omega arith) in
      let two = cuts_few (cuts_of memory strip strip.spans) in
      let start = n * r.line_bytes in
      let begin : ended memory (start + 0 * 1) ≡ ended memory start =
      ap (ended memory) (let e : start + 0 * 1 ≡ start = omega arith in e) in
      let there = line_end n r.line_bytes in
      let end : ended memory (start + r.line_bytes * 1) ≡ ended memory ((n + 1) * r.line_bytes) =
      ap (ended memory) (let e : start + r.line_bytes * 1 ≡ (n + 1) * r.line_bytes = omega arith in e) in
      let pieces = length-map (map (piece_of memory strip) (cuts_of memory strip strip.spans)) (instr_of false) in
      let cuts = length-map (cuts_of memory strip strip.spans) (piece_of memory strip) in
      omega arith

  lines_few : (first count : ℕ) → first + count ≤ r.blocks * r.lines →
      2 * length (lines_instrs r first count) + 5 * ended_before r first ≤ 5 * ended_before r (first + count) + 10 * count
  lines_few first zero within =
      let same : ended_before r (first + 0) ≡ ended_before r first = ap (ended_before r) (let e : first + 0 ≡ first = omega arith in e) in
      omega arith
  lines_few first (suc count) within =
      let one = line_few first (omega arith) in
      let more = lines_few (first + 1) count (omega arith) in
      let all = length-append (line_instrs r first) (lines_instrs r (first + 1) count) in
      let same : ended_before r (first + 1 + count) ≡ ended_before r (first + suc count) =
      ap (ended_before r) (let e : first + 1 + count ≡ first + suc count = omega arith in e) in
      omega arith

  block_few : (block : ℕ) → block < r.blocks →
      2 * length (block_instrs r block) + 5 * ended_before r (block * r.lines) ≤ 5 * ended_before r ((block + 1) * r.lines) + 640
  block_few block below =
      let most = is.lines.1 in
      let few = lines_few (block * r.lines) r.lines (block_lines block r.lines r.blocks below) in
      let same = last_length (mark block) (lines_instrs r (block * r.lines) r.lines) in
      let next : ended_before r (block * r.lines + r.lines) ≡ ended_before r ((block + 1) * r.lines) =
      ap (ended_before r) (line_end block r.lines) in
      omega arith

  blocks_few : (first count : ℕ) → first + count ≤ r.blocks → 2 * length (blocks_instrs r first count) + 5 * ended_before r
      (first * r.lines) ≤ 5 * ended_before r ((first + count) * r.lines) + 640 * count
  blocks_few first zero within =
      let same : ended_before r ((first + 0) * r.lines) ≡ ended_before r (first * r.lines) =
      ap (λ (b : ℕ). ended_before r (b * r.lines)) (let e : first + 0 ≡ first = omega arith in e) in omega arith
  blocks_few first (suc count) within =
      let one = block_few first (omega arith) in
      let more = blocks_few (first + 1) count (omega arith) in
      let all = length-append (block_instrs r first) (blocks_instrs r (first + 1) count) in
      let same : ended_before r ((first + 1 + count) * r.lines) ≡ ended_before r ((first + suc count) * r.lines) =
      ap (λ (b : ℕ). ended_before r (b * r.lines)) (let e : first + 1 + count ≡ first + suc count = omega arith in e) in
      omega arith

  pub round_few : length (round r) ≤ 15360
  round_few =
      let few = blocks_few 0 r.blocks (omega arith) in
      let ends = ended-few (memory_of r) ((0 + r.blocks) * r.lines * r.line_bytes) in
      let pages = length-map r.pages page_at in
      let some = is.few_pages in
      let most = is.blocks.1 in
      omega arith

  pub ring_few : length (ring_words r) ≤ max_words
  ring_few =
      let long = ring_length r in
      let words = writes_words (round r) (blocks_writes r 0 r.blocks) in
      let few = round_few in
      omega arith
