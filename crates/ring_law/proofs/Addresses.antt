-- Where the blocks of a ring are in its program, and which addresses end them.
use Rattle.std.proofs.Common.{Bool, List, None, Some, [], append-nil, arith, eq-eqb, false, length, length-append, ne_eqb, suc, sym, zero}
use Rattle.std.proofs.Common.{ℕ, ◌*◌, ◌++◌, ◌+◌, ◌-◌, ◌<◌, ◌==◌, ◌∙◌, ◌∷◌, ◌≡◌, ◌≤◌, map, ap, ⊎_elim, refl}
use Rattle.std.proofs.lemmas.Bool.{cases_lt, cond-false, cond-true, cases_Bool, eqb-true}
use Rattle.std.specs.List.{flat_map, position, position_from, range_with_len}
use Rattle.std.proofs.lemmas.Grind.{flat_map-append}
use Rattle.picture_model.specs.Plans.{Cut, Follow, cuts_of, piece_of}
use Rattle.risc_word.specs.declared.Instr.{Instr}
use Rattle.ring_model.specs.Rings.{IsRing, Ring, block_instrs, blocks_instrs, ends, line_instrs, line_strip, lines_instrs, mark, memory_of}
use Rattle.ring_model.specs.Rings.{opening, last_write}
use Rattle.ring_model.proofs.Lines.{block_lines, line-IsStrip}
use Rattle.ring_model.proofs.Writes.{blocks_writes, last_length, writes_words}
use Rattle.picture_model.proofs.Safe.{cuts_follow}
use Rattle.risc_word.specs.Words.{encoded}
use Rattle.picture_model.specs.Programs.{instr_of, words_of}
use Rattle.std.proofs.lemmas.Iterator.Adapters.{position_from-zero}

-- ---- the first number at which a function takes a value

module _ (f : ℕ → ℕ) (value : ℕ) where
  abbrev is_value : ℕ → Bool
  is_value other = other == value

  none_from : (from count at : ℕ) → ((k : ℕ) → from ≤ k → k < from + count → (f k ≡ value → ⊥)) →
      position_from is_value at (map f (range_with_len from count)) ≡ None
  none_from from zero at other = refl
  none_from from (suc count) at other =
      cond-false (f from == value) (Some at) (position_from is_value (at + 1) (map f (range_with_len (from + 1) count)))
      (ne_eqb (f from) value (other from (omega arith) (omega arith)))
      ∙ none_from (from + 1) count (at + 1) (λ k low high. other k (omega arith) (omega arith))

  some_from : (from count k : ℕ) → from ≤ k → k < from + count → f k ≡ value → ((j : ℕ) → from ≤ j → j < k → (f j ≡ value → ⊥)) →
      position_from is_value from (map f (range_with_len from count)) ≡ Some k
  some_from from zero k low high here other = absurd (omega arith)
  some_from from (suc count) k low high here other =
      ⊎_elim
      (λ before.
      cond-false (f from == value) (Some from) (position_from is_value (from + 1) (map f (range_with_len (from + 1) count)))
      (ne_eqb (f from) value (other from (omega arith) before))
      ∙ some_from (from + 1) count k (omega arith) (omega arith) here (λ j low high. other j (omega arith) high))
      (λ there.
      let same : from ≡ k = omega arith in
      cond-true (f from == value) (Some from) (position_from is_value (from + 1) (map f (range_with_len (from + 1) count)))
      (eq-eqb (f from) value (ap f same ∙ here)) ∙ ap Some same)
      (cases_lt from k)

  pub position_none : (count : ℕ) → ((k : ℕ) → k < count → (f k ≡ value → ⊥)) → position is_value (map f (range_with_len 0 count)) ≡ None
  position_none count other =
      position_from-zero is_value (map f (range_with_len 0 count)) ∙ none_from 0 count 0 (λ k low high. other k (omega arith))

  pub position_some : (count k : ℕ) → k < count → f k ≡ value → ((j : ℕ) → j < k → (f j ≡ value → ⊥)) →
      position is_value (map f (range_with_len 0 count)) ≡ Some k
  position_some count k high here other =
      position_from-zero is_value (map f (range_with_len 0 count))
      ∙ some_from 0 count k (omega arith) (omega arith) here (λ j low before. other j before)

  found_from : (from count k : ℕ) → position_from is_value from (map f (range_with_len from count)) ≡ Some k →
      (k < from + count) × (f k ≡ value)
  found_from from zero k found = cc
  found_from from (suc count) k found =
      let rest = position_from is_value (from + 1) (map f (range_with_len (from + 1) count)) in
      ⊎_elim
      (λ here.
      let same : from ≡ k = some_same from k (sym (cond-true (f from == value) (Some from) rest here) ∙ found) in
      (omega arith, ap f (sym same) ∙ eqb-true (f from) value here))
      (λ other.
      let later = found_from (from + 1) count k (sym (cond-false (f from == value) (Some from) rest other) ∙ found) in
      let below = later.0 in
      (omega arith, later.1))
      (cases_Bool (f from == value))
    where
      some_same : (a b : ℕ) → Some a ≡ Some b → a ≡ b
      some_same a b e = cc

  pub position_found : (count k : ℕ) → position is_value (map f (range_with_len 0 count)) ≡ Some k → (k < count) × (f k ≡ value)
  position_found count k found =
      let there = found_from 0 count k (sym (position_from-zero is_value (map f (range_with_len 0 count))) ∙ found) in
      let below = there.0 in
      (omega arith, there.1)

-- ---- where blocks are

range_append : (from a b : ℕ) → range_with_len from (a + b) ≡ range_with_len from a ++ range_with_len (from + a) b
range_append from zero b =
    let none : from + 0 ≡ from = omega arith in
    let all : zero + b ≡ b = omega arith in
    ap (range_with_len from) all ∙ ap (λ (first : ℕ). range_with_len first b) (sym none)
range_append from (suc a) b =
    let all : suc a + b ≡ suc (a + b) = omega arith in
    let there : from + 1 + a ≡ from + suc a = omega arith in
    ap (range_with_len from) all ∙ ap (λ (rest : List ℕ). from ∷ rest)
    (range_append (from + 1) a b ∙ ap (λ (first : ℕ). range_with_len (from + 1) a ++ range_with_len first b) there)

pub blocks_append : (r : Ring) (first a b : ℕ) → blocks_instrs r first (a + b) ≡ blocks_instrs r first a ++ blocks_instrs r (first + a) b
blocks_append r first a b =
    ap (flat_map (block_instrs r)) (range_append first a b)
    ∙ flat_map-append (block_instrs r) (range_with_len first a) (range_with_len (first + a) b)

pub one_block : (r : Ring) (block : ℕ) → blocks_instrs r block 1 ≡ block_instrs r block
one_block r block = append-nil (block_instrs r block)

-- the address of a block's first WRITE; behind the last block that of the closing
abbrev pub block_begin : Ring → ℕ → ℕ
block_begin r block = r.base + 4 * length (words_of (opening ∷ blocks_instrs r 0 block))

module _ (r : Ring) (is : IsRing r) where
  line_some : (n : ℕ) → n < r.blocks * r.lines → 0 < length (line_instrs r n)
  line_some n below =
      by_cuts (cuts_of (memory_of r) (line_strip r n) (line_strip r n).spans)
      (cuts_follow (memory_of r) (line_strip r n) (line-IsStrip r n is below))
    where
      by_cuts : (cuts : List Cut) → Follow r.line_bytes 0 cuts →
          0 < length (map (instr_of false) (map (piece_of (memory_of r) (line_strip r n)) cuts))
      by_cuts [] follow = let some = is.line_bytes.0 in absurd (omega arith)
      by_cuts (k ∷ rest) follow = omega arith

  lines_some : (first count : ℕ) → 0 < count → first + count ≤ r.blocks * r.lines → 0 < length (lines_instrs r first count)
  lines_some first zero some within = absurd (omega arith)
  lines_some first (suc count) some within =
      let one = line_some first (omega arith) in
      let all = length-append (line_instrs r first) (lines_instrs r (first + 1) count) in
      omega arith

  pub block_some : (block : ℕ) → block < r.blocks → 0 < length (lines_instrs r (block * r.lines) r.lines)
  block_some block below =
      let some = is.lines.0 in
      lines_some (block * r.lines) r.lines (omega arith) (block_lines block r.lines r.blocks below)

  -- a block's WRITEs have two words each
  pub begin_words : (block : ℕ) → block_begin r block ≡ r.base + 8 + 8 * length (blocks_instrs r 0 block)
  begin_words block =
      let words = writes_words (blocks_instrs r 0 block) (blocks_writes r 0 block) in
      omega (arith, length-append (encoded opening) (words_of (blocks_instrs r 0 block)))

  block_length : (block : ℕ) → length (block_instrs r block) ≡ length (lines_instrs r (block * r.lines) r.lines)
  block_length block = last_length (mark block) (lines_instrs r (block * r.lines) r.lines)

  pub next_begin : (block : ℕ) → block_begin r (block + 1) ≡ block_begin r block + 8 * length (lines_instrs r (block * r.lines) r.lines)
  next_begin block =
      let here = begin_words block in
      let next = begin_words (block + 1) in
      let from : 0 + block ≡ block = omega arith in
      let split : blocks_instrs r 0 (block + 1) ≡ blocks_instrs r 0 block ++ block_instrs r block =
      blocks_append r 0 block 1 ∙ ap (λ (first : ℕ). blocks_instrs r 0 block ++ blocks_instrs r first 1) from
      ∙ ap (λ (more : List Instr). blocks_instrs r 0 block ++ more) (one_block r block) in
      let long = ap (λ (instrs : List Instr). length instrs) split in
      let block_long = block_length block in
      omega (arith, length-append (blocks_instrs r 0 block) (block_instrs r block))

  begins_in_order : (block more : ℕ) → block + more ≤ r.blocks → block_begin r block + 8 * more ≤ block_begin r (block + more)
  begins_in_order block zero within = let none : block + 0 ≡ block = omega arith in let same = ap (block_begin r) none in omega arith
  begins_in_order block (suc more) within =
      let some = block_some block (omega arith) in
      let next = next_begin block in
      let later = begins_in_order (block + 1) more (omega arith) in
      let there : block + 1 + more ≡ block + suc more = omega arith in
      let same = ap (block_begin r) there in
      omega arith

  pub in_order : (block later : ℕ) → block ≤ later → later ≤ r.blocks → block_begin r block + 8 * (later - block) ≤ block_begin r later
  in_order block later before within =
      let there : block + (later - block) ≡ later = omega arith in
      let all = begins_in_order block (later - block) (omega arith) in
      let same = ap (block_begin r) there in
      omega arith

  -- the last WRITE is two words before the next block
  pub last_there : (block : ℕ) → last_write r block + 8 ≡ block_begin r (block + 1)
  last_there block =
      let next : suc block ≡ block + 1 = omega arith in
      let same = ap (λ (count : ℕ). length (words_of (opening ∷ blocks_instrs r 0 count))) next in
      let words = length-append (encoded opening) (words_of (blocks_instrs r 0 (block + 1))) in
      omega arith

  pub ends_here : (block : ℕ) → block < r.blocks → ends r (last_write r block) ≡ Some block
  ends_here block below =
      position_some (last_write r) (last_write r block) r.blocks block below refl
      (λ j before same.
      let here = last_there block in
      let there = last_there j in
      let order = in_order (j + 1) (block + 1) (omega arith) (omega arith) in
      omega arith)

  pub ends_nowhere : (block address : ℕ) → block < r.blocks → block_begin r block ≤ address → address < last_write r block →
      ends r address ≡ None
  ends_nowhere block address below from to =
      position_none (last_write r) address r.blocks
      (λ k within same.
      let here = last_there k in
      ⊎_elim
      (λ before. let order = in_order (k + 1) block (omega arith) (omega arith) in absurd (omega arith))
      (λ later.
      let end = last_there block in
      let order = in_order (block + 1) (k + 1) (omega arith) (omega arith) in
      absurd (omega arith))
      (cases_lt k block))
