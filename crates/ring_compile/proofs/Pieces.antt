-- The WRITEs of a line one after the other, and the lines of a block.
use Rattle.std.proofs.Common.{◌≡◌, ℕ, zero, suc, ◌+◌, ◌-◌, ◌*◌, ◌<◌, ◌≤◌, Bool, true, false, List, [], ◌∷◌, ◌++◌, map, refl, sym, ap, ◌∙◌}
use Rattle.std.proofs.Common.{subst, append_assoc, arith, ⊎_elim}
use Rattle.std.specs.Prelude.{◌==◌}
use Rattle.std.specs.List.{flat_map, range_with_len}
use Rattle.std.proofs.lemmas.Bool.{cases_Bool, cases_lt, eq-eqb, eqb-true, false≢true}
use Rattle.std.proofs.lemmas.List.{append-nil}
use Rattle.risc_word.specs.declared.Ctl.{Ctl}
use Rattle.risc_word.specs.declared.Instr.{Instr}
use Rattle.risc_word.specs.declared.Instr.TheVariants as instr
use Rattle.page_table.specs.Scattered.{address_at, room_at}
use Rattle.clip_spans.specs.Runs.{span}
use Rattle.picture_model.specs.Plans.{Cut, cut, cuts_left, longest, pieces_of, plan}
use Rattle.picture_model.specs.declared.PieceKind.{PieceKind}
use Rattle.picture_model.specs.declared.PieceKind.TheVariants as kind
use Rattle.picture_model.specs.declared.Piece.{Piece}
use Rattle.picture_model.specs.Programs.{instr_by, instr_of, no_control}
use Rattle.picture_model.proofs.Cutting.{EachFits, next_cut, no_cut}
use Rattle.picture_model.proofs.Strips.{all_fit}
use Rattle.ring_model.specs.Rings.{IsRing, Ring, block_instrs, blocks_instrs, bytes_of, last_with, line_instrs, line_strip, lines_instrs}
use Rattle.ring_model.specs.Rings.{memory_of, with_control}
use Rattle.ring_compile.specs.Writes.{control_at, run_length, write_at}
use Rattle.ring_model.proofs.Lines.{line-IsStrip, line_end}
use Rattle.std.proofs.lemmas.Nat.{mul-le}

-- the WRITEs of a line from a byte on
abbrev pub writes_from : Ring → ℕ → ℕ → List Instr
writes_from r number at =
    map (instr_of false)
    (pieces_of (memory_of r) (line_strip r number) (cuts_left (memory_of r) (line_strip r number) (span 0 r.line_bytes false) at))

last_more : (ctl : Ctl) (i next : Instr) (rest more : List Instr) → more ≡ next ∷ rest → last_with ctl (i ∷ more) ≡ i ∷ last_with ctl more
last_more ctl i next rest more is =
    subst (λ (xs : List Instr). last_with ctl (i ∷ xs) ≡ i ∷ last_with ctl xs) (sym is) refl

same_write : (c e : Ctl) (sol eol : Bool) (n m a b : ℕ) → c ≡ e → n ≡ m → a ≡ b →
    instr.Write c (record { sol = sol; eol = eol }) 0 n a ≡ instr.Write e (record { sol = sol; eol = eol }) 0 m b
same_write c e sol eol n m a b one two three = cc

-- a line's WRITEs are those from its first byte on
pub line_is : (r : Ring) (number : ℕ) → line_instrs r number ≡ writes_from r number 0
line_is r number =
    ap (λ (cuts : List Cut). map (instr_of false) (pieces_of (memory_of r) (line_strip r number) cuts))
    (append-nil (cuts_left (memory_of r) (line_strip r number) (span 0 r.line_bytes false) 0))

eqb-from-lt : (a b : ℕ) → a < b → a == b ≡ false
eqb-from-lt a b less = ⊎_elim (λ same. let e = eqb-true a b same in absurd (omega arith)) (λ other. other) (cases_Bool (a == b))

module _ (r : Ring) (is : IsRing r) (number : ℕ) (below : number < r.blocks * r.lines) where
  pub each_fits : EachFits (memory_of r) (line_strip r number) (span 0 r.line_bytes false)
  each_fits =
      (all_fit (memory_of r) (line_strip r number) 0 (line_strip r number).spans (line-IsStrip r number is below)
      (line-IsStrip r number is below).covers).0

  pub line_used : number * r.line_bytes + r.line_bytes ≤ bytes_of r
  line_used =
      let step = mul-le (number + 1) r.line_bytes (r.blocks * r.lines) r.line_bytes (omega arith) (omega arith) in
      let here = line_end number r.line_bytes in
      omega arith

  pub run_longest : (at : ℕ) → at < r.line_bytes →
      run_length r number at ≡ longest (memory_of r) (line_strip r number) (span 0 r.line_bytes false) at
  run_longest at inside =
      let used = line_used in
      let most = is.line_bytes.1 in
      let there : room_at (memory_of r) (number * r.line_bytes + at * 1) ≡ room_at (memory_of r) (number * r.line_bytes + at) =
      ap (room_at (memory_of r))
      (let e : number * r.line_bytes + at * 1 ≡ number * r.line_bytes + at = omega arith in e) in
      omega arith

  -- the first of the WRITEs that are left, as the line's first piece
  first_left : (at n : ℕ) → at < r.line_bytes → n ≡ run_length r number at →
      writes_from r number at ≡ write_at r number no_control at n ∷ writes_from r number (at + n)
  first_left at n inside long =
      let memory = memory_of r in
      let strip = line_strip r number in
      let s = span 0 r.line_bytes false in
      let same : longest memory strip s at ≡ n = sym (long ∙ run_longest at inside) in
      let next = next_cut memory strip s at each_fits (omega arith) inside in
      let here : cuts_left memory strip s at ≡ cut at n false ∷ cuts_left memory strip s (at + n) =
      next ∙ ap (λ (m : ℕ). cut at m false ∷ cuts_left memory strip s (at + m)) same
      in
      let one : n * 1 ≡ n = omega arith in
      let place : address_at memory (number * r.line_bytes + at * 1) ≡ address_at memory (number * r.line_bytes + at) =
      ap (address_at memory) (let e : number * r.line_bytes + at * 1 ≡ number * r.line_bytes + at = omega arith in e) in
      let plain : no_control ≡ control_at no_control (at + n == r.line_bytes) = plain_control (at + n == r.line_bytes) in
      ap (λ (cuts : List Cut). map (instr_of false) (pieces_of memory strip cuts)) here
      ∙ ap (λ (i : Instr). i ∷ writes_from r number (at + n)) (same_write no_control (control_at no_control (at + n == r.line_bytes))
      (at == 0) (at + n == r.line_bytes) (n * 1) n _ _ plain one place)
    where
      plain_control : (is_last : Bool) → no_control ≡ control_at no_control is_last
      plain_control true = refl
      plain_control false = refl

  pub none_left : (at : ℕ) → r.line_bytes ≤ at → writes_from r number at ≡ []
  none_left at done =
      ap (λ (cuts : List Cut). map (instr_of false) (pieces_of (memory_of r) (line_strip r number) cuts))
      (no_cut (memory_of r) (line_strip r number) (span 0 r.line_bytes false) at done)

  -- the same where the last has other control bits
  pub next_write : (last : Ctl) (at n : ℕ) → at < r.line_bytes → n ≡ run_length r number at → at + n ≤ r.line_bytes →
      last_with last (writes_from r number at) ≡ write_at r number last at n ∷ last_with last (writes_from r number (at + n))
  next_write last at n inside long within =
      let first = first_left at n inside long in
      ⊎_elim
      (λ more.
      let next = first_left (at + n) (run_length r number (at + n)) more refl in
      let not_last : at + n == r.line_bytes ≡ false = eqb-from-lt (at + n) r.line_bytes more in
      ap (last_with last) first
      ∙ last_more last _ _ _ (writes_from r number (at + n)) next
      ∙ ap (λ (i : Instr). i ∷ last_with last (writes_from r number (at + n)))
      (same_write (control_at no_control (at + n == r.line_bytes)) (control_at last (at + n == r.line_bytes)) (at == 0)
      (at + n == r.line_bytes) n n _ _
      (ap (control_at no_control) not_last ∙ sym (ap (control_at last) not_last)) refl refl))
      (λ end.
      let none = none_left (at + n) end in
      let is_last : at + n == r.line_bytes ≡ true = eq-eqb (at + n) r.line_bytes (omega arith) in
      ap (last_with last) (first ∙ ap (λ (xs : List Instr). write_at r number no_control at n ∷ xs) none)
      ∙ ap (λ (i : Instr). i ∷ []) (same_write last (control_at last (at + n == r.line_bytes)) (at == 0) (at + n == r.line_bytes) n n _ _
      (sym (ap (control_at last) is_last)) refl refl)
      ∙ ap (λ (xs : List Instr). write_at r number last at n ∷ last_with last xs) (sym none))
      (cases_lt (at + n) r.line_bytes)

  line_some : line_instrs r number
      ≡ write_at r number no_control 0 (run_length r number 0) ∷ writes_from r number (0 + run_length r number 0)
  line_some = let long = is.line_bytes.0 in line_is r number ∙ first_left 0 (run_length r number 0) (omega arith) refl

-- lines without other control bits

uncontrolled : (kind : PieceKind) (p : Piece) → with_control no_control (instr_by false kind p) ≡ instr_by false kind p
uncontrolled kind.Write p = refl
uncontrolled kind.WriteLuma p = refl
uncontrolled kind.Skip p = refl

last_uncontrolled : (pieces : List Piece) → last_with no_control (map (instr_of false) pieces) ≡ map (instr_of false) pieces
last_uncontrolled [] = refl
last_uncontrolled (p ∷ []) = ap (λ (i : Instr). i ∷ []) (uncontrolled p.kind p)
last_uncontrolled (p ∷ next ∷ rest) = ap (λ (xs : List Instr). instr_of false p ∷ xs) (last_uncontrolled (next ∷ rest))

-- lines one after the other

last_append : (ctl : Ctl) (xs ys : List Instr) (y : Instr) (rest : List Instr) → ys ≡ y ∷ rest →
    last_with ctl (xs ++ ys) ≡ xs ++ last_with ctl ys
last_append ctl [] ys y rest is = refl
last_append ctl (x ∷ []) ys y rest is = last_more ctl x y rest ys is
last_append ctl (x ∷ next ∷ xs) ys y rest is = ap (λ (more : List Instr). x ∷ more) (last_append ctl (next ∷ xs) ys y rest is)

append_some : (xs ys : List Instr) (x : Instr) (rest : List Instr) → xs ≡ x ∷ rest → xs ++ ys ≡ x ∷ (rest ++ ys)
append_some xs ys x rest is = ap (λ (all : List Instr). all ++ ys) is

module _ (r : Ring) (is : IsRing r) (ctl : Ctl) where
  last_line : (first : ℕ) →
      last_with ctl (lines_instrs r first 1) ≡ last_with ctl (line_instrs r first) ++ last_with ctl (lines_instrs r (first + 1) 0)
  last_line first = ap (last_with ctl) (append-nil (line_instrs r first)) ∙ sym (append-nil (last_with ctl (line_instrs r first)))

  line_more : (first count : ℕ) → first + suc (suc count) ≤ r.blocks * r.lines → last_with ctl (lines_instrs r first (suc (suc count)))
      ≡ last_with no_control (line_instrs r first) ++ last_with ctl (lines_instrs r (first + 1) (suc count))
  line_more first count within =
      last_append ctl (line_instrs r first) (lines_instrs r (first + 1) (suc count)) _ _
      (append_some (line_instrs r (first + 1)) (lines_instrs r (first + 1 + 1) count) _ _ (line_some r is (first + 1) (omega arith)))
      ∙ ap (λ (xs : List Instr). xs ++ last_with ctl (lines_instrs r (first + 1) (suc count)))
      (sym (last_uncontrolled (plan (memory_of r) (line_strip r first))))

  -- the next of the lines that are left
  next_by : (first count : ℕ) (is_last : Bool) → first + suc count ≤ r.blocks * r.lines → (is_last ≡ true → count ≡ 0) →
      (is_last ≡ false → 0 < count) →
      last_with ctl (lines_instrs r first (suc count))
      ≡ last_with (control_at ctl is_last) (line_instrs r first) ++ last_with ctl (lines_instrs r (first + 1) count)
  next_by first zero true within at_last before = last_line first
  next_by first zero false within at_last before = let some = before refl in absurd (omega arith)
  next_by first (suc count) true within at_last before = let none = at_last refl in absurd (omega arith)
  next_by first (suc count) false within at_last before = line_more first count within

  pub next_line : (first n lines : ℕ) → n < lines → first + lines ≤ r.blocks * r.lines →
      last_with ctl (lines_instrs r (first + n) (lines - n)) ≡ last_with (control_at ctl (n + 1 == lines)) (line_instrs r (first + n))
      ++ last_with ctl (lines_instrs r (first + (n + 1)) (lines - (n + 1)))
  next_line first n lines inside within =
      let count : lines - n ≡ suc (lines - (n + 1)) = omega arith in
      let after : first + n + 1 ≡ first + (n + 1) = omega arith in
      ap (λ (c : ℕ). last_with ctl (lines_instrs r (first + n) c)) count
      ∙ next_by (first + n) (lines - (n + 1)) (n + 1 == lines) (omega arith)
      (λ same. let e = eqb-true (n + 1) lines same in omega arith)
      (λ other. ⊎_elim (λ more. omega arith)
      (λ done. let same = eq-eqb (n + 1) lines (omega arith) in absurd (false≢true (sym other ∙ same))) (cases_lt (n + 1) lines))
      ∙ ap (λ (m : ℕ).
      last_with (control_at ctl (n + 1 == lines)) (line_instrs r (first + n)) ++ last_with ctl (lines_instrs r m (lines - (n + 1)))) after

-- one block more
pub next_block : (r : Ring) (block : ℕ) → blocks_instrs r 0 (suc block) ≡ blocks_instrs r 0 block ++ block_instrs r block
next_block r block =
    blocks_more (block_instrs r) 0 block
    ∙ ap (λ (n : ℕ). blocks_instrs r 0 block ++ block_instrs r n) (let e : 0 + block ≡ block = omega arith in e)
  where
    regroup : (a b c : List Instr) → a ++ (b ++ c) ≡ (a ++ b) ++ c
    regroup a b c = sym (append_assoc a b c)

    blocks_more : (instrs : ℕ → List Instr) (first count : ℕ) →
        flat_map instrs (range_with_len first (suc count)) ≡ flat_map instrs (range_with_len first count) ++ instrs (first + count)
    blocks_more instrs first zero = append-nil (instrs first) ∙ ap instrs (let e : first ≡ first + 0 = omega arith in e)
    blocks_more instrs first (suc count) =
        ap (λ (more : List Instr). instrs first ++ more) (blocks_more instrs (first + 1) count)
        ∙ regroup (instrs first) (flat_map instrs (range_with_len (first + 1) count)) (instrs (first + 1 + count))
        ∙ ap (λ (n : ℕ). (instrs first ++ flat_map instrs (range_with_len (first + 1) count)) ++ instrs n)
        (let e : first + 1 + count ≡ first + suc count = omega arith in e)
