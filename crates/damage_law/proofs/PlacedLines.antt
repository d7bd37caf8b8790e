-- Where the lines of a field are in its section.
use Rattle.std.proofs.Common.{◌≡◌, ℕ, zero, suc, ◌+◌, ◌*◌, ◌<◌, ◌⊎◌, inl, inr, List, [], ◌∷◌, ◌++◌, append_assoc, length, map, replicate}
use Rattle.std.proofs.Common.{true, false, Ok, Err, refl, sym, ap, ap₂, ◌∙◌, subst, arith}
use Rattle.std.specs.List.{flat_map, range_with_len}
use Rattle.std.proofs.lemmas.Grind.{flat_map-append}
use Rattle.std.proofs.lemmas.List.{append-nil, map-append}
use Rattle.std.proofs.lemmas.Simd.{map-map}
use Rattle.risc_word.specs.declared.Ctl.{Ctl}
use Rattle.risc_word.specs.declared.Instr.{Instr}
use Rattle.risc_word.specs.Words.{Reading, encoded}
use Rattle.pixel_layout.specs.declared.Parity.{Parity}
use Rattle.machine_model.specs.Paths.{RiscProgram, fetch}
use Rattle.capture_desc.specs.declared.desc.Desc.{Desc}
use Rattle.picture_model.specs.Described.{both, describes, field_height, layout_of, memory_of, picture_row, rows_of, vbi_skip}
use Rattle.picture_model.specs.Plans.{Cut, Strip, piece_of, row_strip, skipped_strip, skipped_vbi_strip, vbi_strip}
use Rattle.picture_model.specs.Programs.{body, data_code, instr_of, line_instrs, lines_instrs}
use Rattle.picture_model.specs.Programs.{signal, sync, vbi_from, vbi_instrs, vbi_strips}
use Rattle.picture_model.proofs.Each.{Each, each_append, each_map, each_range, each_replicate}
use Rattle.field_law.specs.Sections.{HoldsFrom, words_in}
use Rattle.damage_model.specs.Marks.{addresses_from, before_rows, lines_from, row_addresses_at}
use Rattle.damage_model.proofs.Held.{IsHeld}
use Rattle.damage_model.proofs.Pieces.{IsLineOf, IsPlace, Kind, OfVbi, OfSkippedVbi, OfSkipped, OfRow, PieceAt, cuts_on, strip_of}
use Rattle.damage_law.proofs.Compiled.{line_parts, lines_append, lines_instrs_of, lines_split, parts_before, section_lines_at}
use Rattle.damage_law.proofs.Compiled.{vbi_parts_from}
use Rattle.damage_law.proofs.Compiled.{words_append}
use Rattle.damage_law.proofs.Sections.{Part, Await, instrs_of, lines_at}

-- ---- lists

map_split : {A B : Type 0} (f : A → B) (xs : List A) (pre : List B) (y : B) (post : List B) → map f xs ≡ pre ++ y ∷ post →
    (before : List A) × (x : A) × (after : List A) × (xs ≡ before ++ x ∷ after) × (f x ≡ y) × (map f before ≡ pre)
map_split f [] [] y post is = cc
map_split f [] (z ∷ pre) y post is = cc
map_split f (x ∷ xs) [] y post is = ([], x, xs, refl, cc, refl)
map_split f (x ∷ xs) (z ∷ pre) y post is =
    let first : f x ≡ z = cc in
    let rest : map f xs ≡ pre ++ y ∷ post = cc in
    let more = map_split f xs pre y post rest in
    (x ∷ more.0, more.1, more.2, ap (λ (l : List _). x ∷ l) more.3, more.4, ap₂ (λ (a : _) (l : List _). a ∷ l) first more.5)

address_split : (x : ℕ) (instrs : List Instr) (done more : List ℕ) (here : ℕ) → addresses_from x instrs ≡ done ++ here ∷ more →
    (pre : List Instr) × (i : Instr) × (post : List Instr) × (instrs ≡ pre ++ i ∷ post) × (here ≡ x + 4 * words_in pre)
address_split x [] [] more here is = cc
address_split x [] (a ∷ done) more here is = cc
address_split x (i ∷ instrs) [] more here is = let first : x ≡ here = cc in ([], i, instrs, refl, omega arith)
address_split x (i ∷ instrs) (a ∷ done) more here is =
    let rest : addresses_from (x + 4 * length (encoded i)) instrs ≡ done ++ here ∷ more = cc in
    let later = address_split (x + 4 * length (encoded i)) instrs done more here rest in
    let there = later.4 in
    (i ∷ later.0, later.1, later.2, ap (λ (l : List Instr). i ∷ l) later.3, omega arith)

pub holds_behind : (program : RiscProgram) (at : ℕ) (first later : List Instr) (ctl : Ctl) (to : ℕ) →
    HoldsFrom program at (first ++ later) ctl to → HoldsFrom program (at + 4 * words_in first) later ctl to
holds_behind program at [] later ctl to holds =
    let same : at ≡ at + 4 * 0 = omega arith in
    subst (λ (n : ℕ). HoldsFrom program n later ctl to) same holds
holds_behind program at (i ∷ first) later ctl to holds =
    let same : at + 4 * length (encoded i) + 4 * words_in first ≡ at + 4 * words_in (i ∷ first) = omega arith in
    subst (λ (n : ℕ). HoldsFrom program n later ctl to) same (holds_behind program (at + 4 * length (encoded i)) first later ctl to holds.3)

abbrev read_or : Instr → Reading → Instr
read_or other (Ok (i, n)) = i
read_or other (Err fault) = other

pub instr_of_read : (i j : Instr) (n k : ℕ) (program : RiscProgram) (at : ℕ) → fetch program at ≡ Ok (i, n) →
    fetch program at ≡ Ok (j, k) → i ≡ j
instr_of_read i j n k program at one two = ap (read_or i) (sym one ∙ two)

module _ (d : Desc) (held : IsHeld d) (field : Parity) (described : describes d.fields field ≡ true) where
  abbrev pub line_of : Kind → List Instr
  line_of kind = line_instrs d (strip_of d held field described kind)

  abbrev pub IsOne : Kind → Type 0
  IsOne kind = IsLineOf d held field described kind

  -- the words of the first so many lines
  abbrev pub words_to : (ℕ → List Instr) → ℕ → ℕ
  words_to lines zero = 0
  words_to lines (suc n) = words_to lines n + words_in (lines n)

  abbrev pub rows_begin : ℕ
  rows_begin = held.begin field + 4 * words_in (before_rows d field)

  -- the VBI lines are behind those that are skipped
  abbrev pub skipped_vbi_instrs : List Instr
  skipped_vbi_instrs = lines_instrs d (replicate (vbi_skip d field) (skipped_vbi_strip d))

  abbrev pub vbi_begin : ℕ
  vbi_begin = held.begin field + 16 + 4 * words_in skipped_vbi_instrs

  abbrev pub begin_of : Kind → ℕ
  begin_of (OfVbi line) = vbi_begin + 4 * words_to (λ n. line_of (OfVbi n)) line
  begin_of OfSkippedVbi = 0
  begin_of OfSkipped = 0
  begin_of (OfRow row) = rows_begin + 4 * words_to (λ n. line_of (OfRow n)) row

  abbrev pub words_before : Kind → List Cut → ℕ
  words_before kind cuts =
      4 * words_in (map (instr_of (strip_of d held field described kind).planar)
      (map (piece_of (memory_of d) (strip_of d held field described kind)) cuts))

  abbrev pub PieceThere : ℕ → Instr → Type 0
  PieceThere a i = PieceAt d held field described begin_of words_before a i

  abbrev pub IsBegin : Kind → ℕ → Type 0
  IsBegin OfSkippedVbi x = Unit {0}
  IsBegin OfSkipped x = Unit {0}
  IsBegin (OfVbi line) x = x ≡ begin_of (OfVbi line)
  IsBegin (OfRow row) x = x ≡ begin_of (OfRow row)

  place_by : (kind : Kind) (x here : ℕ) (before : List Cut) → IsBegin kind x → here ≡ x + words_before kind before →
      IsPlace d held field described begin_of words_before kind here before
  place_by OfSkippedVbi x here before begins is = tt
  place_by OfSkipped x here before begins is = tt
  place_by (OfVbi line) x here before begins is = is ∙ ap (λ (n : ℕ). n + words_before (OfVbi line) before) begins
  place_by (OfRow row) x here before begins is = is ∙ ap (λ (n : ℕ). n + words_before (OfRow row) before) begins

  -- an instruction of a line
  pub on_line : (kind : Kind) (x : ℕ) (tail : List Instr) (ctl : Ctl) (to : ℕ) (done more : List ℕ) (here : ℕ) (instr : Instr) →
      IsOne kind → IsBegin kind x →
      HoldsFrom held.program x (line_of kind ++ tail) ctl to → addresses_from x (line_of kind) ≡ done ++ here ∷ more →
      fetch held.program here ≡ Ok (instr, length (encoded instr)) → PieceThere here instr
  on_line kind x tail ctl to done more here instr within begins holds is read =
      let strip = strip_of d held field described kind in
      let at = address_split x (line_of kind) done more here is in
      let pieces =
      map_split (instr_of strip.planar) (map (piece_of (memory_of d) strip) (cuts_on d held field described kind)) at.0 at.1 at.2 at.3 in
      let cuts = map_split (piece_of (memory_of d) strip) (cuts_on d held field described kind) pieces.0 pieces.1 pieces.2 pieces.3 in
      let pre : at.0 ≡ map (instr_of strip.planar) (map (piece_of (memory_of d) strip) cuts.0) =
      sym pieces.5 ∙ ap (map (instr_of strip.planar)) (sym cuts.5) in
      let there = holds_behind held.program x at.0 (at.1 ∷ at.2 ++ tail) ctl to
      (subst (λ (l : List Instr). HoldsFrom held.program x l ctl to)
      (ap (λ (l : List Instr). l ++ tail) at.3 ∙ append_assoc at.0 (at.1 ∷ at.2) tail) holds) in
      let same : instr ≡ at.1 =
      instr_of_read instr at.1 (length (encoded instr)) (length (encoded at.1)) held.program here read
      (ap (fetch held.program) at.4 ∙ there.0) in
      record {
        kind = kind;
        within = within;
        before = cuts.0;
        k = cuts.1;
        after = cuts.2;
        split = cuts.3;
        is = same ∙ sym pieces.4 ∙ ap (instr_of strip.planar) (sym cuts.4);
        read = read;
        there = place_by kind x here cuts.0 begins (at.4 ∙ ap (λ (l : List Instr). x + 4 * words_in l) pre);
      }

  -- lines one after another
  abbrev pub BeginAt : ℕ → List Kind → Type 0
  BeginAt x [] = Unit {0}
  BeginAt x (kind ∷ kinds) = IsBegin kind x × BeginAt (x + 4 * words_in (line_of kind)) kinds

  abbrev pub lines_of : List Kind → List Instr
  lines_of kinds = flat_map line_of kinds

  on_lines : (kinds : List Kind) (x : ℕ) (tail : List Instr) (ctl : Ctl) (to : ℕ) (lines later : List (List ℕ)) (done more : List ℕ)
      (here : ℕ) (instr : Instr) → Each IsOne kinds → BeginAt x kinds →
      HoldsFrom held.program x (lines_of kinds ++ tail) ctl to → lines_from x (map line_of kinds) ≡ lines ++ (done ++ here ∷ more) ∷ later →
      fetch held.program here ≡ Ok (instr, length (encoded instr)) → PieceThere here instr
  on_lines [] x tail ctl to [] later done more here instr each begins holds is read = cc
  on_lines [] x tail ctl to (line ∷ lines) later done more here instr each begins holds is read = cc
  on_lines (kind ∷ kinds) x tail ctl to [] later done more here instr each begins holds is read =
      let first : addresses_from x (line_of kind) ≡ done ++ here ∷ more = cc in
      on_line kind x (lines_of kinds ++ tail) ctl to done more here instr each.0 begins.0
      (subst (λ (l : List Instr). HoldsFrom held.program x l ctl to) (append_assoc (line_of kind) (lines_of kinds) tail) holds) first read
  on_lines (kind ∷ kinds) x tail ctl to (line ∷ lines) later done more here instr each begins holds is read =
      let rest : lines_from (x + 4 * words_in (line_of kind)) (map line_of kinds) ≡ lines ++ (done ++ here ∷ more) ∷ later = cc in
      on_lines kinds (x + 4 * words_in (line_of kind)) tail ctl to lines later done more here instr each.1 begins.1
      (holds_behind held.program x (line_of kind) (lines_of kinds ++ tail) ctl to
      (subst (λ (l : List Instr). HoldsFrom held.program x l ctl to) (append_assoc (line_of kind) (lines_of kinds) tail) holds)) rest read

  -- ---- the rows

  abbrev pub rows_from : ℕ → ℕ → List Kind
  rows_from n count = map OfRow (range_with_len n count)

  pub rows_begin_at : (n count : ℕ) → BeginAt (rows_begin + 4 * words_to (λ k. line_of (OfRow k)) n) (rows_from n count)
  rows_begin_at n zero = tt
  rows_begin_at n (suc count) =
      let next : suc n ≡ n + 1 = omega arith in
      let there : rows_begin + 4 * words_to (λ k. line_of (OfRow k)) (suc n)
      ≡ rows_begin + 4 * words_to (λ k. line_of (OfRow k)) n + 4 * words_in (line_of (OfRow n)) = omega arith in (
        refl,
        subst (λ (x : ℕ). BeginAt x (rows_from (n + 1) count)) there
            (subst (λ (k : ℕ). BeginAt (rows_begin + 4 * words_to (λ k. line_of (OfRow k)) k) (rows_from (n + 1) count)) (sym next)
            (rows_begin_at (n + 1) count)),
      )

  abbrev vbi_from_line : ℕ → ℕ → List Kind
  vbi_from_line n count = map OfVbi (range_with_len n count)

  vbi_begin_at : (n count : ℕ) → BeginAt (vbi_begin + 4 * words_to (λ k. line_of (OfVbi k)) n) (vbi_from_line n count)
  vbi_begin_at n zero = tt
  vbi_begin_at n (suc count) =
      let next : suc n ≡ n + 1 = omega arith in
      let there : vbi_begin + 4 * words_to (λ k. line_of (OfVbi k)) (suc n)
      ≡ vbi_begin + 4 * words_to (λ k. line_of (OfVbi k)) n + 4 * words_in (line_of (OfVbi n)) = omega arith in (
        refl,
        subst (λ (x : ℕ). BeginAt x (vbi_from_line (n + 1) count)) there
            (subst (λ (k : ℕ). BeginAt (vbi_begin + 4 * words_to (λ k. line_of (OfVbi k)) k) (vbi_from_line (n + 1) count)) (sym next)
            (vbi_begin_at (n + 1) count)),
      )

  skipped_begin_at : (x count : ℕ) → BeginAt x (replicate count OfSkipped)
  skipped_begin_at x zero = tt
  skipped_begin_at x (suc count) = (tt, skipped_begin_at (x + 4 * words_in (line_of OfSkipped)) count)

  skipped_vbi_begin_at : (x count : ℕ) (rest : List Kind) →
      BeginAt (x + 4 * words_in (lines_instrs d (replicate count (skipped_vbi_strip d)))) rest →
      BeginAt x (replicate count OfSkippedVbi ++ rest)
  skipped_vbi_begin_at x zero rest begins = let same : x + 4 * 0 ≡ x = omega arith in subst (λ (n : ℕ). BeginAt n rest) same begins
  skipped_vbi_begin_at x (suc count) rest begins =
      let more = lines_instrs d (replicate count (skipped_vbi_strip d)) in
      let words = words_append d (line_of OfSkippedVbi) more in
      let there : x + 4 * words_in (line_of OfSkippedVbi ++ more) ≡ x + 4 * words_in (line_of OfSkippedVbi) + 4 * words_in more =
      omega arith in
      (tt, skipped_vbi_begin_at (x + 4 * words_in (line_of OfSkippedVbi)) count rest (subst (λ (n : ℕ). BeginAt n rest) there begins))

-- ---- lists of lines

lines_by : {A B C : Type 0} (f : B → List C) (g : A → B) (xs : List A) → flat_map f (map g xs) ≡ flat_map (λ x. f (g x)) xs
lines_by f g [] = refl
lines_by f g (x ∷ xs) = ap (λ (rest : List _). f (g x) ++ rest) (lines_by f g xs)

append_member : {A : Type 0} (xs ys lines : List A) (line : A) (later : List A) → xs ++ ys ≡ lines ++ line ∷ later →
    ((rest : List A) × (xs ≡ lines ++ line ∷ rest)) ⊎ ((first : List A) × (ys ≡ first ++ line ∷ later))
append_member [] ys lines line later is = inr (lines, is)
append_member (x ∷ xs) ys [] line later is = let same : x ≡ line = cc in inl (xs, ap (λ a. a ∷ xs) same)
append_member (x ∷ xs) ys (l ∷ lines) line later is =
    let same : x ≡ l = cc in
    let rest : xs ++ ys ≡ lines ++ line ∷ later = cc in
    elim (append_member xs ys lines line later rest) [
      | inl found ↦ inl (found.0, ap₂ (λ (a : _) (more : List _). a ∷ more) same found.1)
      | inr found ↦ inr found
    ]

parts_lines : (d : Desc) (strips : List Strip) (x : ℕ) → lines_at x (line_parts d strips) ≡ lines_from x (map (line_instrs d) strips)
parts_lines d [] x = refl
parts_lines d (strip ∷ strips) x =
    ap (λ (ls : List (List ℕ)). addresses_from x (line_instrs d strip) ∷ ls) (parts_lines d strips (x + 4 * words_in (line_instrs d strip)))

module _ (d : Desc) (held : IsHeld d) (field : Parity) (described : describes d.fields field ≡ true) (kind : Kind) where
  map_replicate : (count : ℕ) → map (line_of d held field described) (replicate count kind)
      ≡ map (line_instrs d) (replicate count (strip_of d held field described kind))
  map_replicate zero = refl
  map_replicate (suc count) = ap (λ (ls : List (List Instr)). line_of d held field described kind ∷ ls) (map_replicate count)

  flat_replicate : (count : ℕ) →
      lines_instrs d (replicate count (strip_of d held field described kind)) ≡ lines_of d held field described (replicate count kind)
  flat_replicate zero = refl
  flat_replicate (suc count) = ap (λ (is : List Instr). line_of d held field described kind ++ is) (flat_replicate count)

-- ---- a field's section

module _ (d : Desc) (held : IsHeld d) (field : Parity) (described : describes d.fields field ≡ true) where
  abbrev begin : ℕ
  begin = held.begin field

  abbrev code_sync : Instr
  code_sync = sync false (data_code (layout_of d).planar)

  abbrev pub row_kinds : List Kind
  row_kinds = rows_from d held field described 0 (field_height d field)

  abbrev skipped_kinds : List Kind
  skipped_kinds = replicate d.skip_lines OfSkipped

  abbrev pub to : ℕ
  to = held.next field

  rows_flat : lines_instrs d (map (row_strip d) (rows_of d field)) ≡ lines_of d held field described row_kinds
  rows_flat =
      lines_by (line_instrs d) (row_strip d) (rows_of d field)
      ∙ lines_by (λ row. line_instrs d (row_strip d row)) (picture_row (both d) field) (range_with_len 0 (field_height d field))
      ∙ sym (lines_by (line_of d held field described) OfRow (range_with_len 0 (field_height d field)))

  pub rows_map : map (λ row. line_instrs d (row_strip d row)) (rows_of d field) ≡ map (line_of d held field described) row_kinds
  rows_map =
      map-map (λ row. line_instrs d (row_strip d row)) (picture_row (both d) field) (range_with_len 0 (field_height d field))
      ∙ sym (map-map (line_of d held field described) OfRow (range_with_len 0 (field_height d field)))

  -- what is behind the opening
  body_split : body d field ≡ (vbi_instrs d field ++ code_sync ∷ lines_instrs d (replicate d.skip_lines (skipped_strip d)))
      ++ lines_of d held field described row_kinds
  body_split =
      ap (λ (is : List Instr). vbi_instrs d field ++ code_sync ∷ is)
      (flat_map-append (line_instrs d) (replicate d.skip_lines (skipped_strip d)) (map (row_strip d) (rows_of d field)))
      ∙ ap
      (λ (is : List Instr). vbi_instrs d field ++ code_sync ∷ (lines_instrs d (replicate d.skip_lines (skipped_strip d)) ++ is)) rows_flat
      ∙ sym (append_assoc (vbi_instrs d field) (code_sync ∷ lines_instrs d (replicate d.skip_lines (skipped_strip d)))
      (lines_of d held field described row_kinds))

  pub rows_hold : HoldsFrom held.program (rows_begin d held field described) (lines_of d held field described row_kinds ++ [])
      (signal field) to
  rows_hold =
      let first = vbi_instrs d field ++ code_sync ∷ lines_instrs d (replicate d.skip_lines (skipped_strip d)) in
      let there : begin + 8 + 4 * words_in first ≡ rows_begin d held field described = omega arith in
      subst (λ (is : List Instr). HoldsFrom held.program (rows_begin d held field described) is (signal field) to)
      (sym (append-nil (lines_of d held field described row_kinds)))
      (subst (λ (x : ℕ). HoldsFrom held.program x (lines_of d held field described row_kinds) (signal field) to) there
      (holds_behind held.program (begin + 8) first (lines_of d held field described row_kinds) (signal field) to
      (subst (λ (is : List Instr). HoldsFrom held.program (begin + 8) is (signal field) to) body_split
      (held.holds field described))))

  in_rows : (lines later : List (List ℕ)) (done more : List ℕ) (here : ℕ) (instr : Instr) →
      row_addresses_at (held.begin field) d field ≡ lines ++ (done ++ here ∷ more) ∷ later →
      fetch held.program here ≡ Ok (instr, length (encoded instr)) → PieceThere d held field described here instr
  in_rows lines later done more here instr is read =
      let start : rows_begin d held field described + 4 * 0 ≡ rows_begin d held field described = omega arith in
      on_lines d held field described row_kinds (rows_begin d held field described) [] (signal field) to lines later done more here instr
      (each_map (λ k. k < field_height d field) (IsLineOf d held field described) OfRow (range_with_len 0 (field_height d field))
      (λ k less. less) (each_range 0 (field_height d field) (field_height d field) (omega arith)))
      (subst (λ (x : ℕ). BeginAt d held field described x row_kinds) start
      (rows_begin_at d held field described 0 (field_height d field)))
      rows_hold (ap (lines_from (rows_begin d held field described)) (sym rows_map) ∙ is) read

  -- ---- the lines before them

  abbrev behind_vbi : List Instr
  behind_vbi =
      code_sync ∷ (lines_instrs d (replicate d.skip_lines (skipped_strip d)) ++ lines_instrs d (map (row_strip d) (rows_of d field)))

  body_holds : HoldsFrom held.program (begin + 8) (vbi_instrs d field ++ behind_vbi) (signal field) to
  body_holds =
      subst (λ (is : List Instr). HoldsFrom held.program (begin + 8) (vbi_instrs d field ++ code_sync ∷ is) (signal field) to)
      (flat_map-append (line_instrs d) (replicate d.skip_lines (skipped_strip d)) (map (row_strip d) (rows_of d field)))
      (held.holds field described)

  abbrev skipped_parts : List Part
  skipped_parts = line_parts d (replicate d.skip_lines (skipped_strip d))

  in_skipped : (x : ℕ) (lines later : List (List ℕ)) (done more : List ℕ) (here : ℕ) (instr : Instr) →
      HoldsFrom held.program x behind_vbi (signal field) to →
      lines_at x (Await (data_code (layout_of d).planar) ∷ skipped_parts) ≡ lines ++ (done ++ here ∷ more) ∷ later →
      fetch held.program here ≡ Ok (instr, length (encoded instr)) → PieceThere d held field described here instr
  in_skipped x lines later done more here instr holds is read =
      on_lines d held field described skipped_kinds (x + 8) (lines_instrs d (map (row_strip d) (rows_of d field)))
      (signal field) to lines later done more here instr
      (each_replicate (IsLineOf d held field described) d.skip_lines OfSkipped tt)
      (skipped_begin_at d held field described (x + 8) d.skip_lines)
      (subst (λ (is : List Instr). HoldsFrom held.program (x + 8) (is ++ lines_instrs d (map (row_strip d) (rows_of d field)))
      (signal field) to) (flat_replicate d held field described OfSkipped d.skip_lines) holds.3)
      (ap (lines_from (x + 8)) (map_replicate d held field described OfSkipped d.skip_lines)
      ∙ sym (parts_lines d (replicate d.skip_lines (skipped_strip d)) (x + 8)) ∙ is) read

  abbrev skipped_vbi_kinds : List Kind
  skipped_vbi_kinds = replicate (vbi_skip d field) OfSkippedVbi

  abbrev kept_vbi_kinds : List Kind
  kept_vbi_kinds = vbi_from_line d held field described 0 d.vbi_lines

  abbrev vbi_kinds : List Kind
  vbi_kinds = skipped_vbi_kinds ++ kept_vbi_kinds

  abbrev skipped_vbi_strips : List Strip
  skipped_vbi_strips = replicate (vbi_skip d field) (skipped_vbi_strip d)

  abbrev kept_vbi_strips : List Strip
  kept_vbi_strips = map (vbi_strip d field) (range_with_len 0 d.vbi_lines)

  vbi_flat : lines_instrs d (vbi_strips d field) ≡ lines_of d held field described vbi_kinds
  vbi_flat =
      flat_map-append (line_instrs d) skipped_vbi_strips kept_vbi_strips
      ∙ ap₂ (λ (xs ys : List Instr). xs ++ ys) (flat_replicate d held field described OfSkippedVbi (vbi_skip d field))
      (lines_by (line_instrs d) (vbi_strip d field) (range_with_len 0 d.vbi_lines)
      ∙ sym (lines_by (line_of d held field described) OfVbi (range_with_len 0 d.vbi_lines)))
      ∙ sym (flat_map-append (line_of d held field described) skipped_vbi_kinds kept_vbi_kinds)

  vbi_map : map (line_instrs d) (vbi_strips d field) ≡ map (line_of d held field described) vbi_kinds
  vbi_map =
      map-append (line_instrs d) skipped_vbi_strips kept_vbi_strips
      ∙ ap₂ (λ (xs ys : List (List Instr)). xs ++ ys) (sym (map_replicate d held field described OfSkippedVbi (vbi_skip d field)))
      (map-map (line_instrs d) (vbi_strip d field) (range_with_len 0 d.vbi_lines)
      ∙ sym (map-map (line_of d held field described) OfVbi (range_with_len 0 d.vbi_lines)))
      ∙ sym (map-append (line_of d held field described) skipped_vbi_kinds kept_vbi_kinds)

  vbi_are_lines : Each (IsLineOf d held field described) vbi_kinds
  vbi_are_lines =
      each_append (IsLineOf d held field described) skipped_vbi_kinds kept_vbi_kinds
      (each_replicate (IsLineOf d held field described) (vbi_skip d field) OfSkippedVbi tt)
      (each_map (λ k. k < d.vbi_lines) (IsLineOf d held field described) OfVbi (range_with_len 0 d.vbi_lines) (λ k less. less)
      (each_range 0 d.vbi_lines d.vbi_lines (omega arith)))

  vbi_begin_there : BeginAt d held field described (begin + 16) vbi_kinds
  vbi_begin_there =
      let start : vbi_begin d held field described + 4 * 0 ≡ begin + 16 + 4 * words_in (skipped_vbi_instrs d held field described) =
      omega arith in
      skipped_vbi_begin_at d held field described (begin + 16) (vbi_skip d field) kept_vbi_kinds
      (subst (λ (at : ℕ). BeginAt d held field described at kept_vbi_kinds) start (vbi_begin_at d held field described 0 d.vbi_lines))

  in_before : (n : ℕ) (lines later : List (List ℕ)) (done more : List ℕ) (here : ℕ) (instr : Instr) →
      HoldsFrom held.program (begin + 8) (vbi_from n d field ++ behind_vbi) (signal field) to →
      lines_at (begin + 8) (vbi_parts_from d n field ++ Await (data_code (layout_of d).planar) ∷ skipped_parts)
      ≡ lines ++ (done ++ here ∷ more) ∷ later → fetch held.program here ≡ Ok (instr, length (encoded instr)) →
      PieceThere d held field described here instr
  in_before zero lines later done more here instr holds is read = in_skipped (begin + 8) lines later done more here instr holds is read
  in_before (suc n) lines later done more here instr holds is read =
      let code = Await (data_code (layout_of d).planar) in
      let first = line_parts d (vbi_strips d field) in
      let x = begin + 16 in
      let there : begin + 8 + 8 ≡ x = omega arith in
      let behind : HoldsFrom held.program x (lines_instrs d (vbi_strips d field) ++ behind_vbi) (signal field) to =
      subst (λ (at : ℕ). HoldsFrom held.program at (lines_instrs d (vbi_strips d field) ++ behind_vbi) (signal field) to) there holds.3 in
      let both : lines_at x first ++ lines_at (x + 4 * words_in (instrs_of first)) (code ∷ skipped_parts)
      ≡ lines ++ (done ++ here ∷ more) ∷ later =
      sym (lines_append d first (code ∷ skipped_parts) x) ∙ ap (λ (at : ℕ). lines_at at (first ++ code ∷ skipped_parts)) (sym there) ∙ is in
      elim (append_member (lines_at x first) (lines_at (x + 4 * words_in (instrs_of first)) (code ∷ skipped_parts)) lines
      (done ++ here ∷ more) later both) [
        | inl found ↦ on_lines d held field described vbi_kinds x behind_vbi (signal field) to lines found.0 done more here instr
            vbi_are_lines vbi_begin_there
            (subst (λ (is : List Instr). HoldsFrom held.program x (is ++ behind_vbi) (signal field) to) vbi_flat behind)
            (ap (lines_from x) (sym vbi_map) ∙ sym (parts_lines d (vbi_strips d field) x) ∙ found.1) read
        | inr found ↦ in_skipped (x + 4 * words_in (instrs_of first)) found.0 later done more here instr
            (subst (λ (is : List Instr). HoldsFrom held.program (x + 4 * words_in is) behind_vbi (signal field) to)
            (sym (lines_instrs_of d (vbi_strips d field)))
            (holds_behind held.program x (lines_instrs d (vbi_strips d field)) behind_vbi (signal field) to behind))
            found.1 read
      ]

  -- an instruction whose address is among those of the section's lines
  pub piece_there : (lines later : List (List ℕ)) (done more : List ℕ) (here : ℕ) (instr : Instr) →
      section_lines_at d (held.begin field) field ≡ lines ++ (done ++ here ∷ more) ∷ later →
      fetch held.program here ≡ Ok (instr, length (encoded instr)) → PieceThere d held field described here instr
  piece_there lines later done more here instr is read =
      elim (append_member (lines_at (begin + 8) (parts_before d field)) (row_addresses_at (held.begin field) d field) lines
      (done ++ here ∷ more) later
      (sym (lines_split d (held.begin field) field) ∙ is)) [
        | inl found ↦ in_before d.vbi_lines lines found.0 done more here instr body_holds found.1 read
        | inr found ↦ in_rows found.0 later done more here instr found.1 read
      ]
