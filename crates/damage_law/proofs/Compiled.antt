-- The section of a field in its description's program, as parts and lines.
use Rattle.std.proofs.Common.{◌≡◌, ℕ, zero, suc, ◌+◌, ◌*◌, ◌/◌, ◌<◌, ◌≤◌, Bool, true, false, not, ◌&&◌, ◌==◌, List, [], ◌∷◌, ◌++◌}
use Rattle.std.proofs.Common.{append_assoc, drop, length, length-append, map, Option, refl, sym, ap, ap₂, ◌∙◌, subst, arith, if◌then◌else◌}
use Rattle.std.specs.Prelude.{replicate}
use Rattle.std.specs.List.{range_with_len}
use Rattle.std.proofs.Math.Bool.{and-true}
use Rattle.std.proofs.Math.Nat.{mul-pos}
use Rattle.std.proofs.Math.Seq.{drop-append_seam}
use Rattle.std.proofs.lemmas.Bool.{and_parts, eq-eqb, ne_eqb}
use Rattle.std.proofs.lemmas.Grind.{flat_map-append}
use Rattle.std.proofs.lemmas.List.{length-replicate}
use Rattle.std.proofs.lemmas.List.FromFn.{length-map-range_with_len}
use Rattle.risc_word.specs.declared.Code.TheVariants.{Fm1}
use Rattle.risc_word.specs.declared.Instr.{Instr}
use Rattle.fifo_model.specs.declared.Queue.{Queue}
use Rattle.fifo_model.specs.declared.Queue.TheVariants.{One, Two, Three}
use Rattle.pixel_layout.specs.declared.Parity.{Parity}
use Rattle.page_table.specs.Grants.{Chunk}
use Rattle.machine_model.specs.Paths.{demands_of, is_data}
use Rattle.risc_word.specs.Parts.{instr_ends}
use Rattle.machine_model.specs.Turns.{demand_on}
use Rattle.capture_desc.specs.declared.desc.Desc.{Desc}
use Rattle.picture_model.specs.declared.PieceKind.{PieceKind}
use Rattle.picture_model.specs.declared.PieceKind.TheVariants.{Write, WriteLuma, Skip}
use Rattle.picture_model.specs.declared.Piece.{Piece}
use Rattle.picture_model.specs.Described.{IsDescription, both, describes, field_height, layout_of, memory_of, picture_row, rows_of}
use Rattle.picture_model.specs.Described.{vbi_skip}
use Rattle.picture_model.specs.Plans.{Cut, Follow, Strip, cuts_of, grain_bytes, grains_of, kind_of, piece_of, row_strip, skipped_strip}
use Rattle.picture_model.specs.Plans.{skipped_vbi_strip, vbi_strip}
use Rattle.picture_model.specs.Programs.{body, data_code, instr_by, instr_of, line_instrs, lines_instrs, section_begin, sync, vbi_from}
use Rattle.picture_model.specs.Programs.{vbi_instrs, vbi_strips}
use Rattle.picture_model.proofs.Each.{Each, each_append, each_map, each_range, each_replicate}
use Rattle.picture_model.proofs.Grains.{row_grains}
use Rattle.picture_model.proofs.FaultlessGeometry.{IsRight}
use Rattle.picture_model.proofs.Limit.{vbi_skip_few}
use Rattle.picture_model.proofs.Safe.{cuts_follow}
use Rattle.picture_model.proofs.Sections.{rows_below}
use Rattle.picture_model.proofs.Strips.{IsStrip, row-IsStrip, skipped-IsStrip, skipped_vbi-IsStrip, vbi-IsStrip}
use Rattle.field_law.specs.Sections.{words_in}
use Rattle.picture_law.specs.Pictures.{has_plane, plane_of}
use Rattle.picture_law.proofs.Cuts.{moves, on_queue, track_on}
use Rattle.picture_law.proofs.BytePlaces.{grain_some, queue_plane, row_track_on}
use Rattle.damage_model.specs.Marks.{addresses_from, before_rows, lines_from, row_addresses, row_addresses_at}
use Rattle.damage_model.proofs.Pieces.{cuts_further, plane_moves}
use Rattle.damage_map.specs.Before.{lines_before, vbi_count}
use Rattle.damage_map.specs.Tracks.{max_lines}
use Rattle.damage_law.proofs.Sections as parts
use Rattle.damage_law.proofs.Sections.{AreParts, GoesIn, IsCut, LineGoes, Part, Await, instrs_of, is_none, lines_at}

-- ---- an instruction of a line

module _ (sol eol : Bool) (clipped : Bool) (one two three a b c : ℕ) where
  abbrev piece : PieceKind → Piece
  piece kind = record { kind = kind; ends = record { sol = sol; eol = eol }; counts = one ∷ two ∷ three ∷ []; addrs = a ∷ b ∷ c ∷ [] }

  is_data_piece : (planar : Bool) (kind : PieceKind) → is_data (instr_by planar kind (piece kind)) ≡ true
  is_data_piece true Write = refl
  is_data_piece true WriteLuma = refl
  is_data_piece true Skip = refl
  is_data_piece false Write = refl
  is_data_piece false WriteLuma = refl
  is_data_piece false Skip = refl

  ends_piece : (planar : Bool) (kind : PieceKind) → (instr_ends (instr_by planar kind (piece kind))).eol ≡ eol
  ends_piece true Write = refl
  ends_piece true WriteLuma = refl
  ends_piece true Skip = refl
  ends_piece false Write = refl
  ends_piece false WriteLuma = refl
  ends_piece false Skip = refl

  -- what it asks of a queue that the line moves, and of another
  abbrev moved_rest : Bool → Queue → ℕ
  moved_rest true q = on_queue q one two three
  moved_rest false q = 0

  abbrev moved_sol : Bool → Queue → Bool
  moved_sol true q = sol && not (on_queue q one two three == 0)
  moved_sol false q = false

  rest_piece : (planar : Bool) (kind : PieceKind) (q : Queue) (target : Option ℕ) →
      (demand_on q (demands_of (instr_by planar kind (piece kind)) target)).rest ≡ moved_rest (moves planar q) q
  rest_piece true Write One target = refl
  rest_piece true Write Two target = refl
  rest_piece true Write Three target = refl
  rest_piece true WriteLuma One target = refl
  rest_piece true WriteLuma Two target = refl
  rest_piece true WriteLuma Three target = refl
  rest_piece true Skip One target = refl
  rest_piece true Skip Two target = refl
  rest_piece true Skip Three target = refl
  rest_piece false Write One target = refl
  rest_piece false Write Two target = refl
  rest_piece false Write Three target = refl
  rest_piece false WriteLuma One target = refl
  rest_piece false WriteLuma Two target = refl
  rest_piece false WriteLuma Three target = refl
  rest_piece false Skip One target = refl
  rest_piece false Skip Two target = refl
  rest_piece false Skip Three target = refl

  sol_piece : (planar : Bool) (kind : PieceKind) (q : Queue) (target : Option ℕ) →
      (demand_on q (demands_of (instr_by planar kind (piece kind)) target)).needs_sol ≡ moved_sol (moves planar q) q
  sol_piece true Write One target = refl
  sol_piece true Write Two target = refl
  sol_piece true Write Three target = refl
  sol_piece true WriteLuma One target = refl
  sol_piece true WriteLuma Two target = refl
  sol_piece true WriteLuma Three target = refl
  sol_piece true Skip One target = refl
  sol_piece true Skip Two target = refl
  sol_piece true Skip Three target = refl
  sol_piece false Write One target = refl
  sol_piece false Write Two target = refl
  sol_piece false Write Three target = refl
  sol_piece false WriteLuma One target = refl
  sol_piece false WriteLuma Two target = refl
  sol_piece false WriteLuma Three target = refl
  sol_piece false Skip One target = refl
  sol_piece false Skip Two target = refl
  sol_piece false Skip Three target = refl

  unmoved_by : (does : Bool) (q : Queue) → does ≡ false → moved_rest does q ≡ 0
  unmoved_by true q is = cc
  unmoved_by false q is = refl

  first_by : (does : Bool) (q : Queue) → (does ≡ true → 0 < on_queue q one two three) → moved_sol does q ≡ true →
      (sol ≡ true) × (0 < moved_rest does q)
  first_by true q some is = ((and_parts sol (not (on_queue q one two three == 0)) is).0, some refl)
  first_by false q some is = cc

  awaits_by : (does : Bool) (q : Queue) → (does ≡ true → 0 < on_queue q one two three) → does ≡ true →
      moved_sol does q ≡ false → sol ≡ false
  awaits_by true q some is none =
      let more = some refl in
      let nonzero : (on_queue q one two three == 0) ≡ false = ne_eqb (on_queue q one two three) 0 (λ zero_is. absurd (omega arith)) in
      sym (and-true sol) ∙ ap (λ (x : Bool). sol && not x) (sym nonzero) ∙ none
  awaits_by false q some is none = cc

  goes_piece : (planar : Bool) (kind : PieceKind) (begins last : Bool) → begins ≡ sol → eol ≡ last →
      ((q : Queue) → moves planar q ≡ true → 0 < on_queue q one two three) →
      GoesIn begins (moves planar) last (instr_by planar kind (piece kind))
  goes_piece planar kind begins last first_is last_is some =
      record {
        moves = is_data_piece planar kind;
        ends = ends_piece planar kind ∙ last_is;
        unmoved = λ q target is. rest_piece planar kind q target ∙ unmoved_by (moves planar q) q is;
        first =
            λ q target is.
            let parts = first_by (moves planar q) q (some q) (sym (sol_piece planar kind q target) ∙ is) in
            (first_is ∙ parts.0, subst (λ (n : ℕ). 0 < n) (sym (rest_piece planar kind q target)) parts.1);
        awaits = λ q target does none. first_is ∙ awaits_by (moves planar q) q (some q) does (sym (sol_piece planar kind q target) ∙ none);
      }

-- ---- the instructions of a line

-- a line that can be cut, of some grains, each of which has bytes on each queue that the line moves
pub record IsLaid (memory : List Chunk) (strip : Strip) : Type 0 where
  pub fit : IsStrip memory strip
  pub some : 0 < strip.grains
  pub sizes : (q : Queue) → moves strip.planar q ≡ true → 0 < (track_on q strip).size

module _ (memory : List Chunk) (strip : Strip) (laid : IsLaid memory strip) where
  count_on : (k : Cut) (q : Queue) →
      on_queue q (k.n * strip.one.size) (k.n * strip.two.size) (k.n * strip.three.size) ≡ k.n * (track_on q strip).size
  count_on k One = refl
  count_on k Two = refl
  count_on k Three = refl

  counts_some : (k : Cut) → 0 < k.n → (q : Queue) → moves strip.planar q ≡ true →
      0 < on_queue q (k.n * strip.one.size) (k.n * strip.two.size) (k.n * strip.three.size)
  counts_some k some q does = subst (λ (n : ℕ). 0 < n) (sym (count_on k q)) (mul-pos some (laid.sizes q does))

  abbrev instrs : List Cut → List Instr
  instrs cuts = map (instr_of strip.planar) (map (piece_of memory strip) cuts)

  last_cut : (at : ℕ) (k : Cut) (rest : List Cut) → k.at ≡ at → Follow strip.grains (at + k.n) rest →
      (k.at + k.n == strip.grains) ≡ is_none (instrs rest)
  last_cut at k [] here follow = eq-eqb (k.at + k.n) strip.grains (ap (λ (n : ℕ). n + k.n) here ∙ follow)
  last_cut at k (next ∷ rest) here follow =
      let some = follow.1 in
      let later = cuts_further strip.grains (at + k.n + next.n) rest follow.2 in
      ne_eqb (k.at + k.n) strip.grains (λ same. absurd (omega arith))

  cuts_go : (begins : Bool) (at : ℕ) (cuts : List Cut) → begins ≡ (at == 0) → Follow strip.grains at cuts →
      LineGoes begins (moves strip.planar) (instrs cuts)
  cuts_go begins at [] first follow = tt
  cuts_go begins at (k ∷ rest) first follow =
      let here = follow.0 in
      let some = follow.1 in
      let p = piece_of memory strip k in (
        goes_piece (k.at == 0) (k.at + k.n == strip.grains) k.clipped (k.n * strip.one.size) (k.n * strip.two.size)
            (k.n * strip.three.size) _ _ _ strip.planar (kind_of k.clipped strip.kind)
            begins (is_none (instrs rest)) (first ∙ ap (λ (n : ℕ). n == 0) (sym here)) (last_cut at k rest here follow.2)
            (counts_some k some),
        cuts_go false (at + k.n) rest (sym (ne_eqb (at + k.n) 0 (λ same. absurd (omega arith)))) follow.2,
      )

  cut_line : (cuts : List Cut) → cuts ≡ cuts_of memory strip strip.spans → Follow strip.grains 0 cuts →
      IsCut (moves strip.planar) (instrs cuts)
  cut_line [] same follow = let some = laid.some in absurd (omega arith)
  cut_line (k ∷ rest) same follow =
      record {
        first = instr_of strip.planar (piece_of memory strip k);
        rest = instrs rest;
        some = refl;
        goes = cuts_go true 0 (k ∷ rest) (sym (eq-eqb 0 0 refl)) follow;
      }

  pub laid_cut : IsCut (moves strip.planar) (instrs (cuts_of memory strip strip.spans))
  laid_cut = cut_line (cuts_of memory strip strip.spans) refl (cuts_follow memory strip laid.fit)

-- ---- the lines of a description

module _ (d : Desc) (right : IsRight d) where
  has_moved : (q : Queue) → moves (layout_of d).planar q ≡ true → has_plane d q ≡ true
  has_moved q does = plane_moves (layout_of d).planar q does

  grains_some : 0 < grains_of (layout_of d) d.width
  grains_some =
      let plane = queue_plane d One (has_moved One refl) in
      let wide = right.wide 1 plane.low plane.high in
      let all = row_grains d 1 plane in
      grains_by (grains_of (layout_of d) d.width) refl (omega arith)
    where
      grains_by : (n : ℕ) → n ≡ grains_of (layout_of d) d.width → 0 < grains_of (layout_of d) d.width * grain_bytes (layout_of d) 1 →
          0 < grains_of (layout_of d) d.width
      grains_by zero is some =
          let none : grains_of (layout_of d) d.width * grain_bytes (layout_of d) 1 ≡ 0 * grain_bytes (layout_of d) 1 =
          ap (λ (n : ℕ). n * grain_bytes (layout_of d) 1) (sym is) in
          absurd (omega arith)
      grains_by (suc n) is some = omega arith

  row_laid : (row : ℕ) → row < d.height → IsLaid (memory_of d) (row_strip d row)
  row_laid row below =
      record {
        fit = row-IsStrip d row right below;
        some = grains_some;
        sizes =
            λ q does.
            subst (λ (n : ℕ). 0 < n) (ap (λ t. t.size) (row_track_on d row q))
            (grain_some d right (plane_of q) row (queue_plane d q (has_moved q does)) below);
      }

  skipped_size : (q : Queue) → (track_on q (skipped_strip d)).size ≡ grain_bytes (layout_of d) (plane_of q)
  skipped_size One = refl
  skipped_size Two = refl
  skipped_size Three = refl

  skipped_laid : IsLaid (memory_of d) (skipped_strip d)
  skipped_laid =
      let high = right.height.0 in
      record {
        fit = skipped-IsStrip d;
        some = grains_some;
        sizes =
            λ q does. subst (λ (n : ℕ). 0 < n) (sym (skipped_size q))
            (grain_some d right (plane_of q) 0 (queue_plane d q (has_moved q does)) (omega arith));
      }

  vbi_size : (q : Queue) (field : Parity) (line : ℕ) → moves false q ≡ true → 0 < (track_on q (vbi_strip d field line)).size
  vbi_size One field line does = omega arith
  vbi_size Two field line does = cc
  vbi_size Three field line does = cc

  skipped_vbi_size : (q : Queue) → moves false q ≡ true → 0 < (track_on q (skipped_vbi_strip d)).size
  skipped_vbi_size One does = omega arith
  skipped_vbi_size Two does = cc
  skipped_vbi_size Three does = cc

  skipped_vbi_laid : 0 < d.vbi_lines → IsLaid (memory_of d) (skipped_vbi_strip d)
  skipped_vbi_laid lines =
      let some = (right.vbi_bytes lines).0 in
      record { fit = skipped_vbi-IsStrip d; some = omega arith; sizes = skipped_vbi_size }

  vbi_laid : (field : Parity) (line : ℕ) → describes d.fields field ≡ true → line < d.vbi_lines →
      IsLaid (memory_of d) (vbi_strip d field line)
  vbi_laid field line described below =
      let some = (right.vbi_bytes (omega arith)).0 in
      record { fit = vbi-IsStrip d field line right described below; some = omega arith; sizes = λ q does. vbi_size q field line does }

-- ---- the parts of a section

-- few lines are skipped
abbrev pub SkipsFew : Desc → Type 0
SkipsFew d = (d.skip_lines ≤ 255) × ((field : Parity) → vbi_skip d field ≤ 255)

pub skips_few : (d : Desc) → IsDescription d → SkipsFew d
skips_few d is = (is.skipped, λ field. vbi_skip_few d field is.formed)

module _ (d : Desc) where
  abbrev pub line_part : Strip → Part
  line_part strip = parts.Cut (moves strip.planar) (line_instrs d strip)

  abbrev pub line_parts : List Strip → List Part
  line_parts strips = map line_part strips

  abbrev pub vbi_parts_from : ℕ → Parity → List Part
  vbi_parts_from zero field = []
  vbi_parts_from (suc more) field = Await Fm1 ∷ line_parts (vbi_strips d field)

  -- those before the rows
  abbrev pub parts_before : Parity → List Part
  parts_before field =
      vbi_parts_from d.vbi_lines field ++ Await (data_code (layout_of d).planar) ∷ line_parts (replicate d.skip_lines (skipped_strip d))

  abbrev row_parts : Parity → List Part
  row_parts field = line_parts (map (row_strip d) (rows_of d field))

  abbrev pub section_parts : Parity → List Part
  section_parts field = parts_before field ++ row_parts field

  -- their instructions
  instrs_append : (xs ys : List Part) → instrs_of (xs ++ ys) ≡ instrs_of xs ++ instrs_of ys
  instrs_append [] ys = refl
  instrs_append (Await code ∷ xs) ys = ap (λ (is : List Instr). sync false code ∷ is) (instrs_append xs ys)
  instrs_append (parts.Cut moved line ∷ xs) ys =
      ap (λ (is : List Instr). line ++ is) (instrs_append xs ys) ∙ sym (append_assoc line (instrs_of xs) (instrs_of ys))

  pub lines_instrs_of : (strips : List Strip) → instrs_of (line_parts strips) ≡ lines_instrs d strips
  lines_instrs_of [] = refl
  lines_instrs_of (strip ∷ strips) = ap (λ (is : List Instr). line_instrs d strip ++ is) (lines_instrs_of strips)

  vbi_instrs_of : (field : Parity) (n : ℕ) → instrs_of (vbi_parts_from n field) ≡ vbi_from n d field
  vbi_instrs_of field zero = refl
  vbi_instrs_of field (suc more) = ap (λ (is : List Instr). sync false Fm1 ∷ is) (lines_instrs_of (vbi_strips d field))

  pub before_instrs : (field : Parity) → instrs_of (parts_before field)
      ≡ vbi_instrs d field ++ sync false (data_code (layout_of d).planar) ∷ lines_instrs d (replicate d.skip_lines (skipped_strip d))
  before_instrs field =
      instrs_append (vbi_parts_from d.vbi_lines field)
      (Await (data_code (layout_of d).planar) ∷ line_parts (replicate d.skip_lines (skipped_strip d)))
      ∙ ap₂ (λ (xs ys : List Instr). xs ++ sync false (data_code (layout_of d).planar) ∷ ys) (vbi_instrs_of field d.vbi_lines)
      (lines_instrs_of (replicate d.skip_lines (skipped_strip d)))

  pub body_parts : (field : Parity) → instrs_of (section_parts field) ≡ body d field
  body_parts field =
      let code = data_code (layout_of d).planar in
      let skipped = replicate d.skip_lines (skipped_strip d) in
      let rows = map (row_strip d) (rows_of d field) in
      instrs_append (parts_before field) (row_parts field)
      ∙ ap₂ (λ (xs ys : List Instr). xs ++ ys) (before_instrs field) (lines_instrs_of rows)
      ∙ append_assoc (vbi_instrs d field) (sync false code ∷ lines_instrs d skipped) (lines_instrs d rows)
      ∙ ap (λ (is : List Instr). vbi_instrs d field ++ sync false code ∷ is) (sym (flat_map-append (line_instrs d) skipped rows))

  -- their lines
  pub words_append : (xs ys : List Instr) → words_in (xs ++ ys) ≡ words_in xs + words_in ys
  words_append [] ys = omega arith
  words_append (i ∷ xs) ys = let rest = words_append xs ys in omega arith

  pub lines_append : (xs ys : List Part) (here : ℕ) →
      lines_at here (xs ++ ys) ≡ lines_at here xs ++ lines_at (here + 4 * words_in (instrs_of xs)) ys
  lines_append [] ys here = ap (λ (n : ℕ). lines_at n ys) (omega arith)
  lines_append (Await code ∷ xs) ys here =
      let there : here + 8 + 4 * words_in (instrs_of xs) ≡ here + 4 * words_in (instrs_of (Await code ∷ xs)) = omega arith in
      lines_append xs ys (here + 8) ∙ ap (λ (n : ℕ). lines_at (here + 8) xs ++ lines_at n ys) there
  lines_append (parts.Cut moved line ∷ xs) ys here =
      let words = words_append line (instrs_of xs) in
      let there : here + 4 * words_in line + 4 * words_in (instrs_of xs) ≡ here + 4 * words_in (instrs_of (parts.Cut moved line ∷ xs)) =
      omega arith in
      ap (λ (ls : List (List ℕ)). addresses_from here line ∷ ls)
      (lines_append xs ys (here + 4 * words_in line) ∙ ap (λ (n : ℕ). lines_at (here + 4 * words_in line) xs ++ lines_at n ys) there)

  row_lines : (rows : List ℕ) (here : ℕ) →
      lines_at here (line_parts (map (row_strip d) rows)) ≡ lines_from here (map (λ row. line_instrs d (row_strip d row)) rows)
  row_lines [] here = refl
  row_lines (row ∷ rows) here =
      ap (λ (ls : List (List ℕ)). addresses_from here (line_instrs d (row_strip d row)) ∷ ls)
      (row_lines rows (here + 4 * words_in (line_instrs d (row_strip d row))))

  many_lines : (strips : List Strip) (here : ℕ) → length (lines_at here (line_parts strips)) ≡ length strips
  many_lines [] here = refl
  many_lines (strip ∷ strips) here = let rest = many_lines strips (here + 4 * words_in (line_instrs d strip)) in omega arith

  many_vbi : (field : Parity) (n here : ℕ) → n ≡ d.vbi_lines →
      length (lines_at here (vbi_parts_from n field)) ≡ vbi_count n (vbi_skip d field)
  many_vbi field zero here is = refl
  many_vbi field (suc more) here is =
      let skipped = length-replicate (vbi_skip d field) (skipped_vbi_strip d) in
      let lines = length-map-range_with_len (vbi_strip d field) 0 d.vbi_lines in
      let both =
      length-append (replicate (vbi_skip d field) (skipped_vbi_strip d)) (map (vbi_strip d field) (range_with_len 0 d.vbi_lines)) in
      let all = many_lines (vbi_strips d field) (here + 8) in
      omega arith

  many_before : (field : Parity) (here : ℕ) → length (lines_at here (parts_before field)) ≡ lines_before d field
  many_before field here =
      let vbi = vbi_parts_from d.vbi_lines field in
      let skipped = replicate d.skip_lines (skipped_strip d) in
      let later = here + 4 * words_in (instrs_of vbi) in
      let first = many_vbi field d.vbi_lines here refl in
      let second = many_lines skipped (later + 8) ∙ length-replicate d.skip_lines (skipped_strip d) in
      ap length (lines_append vbi (Await (data_code (layout_of d).planar) ∷ line_parts skipped) here)
      ∙ length-append (lines_at here vbi) (lines_at (later + 8) (line_parts skipped))
      ∙ ap₂ (λ (x y : ℕ). x + y) first second

  -- those of a section that begins at an address
  abbrev pub section_lines_at : ℕ → Parity → List (List ℕ)
  section_lines_at begin field = lines_at (begin + 8) (section_parts field)

  abbrev pub section_lines : Parity → List (List ℕ)
  section_lines field = section_lines_at (section_begin d d.base field) field

  pub lines_split : (begin : ℕ) (field : Parity) →
      section_lines_at begin field ≡ lines_at (begin + 8) (parts_before field) ++ row_addresses_at begin d field
  lines_split begin field =
      let words = ap words_in (before_instrs field) in
      let there : begin + 8 + 4 * words_in (instrs_of (parts_before field)) ≡ begin + 4 * words_in (before_rows d field) = omega arith in
      lines_append (parts_before field) (row_parts field) (begin + 8)
      ∙ ap (λ (ls : List (List ℕ)). lines_at (begin + 8) (parts_before field) ++ ls)
      (row_lines (rows_of d field) (begin + 8 + 4 * words_in (instrs_of (parts_before field)))
      ∙ ap (λ (n : ℕ). lines_from n (map (λ row. line_instrs d (row_strip d row)) (rows_of d field))) there)

  pub rows_dropped : (field : Parity) → drop (lines_before d field) (section_lines field) ≡ row_addresses d field
  rows_dropped field =
      let before = lines_at (section_begin d d.base field + 8) (parts_before field) in
      ap (drop (lines_before d field)) (lines_split (section_begin d d.base field) field)
      ∙ ap (λ (n : ℕ). drop n (before ++ row_addresses d field)) (sym (many_before field (section_begin d d.base field + 8)))
      ∙ drop-append_seam before (row_addresses d field)

  height_by : (described two : Bool) (height : ℕ) → (if described then (if two then height / 2 else height) else 0) ≤ height
  height_by true true height = omega arith
  height_by true false height = omega arith
  height_by false two height = omega arith

  pub lines_many : (rows : List ℕ) (here : ℕ) → length (lines_from here (map (λ row. line_instrs d (row_strip d row)) rows)) ≡ length rows
  lines_many [] here = refl
  lines_many (row ∷ rows) here = let rest = lines_many rows (here + 4 * words_in (line_instrs d (row_strip d row))) in omega arith

  vbi_count_few : (n skipped : ℕ) → n ≤ 32 → skipped ≤ 255 → vbi_count n skipped ≤ 287
  vbi_count_few zero skipped few less = omega arith
  vbi_count_few (suc more) skipped few less = omega arith

  pub few_lines : (begin : ℕ) (field : Parity) → IsRight d → SkipsFew d → length (section_lines_at begin field) ≤ max_lines
  few_lines begin field right skips =
      let vbi = vbi_count_few d.vbi_lines (vbi_skip d field) right.vbi_lines (skips.1 field) in
      let skipped = skips.0 in
      let high = right.height.1 in
      let height = height_by (describes d.fields field) (both d) d.height in
      let before = many_before field (begin + 8) in
      let rows : length (row_addresses_at begin d field) ≡ field_height d field =
      lines_many (rows_of d field) (begin + 4 * words_in (before_rows d field))
      ∙ length-map-range_with_len (picture_row (both d) field) 0 (field_height d field) in
      let all =
      ap length (lines_split begin field)
      ∙ length-append (lines_at (begin + 8) (parts_before field)) (row_addresses_at begin d field) in
      omega arith

  -- each line is cut
  parts_append : (xs ys : List Part) → AreParts xs → AreParts ys → AreParts (xs ++ ys)
  parts_append [] ys one two = two
  parts_append (Await code ∷ xs) ys one two = parts_append xs ys one two
  parts_append (parts.Cut moved line ∷ xs) ys one two = (one.0, parts_append xs ys one.1 two)

  lines_cut : (strips : List Strip) → Each (IsLaid (memory_of d)) strips → AreParts (line_parts strips)
  lines_cut [] each = tt
  lines_cut (strip ∷ strips) each = (laid_cut (memory_of d) strip each.0, lines_cut strips each.1)

  vbi_cut : (field : Parity) → IsRight d → describes d.fields field ≡ true → (n : ℕ) → n ≡ d.vbi_lines → AreParts (vbi_parts_from n field)
  vbi_cut field right described zero is = tt
  vbi_cut field right described (suc more) is =
      lines_cut (vbi_strips d field)
      (each_append (IsLaid (memory_of d)) (replicate (vbi_skip d field) (skipped_vbi_strip d))
      (map (vbi_strip d field) (range_with_len 0 d.vbi_lines))
      (each_replicate (IsLaid (memory_of d)) (vbi_skip d field) (skipped_vbi_strip d) (skipped_vbi_laid d right (omega arith)))
      (each_map (λ line. line < d.vbi_lines) (IsLaid (memory_of d)) (vbi_strip d field) (range_with_len 0 d.vbi_lines)
      (λ line below. vbi_laid d right field line described below)
      (each_range 0 d.vbi_lines d.vbi_lines (omega arith))))

  pub parts_cut : (field : Parity) → IsRight d → describes d.fields field ≡ true → AreParts (section_parts field)
  parts_cut field right described =
      parts_append (parts_before field) (row_parts field)
      (parts_append (vbi_parts_from d.vbi_lines field) (Await (data_code (layout_of d).planar)
      ∷ line_parts (replicate d.skip_lines (skipped_strip d))) (vbi_cut field right described d.vbi_lines refl)
      (lines_cut (replicate d.skip_lines (skipped_strip d))
      (each_replicate (IsLaid (memory_of d)) d.skip_lines (skipped_strip d) (skipped_laid d right))))
      (lines_cut (map (row_strip d) (rows_of d field))
      (each_map (λ row. row < d.height) (IsLaid (memory_of d)) (row_strip d) (rows_of d field) (λ row below. row_laid d right row below)
      (rows_below d field)))
