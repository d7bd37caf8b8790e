-- The program of a description is found to show each field that it describes: its bodies are awaited, and its path comes
-- to each opening.
use Rattle.std.proofs.Common.{◌≡◌, ℕ, zero, suc, ◌+◌, ◌-◌, ◌<◌, ◌≤◌, Bool, true, false, ◌==◌, if◌then◌else◌, List, [], ◌∷◌, ◌++◌, length}
use Rattle.std.proofs.Common.{map, replicate, Ok, Err, refl, sym, ap, subst, ◌∙◌, arith, append_assoc, append-nil, eq-eqb, length-append}
use Rattle.std.specs.Prelude.{nat_le}
use Rattle.std.specs.List.{range_with_len}
use Rattle.risc_word.specs.declared.Code.{Code}
use Rattle.risc_word.specs.declared.Code.TheVariants.{Fm1}
use Rattle.risc_word.specs.declared.Instr.{Instr}
use Rattle.risc_word.specs.Words.{Reading, code_number, encoded}
use Rattle.fifo_model.specs.declared.Queue.TheVariants.{One}
use Rattle.pixel_layout.specs.declared.Parity.{Parity}
use Rattle.pixel_layout.specs.declared.Parity.TheVariants.{Top, Bottom}
use Rattle.machine_model.specs.Paths.{RiscProgram, fetch, path, spans_of}
use Rattle.capture_desc.specs.declared.desc.Desc.{Desc}
use Rattle.capture_desc.specs.declared.desc.Fields.{Fields}
use Rattle.capture_desc.specs.declared.desc.Fields.TheVariants as fields
use Rattle.picture_model.specs.Described.{describes, layout_of, memory_of, rows_of}
use Rattle.picture_model.specs.Plans.{Strip, cuts_of, row_strip, skipped_strip, vbi_strip}
use Rattle.picture_model.specs.Programs.{body, closing, compiled, compiled_words, data_code, field_instrs, line_instrs, lines_instrs}
use Rattle.picture_model.specs.Programs.{next_by, begin_by, no_control, opening, picture_strips, section, section_begin, section_next}
use Rattle.picture_model.specs.Programs.{signal, sync, vbi_from, vbi_strips, vertical, words_of}
use Rattle.page_table.specs.Taken.{in_order}
use Rattle.picture_model.proofs.Circle.{split_length, words_split}
use Rattle.picture_model.proofs.Each.{Each, each_append, each_map, each_range, each_replicate}
use Rattle.picture_model.proofs.FaultlessGeometry.{IsRight, IsFrame-IsRight, IsValid-IsFrame}
use Rattle.picture_model.proofs.FaultlessLines.{IsGoodInstr}
use Rattle.picture_model.proofs.Safe.{cuts_follow}
use Rattle.picture_model.proofs.Sections.{compiled_sound, good_body, picture_strips_fit, section_stands, signal_spelled, vbi_strips_fit}
use Rattle.picture_model.proofs.Strips.{IsStrip}
use Rattle.field_law.specs.Sections.{StandsFrom, closing_at}
use Rattle.field_law.proofs.OnPath.{place_behind}
use Rattle.picture_law.specs.Pictures.{has_plane}
use Rattle.picture_law.specs.Sections.{section_of}
use Rattle.picture_law.proofs.BytePlaces.{grain_some, queue_plane}
use Rattle.picture_law.proofs.Program.{body_plain, next_field, stands_from}
use Rattle.check_model.specs.Checks.{Answer, awaited, checked, fuel, is_vertical, opened, walked}
use Rattle.check_model.specs.declared.Why.TheVariants.{Unread, NoSync, NoResync}
use Rattle.check_law.specs.Compiled.{CompiledIsChecked}
use Rattle.check_law.proofs.Compiled.{AreNext, IsFresh, fresh_line, line_next, walks_all}
use Rattle.check_law.proofs.Laws.{opened_walks}
use Rattle.machine_model.proofs.OneSpan.{all_words-one_span}
use Rattle.picture_model.specs.Described.{vbi_skip}
use Rattle.picture_model.specs.Plans.{skipped_vbi_strip}

-- ---- lines one after another

record Lines (instrs : List Instr) : Type 0 where
  next : AreNext instrs
  fresh : IsFresh instrs

module _ (d : Desc) where
  lines_Lines : (strips : List Strip) (later : List Instr) → Each (IsStrip (memory_of d)) strips →
      Each (λ strip. 0 < strip.one.size) strips → Lines later → Lines (lines_instrs d strips ++ later)
  lines_Lines [] later fit some h = h
  lines_Lines (strip ∷ rest) later fit some h =
      let behind = lines_Lines rest later fit.1 some.1 h in
      let follow = cuts_follow (memory_of d) strip fit.0 in
      let cuts = cuts_of (memory_of d) strip strip.spans in
      subst Lines (sym (append_assoc (line_instrs d strip) (lines_instrs d rest) later))
      (record {
        next = line_next (memory_of d) strip some.0 0 cuts (lines_instrs d rest ++ later) follow behind.next behind.fresh;
        fresh = fresh_line (memory_of d) strip some.0 cuts (lines_instrs d rest ++ later) follow behind.fresh;
      })

-- ---- a SYNC within a field

fm_inner : (planar : Bool) → is_vertical (data_code planar) ≡ false
fm_inner true = refl
fm_inner false = refl

sync_Lines : (code : Code) (later : List Instr) → is_vertical code ≡ false → Lines later → Lines (sync false code ∷ later)
sync_Lines code later inner h =
    record {
      next = (record { inner = inner; plain = tt; some = refl; ends = λ q some. cc }, h.next);
      fresh = λ q. refl;
    }

-- ---- a body

plane_one : (planar : Bool) → nat_le 1 (if planar then 3 else 1) ≡ true
plane_one true = refl
plane_one false = refl

module _ (d : Desc) (right : IsRight d) where
  has_one : has_plane d One ≡ true
  has_one = plane_one (layout_of d).planar

  luma_some : 0 < Rattle.picture_model.specs.Plans.grain_bytes (layout_of d) 1
  luma_some = let high = right.height.0 in grain_some d right 1 0 (queue_plane d One has_one) (omega arith)

  vbi_some : (field : Parity) → Each (λ strip. 0 < strip.one.size) (vbi_strips d field)
  vbi_some field =
      each_append (λ strip. 0 < strip.one.size) (replicate (vbi_skip d field) (skipped_vbi_strip d))
      (map (vbi_strip d field) (range_with_len 0 d.vbi_lines))
      (each_replicate (λ strip. 0 < strip.one.size) (vbi_skip d field) (skipped_vbi_strip d) (omega arith))
      (each_map (λ line. line < d.vbi_lines) (λ strip. 0 < strip.one.size) (vbi_strip d field) (range_with_len 0 d.vbi_lines)
      (λ line below. omega arith)
      (each_range 0 d.vbi_lines d.vbi_lines (omega arith)))

  picture_some : (field : Parity) → Each (λ strip. 0 < strip.one.size) (picture_strips d field)
  picture_some field =
      each_append (λ strip. 0 < strip.one.size) (replicate d.skip_lines (skipped_strip d)) (map (row_strip d) (rows_of d field))
      (each_replicate (λ strip. 0 < strip.one.size) d.skip_lines (skipped_strip d) luma_some)
      (each_map (λ row. Unit {0}) (λ strip. 0 < strip.one.size) (row_strip d) (rows_of d field) (λ row any. luma_some)
      (anything (rows_of d field)))
    where
      anything : (rows : List ℕ) → Each (λ row. Unit {0}) rows
      anything [] = tt
      anything (row ∷ rows) = (tt, anything rows)

  field_Lines : (field : Parity) → Lines (field_instrs d field)
  field_Lines field =
      sync_Lines (data_code (layout_of d).planar) (lines_instrs d (picture_strips d field)) (fm_inner (layout_of d).planar)
      (subst Lines (append-nil (lines_instrs d (picture_strips d field)))
      (lines_Lines d (picture_strips d field) [] (picture_strips_fit d right field) (picture_some field) (record {
        next = tt;
        fresh = λ q. refl;
      })))

  vbi_Lines : (lines : ℕ) (field : Parity) → describes d.fields field ≡ true → Lines (vbi_from lines d field ++ field_instrs d field)
  vbi_Lines zero field described = field_Lines field
  vbi_Lines (suc more) field described =
      sync_Lines Fm1 (lines_instrs d (vbi_strips d field) ++ field_instrs d field) refl
      (lines_Lines d (vbi_strips d field) (field_instrs d field) (vbi_strips_fit d right field described) (vbi_some field)
      (field_Lines field))

  body_next : (field : Parity) → describes d.fields field ≡ true → AreNext (body d field)
  body_next field described = (vbi_Lines d.vbi_lines field described).next

-- ---- where it is, and that the path comes there

few_words : (program : RiscProgram) (instrs : List Instr) → Each (IsGoodInstr program) instrs → length instrs ≤ length (words_of instrs)
few_words program [] good = omega arith
few_words program (i ∷ rest) good =
    let later = few_words program rest good.1 in
    let some = good.0.fine.some in
    omega (arith, length-append (encoded i) (words_of rest))

vertical_is : (field : Parity) → is_vertical (vertical field) ≡ true
vertical_is Top = refl
vertical_is Bottom = refl

module _ (d : Desc) (right : IsRight d) where
  abbrev begin : Parity → ℕ
  begin field = section_begin d d.base field

  abbrev target : Parity → ℕ
  target field = section_next d d.base d.base field

  module _ (field : Parity) (is : describes d.fields field ≡ true) where
    good : Each (IsGoodInstr (compiled d)) (opening field ∷ body d field)
    good = good_body d right (compiled d) refl field is

    pub stands : StandsFrom (compiled d) (begin field) (opening field ∷ body d field) (signal field) (target field)
    stands =
        let there = section_stands d d.base d.base field is in
        stands_from (compiled d) (compiled d) (signal field) (target field) (signal_spelled field (target field)) there.after
        (opening field ∷ body d field) there.before (begin field)
        (ap (spans_of d.base)
        (there.split
        ∙ ap (λ (words : List ℕ). there.before ++ (words ++ there.after))
        (words_split (opening field ∷ body d field) (closing field (target field)) [])
        ∙ regrouped there.before (words_of (opening field ∷ body d field)) (encoded (closing field (target field))) there.after))
        there.at good (tt, body_plain d field)
      where
        regrouped : (a b c e : List ℕ) → a ++ ((b ++ (c ++ [])) ++ e) ≡ a ++ (b ++ (c ++ e))
        regrouped a b c e = simp (append_assoc, append-nil)

    -- the words of its section are more than its instructions
    enough : (more : ℕ) × (fuel (compiled d) ≡ length (body d field) + suc (suc more)) × (1 ≤ more)
    enough =
        let there = section_stands d d.base d.base field is in
        let part = words_of (section d field (target field)) in
        let all : length (compiled_words d) ≡ length there.before + (length part + length there.after) =
        ap length there.split ∙ split_length there.before part there.after in
        let words = ap length (all_words-one_span d.base (compiled_words d) (in_order (memory_of d))) in
        let split = ap length (words_split (opening field ∷ body d field) (closing field (target field)) []) in
        let parts = length-append (words_of (opening field ∷ body d field)) (encoded (closing field (target field)) ++ []) in
        let few = few_words (compiled d) (opening field ∷ body d field) good in
        (length (compiled_words d) - (length (body d field) + 2), omega arith, omega arith)

  next_opens : (field : Parity) → describes d.fields field ≡ true →
      (code : Code) × (is_vertical code ≡ true) × (fetch (compiled d) (target field) ≡ Ok (sync true code, 2))
  next_opens field is =
      let next = next_field d.fields d d.base field is in
      (vertical next.0, vertical_is next.0, ap (fetch (compiled d)) next.2 ∙ (stands next.0 next.1).0)

  pub found : (field : Parity) → describes d.fields field ≡ true →
      checked (compiled d) d field (begin field) ≡ Ok (closing_at (section_of d field), length (body d field))
  found field is =
      let next = next_opens field is in
      let more = enough field is in
      ap (λ (reading : Reading). elim reading as (λ _. Answer) [
        | Err fault ↦ Err (begin field, Unread)
        | Ok read ↦ opened read.0 (compiled d) d field (begin field)
      ]) (stands field is).0
      ∙ opened_walks (code_number (vertical field) == code_number (vertical field)) (Err (begin field, NoSync (vertical field)))
      (Err (begin field, NoResync)) (walked (fuel (compiled d)) (compiled d) d field (begin field + 8) (awaited d field)) (eq-eqb _ _ refl)
      ∙ ap (λ (fuel : ℕ). walked fuel (compiled d) d field (begin field + 8) (awaited d field)) more.1
      ∙ walks_all (compiled d) (signal field) (target field) no_control true next.0 2 next.1 next.2 d field (body d field)
      (begin field + 8) more.0 (awaited d field) (stands field is).2 (body_next d right field is) (λ q. refl)

  -- the path comes to its opening within as many places as the program has words
  pub record ComesSoon (address : ℕ) : Type 0 where
    pub number : ℕ
    pub there : (path (compiled d) number).pc ≡ address
    pub soon : number < fuel (compiled d)

  at_first : (field : Parity) → describes d.fields field ≡ true → ComesSoon d.base
  at_first field is =
      let more = enough field is in
      let some = more.2 in
      let long = more.1 in
      record { number = 0; there = refl; soon = omega arith }

  comes_by : (which : Fields) → which ≡ d.fields → (field : Parity) → describes d.fields field ≡ true → describes which field ≡ true →
      ComesSoon (begin_by which d d.base field)
  comes_by fields.Top e Top described is = at_first Top described
  comes_by fields.Top e Bottom described is = cc
  comes_by fields.Bottom e Top described is = cc
  comes_by fields.Bottom e Bottom described is = at_first Bottom described
  comes_by fields.Both e Top described is = at_first Top described
  comes_by fields.Both e Bottom described is =
      let top : describes d.fields Top ≡ true = ap (λ (which : Fields). describes which Top) (sym e) in
      let at : begin Top ≡ d.base = ap (λ (which : Fields). begin_by which d d.base Top) (sym e) in
      let to : target Top ≡ begin_by fields.Both d d.base Bottom = ap (λ (which : Fields). next_by which d d.base d.base Top) (sym e) in
      let more = enough Top top in
      let some = more.2 in
      let long = more.1 in
      record {
        number = suc (length (opening Top ∷ body d Top) + 0);
        there =
            place_behind (compiled d) (compiled_sound d right) (opening Top ∷ body d Top) 0 (begin Top) (signal Top) (target Top)
            (stands Top top) (sym at) ∙ to;
        soon = omega arith;
      }

  pub comes : (field : Parity) → describes d.fields field ≡ true → ComesSoon (begin field)
  comes field is = comes_by d.fields refl field is is

abbrev pub compiled_is_checked : CompiledIsChecked
compiled_is_checked d field description valid described =
    let right = IsFrame-IsRight d description (IsValid-IsFrame d valid) in
    let comes_there = comes d right field described in
    record {
      sound = compiled_sound d right;
      description = description;
      frame = IsValid-IsFrame d valid;
      described = described;
      number = comes_there.number;
      on_path = comes_there.there;
      opens = (stands d right field described).0;
      found = found d right field described;
    }
