-- The sections of a description without a fault: their instructions have none.
use Rattle.std.proofs.Common.{◌≡◌, ℕ, zero, suc, ◌+◌, ◌*◌, ◌/◌, ◌^◌, ◌<◌, Bool, true, false, List, [], ◌∷◌, ◌++◌, length, length-append}
use Rattle.std.proofs.Common.{append_assoc, map, refl, sym, ap, ◌∙◌, subst, arith, if◌then◌else◌}
use Rattle.std.specs.Prelude.{replicate}
use Rattle.std.specs.List.{range_with_len}
use Rattle.std.proofs.lemmas.Bool.{cond-true}
use Rattle.std.proofs.lemmas.Grind.{flat_map-append}
use Rattle.std.proofs.lemmas.List.{append-nil}
use Rattle.risc_word.specs.declared.Code.TheVariants.{Fm1}
use Rattle.risc_word.specs.Words.{IsInstr, encoded}
use Rattle.pixel_layout.specs.declared.Parity.{Parity}
use Rattle.pixel_layout.specs.declared.Parity.TheVariants.{Top, Bottom}
use Rattle.page_table.specs.Taken.{in_order}
use Rattle.machine_model.specs.Paths.{RiscProgram, IsSound, is_word, spans_of}
use Rattle.machine_model.proofs.OneSpan.{word_there}
use Rattle.capture_desc.specs.declared.desc.Desc.{Desc}
use Rattle.capture_desc.specs.declared.desc.Fields.{Fields}
use Rattle.capture_desc.specs.declared.desc.Fields.TheVariants as fields
use Rattle.picture_model.specs.Described.{both, describes, field_height, layout_of, memory_of, picture_row, rows_of, vbi_skip}
use Rattle.picture_model.specs.Plans.{Strip, row_strip, skipped_strip, skipped_vbi_strip, vbi_strip}
use Rattle.picture_model.specs.Programs.{Stands, begin_by, body, closing, closing_begin, compiled, data_code, field_instrs, field_words}
use Rattle.picture_model.specs.Programs.{line_instrs, lines_instrs, next_by, opening, picture_strips}
use Rattle.picture_model.specs.Programs.{section, section_begin, section_length, section_next, sections, sections_by, sections_words}
use Rattle.picture_model.specs.Programs.{vbi_from, vbi_instrs, vbi_strips, vbi_words, vertical, words_of}
use Rattle.picture_model.proofs.Circle.{IsAt, IsFineInstr, IsPlain, Lead, circle_sound, lead_plain, split_length, words_split}
use Rattle.picture_model.proofs.Each.{Each, each_append, each_flat_map, each_map, each_only, each_range, each_replicate}
use Rattle.picture_model.proofs.FaultlessLines.{AreWords, IsGoodInstr, good_line, good_sync}
use Rattle.picture_model.proofs.FaultlessGeometry.{IsRight}
use Rattle.picture_model.proofs.Strips.{IsStrip, row-IsStrip, skipped-IsStrip, skipped_vbi-IsStrip, vbi-IsStrip}

-- the rows of a field are rows of the picture
below_height : (described two : Bool) (field : Parity) (k height : ℕ) →
    k < (if described then (if two then height / 2 else height) else 0) → picture_row two field k < height
below_height true true Top k height below = omega arith
below_height true true Bottom k height below = omega arith
below_height true false field k height below = below
below_height false two field k height below = absurd (omega arith)

pub row_below : (d : Desc) (field : Parity) (k : ℕ) → k < field_height d field → picture_row (both d) field k < d.height
row_below d field k below = below_height (describes d.fields field) (both d) field k d.height below

pub rows_below : (d : Desc) (field : Parity) → Each (λ row. row < d.height) (rows_of d field)
rows_below d field =
    each_map (λ k. k < field_height d field) (λ row. row < d.height) (picture_row (both d) field) (range_with_len 0 (field_height d field))
    (row_below d field)
    (each_range 0 (field_height d field) (field_height d field) (omega arith))

module _ (d : Desc) (right : IsRight d) where
  pub vbi_strips_fit : (field : Parity) → describes d.fields field ≡ true → Each (IsStrip (memory_of d)) (vbi_strips d field)
  vbi_strips_fit field described =
      each_append (IsStrip (memory_of d)) (replicate (vbi_skip d field) (skipped_vbi_strip d))
      (map (vbi_strip d field) (range_with_len 0 d.vbi_lines))
      (each_replicate (IsStrip (memory_of d)) (vbi_skip d field) (skipped_vbi_strip d) (skipped_vbi-IsStrip d))
      (each_map (λ line. line < d.vbi_lines) (IsStrip (memory_of d)) (vbi_strip d field) (range_with_len 0 d.vbi_lines)
      (λ line below. vbi-IsStrip d field line right described below)
      (each_range 0 d.vbi_lines d.vbi_lines (omega arith)))

  pub picture_strips_fit : (field : Parity) → Each (IsStrip (memory_of d)) (picture_strips d field)
  picture_strips_fit field =
      each_append (IsStrip (memory_of d)) (replicate d.skip_lines (skipped_strip d)) (map (row_strip d) (rows_of d field))
      (each_replicate (IsStrip (memory_of d)) d.skip_lines (skipped_strip d) (skipped-IsStrip d))
      (each_map (λ row. row < d.height) (IsStrip (memory_of d)) (row_strip d) (rows_of d field) (λ row below. row-IsStrip d row right below)
      (rows_below d field))

  module _ (program : RiscProgram) (grants : program.grants ≡ in_order (memory_of d)) where
    good_lines : (strips : List Strip) → Each (IsStrip (memory_of d)) strips → Each (IsGoodInstr program) (lines_instrs d strips)
    good_lines strips fit =
        each_flat_map (IsStrip (memory_of d)) (IsGoodInstr program) (line_instrs d) strips
        (λ strip is. good_line program (memory_of d) grants strip right.aligned is) fit

    good_vbi : (field : Parity) (lines : ℕ) → describes d.fields field ≡ true → Each (IsGoodInstr program) (vbi_from lines d field)
    good_vbi field zero described = tt
    good_vbi field (suc more) described =
        (good_sync program (memory_of d) grants false Fm1, good_lines (vbi_strips d field) (vbi_strips_fit field described))

    good_field : (field : Parity) → Each (IsGoodInstr program) (field_instrs d field)
    good_field field = (
      good_sync program (memory_of d) grants false (data_code (layout_of d).planar),
      good_lines (picture_strips d field) (picture_strips_fit field),
    )

    -- a section but for its closing
    pub good_body : (field : Parity) → describes d.fields field ≡ true → Each (IsGoodInstr program) (opening field ∷ body d field)
    good_body field described = (
      good_sync program (memory_of d) grants true (vertical field),
      each_append (IsGoodInstr program) (vbi_instrs d field) (field_instrs d field) (good_vbi field d.vbi_lines described)
          (good_field field),
    )

-- the closing

pub signal_spelled : (field : Parity) (target : ℕ) → IsInstr (closing field target)
signal_spelled Top target = (refl, tt)
signal_spelled Bottom target = (refl, tt)

pub closing_fine : (program : RiscProgram) (field : Parity) (target : ℕ) → is_word program target ≡ true →
    IsFineInstr program (closing field target)
closing_fine program field target word =
    record {
      spelled = signal_spelled field target;
      some = omega arith;
      fine = λ before. cond-true (is_word program target) _ _ word;
    }

pub closing_words : (field : Parity) (target : ℕ) → target < 2 ^ 32 → AreWords (encoded (closing field target))
closing_words Top target small = (omega arith, (small, tt))
closing_words Bottom target small = (omega arith, (small, tt))

-- how long a section is doesn't depend on where it leads
pub section_long : (d : Desc) (field : Parity) (target : ℕ) → length (words_of (section d field target)) ≡ section_length d field
section_long d field target = with_closing target ∙ sym (with_closing 0)
  where
    with_closing : (at : ℕ) → length (words_of (section d field at)) ≡ length (words_of (opening field ∷ body d field)) + 2
    with_closing at =
        ap length (words_split (opening field ∷ body d field) (closing field at) [])
        ∙ split_length (words_of (opening field ∷ body d field)) (encoded (closing field at)) []

-- nor does it depend on where the sections are
abbrev long_by : Fields → Desc → ℕ
long_by fields.Top d = section_length d Top
long_by fields.Bottom d = section_length d Bottom
long_by fields.Both d = section_length d Top + section_length d Bottom

sections_long : (which : Fields) (d : Desc) (at back : ℕ) → length (words_of (sections_by which d at back)) ≡ long_by which d
sections_long fields.Top d at back = section_long d Top back
sections_long fields.Bottom d at back = section_long d Bottom back
sections_long fields.Both d at back =
    let mid = at + 4 * section_length d Top in
    let top = section_long d Top mid in
    let bottom = section_long d Bottom back in
    let parts =
    ap length (flat_map-append encoded (section d Top mid) (section d Bottom back))
    ∙ length-append (words_of (section d Top mid)) (words_of (section d Bottom back)) in
    omega arith

pub sections_as_long : (d : Desc) (at back other last : ℕ) → length (sections_words d at back) ≡ length (sections_words d other last)
sections_as_long d at back other last =
    sections_long d.fields d at back ∙ sym (sections_long d.fields d other last)

in_parts : (a b c e : List ℕ) → (a ++ (b ++ c)) ++ (e ++ []) ≡ ((a ++ b) ++ c) ++ e
in_parts a b c e = simp (append_assoc, append-nil)

regrouped : (a b c e : List ℕ) → a ++ ((b ++ (c ++ [])) ++ e) ≡ (a ++ b) ++ (c ++ ([] ++ e))
regrouped a b c e = simp (append_assoc, append-nil)

-- the program of one section, or of two

module _ (d : Desc) (program : RiscProgram) where
  fines : (field : Parity) (target : ℕ) → Each (IsGoodInstr program) (opening field ∷ body d field) → is_word program target ≡ true →
      Each (IsFineInstr program) (section d field target)
  fines field target good word =
      each_append (IsFineInstr program) (opening field ∷ body d field) (closing field target ∷ [])
      (each_only (IsGoodInstr program) (IsFineInstr program) (opening field ∷ body d field) (λ i g. g.fine) good)
      (closing_fine program field target word, tt)

  plains : (field : Parity) → Each (IsGoodInstr program) (opening field ∷ body d field) → Each IsPlain (opening field ∷ body d field)
  plains field good = each_only (IsGoodInstr program) IsPlain (opening field ∷ body d field) (λ i g. g.plain) good

  pub one_section : (field : Parity) → Each (IsGoodInstr program) (opening field ∷ body d field) →
      program.spans ≡ spans_of program.base (words_of (section d field program.base)) → IsSound program
  one_section field good words =
      let instrs = section d field program.base in
      let long = section_long d field program.base in
      let e : program.base + 4 * 0 ≡ program.base = omega arith in
      let word : is_word program program.base ≡ true =
      subst (λ (a : ℕ). is_word program a ≡ true) e (word_there program (words_of instrs) 0 words (omega arith)) in
      let first : IsAt program.base instrs program.base =
      record { before = []; instr = opening field; after = body d field ++ closing field program.base ∷ []; split = refl; at = omega arith }
      in
      circle_sound program instrs words (fines field program.base good word)
      (lead_plain (IsAt program.base instrs) (opening field ∷ body d field) (closing field program.base) [] (plains field good) first tt)
      first

  pub two_sections : Each (IsGoodInstr program) (opening Top ∷ body d Top) → Each (IsGoodInstr program) (opening Bottom ∷ body d Bottom) →
      program.spans ≡ spans_of program.base
      (words_of (section d Top (program.base + 4 * section_length d Top) ++ section d Bottom program.base)) → IsSound program
  two_sections top bottom words =
      let mid = program.base + 4 * section_length d Top in
      let first = section d Top mid in
      let last = section d Bottom program.base in
      let instrs = first ++ last in
      let There = IsAt program.base instrs in
      let long = section_long d Top mid in
      let parts : words_of instrs ≡ words_of first ++ words_of last = flat_map-append encoded first last in
      let sizes : length (words_of instrs) ≡ length (words_of first) + length (words_of last) =
      ap length parts ∙ length-append (words_of first) (words_of last) in
      let e : program.base + 4 * 0 ≡ program.base = omega arith in
      let base_word : is_word program program.base ≡ true =
      subst (λ (a : ℕ). is_word program a ≡ true) e (word_there program (words_of instrs) 0 words (omega arith)) in
      let mid_word : is_word program mid ≡ true = word_there program (words_of instrs) (section_length d Top) words (omega arith) in
      let at_base : There program.base =
      record { before = []; instr = opening Top; after = body d Top ++ closing Top mid ∷ [] ++ last; split = refl; at = omega arith }
      in
      let at_mid : There mid =
      record {
        before = first;
        instr = opening Bottom;
        after = body d Bottom ++ closing Bottom program.base ∷ [];
        split = refl;
        at = omega arith;
      }
      in
      let leads_last : Lead There last =
      lead_plain There (opening Bottom ∷ body d Bottom) (closing Bottom program.base) [] (plains Bottom bottom) at_base tt in
      let leads : Lead There instrs =
      subst (Lead There) (sym (append_assoc (opening Top ∷ body d Top) (closing Top mid ∷ []) last))
      (lead_plain There (opening Top ∷ body d Top) (closing Top mid) last (plains Top top) at_mid leads_last)
      in
      circle_sound program instrs words
      (each_append (IsFineInstr program) first last (fines Top mid top mid_word) (fines Bottom program.base bottom base_word))
      leads at_base

-- the compiled program

sound_by : (which : Fields) (d : Desc) (program : RiscProgram) →
    ((field : Parity) → describes which field ≡ true → Each (IsGoodInstr program) (opening field ∷ body d field)) →
    program.spans ≡ spans_of program.base (words_of (sections_by which d program.base program.base)) → IsSound program
sound_by fields.Top d program good words = one_section d program Top (good Top refl) words
sound_by fields.Bottom d program good words = one_section d program Bottom (good Bottom refl) words
sound_by fields.Both d program good words = two_sections d program (good Top refl) (good Bottom refl) words

pub compiled_sound : (d : Desc) → IsRight d → IsSound (compiled d)
compiled_sound d right = sound_by d.fields d (compiled d) (good_body d right (compiled d) refl) refl

-- each section is where it should be, with its closing at its end

stands_by : (which : Fields) (d : Desc) (from last : ℕ) (field : Parity) → describes which field ≡ true →
    Stands (words_of (sections_by which d from last)) from (words_of (section d field (next_by which d from last field)))
    (begin_by which d from field)
stands_by fields.Top d from last Top is =
    record { before = []; after = []; split = sym (append-nil _); at = omega arith }
stands_by fields.Bottom d from last Bottom is =
    record { before = []; after = []; split = sym (append-nil _); at = omega arith }
stands_by fields.Both d from last Top is =
    let mid = from + 4 * section_length d Top in
    record {
      before = [];
      after = words_of (section d Bottom last);
      split = flat_map-append encoded (section d Top mid) (section d Bottom last);
      at = omega arith;
    }
stands_by fields.Both d from last Bottom is =
    let mid = from + 4 * section_length d Top in
    let long = section_long d Top mid in
    record {
      before = words_of (section d Top mid);
      after = [];
      split =
          flat_map-append encoded (section d Top mid) (section d Bottom last)
          ∙ ap (λ (words : List ℕ). words_of (section d Top mid) ++ words) (sym (append-nil (words_of (section d Bottom last))));
      at = omega arith;
    }
stands_by fields.Top d from last Bottom is = cc
stands_by fields.Bottom d from last Top is = cc

pub section_stands : (d : Desc) (from last : ℕ) (field : Parity) → describes d.fields field ≡ true →
    Stands (words_of (sections d from last)) from (words_of (section d field (section_next d from last field))) (section_begin d from field)
section_stands d from last field is = stands_by d.fields d from last field is

pub closing_stands : (d : Desc) (from last : ℕ) (field : Parity) → describes d.fields field ≡ true →
    Stands (words_of (sections d from last)) from (encoded (closing field (section_next d from last field))) (closing_begin d from field)
closing_stands d from last field is =
    let target = section_next d from last field in
    let whole = section_stands d from last field is in
    let start = words_of (opening field ∷ body d field) in
    let parts : words_of (section d field target) ≡ start ++ (encoded (closing field target) ++ []) =
    words_split (opening field ∷ body d field) (closing field target) [] in
    let long = section_long d field target in
    let size : length (words_of (section d field target)) ≡ length start + 2 =
    ap length parts ∙ split_length start (encoded (closing field target)) [] in
    let both : length (whole.before ++ start) ≡ length whole.before + length start = length-append whole.before start in
    let at = whole.at in
    record {
      before = whole.before ++ start;
      after = [] ++ whole.after;
      split =
          whole.split ∙ ap (λ (words : List ℕ). whole.before ++ (words ++ whole.after)) parts
          ∙ regrouped whole.before start (encoded (closing field target)) whole.after;
      at = omega arith;
    }

-- the words of a section are those of its parts
pub section_parts : (d : Desc) (field : Parity) (target : ℕ) → words_of (section d field target)
    ≡ encoded (opening field) ++ vbi_words d field ++ field_words d field ++ encoded (closing field target)
section_parts d field target =
    words_split (opening field ∷ body d field) (closing field target) []
    ∙ ap (λ (words : List ℕ). (encoded (opening field) ++ words) ++ (encoded (closing field target) ++ []))
    (flat_map-append encoded (vbi_instrs d field) (field_instrs d field))
    ∙ in_parts (encoded (opening field)) (vbi_words d field) (field_words d field) (encoded (closing field target))
