-- Instructions whose words are in a program are asked one after another.
use Rattle.std.proofs.Common.{◌≡◌, ℕ, zero, suc, ◌+◌, ◌*◌, ◌<◌, ◌≤◌, true, List, [], ◌∷◌, ◌++◌, length, length-append, append_assoc, Ok}
use Rattle.std.proofs.Common.{Err, refl, sym, ap, ◌∙◌, arith}
use Rattle.std.proofs.lemmas.List.{append-nil}
use Rattle.std.proofs.lemmas.Grind.{flat_map-append}
use Rattle.std.proofs.Math.Seq.{drop-append_seam}
use Rattle.risc_word.specs.declared.Instr.{Instr}
use Rattle.risc_word.specs.declared.WordFault.TheVariants.{Cut}
use Rattle.risc_word.specs.Words.{IsInstr, Reading, encoded, first_instr, instr_at}
use Rattle.risc_word.proofs.ReadBack.{reads_back}
use Rattle.risc_word.proofs.ReadInstructions.{known_at}
use Rattle.fifo_model.specs.declared.Queue.{Queue}
use Rattle.pixel_layout.specs.declared.Parity.{Parity}
use Rattle.pixel_layout.specs.declared.Parity.TheVariants.{Top, Bottom}
use Rattle.machine_model.specs.Paths.{RiscProgram, all_words, fetch, one_span, spans_of, words_from}
use Rattle.machine_model.specs.Paths as paths
use Rattle.machine_model.proofs.OneSpan.{fetch_there}
use Rattle.capture_desc.specs.declared.desc.Desc.{Desc}
use Rattle.capture_desc.specs.declared.desc.Fields.{Fields}
use Rattle.capture_desc.specs.declared.desc.Fields.TheVariants as fields
use Rattle.picture_model.specs.Described.{IsDescription, describes}
use Rattle.picture_model.specs.Programs.{body, closing, compiled, field_instrs, field_words, opening, section, section_length, sections_by}
use Rattle.picture_model.specs.Programs.{vbi_instrs, vbi_words, words_of}
use Rattle.picture_model.proofs.Each.{Each}
use Rattle.picture_model.proofs.FaultlessLines.{IsGoodInstr}
use Rattle.picture_model.proofs.FaultlessGeometry.{IsRight, IsFrame-IsRight}
use Rattle.picture_model.proofs.Sections.{good_body}
use Rattle.picture_model.proofs.Circle.{words_split, split_length}
use Rattle.picture_model.proofs.Limit.{sections_few}
use Rattle.planar_plan.specs.Frames.{IsFramed}
use Rattle.field_law.specs.Sections.{Ask, asked, asks}
use Rattle.check_model.specs.ByBytes.{by_bytes, bytes_asked}
use Rattle.field_check.specs.Cursors.{asks_from}
use Rattle.field_check.specs.Plans.{IsPlan}

-- an instruction is read where its words are
fetched_at : (program : RiscProgram) (before after : List ℕ) (i : Instr) (address : ℕ) →
    program.spans ≡ spans_of program.base (before ++ (encoded i ++ after)) →
    address ≡ program.base + 4 * length before → IsInstr i → fetch program address ≡ Ok (i, length (encoded i))
fetched_at program before after i address words at is =
    ap (fetch program) at
    ∙ fetch_there program (before ++ (encoded i ++ after)) (length before) words
    ∙ ap (λ (words : List ℕ). instr_at words (length before)) (sym (append_assoc before (encoded i) after))
    ∙ reads_back i is before after

-- and none is behind the last word
none_behind : (program : RiscProgram) (before : List ℕ) (address : ℕ) → program.spans ≡ spans_of program.base (before ++ []) →
    address ≡ program.base + 4 * length before →
    fetch program address ≡ Err Cut
none_behind program before address words at =
    ap (fetch program) at ∙ fetch_there program (before ++ []) (length before) words ∙ ap first_instr (drop-append_seam before [])

module _ (plan other : RiscProgram) (q : Queue) where
  asks_stand : (instrs : List Instr) (before : List ℕ) (n address : ℕ) → plan.spans ≡ spans_of plan.base (before ++ words_of instrs) →
      address ≡ plan.base + 4 * length before →
      Each (IsGoodInstr other) instrs → length (words_of instrs) ≤ n → asks_from n plan q address ≡ by_bytes (asks q instrs)
  asks_stand [] before zero address words at good le = refl
  asks_stand [] before (suc n) address words at good le =
      ap (λ (reading : Reading). elim reading as (λ _. List Ask) [
        | Err fault ↦ []
        | Ok read ↦ bytes_asked (asked q read.0) ++ asks_from n plan q (address + 4 * read.1)
      ]) (none_behind plan before address words at)
  asks_stand (i ∷ rest) before zero address words at good le =
      let there = fetched_at plan before (words_of rest) i address words at good.0.fine.spelled in
      let some = (known_at (words_from 5 plan address) 0 i (length (encoded i)) there).positive in
      let long = length-append (encoded i) (words_of rest) in absurd (omega arith)
  asks_stand (i ∷ rest) before (suc n) address words at good le =
      let there = fetched_at plan before (words_of rest) i address words at good.0.fine.spelled in
      let some = (known_at (words_from 5 plan address) 0 i (length (encoded i)) there).positive in
      let long = length-append (encoded i) (words_of rest) in
      ap (λ (reading : Reading). elim reading as (λ _. List Ask) [
        | Err fault ↦ []
        | Ok read ↦ bytes_asked (asked q read.0) ++ asks_from n plan q (address + 4 * read.1)
      ])
      there
      ∙ ap (λ (more : List Ask). bytes_asked (asked q i) ++ more)
      (asks_stand rest (before ++ encoded i) n (address + 4 * length (encoded i))
      (words ∙ ap (spans_of plan.base) (sym (append_assoc before (encoded i) (words_of rest))))
      (omega (arith, length-append before (encoded i))) good.1 (omega arith))

in_section : (d : Desc) (field : Parity) (target : ℕ) → length (words_of (body d field)) ≤ length (words_of (section d field target))
in_section d field target =
    let parts = ap (λ (ws : List ℕ). length ws) (words_split (opening field ∷ body d field) (closing field target) []) in
    let long = split_length (words_of (opening field ∷ body d field)) (encoded (closing field target)) [] in omega arith

in_both : (d : Desc) (top back : ℕ) → length (words_of (section d Top top ++ section d Bottom back))
    ≡ length (words_of (section d Top top)) + length (words_of (section d Bottom back))
in_both d top back =
    ap (λ (ws : List ℕ). length ws) (flat_map-append encoded (section d Top top) (section d Bottom back))
    ∙ length-append (words_of (section d Top top)) (words_of (section d Bottom back))

in_sections : (d : Desc) (field : Parity) (which : Fields) → describes which field ≡ true → (at back : ℕ) →
    length (words_of (body d field)) ≤ length (words_of (sections_by which d at back))
in_sections d Top fields.Top shown at back = in_section d Top back
in_sections d Bottom fields.Top shown at back = cc
in_sections d Top fields.Bottom shown at back = cc
in_sections d Bottom fields.Bottom shown at back = in_section d Bottom back
in_sections d Top fields.Both shown at back =
    let whole = in_both d (at + 4 * section_length d Top) back in let le = in_section d Top (at + 4 * section_length d Top) in omega arith
in_sections d Bottom fields.Both shown at back =
    let whole = in_both d (at + 4 * section_length d Top) back in let le = in_section d Bottom back in omega arith

module _ (d : Desc) (framed : IsFramed d) (description : IsDescription d) (field : Parity)
    (described : describes d.fields field ≡ true) where
  right : IsRight d
  right = IsFrame-IsRight d description framed.geometry

  good : Each (IsGoodInstr (compiled d)) (body d field)
  good = (good_body d right (compiled d) refl field described).1

  pub words_plan : (plan : RiscProgram) → plan ≡ one_span 0 (words_of (body d field)) [] → IsPlan d field plan
  words_plan plan is =
      let spans : plan.spans ≡ spans_of plan.base ([] ++ words_of (body d field)) =
      ap (λ (p : RiscProgram). p.spans) is
      ∙ ap (λ (base : ℕ). spans_of base (words_of (body d field))) (sym (ap (λ (p : RiscProgram). p.base) is)) in
      let base : plan.base ≡ 0 = ap (λ (p : RiscProgram). p.base) is in
      let many : length (all_words plan) ≡ length (words_of (body d field)) =
      ap (λ (p : RiscProgram). length (all_words p)) is ∙ ap (λ (ws : List ℕ). length ws) (one_words (words_of (body d field))) in
      record {
        asked = λ q. asks_stand plan (compiled d) q (body d field) [] (length (all_words plan)) 0 spans (omega arith) good (omega arith);
      }
    where
      one_words : (ws : List ℕ) → paths.words_of (spans_of 0 ws) ≡ ws
      one_words [] = refl
      one_words (w ∷ ws) = append-nil (w ∷ ws)

  -- there are few
  pub body_few : length (words_of (body d field)) < 500000
  body_few = let few = sections_few d 0 0 description right in let le = in_sections d field d.fields described 0 0 in omega arith

  pub body_words : (vbi all : List ℕ) → vbi ≡ [] ++ vbi_words d field → all ≡ vbi ++ field_words d field → all ≡ words_of (body d field)
  body_words vbi all one two =
      two ∙ ap (λ (ws : List ℕ). ws ++ field_words d field) one ∙ sym (flat_map-append encoded (vbi_instrs d field) (field_instrs d field))
