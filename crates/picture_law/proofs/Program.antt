-- The section of a field is in the program of its description.
use Rattle.std.proofs.Common.{◌≡◌, ℕ, zero, suc, ◌+◌, ◌*◌, ◌<◌, Bool, true, false, List, [], ◌∷◌, ◌++◌, length, length-append, append_assoc}
use Rattle.std.proofs.Common.{map, None, Ok, refl, sym, ap, ◌∙◌, subst, arith}
use Rattle.std.proofs.lemmas.List.{append-nil}
use Rattle.risc_word.specs.declared.Ctl.{Ctl}
use Rattle.risc_word.specs.declared.Instr.{Instr}
use Rattle.risc_word.specs.declared.Instr.TheVariants as instr
use Rattle.risc_word.specs.Words.{IsInstr, encoded, instr_at}
use Rattle.risc_word.proofs.ReadBack.{reads_back}
use Rattle.pixel_layout.specs.declared.Parity.{Parity}
use Rattle.pixel_layout.specs.declared.Parity.TheVariants.{Top, Bottom}
use Rattle.machine_model.specs.Paths.{RiscProgram, is_word, fetch, spans_of}
use Rattle.machine_model.proofs.OneSpan.{fetch_there, word_there}
use Rattle.capture_desc.specs.declared.desc.Desc.{Desc}
use Rattle.capture_desc.specs.declared.desc.Fields.{Fields}
use Rattle.capture_desc.specs.declared.desc.Fields.TheVariants as fields
use Rattle.picture_model.specs.declared.PieceKind.{PieceKind}
use Rattle.picture_model.specs.declared.PieceKind.TheVariants.{Write, WriteLuma, Skip}
use Rattle.picture_model.specs.declared.Piece.{Piece}
use Rattle.picture_model.specs.Described.{describes, memory_of}
use Rattle.picture_model.specs.Plans.{Strip, plan}
use Rattle.picture_model.specs.Programs.{begin_by, body, closing, closing_begin, compiled, compiled_words, instr_by, instr_of, line_instrs}
use Rattle.picture_model.specs.Programs.{lines_instrs, next_by, opening, picture_strips, section, section_begin}
use Rattle.picture_model.specs.Programs.{section_length, section_next, signal, vbi_from, vbi_instrs, vbi_strips, field_instrs, words_of}
use Rattle.picture_model.proofs.Circle.{split_length, words_split}
use Rattle.picture_model.proofs.Each.{Each, each_append}
use Rattle.picture_model.proofs.FaultlessLines.{IsGoodInstr}
use Rattle.picture_model.proofs.FaultlessGeometry.{IsRight}
use Rattle.picture_model.proofs.Sections.{good_body, section_stands, signal_spelled}
use Rattle.field_law.specs.Sections.{IsPlain, HoldsFrom, Holds, StandsFrom, closing_at, words_in}
use Rattle.field_law.proofs.OnPath.{granted_demands}
use Rattle.picture_law.specs.Sections.{section_of}

-- ---- the instructions of a body

pub piece_plain : (planar : Bool) (kind : PieceKind) (p : Piece) → IsPlain (instr_by planar kind p)
piece_plain true Write p = refl
piece_plain true WriteLuma p = refl
piece_plain true Skip p = tt
piece_plain false Write p = refl
piece_plain false WriteLuma p = refl
piece_plain false Skip p = tt

pieces_plain : (planar : Bool) (pieces : List Piece) → Each IsPlain (map (instr_of planar) pieces)
pieces_plain planar [] = tt
pieces_plain planar (p ∷ pieces) = (piece_plain planar p.kind p, pieces_plain planar pieces)

lines_plain : (d : Desc) (strips : List Strip) → Each IsPlain (lines_instrs d strips)
lines_plain d [] = tt
lines_plain d (strip ∷ strips) =
    each_append IsPlain (line_instrs d strip) (lines_instrs d strips) (pieces_plain strip.planar (plan (memory_of d) strip))
    (lines_plain d strips)

vbi_plain : (d : Desc) (field : Parity) (lines : ℕ) → Each IsPlain (vbi_from lines d field)
vbi_plain d field zero = tt
vbi_plain d field (suc more) = (tt, lines_plain d (vbi_strips d field))

pub body_plain : (d : Desc) (field : Parity) → Each IsPlain (body d field)
body_plain d field =
    each_append IsPlain (vbi_instrs d field) (field_instrs d field) (vbi_plain d field d.vbi_lines)
    (tt, lines_plain d (picture_strips d field))

-- ---- where they are

-- an instruction is read where its words are
pub fetched_at : (program : RiscProgram) (before after : List ℕ) (i : Instr) (address : ℕ) →
    program.spans ≡ spans_of program.base (before ++ (encoded i ++ after)) →
    address ≡ program.base + 4 * length before → IsInstr i → fetch program address ≡ Ok (i, length (encoded i))
fetched_at program before after i address words at is =
    ap (fetch program) at
    ∙ fetch_there program (before ++ (encoded i ++ after)) (length before) words
    ∙ ap (λ (words : List ℕ). instr_at words (length before)) (sym (append_assoc before (encoded i) after))
    ∙ reads_back i is before after

-- instructions that are good for any program are where their words are
module _ (program other : RiscProgram) (ctl : Ctl) (target : ℕ) (spelled : IsInstr (instr.Jump ctl target)) (after : List ℕ) where
  pub stands_from : (instrs : List Instr) (before : List ℕ) (address : ℕ) →
      program.spans ≡ spans_of program.base (before ++ (words_of instrs ++ (encoded (instr.Jump ctl target) ++ after))) →
      address ≡ program.base + 4 * length before → Each (IsGoodInstr other) instrs → Each IsPlain instrs →
      StandsFrom program address instrs ctl target
  stands_from [] before address words at good plain = fetched_at program before after (instr.Jump ctl target) address words at spelled
  stands_from (i ∷ rest) before address words at good plain =
      let later : List ℕ = words_of rest ++ (encoded (instr.Jump ctl target) ++ after) in
      let split : program.spans ≡ spans_of program.base (before ++ (encoded i ++ later)) =
      words ∙ ap (λ (ws : List ℕ). spans_of program.base (before ++ ws))
      (append_assoc (encoded i) (words_of rest) (encoded (instr.Jump ctl target) ++ after)) in (
        fetched_at program before later i address split at good.0.fine.spelled,
        plain.0,
        stands_from rest (before ++ encoded i) (address + 4 * length (encoded i))
            (split ∙ ap (spans_of program.base) (sym (append_assoc before (encoded i) later)))
            (omega (arith, length-append before (encoded i))) good.1 plain.1,
      )

-- those that are good for the program itself write where it may
holds_from : (program : RiscProgram) (ctl : Ctl) (target : ℕ) → is_word program target ≡ true → (instrs : List Instr) (address : ℕ) →
    Each (IsGoodInstr program) instrs →
    StandsFrom program address instrs ctl target → HoldsFrom program address instrs ctl target
holds_from program ctl target word [] address good stands = (stands, word)
holds_from program ctl target word (i ∷ rest) address good stands = (
  stands.0,
  stands.1,
  granted_demands program i None stands.1 (good.0.fine.fine None),
  holds_from program ctl target word rest (address + 4 * length (encoded i)) good.1 stands.2,
)

-- ---- the closing

-- it leads to the beginning of a section
pub next_field : (which : Fields) (d : Desc) (from : ℕ) (field : Parity) → describes which field ≡ true →
    (next : Parity) × (describes which next ≡ true) × (next_by which d from from field ≡ begin_by which d from next)
next_field fields.Top d from Top is = (Top, refl, refl)
next_field fields.Top d from Bottom is = cc
next_field fields.Bottom d from Top is = cc
next_field fields.Bottom d from Bottom is = (Bottom, refl, refl)
next_field fields.Both d from Top is = (Bottom, refl, refl)
next_field fields.Both d from Bottom is = (Top, refl, refl)

section_some : (d : Desc) (field : Parity) (target : ℕ) → 0 < length (words_of (section d field target))
section_some d field target =
    let long : length (words_of (section d field target)) ≡ suc (suc (length (words_of (body d field ++ closing field target ∷ [])))) =
    refl in omega arith

pub begin_is_word : (d : Desc) (field : Parity) → describes d.fields field ≡ true →
    is_word (compiled d) (section_begin d d.base field) ≡ true
begin_is_word d field is =
    let stands = section_stands d d.base d.base field is in
    let part = words_of (section d field (section_next d d.base d.base field)) in
    let all : length (compiled_words d) ≡ length stands.before + (length part + length stands.after) =
    ap length stands.split ∙ split_length stands.before part stands.after in
    let some = section_some d field (section_next d d.base d.base field) in
    subst (λ (a : ℕ). is_word (compiled d) a ≡ true) (sym stands.at)
    (word_there (compiled d) (compiled_words d) (length stands.before) refl (omega arith))

pub next_is_word : (d : Desc) (field : Parity) → describes d.fields field ≡ true →
    is_word (compiled d) (section_next d d.base d.base field) ≡ true
next_is_word d field is =
    let next = next_field d.fields d d.base field is in
    subst (λ (a : ℕ). is_word (compiled d) a ≡ true) (sym next.2) (begin_is_word d next.0 next.1)

-- ---- the section

regrouped : (a b c e f : List ℕ) → a ++ ((b ++ (c ++ (e ++ []))) ++ f) ≡ (a ++ b) ++ (c ++ (e ++ f))
regrouped a b c e f = simp (append_assoc, append-nil)

pub section_holds : (d : Desc) (field : Parity) → IsRight d → describes d.fields field ≡ true → Holds (section_of d field) (compiled d)
section_holds d field right is =
    let target = section_next d d.base d.base field in
    let stands = section_stands d d.base d.base field is in
    let start = encoded (opening field) in
    let end = encoded (closing field target) in
    let good = good_body d right (compiled d) refl field is in
    let at = stands.at in
    holds_from (compiled d) (signal field) target (next_is_word d field is) (body d field) (section_of d field).at good.1
    (stands_from (compiled d) (compiled d) (signal field) target (signal_spelled field target) stands.after (body d field)
    (stands.before ++ start) (section_of d field).at
    (ap (spans_of d.base)
    (stands.split
    ∙ ap (λ (words : List ℕ). stands.before ++ ((start ++ words) ++ stands.after)) (words_split (body d field) (closing field target) [])
    ∙ regrouped stands.before start (words_of (body d field)) end stands.after))
    (omega (arith, length-append stands.before start)) good.1 (body_plain d field))

pub words_in-words_of : (instrs : List Instr) → words_in instrs ≡ length (words_of instrs)
words_in-words_of [] = refl
words_in-words_of (i ∷ rest) =
    ap (λ (n : ℕ). length (encoded i) + n) (words_in-words_of rest) ∙ sym (length-append (encoded i) (words_of rest))

-- its closing is where the description has it
pub closing_there : (d : Desc) (field : Parity) → closing_at (section_of d field) ≡ closing_begin d d.base field
closing_there d field =
    let instrs = body d field in
    let inner = words_in-words_of instrs in
    let tail : length (words_of (instrs ++ closing field 0 ∷ [])) ≡ length (words_of instrs) + (2 + 0) =
    ap length (words_split instrs (closing field 0) []) ∙ split_length (words_of instrs) (encoded (closing field 0)) [] in
    let long : section_length d field ≡ suc (suc (length (words_of (instrs ++ closing field 0 ∷ [])))) = refl in
    let open_long : length (encoded (opening field)) ≡ 2 = refl in
    omega arith
