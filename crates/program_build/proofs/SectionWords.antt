-- The words of the sections.
use Rattle.std.proofs.Common.{◌≡◌, ℕ, ◌+◌, ◌*◌, ◌%◌, ◌^◌, List, [], ◌∷◌, ◌++◌, length, length-append, sym, ap, ◌∙◌, arith}
use Rattle.std.proofs.lemmas.Grind.{flat_map-append}
use Rattle.std.proofs.lemmas.List.{append-nil}
use Rattle.risc_word.specs.declared.Instr.{Instr}
use Rattle.risc_word.specs.Words.{encoded}
use Rattle.pixel_layout.specs.declared.Parity.{Parity}
use Rattle.pixel_layout.specs.declared.Parity.TheVariants.{Top, Bottom}
use Rattle.capture_desc.specs.declared.desc.Desc.{Desc}
use Rattle.capture_desc.specs.declared.desc.Fields.{Fields}
use Rattle.capture_desc.specs.declared.desc.Fields.TheVariants as fields
use Rattle.picture_model.specs.Programs.{body, closing, opening, section, section_length, sections_by, sections_words, words_of}
use Rattle.picture_model.proofs.Sections.{section_long}
use Rattle.program_build.specs.Checks.{AreSections}

-- a section but for its closing
abbrev pub open_words : Desc → Parity → List ℕ
open_words d field = words_of (opening field ∷ body d field)

closed : (d : Desc) (field : Parity) (target : ℕ) → words_of (section d field target) ≡ open_words d field ++ encoded (closing field target)
closed d field target =
    flat_map-append encoded (opening field ∷ body d field) (closing field target ∷ [])
    ∙ ap (λ (w : List ℕ). open_words d field ++ w) (append-nil (encoded (closing field target)))

pub open_long : (d : Desc) (field : Parity) → section_length d field ≡ length (open_words d field) + 2
open_long d field =
    ap length (closed d field 0) ∙ length-append (open_words d field) (encoded (closing field 0))

-- the sections of both fields

module _ (d : Desc) (at back : ℕ) (both : d.fields ≡ fields.Both) where
  both_words : sections_words d at back ≡ words_of (section d Top (at + 4 * section_length d Top)) ++ words_of (section d Bottom back)
  both_words =
      ap (λ (which : Fields). words_of (sections_by which d at back)) both
      ∙ flat_map-append encoded (section d Top (at + 4 * section_length d Top)) (section d Bottom back)

  pub both_long : length (sections_words d at back) ≡ section_length d Top + section_length d Bottom
  both_long =
      let parts =
      ap length both_words ∙ length-append (words_of (section d Top (at + 4 * section_length d Top))) (words_of (section d Bottom back)) in
      let top = section_long d Top (at + 4 * section_length d Top) in
      let bottom = section_long d Bottom back in omega arith

  -- the top section, its closing and the bottom section are the whole
  pub both_whole : (top closed_top all : List ℕ) (jump : Instr) (target : ℕ) → top ≡ open_words d Top → jump ≡ closing Top target →
      closed_top ≡ top ++ encoded jump →
      all ≡ closed_top ++ words_of (section d Bottom back) → target ≡ (at + 4 * (length top + 2)) % 2 ^ 32 → AreSections d at back all
  both_whole top closed_top all jump target start leads one two next =
      let closed_top_is : closed_top ≡ words_of (section d Top target) =
      one
      ∙ ap (λ (w : List ℕ). w ++ encoded jump) start
      ∙ ap (λ (i : Instr). open_words d Top ++ encoded i) leads
      ∙ sym (closed d Top target)
      in
      let all_is : all ≡ words_of (section d Top target) ++ words_of (section d Bottom back) =
      two ∙ ap (λ (w : List ℕ). w ++ words_of (section d Bottom back)) closed_top_is
      in
      let parts = ap length all_is ∙ length-append (words_of (section d Top target)) (words_of (section d Bottom back)) in
      let first = section_long d Top target in
      let last = section_long d Bottom back in
      let whole = both_long in
      let top_long = open_long d Top in
      let bottom_long = open_long d Bottom in
      let size = ap length start in
      record {
        long = omega arith;
        same = λ ends.
            let there : target ≡ at + 4 * section_length d Top = omega arith in
            all_is
            ∙ ap (λ (t : ℕ). words_of (section d Top t) ++ words_of (section d Bottom back)) there
            ∙ sym both_words;
      }
