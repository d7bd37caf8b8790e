-- The section of a field is in its fragment, and every patching holds it.
use Rattle.std.proofs.Common.{◌≡◌, ℕ, suc, ◌+◌, ◌*◌, ◌<◌, ◌≤◌, true, List, [], ◌∷◌, ◌++◌, length, length-append, append_assoc, Some, None}
use Rattle.std.proofs.Common.{Ok, refl, sym, ap, ◌∙◌, subst, arith}
use Rattle.std.proofs.lemmas.List.{append-nil}
use Rattle.risc_word.specs.declared.Ctl.{Ctl}
use Rattle.risc_word.specs.declared.Instr.{Instr}
use Rattle.risc_word.specs.Words.{IsInstr, encoded}
use Rattle.pixel_layout.specs.declared.Parity.{Parity}
use Rattle.pixel_layout.specs.declared.Parity.TheVariants.{Top, Bottom}
use Rattle.machine_model.specs.Accesses.{AreFetchedAlike}
use Rattle.machine_model.specs.Paths.{RiscProgram, Place, fetch, demands_cause, demands_of, spans_of}
use Rattle.capture_desc.specs.declared.desc.Desc.{Desc}
use Rattle.capture_desc.specs.declared.desc.Fields.{Fields}
use Rattle.capture_desc.specs.declared.desc.Fields.TheVariants as fields
use Rattle.picture_model.specs.Described.{describes}
use Rattle.picture_model.specs.Programs.{begin_by, body, closing, compiled, next_by, opening, section, section_begin, section_next}
use Rattle.picture_model.specs.Programs.{sections, signal, words_of}
use Rattle.picture_model.proofs.Circle.{words_split}
use Rattle.picture_model.proofs.FaultlessGeometry.{IsRight, IsFrame-IsRight}
use Rattle.picture_model.proofs.Sections.{good_body, section_stands, signal_spelled}
use Rattle.field_law.specs.Sections.{Holds, HoldsFrom, Stands}
use Rattle.field_law.proofs.OnPath.{ComesTo, one_on, sound_holds, walks}
use Rattle.picture_law.proofs.Program.{body_plain, fetched_at, stands_from}
use Rattle.chain_model.specs.Chains.{Chain, IsChain, IsSoundChain, Patching, alone, alone_in, head, next, part_of, patched, patched_words}
use Rattle.chain_model.specs.Chains.{slot_at}
use Rattle.chain_model.proofs.Slots.{length-alone, path_to_head}
use Rattle.chain_model.proofs.Words.{behind_alike}
use Rattle.chain_law.specs.Fragments.{IsFragment}
use Rattle.chain_law.specs.Pictures.{section_in}
use Rattle.chain_law.proofs.Splits.{head_there, part_split, words_after, words_before}

-- ---- programs that fetch the same behind an address hold the same

module _ (first second : RiscProgram) (grants : first.grants ≡ second.grants) (low : ℕ)
    (alike : (pc : ℕ) → low ≤ pc → AreFetchedAlike pc first second) where
  same_from : (instrs : List Instr) (address : ℕ) (ctl : Ctl) (target : ℕ) → low ≤ address → HoldsFrom first address instrs ctl target →
      HoldsFrom second address instrs ctl target
  same_from [] address ctl target below held =
      (sym (alike address below).instruction ∙ held.0, sym ((alike address below).words target) ∙ held.1)
  same_from (i ∷ rest) address ctl target below held = (
    sym (alike address below).instruction ∙ held.0,
    held.1,
    subst (λ g. demands_cause g (demands_of i None) ≡ None) grants held.2,
    same_from rest (address + 4 * length (encoded i)) ctl target (omega arith) held.3,
  )

-- ---- the sections of a fragment

module _ (chain : Chain) (part : ℕ) (there : part < length chain.parts) (d : Desc) (frag : IsFragment chain part d) where
  abbrev begin : ℕ
  begin = head chain part

  abbrev back : ℕ
  back = next chain (part_of chain part).slot

  right : IsRight d
  right = IsFrame-IsRight d frag.description frag.frame

  module _ (patching : Patching) (long : length patching ≡ chain.slots) where
    abbrev program : RiscProgram
    program = patched chain patching

    abbrev front : List ℕ
    front = words_before chain patching part

    abbrev rest : List ℕ
    rest = words_after chain patching part

    split : patched_words chain patching ≡ front ++ (words_of (sections d begin back) ++ rest)
    split = part_split chain patching part there ∙ ap (λ (words : List ℕ). front ++ (words ++ rest)) frag.words

    module _ (field : Parity) (is : describes d.fields field ≡ true) where
      abbrev to : ℕ
      to = section_next d begin back field

      section_split : patched_words chain patching ≡ (front ++ (section_stands d begin back field is).before)
          ++ (encoded (opening field)
          ++ (words_of (body d field) ++ (encoded (closing field to) ++ ((section_stands d begin back field is).after ++ rest))))
      section_split =
          let stands = section_stands d begin back field is in
          split
          ∙ ap (λ (words : List ℕ). front ++ (words ++ rest))
          (stands.split ∙ ap (λ (words : List ℕ). stands.before ++ (words ++ stands.after)) (parts field to))
          ∙ grouped front stands.before (encoded (opening field)) (words_of (body d field)) (encoded (closing field to)) stands.after rest
        where
          parts : (field : Parity) (to : ℕ) →
              words_of (section d field to) ≡ encoded (opening field) ++ (words_of (body d field) ++ (encoded (closing field to) ++ []))
          parts field to = ap (λ (words : List ℕ). encoded (opening field) ++ words) (words_split (body d field) (closing field to) [])

          grouped : (a b o w c f g : List ℕ) → a ++ ((b ++ ((o ++ (w ++ (c ++ []))) ++ f)) ++ g) ≡ (a ++ b) ++ (o ++ (w ++ (c ++ (f ++ g))))
          grouped a b o w c f g = simp (append_assoc, append-nil)

      at_section : section_begin d begin field ≡ program.base + 4 * length (front ++ (section_stands d begin back field is).before)
      at_section =
          let stands = section_stands d begin back field is in
          let here = stands.at in
          let start = head_there chain patching part long in
          let both = length-append front stands.before in omega arith

      pub opening_read : fetch program (section_begin d begin field) ≡ Ok (opening field, 2)
      opening_read =
          fetched_at program (front ++ (section_stands d begin back field is).before)
          (words_of (body d field) ++ (encoded (closing field to) ++ ((section_stands d begin back field is).after ++ rest)))
          (opening field) (section_begin d begin field) (ap (spans_of chain.base) section_split) at_section (opening_spelled field)
        where
          opening_spelled : (field : Parity) → IsInstr (opening field)
          opening_spelled Top = (refl, tt)
          opening_spelled Bottom = (refl, tt)

      pub section_there : Stands (section_in chain part d field) program
      section_there =
          let stands = section_stands d begin back field is in
          let start = encoded (opening field) in
          let there = at_section in
          stands_from program (compiled d) (signal field) to (signal_spelled field to) (stands.after ++ rest) (body d field)
          ((front ++ stands.before) ++ start) (section_in chain part d field).at
          (ap (spans_of chain.base)
          (section_split ∙ sym (append_assoc (front ++ stands.before) start
          (words_of (body d field) ++ (encoded (closing field to) ++ (stands.after ++ rest))))))
          (omega (arith, length-append (front ++ stands.before) start)) (good_body d right (compiled d) refl field is).1
          (body_plain d field)

  -- ---- alone, the path comes to each section

  module _ (is_chain : IsChain chain) (sound : IsSoundChain chain) where
    abbrev member : RiscProgram
    member = alone chain (Some part)

    member_long : length (alone_in chain (Some part)) ≡ chain.slots
    member_long = length-alone chain (Some part)

    at_head : ComesTo member begin
    at_head = (suc (part_of chain part).slot, ap (λ (p : Place). p.pc) (path_to_head chain is_chain sound part there))

    -- past the opening
    inside : (field : Parity) (is : describes d.fields field ≡ true) → ComesTo member (section_begin d begin field) →
        ComesTo member (section_in chain part d field).at
    inside field is here =
        one_on member (sound part there) (section_begin d begin field) (opening field) 2 tt
        (opening_read (alone_in chain (Some part)) member_long field is) here

    through : (field : Parity) (is : describes d.fields field ≡ true) → ComesTo member (section_begin d begin field) →
        ComesTo member (section_next d begin back field)
    through field is here =
        walks member (sound part there) (body d field) (section_in chain part d field).at (signal field) (section_next d begin back field)
        (section_there (alone_in chain (Some part)) member_long field is) (inside field is here)

    comes_by : (which : Fields) → d.fields ≡ which → (field : Parity) → describes which field ≡ true →
        ComesTo member (section_begin d begin field)
    comes_by fields.Top e field is = subst (ComesTo member) (sym (ap (λ (w : Fields). begin_by w d begin field) e)) at_head
    comes_by fields.Bottom e field is = subst (ComesTo member) (sym (ap (λ (w : Fields). begin_by w d begin field) e)) at_head
    comes_by fields.Both e Top is = subst (ComesTo member) (sym (ap (λ (w : Fields). begin_by w d begin Top) e)) at_head
    comes_by fields.Both e Bottom is =
        subst (ComesTo member) (ap (λ (w : Fields). next_by w d begin back Top) e ∙ sym (ap (λ (w : Fields). begin_by w d begin Bottom) e))
        (through Top (ap (λ (w : Fields). describes w Top) e)
        (subst (ComesTo member) (sym (ap (λ (w : Fields). begin_by w d begin Top) e)) at_head))

    member_holds : (field : Parity) → describes d.fields field ≡ true → Holds (section_in chain part d field) member
    member_holds field is =
        let here = inside field is (comes_by d.fields refl field is) in
        sound_holds (section_in chain part d field) member here.0 (sound part there) here.1
        (section_there (alone_in chain (Some part)) member_long field is)

    behind : (field : Parity) → (is : describes d.fields field ≡ true) → slot_at chain chain.slots ≤ (section_in chain part d field).at
    behind field is =
        let here = (section_stands d begin back field is).at in omega arith

    -- so does every patching
    pub patched_holds : (patching : Patching) → length patching ≡ chain.slots → (field : Parity) → describes d.fields field ≡ true →
        Holds (section_in chain part d field) (patched chain patching)
    patched_holds patching long field is =
        same_from member (patched chain patching) refl (slot_at chain chain.slots)
        (λ pc low. behind_alike chain (alone_in chain (Some part)) patching member_long long pc low)
        (body d field) (section_in chain part d field).at (signal field) (section_next d begin back field) (behind field is)
        (member_holds field is)
