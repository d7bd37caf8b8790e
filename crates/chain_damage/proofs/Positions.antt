-- Where the sections of the parts of a chain are, and which instructions are fetched there.
use Rattle.std.proofs.Common.{◌≡◌, ℕ, zero, suc, ◌+◌, ◌*◌, ◌<◌, ◌≤◌, ◌⊎◌, inl, inr, true, List, [], ◌∷◌, ◌++◌, length, take}
use Rattle.std.proofs.Common.{length-append, None, Ok, refl, sym, ap, ◌∙◌, subst, arith}
use Rattle.std.specs.Prelude.{slice_index_or}
use Rattle.std.proofs.lemmas.Bool.{cases_eq, cases_lt}
use Rattle.std.proofs.lemmas.List.Elements.{All-get_or}
use Rattle.risc_word.specs.declared.Ctl.{Ctl}
use Rattle.risc_word.specs.declared.Instr.{Instr}
use Rattle.risc_word.specs.declared.Instr.TheVariants.{Jump}
use Rattle.risc_word.specs.Words.{encoded}
use Rattle.pixel_layout.specs.declared.Parity.{Parity}
use Rattle.pixel_layout.specs.declared.Parity.TheVariants.{Top, Bottom}
use Rattle.machine_model.specs.Paths.{RiscProgram, fetch}
use Rattle.capture_desc.specs.declared.desc.Desc.{Desc}
use Rattle.capture_desc.specs.declared.desc.Fields.{Fields}
use Rattle.capture_desc.specs.declared.desc.Fields.TheVariants as fields
use Rattle.picture_model.specs.Described.{describes}
use Rattle.picture_model.specs.Programs.{begin_by, body, closing, next_by, opening, section, section_begin, section_next, signal, words_of}
use Rattle.picture_model.proofs.Sections.{section_stands}
use Rattle.field_law.specs.Sections.{IsPlain, StandsFrom, words_in}
use Rattle.picture_law.proofs.Program.{words_in-words_of}
use Rattle.damage_law.proofs.AnswersKept.{field_same, first_field, same_read, signals_apart}
use Rattle.damage_law.proofs.Compiled.{words_append}
use Rattle.chain_model.specs.declared.PartWords.{PartWords}
use Rattle.chain_model.specs.Chains.{Chain, IsChain, alone, alone_in, head, next, part_of, slot_at, words_of_parts}
use Rattle.chain_model.proofs.Slots.{length-alone}
use Rattle.chain_law.specs.Fragments.{AreFragments, IsFragment}
use Rattle.chain_law.proofs.Standing.{opening_read, section_there}
use Rattle.chain_damage.specs.Rows.{IsPartField, begin_in}

abbrev no_part : PartWords
no_part = record { slot = 0; words = [] }

-- the words of a part are before those of each later one
words_up : (parts : List PartWords) (p q : ℕ) → p < q → p < length parts →
    length (words_of_parts (take p parts)) + length (slice_index_or parts p no_part).words ≤ length (words_of_parts (take q parts))
words_up [] p q less within = absurd (omega arith)
words_up (x ∷ parts) zero zero less within = absurd (omega arith)
words_up (x ∷ parts) (suc p) zero less within = absurd (omega arith)
words_up (x ∷ parts) zero (suc q) less within =
    let all = length-append x.words (words_of_parts (take q parts)) in omega arith
words_up (x ∷ parts) (suc p) (suc q) less within =
    let rest = words_up parts p q (omega arith) (omega arith) in
    let one = length-append x.words (words_of_parts (take p parts)) in
    let two = length-append x.words (words_of_parts (take q parts)) in
    omega arith

stands_end : (program : RiscProgram) (at : ℕ) (instrs : List Instr) (ctl : Ctl) (to : ℕ) → StandsFrom program at instrs ctl to →
    fetch program (at + 4 * words_in instrs) ≡ Ok (Jump ctl to, 2)
stands_end program at [] ctl to stands = let here : at + 4 * 0 ≡ at = omega arith in ap (fetch program) here ∙ stands
stands_end program at (i ∷ rest) ctl to stands =
    let there : at + 4 * words_in (i ∷ rest) ≡ at + 4 * length (encoded i) + 4 * words_in rest = omega arith in
    ap (fetch program) there ∙ stands_end program (at + 4 * length (encoded i)) rest ctl to stands.2

module _ (chain : Chain) (part : ℕ) (d : Desc) (field : Parity) (is : IsChain chain) (fragments : AreFragments chain)
    (f : IsPartField chain part d field) where
  abbrev pub back : ℕ → ℕ
  back number = next chain (part_of chain number).slot

  -- a described field of a part, which is the fragment of a description: of this one, if it is this part
  pub record PartField : Type 0 where
    pub number : ℕ
    pub inside : number < length chain.parts
    pub shown : Desc
    pub fragment : IsFragment chain number shown
    pub own : number ≡ part → shown ≡ d
    pub of : Parity
    pub described : describes shown.fields of ≡ true

  abbrev pub begin_at : PartField → ℕ
  begin_at p = section_begin p.shown (head chain p.number) p.of

  abbrev pub next_at : PartField → ℕ
  next_at p = section_next p.shown (head chain p.number) (back p.number) p.of

  abbrev pub end_at : PartField → ℕ
  end_at p = begin_at p + 8 + 4 * words_in (body p.shown p.of)

  -- it is this field of this part
  abbrev pub IsIt : PartField → Type 0
  IsIt p = (p.number ≡ part) × (p.of ≡ field)

  pub is_it_or : (p : PartField) → IsIt p ⊎ (IsIt p → ⊥)
  is_it_or p = by_both (cases_eq p.number part) (field_same p.of field)
    where
      by_both : (p.number ≡ part) ⊎ (p.number ≡ part → ⊥) → (p.of ≡ field) ⊎ (p.of ≡ field → ⊥) → IsIt p ⊎ (IsIt p → ⊥)
      by_both (inl one) (inl two) = inl (one, two)
      by_both (inl one) (inr apart) = inr (λ both. apart both.1)
      by_both (inr apart) two = inr (λ both. apart both.0)

  -- behind the slots every patching has the words of this program
  abbrev pub bare : RiscProgram
  bare = alone chain None

  -- ---- where a machine may be about to fetch

  pub record AtSlot (pc : ℕ) : Type 0 where
    pub slot : ℕ
    pub few : slot ≤ chain.slots
    pub there : pc ≡ slot_at chain slot

  pub record AtOpening (pc : ℕ) : Type 0 where
    pub p : PartField
    pub there : pc ≡ begin_at p

  pub record Within (pc : ℕ) : Type 0 where
    pub p : PartField
    pub rest : List Instr
    pub stands : StandsFrom bare pc rest (signal p.of) (next_at p)
    pub low : begin_at p + 8 ≤ pc
    pub ends : pc + 4 * words_in rest ≡ end_at p

  -- outside this field's section
  abbrev pub Out : ℕ → Type 0
  Out pc = AtSlot pc ⊎ (AtOpening pc ⊎ ((w : Within pc) × (IsIt w.p → ⊥)))

  -- ---- sections are in their parts

  begin_high : (p : PartField) → head chain p.number ≤ begin_at p
  begin_high p = let here = (section_stands p.shown (head chain p.number) (back p.number) p.of p.described).at in omega arith

  pub behind_slots : (p : PartField) → slot_at chain chain.slots + 8 ≤ begin_at p
  behind_slots p = let high = begin_high p in omega arith

  end_low : (p : PartField) → end_at p + 8 ≤ head chain p.number + 4 * length (part_of chain p.number).words
  end_low p =
      let to = next_at p in
      let stands = section_stands p.shown (head chain p.number) (back p.number) p.of p.described in
      let at = stands.at in
      let words = ap length (p.fragment.words ∙ stands.split) in
      let one = length-append stands.before (words_of (section p.shown p.of to) ++ stands.after) in
      let two = length-append (words_of (section p.shown p.of to)) stands.after in
      let size : words_in (section p.shown p.of to) ≡ 2 + (words_in (body p.shown p.of) + 2) =
      ap (λ (n : ℕ). 2 + n) (words_append p.shown (body p.shown p.of) (closing p.of to ∷ [])) in
      let same = words_in-words_of (section p.shown p.of to) in
      omega arith

  parts_apart : (p q : PartField) → p.number < q.number → end_at p + 8 ≤ begin_at q
  parts_apart p q less =
      let low = end_low p in
      let high = begin_high q in
      let up = words_up chain.parts p.number q.number less p.inside in
      omega arith

  -- the field itself
  abbrev pub itself : PartField
  itself =
      record {
        number = part;
        inside = f.is_part;
        shown = d;
        fragment = f.fragment;
        own = λ same. refl;
        of = field;
        described = f.described;
      }

  begin_itself : (p : PartField) → IsIt p → begin_at p ≡ begin_in chain part d field
  begin_itself p it =
      ap (λ (x : Desc). section_begin x (head chain p.number) p.of) (p.own it.0)
      ∙ ap (λ (n : ℕ). section_begin d (head chain n) p.of) it.0 ∙ ap (section_begin d (head chain part)) it.1

  pub opening_itself : (pc : ℕ) (o : AtOpening pc) → IsIt o.p → pc ≡ begin_in chain part d field
  opening_itself pc o it = o.there ∙ begin_itself o.p it

  -- ---- what is fetched

  pub opening_there : (p : PartField) → fetch bare (begin_at p) ≡ Ok (opening p.of, 2)
  opening_there p =
      opening_read chain p.number p.inside p.shown p.fragment (alone_in chain None) (length-alone chain None) p.of p.described

  pub body_there : (p : PartField) → StandsFrom bare (begin_at p + 8) (body p.shown p.of) (signal p.of) (next_at p)
  body_there p =
      section_there chain p.number p.inside p.shown p.fragment (alone_in chain None) (length-alone chain None) p.of p.described

  pub closing_there : (p : PartField) → fetch bare (end_at p) ≡ Ok (Jump (signal p.of) (next_at p), 2)
  closing_there p = stands_end bare (begin_at p + 8) (body p.shown p.of) (signal p.of) (next_at p) (body_there p)

  -- ---- where instructions lead

  pub to_slot : (slot : ℕ) → slot ≤ chain.slots → Out (slot_at chain slot)
  to_slot slot few = inl (record { slot = slot; few = few; there = refl })

  pub to_part : (number : ℕ) → number < length chain.parts → Out (head chain number)
  to_part number inside =
      let shown = shown_by (cases_eq number part) in
      let first = first_field shown.0.fields shown.0 (head chain number) in
      inr (inl (record {
        p = record {
          number = number;
          inside = inside;
          shown = shown.0;
          fragment = shown.1;
          own = shown.2;
          of = first.0;
          described = first.1;
        };
        there = sym first.2;
      }))
    where
      shown_by : (number ≡ part) ⊎ (number ≡ part → ⊥) → (x : Desc) × IsFragment chain number x × (number ≡ part → x ≡ d)
      shown_by (inl same) = (d, subst (λ (n : ℕ). IsFragment chain n d) (sym same) f.fragment, λ own. refl)
      shown_by (inr other) = let a = fragments number inside in (a.0, a.1, λ own. absurd (other own))

  -- from a closing to the next section or slot
  pub to_next : (p : PartField) → Out (next_at p)
  to_next p = by_fields p.shown.fields refl p.of
    where
      to_back : Out (back p.number)
      to_back =
          let few : (part_of chain p.number).slot < chain.slots =
          All-get_or (λ (x : PartWords). x.slot < chain.slots) chain.parts p.number no_part p.inside is.belong in
          to_slot ((part_of chain p.number).slot + 1) (omega arith)

      by_fields : (which : Fields) → p.shown.fields ≡ which → (g : Parity) →
          Out (next_by which p.shown (head chain p.number) (back p.number) g)
      by_fields fields.Top e g = to_back
      by_fields fields.Bottom e g = to_back
      by_fields fields.Both e Bottom = to_back
      by_fields fields.Both e Top =
          inr (inl (record {
            p = record {
              number = p.number;
              inside = p.inside;
              shown = p.shown;
              fragment = p.fragment;
              own = p.own;
              of = Bottom;
              described = ap (λ (w : Fields). describes w Bottom) e;
            };
            there = sym (ap (λ (w : Fields). begin_by w p.shown (head chain p.number) Bottom) e);
          }))

  -- ---- the closing of this field is nowhere outside its section

  other_section : (p : PartField) → (IsIt p → ⊥) → p.of ≡ field → end_at p ≡ end_at itself → ⊥
  other_section p never same ends = by_number (cases_eq p.number part)
    where
      by_number : (p.number ≡ part) ⊎ (p.number ≡ part → ⊥) → ⊥
      by_number (inl here) = never (here, same)
      by_number (inr other) = by_order (cases_lt p.number part)
        where
          by_order : (p.number < part) ⊎ (part ≤ p.number) → ⊥
          by_order (inl less) = let apart = parts_apart p itself less in absurd (omega arith)
          by_order (inr more) =
              let greater : part < p.number = by_eq (cases_lt part p.number) in
              let apart = parts_apart itself p greater in absurd (omega arith)
            where
              by_eq : (part < p.number) ⊎ (p.number ≤ part) → part < p.number
              by_eq (inl less) = less
              by_eq (inr low) = let eq : p.number ≡ part = omega arith in absurd (other eq)

  pub never_closing : (pc : ℕ) → Out pc → pc ≡ end_at itself → ⊥
  never_closing pc (inl s) same =
      let low = behind_slots itself in
      let few = s.few in
      let there = s.there in
      absurd (omega arith)
  never_closing pc (inr (inl o)) same =
      let one : fetch bare pc ≡ Ok (opening o.p.of, 2) = ap (fetch bare) o.there ∙ opening_there o.p in
      let two : fetch bare pc ≡ Ok (Jump (signal field) (next_at itself), 2) = ap (fetch bare) same ∙ closing_there itself in
      let other : opening o.p.of ≡ Jump (signal field) (next_at itself) =
      same_read (opening o.p.of) (Jump (signal field) (next_at itself)) 2 2 (fetch bare pc) one two in
      cc
  never_closing pc (inr (inr w)) same = by_rest w.0.rest w.0.stands w.0.ends
    where
      two : fetch bare pc ≡ Ok (Jump (signal field) (next_at itself), 2)
      two = ap (fetch bare) same ∙ closing_there itself

      by_rest : (rest : List Instr) → StandsFrom bare pc rest (signal w.0.p.of) (next_at w.0.p) → pc + 4 * words_in rest ≡ end_at w.0.p → ⊥
      by_rest [] stands ends =
          let fields : w.0.p.of ≡ field =
          signals_apart w.0.p.of field (next_at w.0.p) (next_at itself)
          (same_read (Jump (signal w.0.p.of) (next_at w.0.p)) (Jump (signal field) (next_at itself)) 2 2 (fetch bare pc) stands two) in
          let here : end_at w.0.p ≡ end_at itself = omega arith in
          other_section w.0.p w.1 fields here
      by_rest (i ∷ rest) stands ends =
          let is_jump : i ≡ Jump (signal field) (next_at itself) =
          same_read i (Jump (signal field) (next_at itself)) (length (encoded i)) 2 (fetch bare pc) stands.0 two in
          subst IsPlain is_jump stands.1
