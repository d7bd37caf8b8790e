-- A part that is the fragment of a description is sound alone.
use Rattle.std.proofs.Common.{◌≡◌, ℕ, zero, suc, ◌+◌, ◌*◌, ◌<◌, ◌≤◌, ◌⊎◌, inl, inr, true, List, [], ◌∷◌, ◌++◌, length, append_assoc, Option}
use Rattle.std.proofs.Common.{Some, None, Ok, refl, sym, ap, ◌∙◌, subst, arith}
use Rattle.std.proofs.lemmas.Bool.{cases_eq, cases_lt}
use Rattle.std.proofs.lemmas.List.{get_or-set_other}
use Rattle.risc_word.specs.declared.Instr.{Instr}
use Rattle.risc_word.specs.declared.Instr.TheVariants.{Write, Skip, WriteC, Jump, Sync, Write123, Skip123, Write1S23}
use Rattle.risc_word.specs.Words.{Reading, control_bits, encoded}
use Rattle.page_table.specs.Grants.{Chunk}
use Rattle.page_table.specs.Taken.{in_order}
use Rattle.pixel_layout.specs.declared.Parity.{Parity}
use Rattle.pixel_layout.specs.declared.Parity.TheVariants.{Top, Bottom}
use Rattle.machine_model.specs.declared.Cause.{Cause}
use Rattle.machine_model.specs.Paths.{RiscProgram, Place, AreWithin, IsSound, cause_at, fetch, instr_cause, is_word, next_by, next_place}
use Rattle.machine_model.specs.Paths.{path, place_after, place_read, reading_cause, spans_of, target_before}
use Rattle.machine_model.proofs.Wider.{data-wider}
use Rattle.machine_model.proofs.OneSpan.{word_there}
use Rattle.capture_desc.specs.declared.desc.Desc.{Desc}
use Rattle.capture_desc.specs.declared.desc.Fields.{Fields}
use Rattle.capture_desc.specs.declared.desc.Fields.TheVariants as fields
use Rattle.picture_model.specs.Described.{describes, memory_of}
use Rattle.picture_model.specs.Programs.{body, closing, opening, section, section_length, sections, sections_by, words_of}
use Rattle.picture_model.proofs.Circle.{IsAt, IsFineInstr, IsPlain, IsSome, Lead, lead_at, lead_plain, split_length, words_split}
use Rattle.picture_model.proofs.Circle.{goes_after}
use Rattle.picture_model.proofs.Each.{Each, each_append, each_only}
use Rattle.picture_model.proofs.FaultlessLines.{IsGoodInstr}
use Rattle.picture_model.proofs.FaultlessGeometry.{IsRight, IsFrame-IsRight}
use Rattle.picture_model.proofs.Sections.{closing_fine, good_body, section_long}
use Rattle.chain_model.specs.Chains.{Chain, IsChain, alone, alone_in, head, jump_word, next, part_at, part_of, patched_words, slot_at}
use Rattle.chain_model.specs.Chains.{target, unpatched}
use Rattle.chain_model.proofs.Slots.{jumps_to, length-alone, part_at-own, part_at-unpatched, slot_is_word}
use Rattle.chain_model.proofs.Words.{back_read, slot_read}
use Rattle.chain_law.specs.Fragments.{FragmentIsSound, FragmentsAreSound, IsFragment}
use Rattle.chain_law.proofs.Splits.{fetch_there, fine_there, following, head_there, part_split, word_at_there, words_after, words_before}

-- ---- the sections of a description, as they are at an address

module _ (d : Desc) (at back : ℕ) where
  abbrev pub middle : ℕ
  middle = at + 4 * section_length d Top

  first_by : (which : Fields) → IsAt at (sections_by which d at back) at
  first_by fields.Top =
      record { before = []; instr = opening Top; after = body d Top ++ closing Top back ∷ []; split = refl; at = omega arith }
  first_by fields.Bottom =
      record { before = []; instr = opening Bottom; after = body d Bottom ++ closing Bottom back ∷ []; split = refl; at = omega arith }
  first_by fields.Both =
      record {
        before = [];
        instr = opening Top;
        after = body d Top ++ closing Top middle ∷ [] ++ section d Bottom back;
        split = refl;
        at = omega arith;
      }

  -- the first section begins at the address, and the bottom one behind the top one
  pub first_at : IsAt at (sections d at back) at
  first_at = first_by d.fields

  middle_by : (which : Fields) → which ≡ fields.Both →
      (there : IsAt at (sections_by which d at back) middle) × (0 < length (encoded there.instr))
  middle_by fields.Top e = cc
  middle_by fields.Bottom e = cc
  middle_by fields.Both e =
      let long = section_long d Top middle in (
        record {
          before = section d Top middle;
          instr = opening Bottom;
          after = body d Bottom ++ closing Bottom back ∷ [];
          split = refl;
          at = omega arith;
        },
        omega arith,
      )

  pub middle_at : d.fields ≡ fields.Both → (there : IsAt at (sections d at back) middle) × (0 < length (encoded there.instr))
  middle_at e = middle_by d.fields e

  lead_by : (which : Fields) (There : ℕ → Type 0) →
      ((field : Parity) → describes which field ≡ true → Each IsPlain (opening field ∷ body d field)) → There back →
      (which ≡ fields.Both → There middle) → Lead There (sections_by which d at back)
  lead_by fields.Top There plain last mid = lead_plain There (opening Top ∷ body d Top) (closing Top back) [] (plain Top refl) last tt
  lead_by fields.Bottom There plain last mid =
      lead_plain There (opening Bottom ∷ body d Bottom) (closing Bottom back) [] (plain Bottom refl) last tt
  lead_by fields.Both There plain last mid =
      subst (Lead There) (sym (append_assoc (opening Top ∷ body d Top) (closing Top middle ∷ []) (section d Bottom back)))
      (lead_plain There (opening Top ∷ body d Top) (closing Top middle) (section d Bottom back) (plain Top refl) (mid refl)
      (lead_plain There (opening Bottom ∷ body d Bottom) (closing Bottom back) [] (plain Bottom refl) last tt))

module _ (d : Desc) (at back : ℕ) where
  module _ (program : RiscProgram) where
    one_fine : (field : Parity) (target : ℕ) → Each (IsFineInstr program) (opening field ∷ body d field) → is_word program target ≡ true →
        Each (IsFineInstr program) (section d field target)
    one_fine field target inner word =
        each_append (IsFineInstr program) (opening field ∷ body d field) (closing field target ∷ []) inner
        (closing_fine program field target word, tt)

    pub fine_by : (which : Fields) →
        ((field : Parity) → describes which field ≡ true → Each (IsFineInstr program) (opening field ∷ body d field)) →
        is_word program back ≡ true →
        (which ≡ fields.Both → is_word program (middle d at back) ≡ true) → Each (IsFineInstr program) (sections_by which d at back)
    fine_by fields.Top inner last mid = one_fine Top back (inner Top refl) last
    fine_by fields.Bottom inner last mid = one_fine Bottom back (inner Bottom refl) last
    fine_by fields.Both inner last mid =
        each_append (IsFineInstr program) (section d Top (middle d at back)) (section d Bottom back)
        (one_fine Top (middle d at back) (inner Top refl) (mid refl))
        (one_fine Bottom back (inner Bottom refl) last)

-- ---- under wider grants

widened : (program : RiscProgram) (grants : List Chunk) → AreWithin grants program.grants → (i : Instr) →
    IsGoodInstr (record program { grants = grants }) i → IsFineInstr program i
widened program grants within i good = record { spelled = good.fine.spelled; some = good.fine.some; fine = fine_of i good }
  where
    fine_of : (i : Instr) → IsGoodInstr (record program { grants = grants }) i → (target : Option ℕ) → instr_cause program i target ≡ None
    fine_of (Jump ctl addr) good target = absurd good.plain
    fine_of (Sync ctl resync code) good target = refl
    fine_of (Write ctl ends off count addr) good target =
        data-wider grants program.grants within (Write ctl ends off count addr) (target_before (Write ctl ends off count addr) target)
        (good.fine.fine target)
    fine_of (Skip ctl ends count) good target =
        data-wider grants program.grants within (Skip ctl ends count) (target_before (Skip ctl ends count) target) (good.fine.fine target)
    fine_of (WriteC ctl ends off count) good target =
        data-wider grants program.grants within (WriteC ctl ends off count) (target_before (WriteC ctl ends off count) target)
        (good.fine.fine target)
    fine_of (Write123 ctl ends off counts addrs) good target =
        data-wider grants program.grants within (Write123 ctl ends off counts addrs)
        (target_before (Write123 ctl ends off counts addrs) target) (good.fine.fine target)
    fine_of (Skip123 ctl ends counts) good target =
        data-wider grants program.grants within (Skip123 ctl ends counts) (target_before (Skip123 ctl ends counts) target)
        (good.fine.fine target)
    fine_of (Write1S23 ctl ends off counts addr) good target =
        data-wider grants program.grants within (Write1S23 ctl ends off counts addr)
        (target_before (Write1S23 ctl ends off counts addr) target) (good.fine.fine target)

-- ---- the path of a fragment alone

module _ (chain : Chain) (is : IsChain chain) (part : ℕ) (there : part < length chain.parts) (d : Desc) (frag : IsFragment chain part d)
    (within : AreWithin (in_order (memory_of d)) chain.grants) where
  abbrev program : RiscProgram
  program = alone chain (Some part)

  abbrev slot : ℕ
  slot = (part_of chain part).slot

  abbrev begin : ℕ
  begin = head chain part

  abbrev back : ℕ
  back = next chain slot

  abbrev instrs : List Instr
  instrs = sections d begin back

  long : length (alone_in chain (Some part)) ≡ chain.slots
  long = length-alone chain (Some part)

  below : slot < chain.slots
  below = is.belong part (record { slot = 0; words = [] }) there

  right : IsRight d
  right = IsFrame-IsRight d frag.description frag.frame

  split : patched_words chain (alone_in chain (Some part))
      ≡ words_before chain (alone_in chain (Some part)) part ++ (words_of instrs ++ words_after chain (alone_in chain (Some part)) part)
  split =
      part_split chain (alone_in chain (Some part)) part there
      ∙ ap (λ (words : List ℕ).
      words_before chain (alone_in chain (Some part)) part ++ (words ++ words_after chain (alone_in chain (Some part)) part)) frag.words

  at_begin : begin ≡ program.base + 4 * length (words_before chain (alone_in chain (Some part)) part)
  at_begin = head_there chain (alone_in chain (Some part)) part long

  inner : (field : Parity) → describes d.fields field ≡ true →
      Each (IsGoodInstr (record program { grants = in_order (memory_of d) })) (opening field ∷ body d field)
  inner field is = good_body d right (record program { grants = in_order (memory_of d) }) refl field is

  inner_fine : (field : Parity) → describes d.fields field ≡ true → Each (IsFineInstr program) (opening field ∷ body d field)
  inner_fine field described =
      each_only (IsGoodInstr (record program { grants = in_order (memory_of d) })) (IsFineInstr program) (opening field ∷ body d field)
      (widened program (in_order (memory_of d)) within) (inner field described)

  inner_plain : (field : Parity) → describes d.fields field ≡ true → Each IsPlain (opening field ∷ body d field)
  inner_plain field described =
      each_only (IsGoodInstr (record program { grants = in_order (memory_of d) })) IsPlain (opening field ∷ body d field)
      (λ i good. good.plain) (inner field described)

  -- the words of the fragment are fine, once the way back and the second section are at words
  size : length (patched_words chain (alone_in chain (Some part))) ≡ length (words_before chain (alone_in chain (Some part)) part)
      + (length (words_of instrs) + length (words_after chain (alone_in chain (Some part)) part))
  size =
      ap length split ∙ split_length (words_before chain (alone_in chain (Some part)) part) (words_of instrs)
      (words_after chain (alone_in chain (Some part)) part)

  back_word : is_word program back ≡ true
  back_word =
      let on : back ≡ slot_at chain (suc slot) = omega arith in
      ap (is_word program) on ∙ slot_is_word chain (alone_in chain (Some part)) long (suc slot) (omega arith)

  middle_word : d.fields ≡ fields.Both → is_word program (middle d begin back) ≡ true
  middle_word e =
      let found = middle_at d begin back e in
      let mid = found.0 in
      let here = mid.at in
      let front = words_before chain (alone_in chain (Some part)) part in
      let all : length (words_of instrs) ≡ length (words_of mid.before) + (length (encoded mid.instr) + length (words_of mid.after)) =
      ap length (ap words_of mid.split ∙ words_split mid.before mid.instr mid.after)
      ∙ split_length (words_of mid.before) (encoded mid.instr) (words_of mid.after) in
      let whole = size in
      let start = at_begin in
      let some = found.1 in
      let n : ℕ = length front + length (words_of mid.before) in
      let at : middle d begin back ≡ program.base + 4 * n = omega arith in
      ap (is_word program) at ∙ word_there program (patched_words chain (alone_in chain (Some part))) n refl (omega arith)

  fine : Each (IsFineInstr program) instrs
  fine = fine_by d begin back program d.fields inner_fine back_word middle_word

  -- ---- where the path goes

  abbrev Here : ℕ → Type 0
  Here address = ((s : ℕ) × (s ≤ chain.slots) × (address ≡ slot_at chain s)) ⊎ IsAt begin instrs address

  here_word : (address : ℕ) → Here address → is_word program address ≡ true
  here_word address (inl at) = ap (is_word program) at.2 ∙ slot_is_word chain (alone_in chain (Some part)) long at.0 at.1
  here_word address (inr at) =
      word_at_there program (words_before chain (alone_in chain (Some part)) part)
      (words_after chain (alone_in chain (Some part)) part) instrs begin (ap (spans_of chain.base) split) at_begin fine address at

  leads : Lead Here instrs
  leads =
      let on : back ≡ slot_at chain (suc slot) = omega arith in
      lead_by d begin back d.fields Here inner_plain (inl (suc slot, omega arith, on)) (λ e. inr (middle_at d begin back e).0)

  -- a slot leads to a slot or to the fragment
  record Leads (from : ℕ) : Type 0 where
    address : ℕ
    read : fetch program from ≡ Ok (Jump (control_bits jump_word) address, 2)
    leads_to : Here address

  leads_by : (s : ℕ) → s < chain.slots → (s ≡ slot) ⊎ (s ≡ slot → ⊥) → Here (target chain s (part_at (alone_in chain (Some part)) s))
  leads_by s lt (inl e) =
      subst Here (sym (ap (target chain s) (part_at-own chain s (Some part) lt (there, sym e)))) (inr (first_at d begin back))
  leads_by s lt (inr ne) =
      let on : next chain s ≡ slot_at chain (suc s) = omega arith in
      let none : part_at (alone_in chain (Some part)) s ≡ None =
      get_or-set_other (unpatched chain) slot s (Some part) None ne ∙ part_at-unpatched chain s in
      subst Here (sym (ap (target chain s) none)) (inl (suc s, omega arith, on))

  slot_leads : (s : ℕ) → s ≤ chain.slots → (s < chain.slots) ⊎ (chain.slots ≤ s) → Leads (slot_at chain s)
  slot_leads s le (inl lt) =
      record {
        address = target chain s (part_at (alone_in chain (Some part)) s);
        read = slot_read chain (alone_in chain (Some part)) long s lt;
        leads_to = leads_by s lt (cases_eq s slot);
      }
  slot_leads s le (inr past) =
      let last : s ≡ chain.slots = omega arith in
      let base : chain.base ≡ slot_at chain 0 = omega arith in
      record {
        address = chain.base;
        read = ap (λ (n : ℕ). fetch program (slot_at chain n)) last ∙ back_read chain (alone_in chain (Some part)) long;
        leads_to = inl (0, omega arith, base);
      }

  -- an instruction that is fetched has no fault, and leads on
  record GoesOn (place : Place) : Type 0 where
    no_cause : cause_at program place ≡ None
    onwards : Here (next_place program place).pc

  slot_on : (place : Place) (s : ℕ) → s ≤ chain.slots → place.pc ≡ slot_at chain s → GoesOn place
  slot_on place s le at =
      let to = slot_leads s le (cases_lt s chain.slots) in
      let jump =
      jumps_to program place (control_bits jump_word) to.address 2 (ap (fetch program) at ∙ to.read) (here_word to.address to.leads_to) in
      record { no_cause = jump.fine; onwards = subst (λ (p : Place). Here p.pc) (sym jump.next) to.leads_to }

  more_by : (place : Place) (at : IsAt begin instrs place.pc) (after : List Instr) → at.after ≡ after → IsSome after →
      Here (place.pc + 4 * length (encoded at.instr))
  more_by place at [] e some = absurd some
  more_by place at (i ∷ rest) e some =
      inr (following program (words_before chain (alone_in chain (Some part)) part) (words_after chain (alone_in chain (Some part)) part)
      instrs begin (ap (spans_of chain.base) split) at_begin fine place.pc at i rest e)

  instr_on : (place : Place) → IsAt begin instrs place.pc → GoesOn place
  instr_on place at =
      let front = words_before chain (alone_in chain (Some part)) part in
      let rest = words_after chain (alone_in chain (Some part)) part in
      let read = fetch_there program front rest instrs begin (ap (spans_of chain.base) split) at_begin fine place.pc at in
      let clean = fine_there program front rest instrs begin (ap (spans_of chain.base) split) at_begin fine place.pc at in
      let none : cause_at program place ≡ None = ap (reading_cause program place.target) read ∙ clean.fine place.target in
      let next : next_place program place ≡ place_after at.instr (length (encoded at.instr)) place =
      ap (λ (cause : Option Cause). next_by cause program place) none ∙ ap (λ (reading : Reading). place_read reading place) read in
      let goes = lead_at Here at.before at.instr at.after (subst (Lead Here) at.split leads) in
      record {
        no_cause = none;
        onwards =
            subst (λ (p : Place). Here p.pc) (sym next)
            (goes_after Here at.instr (length (encoded at.instr)) at.after place goes (λ some. more_by place at at.after refl some));
      }

  goes_on : (place : Place) → Here place.pc → GoesOn place
  goes_on place (inl at) = slot_on place at.0 at.1 at.2
  goes_on place (inr at) = instr_on place at

  stays : (number : ℕ) → Here (path program number).pc
  stays zero = let base : chain.base ≡ slot_at chain 0 = omega arith in inl (0, omega arith, base)
  stays (suc number) = (goes_on (path program number) (stays number)).onwards

  pub fragment_sound : IsSound program
  fragment_sound number = (goes_on (path program number) (stays number)).no_cause

pub one_fragment_sound : FragmentIsSound
one_fragment_sound chain part d is there frag within = fragment_sound chain is part there d frag within

pub fragments_sound : FragmentsAreSound
fragments_sound chain is are part there =
    let one = are part there in
    fragment_sound chain is part there one.0 one.1 one.2
