-- The paths of a chain's programs over the slots: a slot that leads to no part leads on to the next.
use Rattle.std.proofs.Common.{◌≡◌, ℕ, zero, suc, ◌+◌, ◌-◌, ◌*◌, ◌/◌, ◌%◌, ◌<◌, ◌≤◌, ◌⊎◌, inl, inr, true, length, Option, Some, None, Ok}
use Rattle.std.proofs.Common.{Err, refl, sym, ap, subst, ◌∙◌, arith}
use Rattle.std.proofs.lemmas.Bool.{cond-true, cases_lt, cases_eq}
use Rattle.std.proofs.lemmas.List.{get_or-replicate, get_or-set_other, get_or-set_same, get_or_past, length-replicate, length-set}
use Rattle.risc_word.specs.declared.Ctl.{Ctl}
use Rattle.risc_word.specs.declared.Instr.{Instr}
use Rattle.risc_word.specs.declared.Instr.TheVariants.{Jump}
use Rattle.risc_word.specs.declared.WordFault.{WordFault}
use Rattle.risc_word.specs.declared.WordFault.TheVariants.{Reserved}
use Rattle.risc_word.specs.Words.{Reading, control_bits}
use Rattle.machine_model.specs.declared.Cause.{Cause}
use Rattle.machine_model.specs.Paths.{RiscProgram, Place, is_word, fetch, reading_cause, cause_at, next_by, next_place, place_after}
use Rattle.machine_model.specs.Paths.{place_read, path, IsSound}
use Rattle.machine_model.proofs.Places.{place-IsFine, path-suc, jump-is_word, instr-fine}
use Rattle.machine_model.proofs.BeforeTurns.{fetch-is_word}
use Rattle.machine_model.proofs.OneSpan.{stands_among, word_there}
use Rattle.chain_model.specs.Chains.{Chain, Patching, IsChain, IsPart, IsSoundChain, Belongs, alone, alone_in, chain_limit, head, jump_word}
use Rattle.chain_model.specs.Chains.{next, part_at, part_of, patched, patched_words, slot_at, target, unpatched}
use Rattle.chain_model.proofs.Words.{slot_read, back_read, operand_read, length-patched}

-- ---- patchings

pub length-alone : (chain : Chain) (part : Option ℕ) → length (alone_in chain part) ≡ chain.slots
length-alone chain None = length-replicate chain.slots None
length-alone chain (Some part) =
    length-set (unpatched chain) (part_of chain part).slot (Some part) ∙ length-replicate chain.slots None

none_by : (chain : Chain) (slot : ℕ) → (slot < chain.slots) ⊎ (chain.slots ≤ slot) → part_at (unpatched chain) slot ≡ None
none_by chain slot (inl lt) = get_or-replicate chain.slots slot None None lt
none_by chain slot (inr past) = get_or_past (unpatched chain) slot None (omega (arith, past, length-alone chain None))

pub part_at-unpatched : (chain : Chain) (slot : ℕ) → part_at (unpatched chain) slot ≡ None
part_at-unpatched chain slot = none_by chain slot (cases_lt slot chain.slots)

-- the slot of the part that is patched in alone leads there, and the slots before it lead on
pub part_at-own : (chain : Chain) (slot : ℕ) (part : Option ℕ) → slot < chain.slots → Belongs chain slot part →
    part_at (alone_in chain part) slot ≡ part
part_at-own chain slot None lt there = part_at-unpatched chain slot
part_at-own chain slot (Some part) lt there =
    ap (part_at (alone_in chain (Some part))) (sym there.1)
    ∙ get_or-set_same (unpatched chain) (part_of chain part).slot (Some part) None (omega (arith, lt, there.1, length-alone chain None))

pub part_at-before : (chain : Chain) (slot k : ℕ) (part : Option ℕ) → k < slot → Belongs chain slot part →
    part_at (alone_in chain part) k ≡ None
part_at-before chain slot k None lt there = part_at-unpatched chain k
part_at-before chain slot k (Some part) lt there =
    get_or-set_other (unpatched chain) (part_of chain part).slot k (Some part) None (λ e. absurd (omega (arith, lt, there.1, e)))
    ∙ part_at-unpatched chain k

part_by : (chain : Chain) (slot part : ℕ) → part < length chain.parts →
    (slot ≡ (part_of chain part).slot) ⊎ (slot ≡ (part_of chain part).slot → ⊥) →
    (slot < chain.slots) → IsPart chain (part_at (alone_in chain (Some part)) slot)
part_by chain slot part is (inl e) lt =
    subst (IsPart chain) (sym (part_at-own chain slot (Some part) lt (is, sym e))) is
part_by chain slot part is (inr ne) lt =
    subst (IsPart chain)
    (sym (get_or-set_other (unpatched chain) (part_of chain part).slot slot (Some part) None ne ∙ part_at-unpatched chain slot)) tt

-- any slot of it leads to none or to a part of the chain
pub part_at-IsPart : (chain : Chain) (slot : ℕ) (part : Option ℕ) → slot < chain.slots → IsPart chain part →
    IsPart chain (part_at (alone_in chain part) slot)
part_at-IsPart chain slot None lt is = subst (IsPart chain) (sym (part_at-unpatched chain slot)) tt
part_at-IsPart chain slot (Some part) lt is = part_by chain slot part is (cases_eq slot (part_of chain part).slot) lt

-- ---- JUMPs on a path

abbrev pub place_of : ℕ → Place
place_of pc = record { pc = pc; target = None }

pub record JumpsTo (program : RiscProgram) (place : Place) (address : ℕ) : Type 0 where
  pub fine : cause_at program place ≡ None
  pub next : next_place program place ≡ place_of address

pub jumps_to : (program : RiscProgram) (place : Place) (ctl : Ctl) (address count : ℕ) →
    fetch program place.pc ≡ Ok (Jump ctl address, count) →
    is_word program address ≡ true → JumpsTo program place address
jumps_to program place ctl address count read word =
    let fine : cause_at program place ≡ None =
    ap (reading_cause program place.target) read ∙ cond-true (is_word program address) _ _ word in
    record {
      fine = fine;
      next = ap (λ (cause : Option Cause). next_by cause program place) fine ∙ ap (λ (reading : Reading). place_read reading place) read;
    }

module _ (chain : Chain) (patching : Patching) (long : length patching ≡ chain.slots) where
  abbrev program : RiscProgram
  program = patched chain patching

  pub slot_is_word : (slot : ℕ) → slot ≤ chain.slots → is_word program (slot_at chain slot) ≡ true
  slot_is_word slot le =
      let size = length-patched chain patching long in
      let here : chain.base + 4 * (2 * slot) ≡ slot_at chain slot = omega arith in
      ap (is_word program) (sym here) ∙ word_there program (patched_words chain patching) (2 * slot) refl (omega arith)

  -- the path goes over slots that lead to no part
  pub path_to_slot : (slot : ℕ) → slot ≤ chain.slots → ((k : ℕ) → k < slot → part_at patching k ≡ None) →
      path program slot ≡ place_of (slot_at chain slot)
  path_to_slot zero le none = let same : chain.base ≡ slot_at chain 0 = omega arith in ap place_of same
  path_to_slot (suc slot) le none =
      let before = path_to_slot slot (omega arith) (λ k lt. none k (omega arith)) in
      let on : next chain slot ≡ slot_at chain (suc slot) = omega arith in
      let leads : target chain slot (part_at patching slot) ≡ slot_at chain (suc slot) =
      ap (target chain slot) (none slot (omega arith)) ∙ on in
      let word : is_word program (target chain slot (part_at patching slot)) ≡ true =
      ap (is_word program) leads ∙ slot_is_word (suc slot) le in
      let jump =
      jumps_to program (place_of (slot_at chain slot)) (control_bits jump_word) (target chain slot (part_at patching slot)) 2
      (slot_read chain patching long slot (omega arith)) word in
      ap (next_place program) before ∙ jump.next ∙ ap place_of leads

-- ---- the loop without parts

record AtSlot (chain : Chain) (number : ℕ) : Type 0 where
  slot : ℕ
  within : slot ≤ chain.slots
  there : path (alone chain None) number ≡ place_of (slot_at chain slot)
  fine : cause_at (alone chain None) (path (alone chain None) number) ≡ None
  next : (after : ℕ) × (after ≤ chain.slots) × (path (alone chain None) (suc number) ≡ place_of (slot_at chain after))

module _ (chain : Chain) where
  abbrev empty : RiscProgram
  empty = alone chain None

  goes_on : (number slot after : ℕ) → slot ≤ chain.slots → after ≤ chain.slots → path empty number ≡ place_of (slot_at chain slot) →
      JumpsTo empty (place_of (slot_at chain slot)) (slot_at chain after) → AtSlot chain number
  goes_on number slot after le le' there jump =
      record {
        slot = slot;
        within = le;
        there = there;
        fine = ap (cause_at empty) there ∙ jump.fine;
        next = (after, le', ap (next_place empty) there ∙ jump.next);
      }

  at_slot : (number slot : ℕ) → slot ≤ chain.slots → path empty number ≡ place_of (slot_at chain slot) →
      (slot < chain.slots) ⊎ (chain.slots ≤ slot) → AtSlot chain number
  at_slot number slot le there (inl lt) =
      let long = length-alone chain None in
      let on : next chain slot ≡ slot_at chain (suc slot) = omega arith in
      let leads : target chain slot (part_at (unpatched chain) slot) ≡ slot_at chain (suc slot) =
      ap (target chain slot) (part_at-unpatched chain slot) ∙ on in
      let read : fetch empty (slot_at chain slot) ≡ Ok (Jump (control_bits jump_word) (slot_at chain (suc slot)), 2) =
      slot_read chain (unpatched chain) long slot lt ∙ ap (λ (t : ℕ). Ok (Jump (control_bits jump_word) t, 2)) leads in
      goes_on number slot (suc slot) le (omega arith) there
      (jumps_to empty (place_of (slot_at chain slot)) (control_bits jump_word) (slot_at chain (suc slot)) 2 read
      (slot_is_word chain (unpatched chain) long (suc slot) (omega arith)))
  at_slot number slot le there (inr past) =
      let long = length-alone chain None in
      let last : slot ≡ chain.slots = omega arith in
      let base : chain.base ≡ slot_at chain 0 = omega arith in
      let read : fetch empty (slot_at chain slot) ≡ Ok (Jump (control_bits jump_word) (slot_at chain 0), 2) =
      ap (λ (s : ℕ). fetch empty (slot_at chain s)) last ∙ back_read chain (unpatched chain) long
      ∙ ap (λ (t : ℕ). Ok (Jump (control_bits jump_word) t, 2)) base in
      goes_on number slot 0 le (omega arith) there
      (jumps_to empty (place_of (slot_at chain slot)) (control_bits jump_word) (slot_at chain 0) 2 read
      (slot_is_word chain (unpatched chain) long 0 (omega arith)))

  round : (number : ℕ) → AtSlot chain number
  round zero =
      let base : chain.base ≡ slot_at chain 0 = omega arith in
      at_slot 0 0 (omega arith) (ap place_of base) (cases_lt 0 chain.slots)
  round (suc number) =
      let before = round number in
      at_slot (suc number) before.next.0 before.next.1 before.next.2 (cases_lt before.next.0 chain.slots)

  pub empty_sound : IsSound empty
  empty_sound number = (round number).fine

-- ---- sound chains

module _ (chain : Chain) (is : IsChain chain) (sound : IsSoundChain chain) where
  -- each program of the family is sound
  pub alone_sound : (part : Option ℕ) → IsPart chain part → IsSound (alone chain part)
  alone_sound None there = empty_sound chain
  alone_sound (Some part) there = sound part there

  pub slot_below : (part : ℕ) → part < length chain.parts → (part_of chain part).slot < chain.slots
  slot_below part there = is.belong part (record { slot = 0; words = Rattle.std.proofs.Common.[] }) there

  ends_low : (patching : Patching) → length patching ≡ chain.slots → chain.base + 4 * length (patched_words chain patching) ≤ chain_limit
  ends_low patching long =
      let ends = is.ends in
      let mine = length-patched chain patching long in
      let empties = length-patched chain (unpatched chain) (length-alone chain None) in omega arith

  -- the path of a part alone comes to its slot, and from there to the part
  pub path_to_part : (slot : ℕ) (part : Option ℕ) → slot < chain.slots → Belongs chain slot part →
      path (alone chain part) slot ≡ place_of (slot_at chain slot)
  path_to_part slot part lt there =
      path_to_slot chain (alone_in chain part) (length-alone chain part) slot (omega arith)
      (λ k below. part_at-before chain slot k part below there)

  own_read : (slot part : ℕ) → slot < chain.slots → Belongs chain slot (Some part) →
      fetch (alone chain (Some part)) (slot_at chain slot) ≡ Ok (Jump (control_bits jump_word) (head chain part), 2)
  own_read slot part lt there =
      slot_read chain (alone_in chain (Some part)) (length-alone chain (Some part)) slot lt
      ∙ ap (λ (p : Option ℕ). Ok (Jump (control_bits jump_word) (target chain slot p), 2)) (part_at-own chain slot (Some part) lt there)

  pub head_is_word : (part : ℕ) → part < length chain.parts → is_word (alone chain (Some part)) (head chain part) ≡ true
  head_is_word part there =
      let slot = (part_of chain part).slot in
      let lt = slot_below part there in
      let here = path_to_part slot (Some part) lt (there, refl) in
      jump-is_word (alone chain (Some part)) (control_bits jump_word) (head chain part) (path (alone chain (Some part)) slot).target
      (instr-fine (alone chain (Some part)) slot (Jump (control_bits jump_word) (head chain part)) 2 (sound part there)
      (ap (λ (p : Place). fetch (alone chain (Some part)) p.pc) here ∙ own_read slot part lt (there, refl)))

  pub path_to_head : (part : ℕ) → part < length chain.parts →
      path (alone chain (Some part)) (suc (part_of chain part).slot) ≡ place_of (head chain part)
  path_to_head part there =
      let slot = (part_of chain part).slot in
      let lt = slot_below part there in
      let here = path_to_part slot (Some part) lt (there, refl) in
      ap (next_place (alone chain (Some part))) here
      ∙ (jumps_to (alone chain (Some part)) (place_of (slot_at chain slot)) (control_bits jump_word) (head chain part) 2
      (own_read slot part lt (there, refl)) (head_is_word part there)).next

  -- where a slot leads is below the limit
  pub target_low : (slot : ℕ) (part : Option ℕ) → slot < chain.slots → IsPart chain part → target chain slot part < chain_limit
  target_low slot None lt there =
      let ends = ends_low (unpatched chain) (length-alone chain None) in
      let size = length-patched chain (unpatched chain) (length-alone chain None) in omega arith
  target_low slot (Some part) lt there =
      let long = length-alone chain (Some part) in
      let word =
      stands_among (alone chain (Some part)) (patched_words chain (alone_in chain (Some part))) (head chain part) refl
      (head_is_word part there) in
      let ends = ends_low (alone_in chain (Some part)) long in
      let begins = word.begins in
      let aligned = word.aligned in
      let inside = word.inside in omega arith

  read_once : (reading : Reading) (instr : Instr × ℕ) (fault : WordFault) → reading ≡ Ok instr → reading ≡ Err fault → ⊥
  read_once (Ok other) instr fault one two = cc
  read_once (Err other) instr fault one two = cc

  -- ---- where an instruction of the family is: at a slot, or behind the slots

  abbrev pub Stands : ℕ → Type 0
  Stands address = ((slot : ℕ) × (slot < chain.slots) × (address ≡ slot_at chain slot)) ⊎ (slot_at chain chain.slots ≤ address)

  module _ (part : Option ℕ) (there : IsPart chain part) where
    abbrev member : RiscProgram
    member = alone chain part

    long : length (alone_in chain part) ≡ chain.slots
    long = length-alone chain part

    at_even_or_odd : (address number : ℕ) (instr : Instr) (count : ℕ) → fetch member address ≡ Ok (instr, count) →
        address ≡ chain.base + 4 * number →
        number < 2 * chain.slots → (number % 2 ≡ 0) ⊎ (number % 2 ≡ 0 → ⊥) → Stands address
    at_even_or_odd address number instr count read at lt (inl even) = inl (number / 2, omega arith, omega arith)
    at_even_or_odd address number instr count read at lt (inr odd) =
        let slot : ℕ = number / 2 in
        let below : slot < chain.slots = omega arith in
        let here : address ≡ slot_at chain slot + 4 = omega arith in
        let low = target_low slot (part_at (alone_in chain part) slot) below (part_at-IsPart chain slot part below there) in
        absurd (read_once (fetch member address) (instr, count) (Reserved 0) read
        (ap (fetch member) here ∙ operand_read chain (alone_in chain part) long slot below low))

    stands_by : (address number : ℕ) (instr : Instr) (count : ℕ) → fetch member address ≡ Ok (instr, count) →
        address ≡ chain.base + 4 * number →
        (number < 2 * chain.slots) ⊎ (2 * chain.slots ≤ number) → Stands address
    stands_by address number instr count read at (inl lt) = at_even_or_odd address number instr count read at lt (cases_eq (number % 2) 0)
    stands_by address number instr count read at (inr past) = inr (omega arith)

    pub instr_stands : (address : ℕ) (instr : Instr) (count : ℕ) → fetch member address ≡ Ok (instr, count) → Stands address
    instr_stands address instr count read =
        let word =
        stands_among member (patched_words chain (alone_in chain part)) address refl (fetch-is_word member address instr count read) in
        let begins = word.begins in
        let aligned = word.aligned in
        let number : ℕ = (address - chain.base) / 4 in
        stands_by address number instr count read (omega arith) (cases_lt number (2 * chain.slots))

    pub path_stands : (number : ℕ) → Stands (path member number).pc
    path_stands number =
        let fine = place-IsFine member number (alone_sound part there) in
        instr_stands (path member number).pc fine.instr fine.length_in_words fine.stands

    -- ---- at a slot the path has no target

    none_or_later : (instr : Instr) (count : ℕ) (place : Place) →
        ((place_after instr count place).target ≡ None) ⊎ (place.pc ≤ (place_after instr count place).pc)
    none_or_later (Jump ctl address) count place = inl refl
    none_or_later instr count place = inr (omega arith)

    comes_with : (slot : ℕ) (here next : Place) → slot < chain.slots → next.pc ≡ slot_at chain slot → slot_at chain chain.slots ≤ here.pc →
        (next.target ≡ None) ⊎ (here.pc ≤ next.pc) → next.target ≡ None
    comes_with slot here next lt at low (inl none) = none
    comes_with slot here next lt at low (inr later) = absurd (omega arith)

    comes_by : (number slot : ℕ) → slot < chain.slots → (path member (suc number)).pc ≡ slot_at chain slot →
        Stands (path member number).pc →
        (path member (suc number)).target ≡ None
    comes_by number slot lt at (inl there') =
        let before = there'.0 in
        let read = ap (fetch member) there'.2 ∙ slot_read chain (alone_in chain part) long before there'.1 in
        ap (λ (p : Place). p.target) (path-suc member number
        (Jump (control_bits jump_word) (target chain before (part_at (alone_in chain part) before))) 2 (alone_sound part there) read)
    comes_by number slot lt at (inr low) =
        let fine = place-IsFine member number (alone_sound part there) in
        let after : Place = place_after fine.instr fine.length_in_words (path member number) in
        let next : path member (suc number) ≡ after =
        path-suc member number fine.instr fine.length_in_words (alone_sound part there) fine.stands in
        ap (λ (p : Place). p.target) next
        ∙ comes_with slot (path member number) after lt (ap (λ (p : Place). p.pc) (sym next) ∙ at) low
        (none_or_later fine.instr fine.length_in_words (path member number))

    pub slot_without_target : (number slot : ℕ) → slot < chain.slots → (path member number).pc ≡ slot_at chain slot →
        (path member number).target ≡ None
    slot_without_target zero slot lt at = refl
    slot_without_target (suc number) slot lt at = comes_by number slot lt at (path_stands number)
