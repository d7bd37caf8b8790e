-- The words of a chain: what is read at a slot, and that behind the slots all patchings have the same words.
use Rattle.std.proofs.Common.{◌≡◌, ℕ, zero, suc, ◌+◌, ◌-◌, ◌*◌, ◌/◌, ◌%◌, ◌<◌, ◌≤◌, Bool, true, false, ◌&&◌, List, [], ◌∷◌, ◌++◌, length}
use Rattle.std.proofs.Common.{drop, length-append, Option, Some, None, Ok, Err, refl, sym, ap, ◌∙◌, arith, if◌then◌else◌, ◌==◌, nat_lt}
use Rattle.std.proofs.Common.{nat_le}
use Rattle.std.proofs.lemmas.List.{drop-drop}
use Rattle.bit_field.specs.Bits.{bits}
use Rattle.risc_word.specs.declared.Instr.TheVariants.{Jump}
use Rattle.risc_word.specs.declared.WordFault.TheVariants.{Cut, Reserved}
use Rattle.risc_word.specs.Words.{by_opcode, control_bits, first_instr, instr_at}
use Rattle.machine_model.specs.Paths.{RiscProgram, is_there, is_word, word_at, words_from, fetch}
use Rattle.machine_model.specs.Accesses.{AreFetchedAlike}
use Rattle.machine_model.proofs.OneSpan.{fetch_there, is_word-there, stands_among}
use Rattle.chain_model.specs.Chains.{Chain, Patching, chain_limit, jump_word, loop_words, part_at, patched, patched_words, slot_at, target}
use Rattle.chain_model.specs.Chains.{words_of_parts}

-- nothing is fetched where no word is
without : (program : RiscProgram) (pc : ℕ) (word : Option ℕ) → word_at program pc ≡ word → is_there word ≡ false →
    fetch program pc ≡ Err Cut
without program pc None e lacks =
    ap (λ (word : Option ℕ). first_instr (elim word as (λ _. List ℕ) [ None ↦ [] | Some word ↦ word ∷ words_from 4 program (pc + 4) ])) e
without program pc (Some word) e lacks = cc

not_there : (program : RiscProgram) (pc : ℕ) → is_word program pc ≡ false → fetch program pc ≡ Err Cut
not_there program pc lacks = without program pc (word_at program pc) refl lacks

-- ---- the words of a loop, before some others

module _ (chain : Chain) where
  pub length-loop : (first : ℕ) (patching : Patching) → length (loop_words chain first patching) ≡ 2 * length patching + 2
  length-loop first [] = refl
  length-loop first (part ∷ rest) = let more = length-loop (suc first) rest in omega arith

  -- the words of a slot, and those after it
  slot_drop : (first : ℕ) (patching : Patching) (others : List ℕ) (slot n number : ℕ) → slot < length patching → n ≡ 2 * slot →
      first + slot ≡ number →
      (rest : List ℕ)
      × (drop n (loop_words chain first patching ++ others) ≡ jump_word ∷ target chain number (part_at patching slot) ∷ rest)
  slot_drop first [] others slot n number lt e at = absurd (omega arith)
  slot_drop first (part ∷ rest) others zero n number lt e at =
      let none : n ≡ 0 = omega arith in
      let same : first ≡ number = omega arith in
      let more : List ℕ = loop_words chain (suc first) rest ++ others in (
        more,
        ap (λ (k : ℕ). drop k (loop_words chain first (part ∷ rest) ++ others)) none
            ∙ ap (λ (k : ℕ). jump_word ∷ target chain k part ∷ more) same,
      )
  slot_drop first (part ∷ rest) others (suc slot) n number lt e at =
      let two : n ≡ suc (suc (2 * slot)) = omega arith in
      let later = slot_drop (suc first) rest others slot (2 * slot) number (omega arith) refl (omega arith) in
      (later.0, ap (λ (k : ℕ). drop k (loop_words chain first (part ∷ rest) ++ others)) two ∙ later.1)

  -- those behind the slots
  behind_drop : (first : ℕ) (patching : Patching) (others : List ℕ) (k n : ℕ) → n ≡ 2 * length patching + k →
      drop n (loop_words chain first patching ++ others) ≡ drop k (jump_word ∷ chain.base ∷ others)
  behind_drop first [] others k n e =
      let same : n ≡ k = omega arith in ap (λ (i : ℕ). drop i (jump_word ∷ chain.base ∷ others)) same
  behind_drop first (part ∷ rest) others k n e =
      let two : n ≡ suc (suc (2 * length rest + k)) = omega arith in
      ap (λ (i : ℕ). drop i (loop_words chain first (part ∷ rest) ++ others)) two
      ∙ behind_drop (suc first) rest others k (2 * length rest + k) refl

  -- ---- a patching of the chain's length

  module _ (patching : Patching) (long : length patching ≡ chain.slots) where
    abbrev program : RiscProgram
    program = patched chain patching

    pub length-patched : length (patched_words chain patching) ≡ 2 * chain.slots + 2 + length (words_of_parts chain.parts)
    length-patched =
        let loop = length-loop 0 patching in
        let whole = length-append (loop_words chain 0 patching) (words_of_parts chain.parts) in
        omega arith

    -- what is read at a word, by its number
    pub read_there : (n : ℕ) → fetch program (chain.base + 4 * n) ≡ instr_at (patched_words chain patching) n
    read_there n = fetch_there program (patched_words chain patching) n refl

    -- a slot is a JUMP to where the patching has it
    pub slot_read : (slot : ℕ) → slot < chain.slots →
        fetch program (slot_at chain slot) ≡ Ok (Jump (control_bits jump_word) (target chain slot (part_at patching slot)), 2)
    slot_read slot lt =
        let here : slot_at chain slot ≡ chain.base + 4 * (2 * slot) = omega arith in
        let words = slot_drop 0 patching (words_of_parts chain.parts) slot (2 * slot) slot (omega arith) refl (omega arith) in
        ap (fetch program) here ∙ read_there (2 * slot) ∙ ap first_instr words.1

    -- behind the slots is the JUMP to the base
    pub back_read : fetch program (slot_at chain chain.slots) ≡ Ok (Jump (control_bits jump_word) chain.base, 2)
    back_read =
        let here : slot_at chain chain.slots ≡ chain.base + 4 * (2 * chain.slots) = omega arith in
        ap (fetch program) here ∙ read_there (2 * chain.slots)
        ∙ ap first_instr (behind_drop 0 patching (words_of_parts chain.parts) 0 (2 * chain.slots) (omega arith))

    -- no instruction begins at the second word of a slot
    pub operand_read : (slot : ℕ) → slot < chain.slots → target chain slot (part_at patching slot) < chain_limit →
        fetch program (slot_at chain slot + 4) ≡ Err (Reserved 0)
    operand_read slot lt low =
        let t = target chain slot (part_at patching slot) in
        let here : slot_at chain slot + 4 ≡ chain.base + 4 * (2 * slot + 1) = omega arith in
        let words = slot_drop 0 patching (words_of_parts chain.parts) slot (2 * slot) slot (omega arith) refl (omega arith) in
        let opcode : bits 28 4 t ≡ 0 = omega arith in
        ap (fetch program) here ∙ read_there (2 * slot + 1)
        ∙ ap first_instr (sym (drop-drop 1 (2 * slot) (patched_words chain patching)) ∙ ap (drop 1) words.1)
        ∙ ap (λ (o : ℕ). by_opcode o t words.0) opcode

  -- ---- two patchings of its length

  module _ (first second : Patching) (long : length first ≡ chain.slots) (also : length second ≡ chain.slots) where
    same_count : length (patched_words chain first) ≡ length (patched_words chain second)
    same_count = length-patched first long ∙ sym (length-patched second also)

    pub same_words : (address : ℕ) → is_word (patched chain first) address ≡ is_word (patched chain second) address
    same_words address =
        is_word-there (patched chain first) (patched_words chain first) address refl
        ∙ ap (λ (n : ℕ). nat_le chain.base address && (address - chain.base) % 4 == 0 && nat_lt ((address - chain.base) / 4) n) same_count
        ∙ sym (is_word-there (patched chain second) (patched_words chain second) address refl)

    read_if : (inside : Bool) (pc : ℕ) → is_word (patched chain first) pc ≡ inside → slot_at chain chain.slots ≤ pc →
        fetch (patched chain first) pc ≡ fetch (patched chain second) pc
    read_if true pc there low =
        let word = stands_among (patched chain first) (patched_words chain first) pc refl there in
        let begins = word.begins in
        let aligned = word.aligned in
        let n : ℕ = (pc - chain.base) / 4 in
        let k : ℕ = n - 2 * chain.slots in
        let here : pc ≡ chain.base + 4 * n = omega arith in
        ap (fetch (patched chain first)) here
        ∙ read_there first long n
        ∙ ap first_instr
        (behind_drop 0 first (words_of_parts chain.parts) k n (omega arith)
        ∙ sym (behind_drop 0 second (words_of_parts chain.parts) k n (omega arith)))
        ∙ sym (read_there second also n)
        ∙ ap (fetch (patched chain second)) (sym here)
    read_if false pc there low =
        not_there (patched chain first) pc there ∙ sym (not_there (patched chain second) pc (sym (same_words pc) ∙ there))

    -- behind the slots the same is fetched
    pub behind_alike : (pc : ℕ) → slot_at chain chain.slots ≤ pc → AreFetchedAlike pc (patched chain first) (patched chain second)
    behind_alike pc low =
        record { instruction = read_if (is_word (patched chain first) pc) pc refl low; grants = refl; words = same_words }
