-- The instructions that a ring executes up to a block end, block after block and round after round.
use Rattle.std.proofs.Common.{Bool, List, None, Ok, [], append_assoc, arith, eqb-true, false, length, length-append, suc, true, zero, ℕ}
use Rattle.std.proofs.Common.{◌%◌, ◌*◌, ◌++◌, ◌+◌, ◌-◌, ◌/◌, ◌<◌, ◌==◌, ◌∙◌, ◌∷◌, ◌≡◌, ◌≤◌, ap, sym, subst, ⊎_elim, refl}
use Rattle.std.proofs.Math.Nat.{add-mul-mod_self_right, mod-add-div', mod-eq_of_lt, mod-lt, mul-mod_left}
use Rattle.std.proofs.lemmas.Bool.{cases_lt, eqb-false}
use Rattle.risc_word.specs.declared.Ctl.{Ctl}
use Rattle.picture_model.proofs.Each.{Each, each_append, each_at}
use Rattle.risc_word.specs.declared.Instr.{Instr}
use Rattle.picture_model.proofs.Circle.{IsFineInstr, words_split, fetch_at}
use Rattle.ring_law.proofs.Walks.{IsOfRing, Walks, end_list, ends_at, next_at}
use Rattle.ring_model.specs.Rings.{IsRing, Ring, block_instrs, blocks_instrs, closing, last_with, last_write, line_instrs, lines_instrs}
use Rattle.ring_model.specs.Rings.{mark, opening, ring_program, round, with_control, ends, ring_instrs}
use Rattle.risc_word.specs.declared.Instr.TheVariants.{Jump, Skip, Skip123, Sync, Write, Write123, Write1S23, WriteC}
use Rattle.machine_model.specs.Paths.{RiscProgram, fetch}
use Rattle.risc_word.specs.Parts.{instr_ctl}
use Rattle.ring_law.proofs.Addresses.{block_begin, block_some, blocks_append, ends_here, ends_nowhere, last_there, next_begin, one_block}
use Rattle.ring_model.proofs.Sound.{closing_word, ring_fine}
use Rattle.risc_word.specs.Words.{encoded}
use Rattle.field_law.proofs.OnPath.{granted_demands}
use Rattle.ring_model.proofs.Writes.{line_writes, IsWrite}
use Rattle.picture_model.specs.Programs.{words_of}

-- how many blocks of the round are before the block of a block end; all of them where a round begins anew
abbrev pub round_before : Ring → ℕ → ℕ
round_before r zero = 0
round_before r (suc number) = number % r.blocks + 1

-- the closing leads to the first block again
abbrev pub lead_by : Ring → Bool → List Instr
lead_by r true = closing r ∷ []
lead_by r false = []

abbrev pub lead : Ring → ℕ → List Instr
lead r number = lead_by r (round_before r number == r.blocks)

-- what is executed for so many block ends from that of a number on, and the blocks that they end
abbrev pub executed : Ring → ℕ → ℕ → List Instr
executed r number zero = []
executed r number (suc count) = lead r number ++ (block_instrs r (number % r.blocks) ++ executed r (suc number) count)

abbrev pub blocks_ended : Ring → ℕ → ℕ → List ℕ
blocks_ended r number zero = []
blocks_ended r number (suc count) = number % r.blocks ∷ blocks_ended r (suc number) count

-- ---- numbers of blocks

next_number : (number blocks : ℕ) → 0 < blocks → number % blocks + 1 < blocks → suc number % blocks ≡ number % blocks + 1
next_number number blocks some below =
    let split : suc number ≡ number % blocks + 1 + number / blocks * blocks = omega (arith, mod-add-div' number blocks) in
    ap (λ (n : ℕ). n % blocks) split ∙ add-mul-mod_self_right (number % blocks + 1) (number / blocks) blocks ∙ mod-eq_of_lt below

first_number : (number blocks : ℕ) → 0 < blocks → number % blocks + 1 ≡ blocks → suc number % blocks ≡ 0
first_number number blocks some whole =
    let split : suc number ≡ number % blocks + 1 + number / blocks * blocks = omega (arith, mod-add-div' number blocks) in
    ap (λ (n : ℕ). n % blocks) split ∙ add-mul-mod_self_right (number % blocks + 1) (number / blocks) blocks
    ∙ ap (λ (n : ℕ). n % blocks) whole
    ∙ ap (λ (n : ℕ). n % blocks) (let one : blocks ≡ 1 * blocks = omega arith in one) ∙ mul-mod_left 1 blocks

module _ (r : Ring) (is : IsRing r) where
  pub some_blocks : 0 < r.blocks
  some_blocks = let two = is.blocks.0 in omega arith

  round_begins : (number : ℕ) → round_before r number ≡ r.blocks → number % r.blocks ≡ 0
  round_begins zero e = let two = is.blocks.0 in absurd (omega arith)
  round_begins (suc number) e = first_number number r.blocks some_blocks e

  round_goes_on : (number : ℕ) → (round_before r number ≡ r.blocks → ⊥) → round_before r number ≡ number % r.blocks
  round_goes_on zero other = sym (mod-eq_of_lt some_blocks)
  round_goes_on (suc number) other =
      let below = mod-lt number some_blocks in
      sym (next_number number r.blocks some_blocks
      (⊎_elim (λ less. less) (λ more. absurd (other (omega arith))) (cases_lt (number % r.blocks + 1) r.blocks)))

  -- ---- they are one after another

  abbrev program : RiscProgram
  program = ring_program r

  abbrev WalksRing : ℕ → List Instr → List ℕ → Type 0
  WalksRing pc body left = Walks program (ends r) pc body left

  fetched_at : (pre : List Instr) (instr : Instr) (post : List Instr) (pc : ℕ) → ring_instrs r ≡ pre ++ instr ∷ post →
      pc ≡ r.base + 4 * length (words_of pre) →
      (fetch program pc ≡ Ok (instr, length (encoded instr))) × IsFineInstr program instr
  fetched_at pre instr post pc split there = (
    fetch_at program (ring_instrs r) refl (ring_fine r is) pc
        (record { before = pre; instr = instr; after = post; split = split; at = there }),
    each_at (IsFineInstr program) pre instr post (subst (Each (IsFineInstr program)) split (ring_fine r is)),
  )

  write_of_ring : (instr : Instr) → IsWrite instr → IsFineInstr program instr → IsOfRing program instr
  write_of_ring (Write ctl line_ends off count address) is_write fine =
      (is_write, granted_demands program (Write ctl line_ends off count address) None is_write (fine.fine None))
  write_of_ring (Skip ctl line_ends count) is_write fine = absurd is_write
  write_of_ring (WriteC ctl line_ends off count) is_write fine = absurd is_write
  write_of_ring (Jump ctl target) is_write fine = absurd is_write
  write_of_ring (Sync ctl resync code) is_write fine = absurd is_write
  write_of_ring (Write123 ctl line_ends off counts addrs) is_write fine = absurd is_write
  write_of_ring (Skip123 ctl line_ends counts) is_write fine = absurd is_write
  write_of_ring (Write1S23 ctl line_ends off counts addr) is_write fine = absurd is_write

  write_next : (instr : Instr) (pc : ℕ) → IsWrite instr →
      (next_at instr pc ≡ pc + 8) × (ends_at (ends r) instr pc ≡ end_list (ends r pc)) × (length (encoded instr) ≡ 2)
  write_next (Write ctl line_ends off count address) pc is_write = (omega arith, refl, refl)
  write_next (Skip ctl line_ends count) pc is_write = absurd is_write
  write_next (WriteC ctl line_ends off count) pc is_write = absurd is_write
  write_next (Jump ctl target) pc is_write = absurd is_write
  write_next (Sync ctl resync code) pc is_write = absurd is_write
  write_next (Write123 ctl line_ends off counts addrs) pc is_write = absurd is_write
  write_next (Skip123 ctl line_ends counts) pc is_write = absurd is_write
  write_next (Write1S23 ctl line_ends off counts addr) pc is_write = absurd is_write

  marked_write : (ctl : Ctl) (instr : Instr) → IsWrite instr → IsWrite (with_control ctl instr) × (instr_ctl (with_control ctl instr) ≡ ctl)
  marked_write ctl (Write old line_ends off count address) is_write = (is_write, refl)
  marked_write ctl (Skip old line_ends count) is_write = absurd is_write
  marked_write ctl (WriteC old line_ends off count) is_write = absurd is_write
  marked_write ctl (Jump old target) is_write = absurd is_write
  marked_write ctl (Sync old resync code) is_write = absurd is_write
  marked_write ctl (Write123 old line_ends off counts addrs) is_write = absurd is_write
  marked_write ctl (Skip123 old line_ends counts) is_write = absurd is_write
  marked_write ctl (Write1S23 old line_ends off counts addr) is_write = absurd is_write

  -- a WRITE, with the blocks that it ends: none or one
  walks_write : (pre : List Instr) (instr : Instr) (post : List Instr) (pc : ℕ) (rest : List Instr) (left ended later : List ℕ) →
      IsWrite instr → ring_instrs r ≡ pre ++ instr ∷ post →
      pc ≡ r.base + 4 * length (words_of pre) → left ≡ ended ++ later → 0 < length left → end_list (ends r pc) ≡ ended →
      ((block : ℕ) → ended ≡ block ∷ [] → instr_ctl instr ≡ mark block) →
      WalksRing (pc + 8) rest later → WalksRing pc (instr ∷ rest) left
  walks_write pre instr post pc rest left ended later is_write split there known some found signals walks =
      let at = fetched_at pre instr post pc split there in
      let next = write_next instr pc is_write in
      let here : ends_at (ends r) instr pc ≡ ended = next.1 ∙ found in (
        later,
        known ∙ ap (λ (first : List ℕ). first ++ later) (sym here),
        some,
        at.0,
        write_of_ring instr is_write at.1,
        λ block e. signals block (sym here ∙ e),
        subst (λ (to : ℕ). WalksRing to rest later) (sym next.0) walks,
      )

  words_more : (pre : List Instr) (instr : Instr) → IsWrite instr → length (words_of (pre ++ instr ∷ [])) ≡ length (words_of pre) + 2
  words_more pre instr is_write =
      let two = (write_next instr 0 is_write).2 in
      let all = ap length (words_split pre instr []) in
      omega (arith, length-append (words_of pre) (encoded instr ++ words_of []), length-append (encoded instr) (words_of []))

  -- the WRITEs of a block up to its last
  walks_last : (block : ℕ) → block < r.blocks → (pre writes post : List Instr) (pc : ℕ) (rest : List Instr) (left : List ℕ) →
      0 < length writes → Each IsWrite writes →
      ring_instrs r ≡ pre ++ (last_with (mark block) writes ++ post) → pc ≡ r.base + 4 * length (words_of pre) →
      pc + 8 * length writes ≡ block_begin r (block + 1) → block_begin r block ≤ pc →
      WalksRing (block_begin r (block + 1)) rest left → WalksRing pc (last_with (mark block) writes ++ rest) (block ∷ left)
  walks_last block below pre [] post pc rest left some are split there end from walks = absurd (omega arith)
  walks_last block below pre (instr ∷ []) post pc rest left some are split there end from walks =
      let marked = marked_write (mark block) instr are.0 in
      let last = last_there r is block in
      let here : pc ≡ last_write r block = omega arith in
      let next : pc + 8 ≡ block_begin r (block + 1) = omega arith in
      walks_write pre (with_control (mark block) instr) post pc rest (block ∷ left) (block ∷ []) left marked.0 split there refl
      (omega arith)
      (ap (λ (at : ℕ). end_list (ends r at)) here ∙ ap end_list (ends_here r is block below))
      (λ ended e. let same : block ≡ ended = cc in marked.1 ∙ ap mark same)
      (subst (λ (at : ℕ). WalksRing at rest left) (sym next) walks)
  walks_last block below pre (instr ∷ next ∷ writes) post pc rest left some are split there end from walks =
      let last = last_there r is block in
      let more = words_more pre instr are.0 in
      walks_write pre instr (last_with (mark block) (next ∷ writes) ++ post) pc (last_with (mark block) (next ∷ writes) ++ rest)
      (block ∷ left) [] (block ∷ left) are.0 split there refl (omega arith)
      (ap end_list (ends_nowhere r is block pc below from (omega arith)))
      (λ ended e. cc)
      (walks_last block below (pre ++ instr ∷ []) (next ∷ writes) post (pc + 8) rest left (omega arith) are.1
      (split ∙ sym (append_assoc pre (instr ∷ []) (last_with (mark block) (next ∷ writes) ++ post))) (omega arith) (omega arith)
      (omega arith) walks)

  lines_writes : (first count : ℕ) → Each IsWrite (lines_instrs r first count)
  lines_writes first zero = tt
  lines_writes first (suc count) =
      each_append IsWrite (line_instrs r first) (lines_instrs r (first + 1) count) (line_writes r first) (lines_writes (first + 1) count)

  -- the instructions of the program before and behind a block
  pub block_split : (block : ℕ) → block < r.blocks → ring_instrs r ≡ (opening ∷ blocks_instrs r 0 block)
      ++ (block_instrs r block ++ (blocks_instrs r (block + 1) (r.blocks - (block + 1)) ++ closing r ∷ []))
  block_split block below =
      let count : r.blocks ≡ block + (1 + (r.blocks - (block + 1))) = omega arith in
      let from : 0 + block ≡ block = omega arith in
      let front = blocks_instrs r 0 block in
      let later = blocks_instrs r (block + 1) (r.blocks - (block + 1)) in
      let parts : round r ≡ front ++ (block_instrs r block ++ later) =
      ap (blocks_instrs r 0) count ∙ blocks_append r 0 block (1 + (r.blocks - (block + 1)))
      ∙ ap (λ (first : ℕ). front ++ blocks_instrs r first (1 + (r.blocks - (block + 1)))) from
      ∙ ap (λ (rest : List Instr). front ++ rest)
      (blocks_append r block 1 (r.blocks - (block + 1)) ∙ ap (λ (one : List Instr). one ++ later) (one_block r block)) in
      ap (λ (instrs : List Instr). opening ∷ (instrs ++ closing r ∷ [])) parts
      ∙ ap (λ (rest : List Instr). opening ∷ rest)
      (append_assoc front (block_instrs r block ++ later) (closing r ∷ [])
      ∙ ap (λ (rest : List Instr). front ++ rest) (append_assoc (block_instrs r block) later (closing r ∷ [])))

  walks_block : (block : ℕ) → block < r.blocks → (rest : List Instr) (left : List ℕ) → WalksRing (block_begin r (block + 1)) rest left →
      WalksRing (block_begin r block) (block_instrs r block ++ rest) (block ∷ left)
  walks_block block below rest left walks =
      let next = next_begin r is block in
      walks_last block below (opening ∷ blocks_instrs r 0 block) (lines_instrs r (block * r.lines) r.lines)
      (blocks_instrs r (block + 1) (r.blocks - (block + 1)) ++ closing r ∷ []) (block_begin r block) rest left
      (block_some r is block below) (lines_writes (block * r.lines) r.lines) (block_split block below) refl (sym next) (omega arith) walks

  -- the closing leads to the first block
  walks_closing : (rest : List Instr) (left : List ℕ) → 0 < length left → WalksRing (block_begin r 0) rest left →
      WalksRing (block_begin r r.blocks) (closing r ∷ rest) left
  walks_closing rest left some walks =
      let at = fetched_at (opening ∷ round r) (closing r) [] (block_begin r r.blocks) refl refl in
      let first : r.base + 8 ≡ block_begin r 0 = omega arith in
      (left, refl, some, at.0, closing_word r is, λ block e. cc, subst (λ (to : ℕ). WalksRing to rest left) (sym first) walks)

  walks_lead : (number : ℕ) (again : Bool) → (round_before r number == r.blocks) ≡ again → (rest : List Instr) (left : List ℕ) →
      0 < length left → WalksRing (block_begin r (number % r.blocks)) rest left →
      WalksRing (block_begin r (round_before r number)) (lead_by r again ++ rest) left
  walks_lead number true e rest left some walks =
      let all = eqb-true (round_before r number) r.blocks e in
      let first = round_begins number all in
      subst (λ (block : ℕ). WalksRing (block_begin r block) (closing r ∷ rest) left) (sym all)
      (walks_closing rest left some (subst (λ (block : ℕ). WalksRing (block_begin r block) rest left) first walks))
  walks_lead number false e rest left some walks =
      subst (λ (block : ℕ). WalksRing (block_begin r block) rest left)
      (sym (round_goes_on number (eqb-false (round_before r number) r.blocks e))) walks

  pub executed-Walks : (number count : ℕ) →
      WalksRing (block_begin r (round_before r number)) (executed r number count) (blocks_ended r number count)
  executed-Walks number zero = refl
  executed-Walks number (suc count) =
      walks_lead number (round_before r number == r.blocks) refl (block_instrs r (number % r.blocks) ++ executed r (suc number) count)
      (blocks_ended r number (suc count)) (omega arith)
      (walks_block (number % r.blocks) (mod-lt number some_blocks) (executed r (suc number) count) (blocks_ended r (suc number) count)
      (executed-Walks (suc number) count))

-- ---- the blocks that are ended

pub ended_long : (r : Ring) (number count : ℕ) → length (blocks_ended r number count) ≡ count
ended_long r number zero = refl
ended_long r number (suc count) = let rest = ended_long r (suc number) count in omega arith

-- the last of them
pub last_ended : (r : Ring) (number count : ℕ) (ended left : List ℕ) → blocks_ended r number (suc count) ≡ ended ++ left →
    length ended ≡ count → left ≡ (number + count) % r.blocks ∷ []
last_ended r number zero [] left split long =
    let none : number + 0 ≡ number = omega arith in
    sym split ∙ ap (λ (n : ℕ). n % r.blocks ∷ []) (sym none)
last_ended r number zero (first ∷ ended) left split long = absurd (omega arith)
last_ended r number (suc count) [] left split long = absurd (omega arith)
last_ended r number (suc count) (first ∷ ended) left split long =
    let there : suc number + count ≡ number + suc count = omega arith in
    let rest : blocks_ended r (suc number) (suc count) ≡ ended ++ left = cc in
    last_ended r (suc number) count ended left rest (omega arith) ∙ ap (λ (n : ℕ). n % r.blocks ∷ []) there
