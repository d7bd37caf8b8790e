-- What a safe machine with a sound program knows before a turn.
use Rattle.std.proofs.Common.{◌≡◌, ℕ, zero, suc, ◌+◌, ◌-◌, ◌*◌, ◌%◌, ◌^◌, ◌<◌, ◌≤◌, Bool, true, false, ◌&&◌, List, length, Option, Some}
use Rattle.std.proofs.Common.{None, Ok, IsTrue, refl, sym, ap, subst, ◌∙◌, arith}
use Rattle.std.proofs.Common.{option_map, if◌then◌else◌, ◌==◌, eqb-true, ltb-true, leb-true, nat_lt, nat_le}
use Rattle.std.proofs.Common.{⊎_elim, slice_index, ◌∷◌, [], ◌/◌}
use Rattle.std.proofs.lemmas.Bool.{cases_Bool, cond-false}
use Rattle.risc_word.specs.declared.Ctl.{Ctl}
use Rattle.risc_word.specs.declared.Instr.{Instr}
use Rattle.risc_word.specs.declared.Instr.TheVariants.{Write, Skip, WriteC, Jump, Sync}
use Rattle.risc_word.proofs.ReadInstructions.{KnownAt, known_at}
use Rattle.fifo_model.specs.declared.Queue.{Queue}
use Rattle.page_table.specs.Grants.{Chunk, granted}
use Rattle.machine_model.specs.declared.Cause.{Cause}
use Rattle.machine_model.specs.declared.Demands.{Demands}
use Rattle.machine_model.specs.declared.Job.{Job}
use Rattle.machine_model.specs.declared.Job.TheVariants.{Idle, Waiting, Running}
use Rattle.machine_model.specs.declared.Skipping.{Skipping}
use Rattle.machine_model.specs.declared.Skipping.TheVariants.{Nothing, ToEol, ToSync}
use Rattle.machine_model.specs.Paths.{RiscProgram, Span, IsProgram, Place, AreApart, end_of, is_there, stands_in, word_among, word_at}
use Rattle.machine_model.specs.Paths.{words_from, is_word, fetch, is_data, instr_cause, data_cause, first_cause, range_cause, target_before}
use Rattle.machine_model.specs.Paths.{target_moved, place_after, path, IsSound}
use Rattle.risc_word.specs.Parts.{instr_ends}
use Rattle.bit_field.specs.Bits.{bits}
use Rattle.risc_word.specs.Words.{opcode_length}
use Rattle.std.proofs.Common.{max}
use Rattle.machine_model.specs.Accesses.{words_read}
use Rattle.machine_model.specs.States.{State}
use Rattle.machine_model.specs.Turns.{demand_on}
use Rattle.machine_model.specs.Safety.{TargetAt, RunsAt, IsSafe}
use Rattle.machine_model.proofs.Ranges.{granted_at}
use Rattle.machine_model.proofs.Places.{IsFine, place-IsFine, instr-fine, path-suc, cause-data, jump-is_word, first-none}
use Rattle.machine_model.proofs.Demanded.{IsRange, demand-granted, demand-IsRange, written-IsRange}
use Rattle.machine_model.proofs.Following.{idle_there, waits_there, runs_there, after_running}

-- ---- addresses of words

pub three_parts : (a b c : Bool) → (a && b && c) ≡ true → (a ≡ true) × (b ≡ true) × (c ≡ true)
three_parts true true true h = (refl, refl, refl)
three_parts true true false h = cc
three_parts true false c h = cc
three_parts false b c h = cc

pub three_from : (a b c : Bool) → a ≡ true → b ≡ true → c ≡ true → (a && b && c) ≡ true
three_from true true true x y z = refl
three_from true true false x y z = cc
three_from true false c x y z = cc
three_from false b c x y z = cc

-- the words of spans lie wholly below 2^32
among_ends : (spans : List Span) (from address : ℕ) → AreApart from spans → is_there (word_among spans address) ≡ true →
    address + 4 ≤ 2 ^ 32
among_ends [] from address apart h = cc
among_ends (s ∷ rest) from address apart h =
    ⊎_elim
    (λ here.
    let parts = three_parts (nat_le s.at address) ((address - s.at) % 4 == 0) (nat_lt ((address - s.at) / 4) (length s.words)) here in
    let begins = leb-true _ _ parts.0 in
    let aligned = eqb-true _ _ parts.1 in
    let inside = ltb-true _ _ parts.2 in
    let end = apart.1.ends in
    omega arith)
    (λ later.
    among_ends rest (end_of s + 1) address apart.2
    (sym (ap is_there
    (cond-false (stands_in s address) (Some (slice_index s.words ((address - s.at) / 4))) (word_among rest address) later)) ∙ h))
    (cases_Bool (stands_in s address))

pub word-ends : (program : RiscProgram) (address : ℕ) → IsProgram program → is_word program address ≡ true → address + 4 ≤ 2 ^ 32
word-ends program address made h = among_ends program.spans 0 address made.spans h

-- where so many words are read, each of them is there
abbrev list_of : Option ℕ → List ℕ → List ℕ
list_of word rest = elim word as (λ _. List ℕ) [ None ↦ [] | Some word ↦ word ∷ rest ]

there_by : (program : RiscProgram) (address : ℕ) (rest : List ℕ) (word : Option ℕ) → word_at program address ≡ word →
    ((k : ℕ) → k < length rest → word_at program (address + 4 + 4 * k) ≡ Some (slice_index rest k)) →
    (k : ℕ) → k < length (list_of word rest) → word_at program (address + 4 * k) ≡ Some (slice_index (list_of word rest) k)
there_by program address rest None e later k h = absurd (omega arith)
there_by program address rest (Some word) e later zero h =
    let here : address + 4 * 0 ≡ address = omega arith in
    ap (word_at program) here ∙ e
there_by program address rest (Some word) e later (suc k) h =
    let next : address + 4 * suc k ≡ address + 4 + 4 * k = omega arith in ap (word_at program) next ∙ later k (omega arith)

pub word_read : (count k : ℕ) (program : RiscProgram) (address : ℕ) → k < length (words_from count program address) →
    word_at program (address + 4 * k) ≡ Some (slice_index (words_from count program address) k)
word_read zero k program address h = absurd (omega arith)
word_read (suc count) k program address h =
    there_by program address (words_from count program (address + 4)) (word_at program address) refl
    (λ k lt. word_read count k program (address + 4) lt) k h

pub words_there : (count k : ℕ) (program : RiscProgram) (address : ℕ) → k < length (words_from count program address) →
    is_word program (address + 4 * k) ≡ true
words_there count k program address h = ap is_there (word_read count k program address h)

-- how many are read
count_by : (word : Option ℕ) (rest : List ℕ) →
    elim word as (λ _. ℕ) [ None ↦ 1 | Some word ↦ max 1 (opcode_length (bits 28 4 word)) ]
    ≡ max 1 (opcode_length (bits 28 4 (slice_index (elim word as (λ _. List ℕ) [ None ↦ [] | Some word ↦ word ∷ rest ]) 0)))
count_by None rest = refl
count_by (Some word) rest = refl

pub words_read-is : (program : RiscProgram) (pc : ℕ) →
    words_read program pc ≡ max 1 (opcode_length (bits 28 4 (slice_index (words_from 5 program pc) 0)))
words_read-is program pc = count_by (word_at program pc) (words_from 4 program (pc + 4))

-- all the words of an instruction are words of the program, as many as its opcode asks for
pub fetch-KnownAt : (program : RiscProgram) (pc : ℕ) (instr : Instr) (count : ℕ) → fetch program pc ≡ Ok (instr, count) →
    KnownAt (words_from 5 program pc) 0 instr count
fetch-KnownAt program pc instr count h = known_at (words_from 5 program pc) 0 instr count h

-- a fetch reads at a word of the program
pub fetch-is_word : (program : RiscProgram) (pc : ℕ) (instr : Instr) (count : ℕ) → fetch program pc ≡ Ok (instr, count) →
    is_word program pc ≡ true
fetch-is_word program pc instr count h =
    let known = fetch-KnownAt program pc instr count h in
    let some = known.positive in
    let within = known.within in
    let here : pc + 4 * 0 ≡ pc = omega arith in
    sym (ap (is_word program) here) ∙ words_there 5 0 program pc (omega arith)

-- the place of a sound program's path is the address of a word
pub path-is_word : (program : RiscProgram) (number : ℕ) → IsSound program → is_word program (path program number).pc ≡ true
path-is_word program number sound =
    let fine = place-IsFine program number sound in
    fetch-is_word program (path program number).pc fine.instr fine.length_in_words fine.stands

-- ---- what is known of a target

-- an address up to 2^32, or none
abbrev pub Reaches : Option ℕ → Type 0
Reaches None = Unit {0}
Reaches (Some address) = address ≤ 2 ^ 32

unless_Reaches : (left : Bool) (target : Option ℕ) → Reaches target → Reaches (if left then None else target)
unless_Reaches true target h = tt
unless_Reaches false target h = h

moved_on : (grants : List Chunk) (count : ℕ) (target : Option ℕ) (others : Option Cause) →
    first_cause (range_cause grants target count) others ≡ None → Reaches (option_map (λ at. at + count) target)
moved_on grants count None others h = tt
moved_on grants count (Some at) others h = (written-IsRange grants at count (first-none _ _ h).0).ends

-- a fine data instruction leaves such a target
pub moved-Reaches : (grants : List Chunk) (instr : Instr) (target : Option ℕ) → IsTrue (is_data instr) →
    data_cause grants instr target ≡ None →
    Reaches target → Reaches (target_moved instr target)
moved-Reaches grants (Write ctl ends off count addr) target d c h = moved_on grants count (Some addr) _ c
moved-Reaches grants (Skip ctl ends count) target d c h = h
moved-Reaches grants (WriteC ctl ends off count) target d c h = moved_on grants count target _ (first-none _ _ c).1
moved-Reaches grants instr target d c h = tt

next_reaches : (program : RiscProgram) (instr : Instr) (count : ℕ) (place : Place) → instr_cause program instr place.target ≡ None →
    Reaches place.target →
    Reaches (place_after instr count place).target
next_reaches program (Jump ctl addr) count place c h = tt
next_reaches program (Sync ctl resync code) count place c h = tt
next_reaches program instr count place c h =
    unless_Reaches (instr_ends instr).eol (target_moved instr (target_before instr place.target))
    (moved-Reaches program.grants instr (target_before instr place.target) refl c (unless_Reaches (instr_ends instr).sol place.target h))

pub path-Reaches : (program : RiscProgram) (number : ℕ) → IsSound program → Reaches (path program number).target
path-Reaches program zero sound = tt
path-Reaches program (suc number) sound =
    let fine = place-IsFine program number sound in
    subst (λ place. Reaches place.target) (sym (path-suc program number fine.instr fine.length_in_words sound fine.stands))
    (next_reaches program fine.instr fine.length_in_words (path program number) fine.fine (path-Reaches program number sound))

-- ---- a machine

module _ (m : State) (sound : IsSound m.program) (safe : IsSafe m) where
  abbrev number : ℕ
  number = safe.on_path.number

  pc_at : (job : Job) → m.job ≡ job → is_word m.program m.pc ≡ true
  pc_at Idle e =
      let at = idle_there m.program (path m.program number) m.pc m.skipping m.target m.job e safe.on_path.there in
      ap (is_word m.program) at.0 ∙ path-is_word m.program number sound
  pc_at (Waiting ctl resync code) e =
      let at = waits_there m.program (path m.program number) m.pc m.skipping m.target m.job ctl resync code e safe.on_path.there in
      ap (is_word m.program) at.0 ∙ path-is_word m.program number sound
  pc_at (Running instr ds) e =
      let runs = runs_there m.program (path m.program number) m.pc m.skipping m.target m.job instr ds e safe.on_path.there in
      ap (λ place. is_word m.program place.pc) (sym (after_running m.program sound instr ds number m runs))
      ∙ path-is_word m.program (suc number) sound

  -- whatever the machine is at, pc is the address of a word
  pub pc-is_word : is_word m.program m.pc ≡ true
  pc-is_word = pc_at m.job refl

  -- idle, an instruction is at pc
  abbrev pub place : Place
  place = path m.program number

  pub idle-IsFine : m.job ≡ Idle → IsFine m.program place.target (fetch m.program m.pc)
  idle-IsFine e =
      let at = idle_there m.program place m.pc m.skipping m.target m.job e safe.on_path.there in
      subst (λ pc. IsFine m.program place.target (fetch m.program pc)) (sym at.0) (place-IsFine m.program number sound)

  idle_fine : (instr : Instr) (count : ℕ) → m.job ≡ Idle → fetch m.program m.pc ≡ Ok (instr, count) →
      instr_cause m.program instr place.target ≡ None
  idle_fine instr count e f =
      let at = idle_there m.program place m.pc m.skipping m.target m.job e safe.on_path.there in
      instr-fine m.program number instr count sound (ap (fetch m.program) (sym at.0) ∙ f)

  -- a JUMP leads to a word
  pub idle-jump : (ctl : Ctl) (addr count : ℕ) → m.job ≡ Idle → fetch m.program m.pc ≡ Ok (Jump ctl addr, count) →
      is_word m.program addr ≡ true
  idle-jump ctl addr count e f = jump-is_word m.program ctl addr place.target (idle_fine (Jump ctl addr) count e f)

  -- without a skip, a data instruction can begin
  pub idle-data : (instr : Instr) (count : ℕ) → m.job ≡ Idle → m.skipping ≡ Nothing → fetch m.program m.pc ≡ Ok (instr, count) →
      IsTrue (is_data instr) →
      data_cause m.program.grants instr (target_before instr m.target) ≡ None
  idle-data instr count e s f d =
      let at = idle_there m.program place m.pc m.skipping m.target m.job e safe.on_path.there in
      let target : m.target ≡ place.target = subst (λ skipping. TargetAt skipping m.target place.target) s at.1 in
      ap (λ t. data_cause m.program.grants instr (target_before instr t)) target ∙ sym (cause-data m.program instr place.target d)
      ∙ idle_fine instr count e f

  -- what a running instruction still writes
  pub running-RunsAt : (instr : Instr) (ds : Demands) → m.job ≡ Running instr ds → RunsAt m.program place m.pc m.skipping m.target instr ds
  running-RunsAt instr ds e = runs_there m.program place m.pc m.skipping m.target m.job instr ds e safe.on_path.there

  pub running-IsRange : (instr : Instr) (ds : Demands) (q : Queue) (address : ℕ) → m.job ≡ Running instr ds →
      (demand_on q ds).address ≡ Some address →
      IsRange m.program.grants address (demand_on q ds).rest
  running-IsRange instr ds q address e a =
      demand-IsRange m.program.grants (demand_on q ds) address a (demand-granted m.program.grants q ds (running-RunsAt instr ds e).within)

  pub running-granted : (instr : Instr) (ds : Demands) (q : Queue) (address at : ℕ) → m.job ≡ Running instr ds →
      (demand_on q ds).address ≡ Some address →
      at < (demand_on q ds).rest → granted m.program.grants (address + at) ≡ true
  running-granted instr ds q address at e a lt =
      granted_at m.program.grants address (demand_on q ds).rest at lt (running-IsRange instr ds q address e a).whole

  -- a running instruction is one of the program
  pub running-KnownAt : (instr : Instr) (ds : Demands) (e : m.job ≡ Running instr ds) →
      KnownAt (words_from 5 m.program place.pc) 0 instr (running-RunsAt instr ds e).length_in_words
  running-KnownAt instr ds e = fetch-KnownAt m.program place.pc instr _ (running-RunsAt instr ds e).stands

  idle_target : (skipping : Skipping) → TargetAt skipping m.target place.target → Reaches m.target
  idle_target Nothing h = subst Reaches (sym h) (path-Reaches m.program number sound)
  idle_target ToEol h = subst Reaches (sym h) tt
  idle_target ToSync h = subst Reaches (sym h) tt

  target_of : (job : Job) → m.job ≡ job → Reaches m.target
  target_of Idle e = idle_target m.skipping (idle_there m.program place m.pc m.skipping m.target m.job e safe.on_path.there).1
  target_of (Waiting ctl resync code) e =
      subst Reaches (sym (waits_there m.program place m.pc m.skipping m.target m.job ctl resync code e safe.on_path.there).2) tt
  target_of (Running instr ds) e =
      subst Reaches (sym (running-RunsAt instr ds e).acting)
      (unless_Reaches (instr_ends instr).sol place.target (path-Reaches m.program number sound))

  -- the target is an address up to 2^32, and so is that which the running instruction leaves
  pub target-Reaches : Reaches m.target
  target-Reaches = target_of m.job refl

  pub running-Reaches : (instr : Instr) (ds : Demands) → m.job ≡ Running instr ds → Reaches (target_moved instr m.target)
  running-Reaches instr ds e =
      let runs = running-RunsAt instr ds e in
      let fine = instr-fine m.program number instr runs.length_in_words sound runs.stands in
      let begins : data_cause m.program.grants instr (target_before instr place.target) ≡ None =
      sym (cause-data m.program instr place.target runs.moves_data) ∙ fine in
      moved-Reaches m.program.grants instr m.target runs.moves_data
      (ap (data_cause m.program.grants instr) runs.acting ∙ begins) target-Reaches
