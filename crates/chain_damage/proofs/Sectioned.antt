-- In a live run the machine stays in the section of a field from its opening to its signal, and goes on as if nothing were patched.
use Rattle.std.proofs.Common.{◌≡◌, ℕ, zero, suc, ◌+◌, ◌-◌, ◌*◌, ◌<◌, ◌≤◌, ◌⊎◌, inl, inr, Bool, true, false, ◌&&◌, ◌==◌, List, [], ◌∷◌}
use Rattle.std.proofs.Common.{◌++◌, All, length, take, drop, nat_lt, refl, sym, ap, ◌∙◌, subst, arith, eq-eqb}
use Rattle.std.proofs.lemmas.Bool.{and_from, cases_lt, or_parts}
use Rattle.std.proofs.lemmas.List.{append-nil}
use Rattle.std.proofs.lemmas.List.Elements.{All-cons, All-drop, All-get_or, All-head, All-nil, All-tail, All-take}
use Rattle.pixel_layout.specs.declared.Parity.{Parity}
use Rattle.machine_model.specs.declared.Job.TheVariants.{Idle}
use Rattle.machine_model.specs.Paths.{RiscProgram}
use Rattle.machine_model.specs.Safety.{IsOrderly, IsStep}
use Rattle.machine_model.specs.States.{State}
use Rattle.machine_model.specs.Steps.{Step, Turn, run, step, with_program}
use Rattle.machine_model.specs.Turns.{turn}
use Rattle.machine_model.proofs.OneSpan.{ge-ltb}
use Rattle.machine_model.proofs.Orderly.{IsOrderly-with_program}
use Rattle.machine_model.proofs.ProgramStays.{program-step}
use Rattle.capture_desc.specs.declared.desc.Desc.{Desc}
use Rattle.picture_model.specs.Programs.{body, section_begin, section_next}
use Rattle.picture_model.proofs.FaultlessGeometry.{IsFrame-IsRight}
use Rattle.picture_model.proofs.Sections.{section_stands}
use Rattle.field_law.specs.Sections.{closing_at, words_in}
use Rattle.field_law.specs.Arrivals.{is_signal}
use Rattle.field_law.specs.Arrivals as arrivals
use Rattle.picture_law.proofs.Between.{range_first, range_split}
use Rattle.damage_model.specs.Marks.{is_opening_at}
use Rattle.damage_model.proofs.Held.{IsHeld}
use Rattle.damage_map.specs.Tracks.{FieldTrack}
use Rattle.damage_law.proofs.AnswersKept.{pc_at}
use Rattle.damage_law.proofs.Compiled.{SkipsFew, skips_few}
use Rattle.damage_law.proofs.SectionRuns.{Follows, InSection, begins, begun, follows, opens_at}
use Rattle.chain_model.specs.Chains.{Chain, IsChain, IsSoundChain, Patching, alone, head, next, part_of, patched, slot_at}
use Rattle.chain_model.specs.Live.{IsLive, IsLiveStep, Live, LiveStep, Patch, Plain, first_live, live_step}
use Rattle.chain_model.proofs.Live.{IsLive-at}
use Rattle.chain_law.specs.Behind.{is_at_slot, is_idle, machine_steps}
use Rattle.chain_law.specs.Pictures.{between, live_of, section_in, step_at}
use Rattle.chain_law.proofs.Behind.{step_same}
use Rattle.chain_law.proofs.Captured.{live_program}
use Rattle.chain_law.proofs.InTime.{signals_first, signals_from, signals_now}
use Rattle.chain_law.proofs.Meets.{live_next, own}
use Rattle.chain_law.proofs.Standing.{opening_read, patched_holds}
use Rattle.chain_damage.specs.Rows.{GoesOnUnpatched, IsPartField, begin_in, machine_of, steps_between}
use Rattle.chain_damage.specs.Behind.{IsSignalBehind}

-- ---- the machine's steps

machine_steps-append : (first second : List LiveStep) → machine_steps (first ++ second) ≡ machine_steps first ++ machine_steps second
machine_steps-append [] second = refl
machine_steps-append (Plain s ∷ first) second = ap (λ (rest : List Step). s ∷ rest) (machine_steps-append first second)
machine_steps-append (Patch slot part ∷ first) second = machine_steps-append first second

machine_made : (chain : Chain) (steps : List LiveStep) → All (IsLiveStep chain) steps → All IsStep (machine_steps steps)
machine_made chain [] made = All-nil IsStep
machine_made chain (Plain s ∷ steps) made =
    All-cons IsStep s (machine_steps steps) (All-head (IsLiveStep chain) (Plain s) steps made)
    (machine_made chain steps (All-tail (IsLiveStep chain) (Plain s) steps made))
machine_made chain (Patch slot part ∷ steps) made =
    machine_made chain steps (All-tail (IsLiveStep chain) (Patch slot part) steps made)

one_more : (steps : List LiveStep) (j i : ℕ) → j ≤ i → i < length steps →
    between j (i + 1) steps ≡ between j i steps ++ step_at steps i ∷ []
one_more steps j i from within =
    let none : i + 1 - (i + 1) ≡ 0 = omega arith in
    range_split j i (i + 1) steps from (omega arith)
    ∙ ap (λ (rest : List LiveStep). between j i steps ++ rest)
    (range_first i (i + 1) steps (Plain Turn) (omega arith) within
    ∙ ap (λ (n : ℕ). step_at steps i ∷ take n (drop (i + 1) steps)) none)

steps_more : (steps : List LiveStep) (j i : ℕ) → j ≤ i → i < length steps →
    steps_between steps j (i + 1) ≡ steps_between steps j i ++ machine_steps (step_at steps i ∷ [])
steps_more steps j i from within =
    ap machine_steps (one_more steps j i from within) ∙ machine_steps-append (between j i steps) (step_at steps i ∷ [])

none_between : (steps : List LiveStep) (j : ℕ) → steps_between steps j j ≡ []
none_between steps j = let none : j - j ≡ 0 = omega arith in ap (λ (n : ℕ). machine_steps (take n (drop j steps))) none

pub next_live : (chain : Chain) (fill : ℕ) (steps : List LiveStep) (i : ℕ) → i < length steps → (st : LiveStep) → step_at steps i ≡ st →
    live_of chain fill steps (i + 1) ≡ live_step chain st (live_of chain fill steps i)
next_live chain fill steps i within st is_st =
    live_next chain (first_live chain fill) steps i within
    ∙ ap (λ (x : LiveStep). live_step chain x (live_of chain fill steps i)) is_st

-- ---- behind the slots

never_idle : (idle : Bool) (pc low : ℕ) → low ≤ pc → (idle && nat_lt pc low) ≡ false
never_idle true pc low high = ge-ltb pc low high
never_idle false pc low high = refl

-- ---- from the opening of a field on

module _ (chain : Chain) (part : ℕ) (d : Desc) (field : Parity) (fill : ℕ) (steps : List LiveStep) (j : ℕ) (is : IsChain chain)
    (sound : IsSoundChain chain) (made : All (IsLiveStep chain) steps) (f : IsPartField chain part d field)
    (is_turn : step_at steps j ≡ Plain Turn)
    (opened : is_opening_at (begin_in chain part d field) (machine_of chain fill steps j) Turn ≡ true) where
  abbrev live : ℕ → Live
  live i = live_of chain fill steps i

  abbrev pub first : State
  first = machine_of chain fill steps j

  pub kept : (i : ℕ) → IsLive chain (live_of chain fill steps i)
  kept i = IsLive-at chain is sound fill steps i made

  abbrev pub patching : Patching
  patching = (live_of chain fill steps j).patching

  abbrev pub program : RiscProgram
  program = patched chain patching

  abbrev pub skips : SkipsFew d
  skips = skips_few d f.fragment.description

  abbrev pub held : IsHeld d
  held =
      record {
        right = IsFrame-IsRight d f.fragment.description f.fragment.frame;
        program = program;
        begin = section_begin d (head chain part);
        next = section_next d (head chain part) (next chain (part_of chain part).slot);
        holds =
            λ g described. patched_holds chain part f.is_part d f.fragment is sound patching (kept j).patching.long g described;
        covers = f.granted;
      }

  pub program_is : first.program ≡ program
  program_is = live_program chain fill steps is sound made j

  pub orderly : IsOrderly first
  orderly = IsOrderly-with_program first.program (with_program (alone chain (kept j).part) first) (kept j).safe.orderly

  pub opening_is : (first.risc_on ≡ true) × (first.job ≡ Idle) × (first.pc ≡ begin_in chain part d field)
  opening_is = opens_at first (begin_in chain part d field) opened

  -- at a place the machine is within the section, as if nothing were patched
  pub record There (i : ℕ) : Type 0 where
    pub now : State
    pub track : FieldTrack
    pub inside : InSection d held skips field f.described first now track (steps_between steps j i)
    pub same : with_program program (machine_of chain fill steps i) ≡ now

  pub starts : j < length steps → There (j + 1)
  starts within =
      let done : Turn ∷ [] ≡ steps_between steps j (j + 1) =
      sym (steps_more steps j j (omega arith) within
      ∙ ap (λ (rest : List Step). rest ++ machine_steps (step_at steps j ∷ [])) (none_between steps j)
      ∙ ap (λ (st : LiveStep). machine_steps (st ∷ [])) is_turn) in
      record {
        now = turn first;
        track = begun d held skips field f.described;
        inside =
            subst (InSection d held skips field f.described first (turn first) (begun d held skips field f.described)) done
            (begins d held skips field f.described first program_is orderly (kept j).safe.chunks opening_is.0 opening_is.1 opening_is.2
            (opening_read chain part f.is_part d f.fragment patching (kept j).patching.long field f.described));
        same =
            ap (λ (l : Live). with_program program l.machine) (next_live chain fill steps j within (Plain Turn) is_turn)
            ∙ sym (own (turn first) program (program-step Turn first ∙ program_is));
      }

  -- a step that is no signal, while the DMA controller is on
  module _ (i : ℕ) (from : j < i) (within : i < length steps) (there : There i) (on : (machine_of chain fill steps i).risc_on ≡ true)
      (silent : signals_now (section_in chain part d field) (live_of chain fill steps i) (step_at steps i) ≡ false) where
    on_now : there.now.risc_on ≡ true
    on_now = ap (λ (m : State). m.risc_on) (sym there.same) ∙ on

    -- the machine reads no slot
    behind : is_at_slot chain (live i).machine ≡ false
    behind =
        let low : begin_in chain part d field + 8 ≤ there.now.pc = there.inside.low in
        let pc : (live i).machine.pc ≡ there.now.pc = ap (λ (m : State). m.pc) there.same in
        never_idle (is_idle (live i).machine.job) (live i).machine.pc (slot_at chain chain.slots) (omega (arith, slots_low))
      where
        slots_low : slot_at chain chain.slots ≤ begin_in chain part d field
        slots_low =
            let here = (section_stands d (head chain part) (next chain (part_of chain part).slot) field f.described).at in
            omega arith

    goes : (st : Step) → step_at steps i ≡ Plain st →
        Follows d held skips field f.described first there.now there.track (steps_between steps j i) there.inside st → There (i + 1)
    goes st is_st (inl more) =
        record {
          now = step st there.now;
          track = more.0;
          inside =
              subst (InSection d held skips field f.described first (step st there.now) more.0)
              (sym (steps_more steps j i (omega arith) within
              ∙ ap (λ (x : LiveStep). steps_between steps j i ++ machine_steps (x ∷ [])) is_st)) more.1;
          same =
              ap (λ (l : Live). with_program program l.machine) (next_live chain fill steps i within (Plain st) is_st)
              ∙ step_same chain patching (kept j).patching.long st (live i).patching (live i).machine (kept i).program
              (kept i).patching.long behind ∙ ap (step st) there.same;
        }
    goes st is_st (inr closes) =
        let m = (live i).machine in
        let idle : m.job ≡ Idle = ap (λ (x : State). x.job) there.same ∙ closes.idle in
        let pc : m.pc ≡ closing_at (section_in chain part d field) = ap (λ (x : State). x.pc) there.same ∙ closes.there in
        let signals : is_signal (section_in chain part d field) m Turn ≡ true =
        and_from (m.risc_on && arrivals.is_idle m.job) (m.pc == closing_at (section_in chain part d field))
        (and_from m.risc_on (arrivals.is_idle m.job) on (ap arrivals.is_idle idle))
        (eq-eqb m.pc (closing_at (section_in chain part d field)) pc) in
        let turns : step_at steps i ≡ Plain Turn = is_st ∙ ap Plain closes.turns in
        let never : true ≡ false =
        sym signals ∙ sym (ap (signals_now (section_in chain part d field) (live i)) turns) ∙ silent in
        cc

    by_step : (st : LiveStep) → step_at steps i ≡ st → There (i + 1)
    by_step (Plain st) is_st =
        goes st is_st
        (follows d held skips field f.described first there.now there.track (steps_between steps j i) there.inside st
        (subst (IsLiveStep chain) is_st (All-get_or (IsLiveStep chain) steps i (Plain Turn) within made)) on_now)
    by_step (Patch slot other) is_st =
        record {
          now = there.now;
          track = there.track;
          inside =
              subst (InSection d held skips field f.described first there.now there.track)
              (sym (steps_more steps j i (omega arith) within
              ∙ ap (λ (x : LiveStep). steps_between steps j i ++ machine_steps (x ∷ [])) is_st
              ∙ append-nil (steps_between steps j i))) there.inside;
          same =
              ap (λ (l : Live). with_program program l.machine) (next_live chain fill steps i within (Patch slot other) is_st)
              ∙ there.same;
        }

    pub there_next : There (i + 1)
    there_next = by_step (step_at steps i) refl

-- ---- from the opening of a field to its signal

module _ (chain : Chain) (part : ℕ) (d : Desc) (field : Parity) (fill : ℕ) (steps : List LiveStep) (j k : ℕ) (is : IsChain chain)
    (sound : IsSoundChain chain) (made : All (IsLiveStep chain) steps) (f : IsPartField chain part d field)
    (s : IsSignalBehind chain part d field fill steps j k) where
  abbrev at : ℕ → Live
  at i = live_of chain fill steps i

  abbrev ThereAt : ℕ → Type 0
  ThereAt i = There chain part d field fill steps j is sound made f s.turn s.opened i

  abbrev signals_up_to : ℕ → Bool
  signals_up_to i =
      signals_from (section_in chain part d field) chain (first_live chain fill) steps (live_program chain fill steps is sound made) i k

  -- no step before k signals
  silent_from : (n i : ℕ) → j + n ≡ i → i ≤ k → signals_up_to i ≡ false
  silent_from zero i there to =
      let here : j ≡ i = omega arith in subst (λ (x : ℕ). signals_up_to x ≡ false) here s.signal.silent
  silent_from (suc n) i there to =
      let within = s.signal.there in
      let before : j + n ≡ i - 1 = omega arith in
      let here : i - 1 + 1 ≡ i = omega arith in
      subst (λ (x : ℕ). signals_up_to x ≡ false) here
      (or_parts (signals_now (section_in chain part d field) (at (i - 1)) (step_at steps (i - 1))) (signals_up_to (i - 1 + 1))
      (sym (signals_first (section_in chain part d field) chain (first_live chain fill) steps
      (live_program chain fill steps is sound made) (i - 1) k (omega arith) (omega arith))
      ∙ silent_from n (i - 1) before (omega arith))).1

  silent_at : (i : ℕ) → j ≤ i → i < k → signals_now (section_in chain part d field) (at i) (step_at steps i) ≡ false
  silent_at i from to =
      let within = s.signal.there in
      (or_parts (signals_now (section_in chain part d field) (at i) (step_at steps i)) (signals_up_to (i + 1))
      (sym (signals_first (section_in chain part d field) chain (first_live chain fill) steps
      (live_program chain fill steps is sound made) i k to (omega arith))
      ∙ silent_from (i - j) i (omega arith) (omega arith))).0

  there_by : (n i : ℕ) → j + 1 + n ≡ i → i ≤ k → ThereAt i
  there_by zero i here to =
      let within = s.signal.there in
      let same : j + 1 ≡ i = omega arith in
      subst ThereAt same (starts chain part d field fill steps j is sound made f s.turn s.opened (omega arith))
  there_by (suc n) i here to =
      let within = s.signal.there in
      let same : i - 1 + 1 ≡ i = omega arith in
      subst ThereAt same
      (there_next chain part d field fill steps j is sound made f s.turn s.opened (i - 1) (omega arith) (omega arith)
      (there_by n (i - 1) (omega arith) (omega arith)) (s.on (i - 1) (omega arith) (omega arith))
      (silent_at (i - 1) (omega arith) (omega arith)))

  pub there_at : (i : ℕ) → j < i → i ≤ k → ThereAt i
  there_at i from to = there_by (i - (j + 1)) i (omega arith) to

  -- ---- the signal

  pub closing_is : ((at k).machine.risc_on ≡ true) × ((at k).machine.job ≡ Idle)
      × ((at k).machine.pc ≡ closing_at (section_in chain part d field))
  closing_is =
      pc_at (at k).machine.risc_on (at k).machine.job (at k).machine.pc (closing_at (section_in chain part d field)) s.signal.signal

  abbrev opening_there : ((at j).machine.risc_on ≡ true) × ((at j).machine.job ≡ Idle) × ((at j).machine.pc ≡ begin_in chain part d field)
  opening_there = opening_is chain part d field fill steps j is sound made f s.turn s.opened

  pub earlier : j < k
  earlier = by_order (cases_lt j k)
    where
      by_order : (j < k) ⊎ (k ≤ j) → j < k
      by_order (inl less) = less
      by_order (inr more) =
          let later = s.signal.later in
          let same : k ≡ j = omega arith in
          let pc : (at j).machine.pc ≡ begin_in chain part d field + 8 + 4 * words_in (body d field) =
          ap (λ (x : ℕ). (at x).machine.pc) (sym same) ∙ closing_is.2 in
          let begin = opening_there.2 in
          absurd (omega arith)

  pub after_signal : at (k + 1) ≡ live_step chain (Plain Turn) (at k)
  after_signal = next_live chain fill steps k s.signal.there (Plain Turn) s.signal.turn

  pub made_between : All IsStep (steps_between steps j k)
  made_between =
      machine_made chain (between j k steps)
      (All-take (IsLiveStep chain) (k - j) (drop j steps) (All-drop (IsLiveStep chain) j steps made))

  pub unpatched : GoesOnUnpatched chain fill steps j k
  unpatched i from to = by_order (cases_lt j i)
    where
      by_order : (j < i) ⊎ (i ≤ j) → with_program (at j).machine.program (at i).machine ≡ run (at j).machine (steps_between steps j i)
      by_order (inl less) =
          let there = there_at i less to in
          ap (λ (p : RiscProgram). with_program p (at i).machine)
          (program_is chain part d field fill steps j is sound made f s.turn s.opened)
          ∙ there.same ∙ there.inside.there
      by_order (inr more) =
          let same : i ≡ j = omega arith in
          ap (λ (x : ℕ). with_program (at j).machine.program (at x).machine) same
          ∙ sym (ap (λ (x : ℕ). run (at j).machine (steps_between steps j x)) same ∙ ap (run (at j).machine) (none_between steps j))
