-- Live states of a sound chain: whatever the host patches, with some part alone patched in, or none, the machine is safe.
use Rattle.std.proofs.Common.{◌≡◌, ℕ, ◌<◌, ◌⊎◌, inl, inr, Bool, true, false, All, List, [], ◌∷◌, take, Option, Some, None, Ok, IsTrue, refl}
use Rattle.std.proofs.Common.{sym, ap, subst, ◌∙◌, arith}
use Rattle.std.specs.Prelude.{slice_set}
use Rattle.std.proofs.lemmas.Bool.{cases_eq}
use Rattle.std.proofs.lemmas.List.{get_or-set_same, get_or-set_other, length-set}
use Rattle.std.proofs.lemmas.List.Elements.{All-nil, All-head, All-tail, All-take}
use Rattle.risc_word.specs.declared.Instr.TheVariants.{Jump}
use Rattle.risc_word.specs.Words.{control_bits}
use Rattle.page_table.specs.Grants.{granted}
use Rattle.machine_model.specs.declared.Job.{Job}
use Rattle.machine_model.specs.declared.Job.TheVariants.{Idle, Waiting, Running}
use Rattle.machine_model.specs.declared.Skipping.{Skipping}
use Rattle.machine_model.specs.Paths.{RiscProgram, Place, is_word, fetch, path}
use Rattle.machine_model.specs.States.{State}
use Rattle.machine_model.specs.Turns.{turn}
use Rattle.machine_model.specs.Steps.{Step, Push, Control, Turn, Host, with_program}
use Rattle.machine_model.specs.Accesses.{AreFetchedAlike, fetched_by, fetches_if, fetches, word_addresses, words_read, writes}
use Rattle.machine_model.specs.Safety.{TargetAt, JobAt, IsSafe, IsStep, StaysInside}
use Rattle.machine_model.proofs.SameTurn.{IsReadAlike, turn-with_program}
use Rattle.machine_model.proofs.ProgramStays.{program-step}
use Rattle.machine_model.proofs.Following.{idle_there}
use Rattle.machine_model.proofs.WritesAndFetches.{fetch-inside, writes-granted}
use Rattle.machine_model.proofs.Orderly.{IsOrderly-with_program}
use Rattle.machine_model.proofs.BeforeTurns.{idle-IsFine}
use Rattle.machine_model.proofs.Safe.{IsSafe-step, IsSafe-first_state}
use Rattle.chain_model.specs.Chains.{Chain, Patching, IsChain, IsPart, IsSoundChain, Belongs, IsPatching, alone, alone_in, jump_word}
use Rattle.chain_model.specs.Chains.{part_at, patched, slot_at, target, unpatched}
use Rattle.chain_model.specs.Live.{Live, LiveStep, Plain, Patch, IsLive, IsLiveStep, LiveInside, first_live, live_at, live_run, live_step}
use Rattle.chain_model.proofs.Words.{behind_alike, same_words, slot_read}
use Rattle.chain_model.proofs.Slots.{Stands, alone_sound, length-alone, part_at-own, part_at-unpatched, path_to_part, path_stands, place_of}
use Rattle.chain_model.proofs.Slots.{slot_without_target}
use Rattle.chain_model.proofs.Stores.{writes-with}
use Rattle.chain_model.proofs.Others.{step-with}

-- ---- a machine at a slot

none_at : (skipping : Skipping) (target there : Option ℕ) → there ≡ None → TargetAt skipping target there → TargetAt skipping target None
none_at skipping target there e h = subst (TargetAt skipping target) e h

pub Belongs-IsPart : (chain : Chain) (slot : ℕ) (part : Option ℕ) → Belongs chain slot part → IsPart chain part
Belongs-IsPart chain slot None there = tt
Belongs-IsPart chain slot (Some part) there = there.0

pub IsPatching-unpatched : (chain : Chain) → IsPatching chain (unpatched chain)
IsPatching-unpatched chain =
    record { long = length-alone chain None; belong = λ slot lt. subst (Belongs chain slot) (sym (part_at-unpatched chain slot)) tt }

module _ (chain : Chain) (is : IsChain chain) (sound : IsSoundChain chain) where
  -- it can go on with each part of this slot, and with none
  pub safe_at_slot : (part other : Option ℕ) (slot : ℕ) (m : State) → slot < chain.slots → m.job ≡ Idle → m.pc ≡ slot_at chain slot →
      IsPart chain part →
      Belongs chain slot other → IsSafe (with_program (alone chain part) m) → IsSafe (with_program (alone chain other) m)
  safe_at_slot part other slot m lt idle at there belongs safe =
      let number = safe.on_path.number in
      let place = path (alone chain part) number in
      let here = idle_there (alone chain part) place m.pc m.skipping m.target m.job idle safe.on_path.there in
      let none = slot_without_target chain is sound part there number slot lt (sym here.0 ∙ at) in
      let stands : JobAt (alone chain other) (place_of (slot_at chain slot)) m.pc m.skipping m.target Idle =
      (at, none_at m.skipping m.target place.target none here.1) in
      record {
        on_path = record {
          number = slot;
          there = subst (λ (job : Job). JobAt (alone chain other) (path (alone chain other) slot) m.pc m.skipping m.target job) (sym idle)
              (subst (λ (p : Place). JobAt (alone chain other) p m.pc m.skipping m.target Idle)
              (sym (path_to_part chain is sound slot other lt belongs)) stands);
        };
        chunks = safe.chunks;
        no_error = safe.no_error;
        orderly = IsOrderly-with_program (alone chain other) (with_program (alone chain part) m) safe.orderly;
      }

  -- ---- before a turn

  -- a part with which the machine is safe, and with whose program the next turn fetches the same
  pub record Ready (patching : Patching) (m : State) : Type 0 where
    pub part : Option ℕ
    pub is_part : IsPart chain part
    pub safe : IsSafe (with_program (alone chain part) m)
    pub alike : IsReadAlike (with_program (alone chain part) m) (patched chain patching)

  module _ (patching : Patching) (good : IsPatching chain patching) where
    pub slot_alike : (slot : ℕ) → slot < chain.slots →
        AreFetchedAlike (slot_at chain slot) (alone chain (part_at patching slot)) (patched chain patching)
    slot_alike slot lt =
        let part = part_at patching slot in
        record {
          instruction =
              slot_read chain (alone_in chain part) (length-alone chain part) slot lt
              ∙ ap (λ (p : Option ℕ). Ok (Jump (control_bits jump_word) (target chain slot p), 2))
              (part_at-own chain slot part lt (good.belong slot lt))
              ∙ sym (slot_read chain patching good.long slot lt);
          grants = refl;
          words = same_words chain (alone_in chain part) patching (length-alone chain part) good.long;
        }

    ready_idle : (m : State) (part : Option ℕ) → IsPart chain part → IsSafe (with_program (alone chain part) m) → m.job ≡ Idle →
        Stands chain is sound m.pc → Ready patching m
    ready_idle m part there safe idle (inl slot) =
        let chosen = part_at patching slot.0 in
        let belongs = good.belong slot.0 slot.1 in
        record {
          part = chosen;
          is_part = Belongs-IsPart chain slot.0 chosen belongs;
          safe = safe_at_slot part chosen slot.0 m slot.1 idle slot.2 there belongs safe;
          alike = λ on e.
              subst (λ (pc : ℕ). AreFetchedAlike pc (alone chain chosen) (patched chain patching)) (sym slot.2) (slot_alike slot.0 slot.1);
        }
    ready_idle m part there safe idle (inr low) =
        record {
          part = part;
          is_part = there;
          safe = safe;
          alike = λ on e. behind_alike chain (alone_in chain part) patching (length-alone chain part) good.long m.pc low;
        }

    pub idle_stands : (m : State) (part : Option ℕ) → IsPart chain part → IsSafe (with_program (alone chain part) m) → m.job ≡ Idle →
        Stands chain is sound m.pc
    idle_stands m part there safe idle =
        let number = safe.on_path.number in
        let here = idle_there (alone chain part) (path (alone chain part) number) m.pc m.skipping m.target m.job idle safe.on_path.there in
        subst (Stands chain is sound) (sym here.0) (path_stands chain is sound part there number)

    busy : (job : Job) → (job ≡ Idle → ⊥) ⊎ (job ≡ Idle)
    busy Idle = inr refl
    busy (Waiting ctl resync code) = inl (λ e. cc)
    busy (Running instr ds) = inl (λ e. cc)

    ready_by : (m : State) (part : Option ℕ) → IsPart chain part → IsSafe (with_program (alone chain part) m) →
        (m.job ≡ Idle → ⊥) ⊎ (m.job ≡ Idle) → Ready patching m
    ready_by m part there safe (inr idle) = ready_idle m part there safe idle (idle_stands m part there safe idle)
    ready_by m part there safe (inl other) = record { part = part; is_part = there; safe = safe; alike = λ on e. absurd (other e) }

    pub ready : (m : State) (part : Option ℕ) → IsPart chain part → IsSafe (with_program (alone chain part) m) → Ready patching m
    ready m part there safe = ready_by m part there safe (busy m.job)

  -- ---- steps

  own_program : (m : State) (program : RiscProgram) → m.program ≡ program → with_program program m ≡ m
  own_program m program e = ap (λ (p : RiscProgram). with_program p m) (sym e)

  -- a turn over the words as they are now is one over the program with which the machine is ready
  pub turn_ready : (patching : Patching) (m : State) (ready : Ready patching m) → m.program ≡ patched chain patching →
      turn m ≡ with_program (patched chain patching) (turn (with_program (alone chain ready.part) m))
  turn_ready patching m ready same =
      ap turn (sym (own_program m (patched chain patching) same))
      ∙ turn-with_program (with_program (alone chain ready.part) m) (patched chain patching) ready.alike

  safe_turn : (patching : Patching) (m : State) (ready : Ready patching m) → m.program ≡ patched chain patching →
      IsSafe (with_program (alone chain ready.part) (turn m))
  safe_turn patching m ready same =
      let member = alone chain ready.part in
      let there = with_program member m in
      let back : turn there ≡ with_program member (turn m) =
      sym (own_program (turn there) member (program-step Turn there)) ∙ sym (ap (with_program member) (turn_ready patching m ready same)) in
      subst IsSafe back (IsSafe-step Turn there tt (alone_sound chain is sound ready.part ready.is_part) ready.safe)

  after_patch : (patching : Patching) (slot k : ℕ) (part : Option ℕ) → IsPatching chain patching → slot < chain.slots → k < chain.slots →
      Belongs chain slot part →
      (k ≡ slot) ⊎ (k ≡ slot → ⊥) → Belongs chain k (part_at (slice_set patching slot part) k)
  after_patch patching slot k part good lt below belongs (inl e) =
      let long = good.long in
      subst (Belongs chain k) (sym (ap (part_at (slice_set patching slot part)) e ∙ get_or-set_same patching slot part None (omega arith)))
      (subst (λ (n : ℕ). Belongs chain n part) (sym e) belongs)
  after_patch patching slot k part good lt below belongs (inr ne) =
      subst (Belongs chain k) (sym (get_or-set_other patching slot k part None ne)) (good.belong k below)

  pub IsPatching-patch : (patching : Patching) (slot : ℕ) (part : Option ℕ) → IsPatching chain patching → slot < chain.slots →
      Belongs chain slot part → IsPatching chain (slice_set patching slot part)
  IsPatching-patch patching slot part good lt belongs =
      record {
        long = length-set patching slot part ∙ good.long;
        belong = λ k below. after_patch patching slot k part good lt below belongs (cases_eq k slot);
      }

  IsLive-turn : (live : Live) (h : IsLive chain live) → IsLive chain (live_step chain (Plain Turn) live)
  IsLive-turn live h =
      let r = ready live.patching h.patching live.machine h.part h.is_part h.safe in
      record {
        patching = h.patching;
        program = program-step Turn live.machine ∙ h.program;
        part = r.part;
        is_part = r.is_part;
        safe = safe_turn live.patching live.machine r h.program;
      }

  -- a step that is no turn
  IsLive-other : (s : Step) (live : Live) → IsStep s → ((s ≡ Turn) → ⊥) → (h : IsLive chain live) →
      IsLive chain (live_step chain (Plain s) live)
  IsLive-other s live made other h =
      record {
        patching = h.patching;
        program = program-step s live.machine ∙ h.program;
        part = h.part;
        is_part = h.is_part;
        safe =
            subst IsSafe (step-with (alone chain h.part) s live.machine other (ap (λ (p : RiscProgram). p.base) h.program))
            (IsSafe-step s (with_program (alone chain h.part) live.machine) made (alone_sound chain is sound h.part h.is_part) h.safe);
      }

  pub IsLive-step : (s : LiveStep) (live : Live) → IsLiveStep chain s → IsLive chain live → IsLive chain (live_step chain s live)
  IsLive-step (Plain Turn) live made h = IsLive-turn live h
  IsLive-step (Plain (Push q entry)) live made h = IsLive-other (Push q entry) live made (λ e. cc) h
  IsLive-step (Plain (Control code)) live made h = IsLive-other (Control code) live made (λ e. cc) h
  IsLive-step (Plain (Host write)) live made h = IsLive-other (Host write) live made (λ e. cc) h
  IsLive-step (Patch slot part) live made h =
      record {
        patching = IsPatching-patch live.patching slot part h.patching made.0 made.1;
        program = refl;
        part = h.part;
        is_part = h.is_part;
        safe = h.safe;
      }

  pub IsLive-run : (live : Live) (steps : List LiveStep) → All (IsLiveStep chain) steps → IsLive chain live →
      IsLive chain (live_run chain live steps)
  IsLive-run live [] made h = h
  IsLive-run live (s ∷ steps) made h =
      IsLive-run (live_step chain s live) steps (All-tail (IsLiveStep chain) s steps made)
      (IsLive-step s live (All-head (IsLiveStep chain) s steps made) h)

  pub IsLive-first : (fill : ℕ) → IsLive chain (first_live chain fill)
  IsLive-first fill =
      record {
        patching = IsPatching-unpatched chain;
        program = refl;
        part = None;
        is_part = tt;
        safe = IsSafe-first_state (alone chain None) fill;
      }

  -- ---- within the chain

  abbrev Inside : Patching → ℕ → Type 0
  Inside patching address = IsTrue (is_word (patched chain patching) address)

  module _ (patching : Patching) (m : State) (r : Ready patching m) (same : m.program ≡ patched chain patching) where
    idle_inside : m.risc_on ≡ true → m.job ≡ Idle → All (Inside patching) (fetched_by Idle m)
    idle_inside on idle =
        let member = alone chain r.part in
        let fine = idle-IsFine (with_program member m) (alone_sound chain is sound r.part r.is_part) r.safe idle in
        let read : fetch (patched chain patching) m.pc ≡ Ok (fine.instr, fine.length_in_words) =
        sym (r.alike on idle).instruction ∙ fine.stands in
        subst (λ (p : RiscProgram). All (Inside patching) (word_addresses m.pc (words_read p m.pc))) (sym same)
        (fetch-inside (patched chain patching) m.pc fine.instr fine.length_in_words read)

    job_inside : (job : Job) → m.job ≡ job → m.risc_on ≡ true → All (Inside patching) (fetched_by job m)
    job_inside Idle e on = idle_inside on e
    job_inside (Waiting ctl resync code) e on = All-nil (Inside patching)
    job_inside (Running instr ds) e on = All-nil (Inside patching)

    read_inside : (on : Bool) → m.risc_on ≡ on → All (Inside patching) (fetches_if on m)
    read_inside false e = All-nil (Inside patching)
    read_inside true e = job_inside m.job refl e

    written_inside : All (λ address. IsTrue (granted chain.grants address)) (writes m)
    written_inside =
        let member = alone chain r.part in
        subst (λ (addresses : List ℕ). All (λ address. IsTrue (granted chain.grants address)) addresses) (writes-with member m)
        (writes-granted (with_program member m) (alone_sound chain is sound r.part r.is_part) r.safe)

    pub stays_inside : StaysInside m
    stays_inside =
        record {
          written = subst (λ (p : RiscProgram). All (λ address. IsTrue (granted p.grants address)) (writes m)) (sym same) written_inside;
          read =
              subst (λ (p : RiscProgram). All (λ address. IsTrue (is_word p address)) (fetches m)) (sym same) (read_inside m.risc_on refl);
        }

  pub LiveInside-IsLive : (live : Live) → IsLive chain live → LiveInside chain live
  LiveInside-IsLive live h =
      record {
        program = h.program;
        inside = stays_inside live.patching live.machine (ready live.patching h.patching live.machine h.part h.is_part h.safe) h.program;
        no_error = h.safe.no_error;
      }

  pub IsLive-at : (fill : ℕ) (steps : List LiveStep) (number : ℕ) → All (IsLiveStep chain) steps →
      IsLive chain (live_at chain (first_live chain fill) steps number)
  IsLive-at fill steps number made =
      IsLive-run (first_live chain fill) (take number steps) (All-take (IsLiveStep chain) number steps made) (IsLive-first fill)
