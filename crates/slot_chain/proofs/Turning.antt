-- A turn of a chain: with the program of the slot's part in the machine it is one over the words as they are now.
use Rattle.std.proofs.Common.{◌≡◌, ℕ, ◌+◌, ◌-◌, ◌*◌, ◌/◌, ◌%◌, ◌<◌, ◌≤◌, inl, inr, Bool, true, false, ◌&&◌, List, Option, Some, None, refl}
use Rattle.std.proofs.Common.{sym, ap, subst, ◌∙◌, arith, if◌then◌else◌, ◌==◌, nat_le, nat_lt}
use Rattle.std.proofs.lemmas.Bool.{and_from, both_ways, le-leb, lt-ltb, eq-eqb, leb-true, ltb-true, eqb-true}
use Rattle.machine_model.specs.declared.Job.{Job}
use Rattle.machine_model.specs.declared.Job.TheVariants.{Idle, Waiting, Running}
use Rattle.machine_model.specs.Paths.{RiscProgram}
use Rattle.machine_model.specs.Safety.{IsSafe}
use Rattle.machine_model.specs.Accesses.{AreFetchedAlike}
use Rattle.machine_model.specs.States.{State}
use Rattle.machine_model.specs.Steps.{Turn, with_program}
use Rattle.machine_model.specs.Turns.{turn}
use Rattle.machine_model.proofs.SameTurn.{IsReadAlike, turn-with_program}
use Rattle.machine_model.proofs.ProgramStays.{program-step}
use Rattle.machine_model.proofs.BeforeTurns.{three_parts}
use Rattle.dma_machine.specs.Facts.{IsMachine}
use Rattle.dma_machine.specs.Looks.{fetches_at, next_fetch}
use Rattle.chain_model.specs.declared.PartWords.{PartWords}
use Rattle.chain_model.specs.Chains.{Chain, IsPatching, Patching, alone, alone_in, part_at, patched, slot_at}
use Rattle.chain_model.specs.Live.{IsLive, LiveInside, Plain}
use Rattle.chain_model.proofs.Live.{Belongs-IsPart, LiveInside-IsLive, idle_stands, safe_at_slot, slot_alike}
use Rattle.chain_model.proofs.Slots.{Stands, length-alone}
use Rattle.chain_model.proofs.Words.{behind_alike}
use Rattle.slot_chain.specs.States.{chain_of, live_of, lived, state_of}
use Rattle.slot_chain.specs.Wheels.{EnteredAt, EntersAt, IsWheel, slot_of}

-- ---- where a turn fetches

record FetchesAt (on : Bool) (job : Job) (pc address : ℕ) : Type 0 where
  enabled : on ≡ true
  idle : job ≡ Idle
  here : pc ≡ address

some_same : (one other : ℕ) → Some one ≡ Some other → one ≡ other
some_same one other e = cc

none_some : (address : ℕ) → None ≡ Some address → ⊥
none_some address e = cc

fetches_there : (on : Bool) (job : Job) (pc address : ℕ) → fetches_at on job pc ≡ Some address → FetchesAt on job pc address
fetches_there true Idle pc address e = record { enabled = refl; idle = refl; here = some_same pc address e }
fetches_there true (Waiting ctl resync code) pc address e = cc
fetches_there true (Running instr ds) pc address e = cc
fetches_there false job pc address e = cc

fetches_idle : (on : Bool) (job : Job) (pc : ℕ) → on ≡ true → job ≡ Idle → fetches_at on job pc ≡ Some pc
fetches_idle on job pc enabled idle =
    ap (λ (b : Bool). fetches_at b job pc) enabled ∙ ap (λ (j : Job). fetches_at true j pc) idle

-- ---- whether that is at a slot

abbrev NoSlot : ℕ → ℕ → ℕ → Type 0
NoSlot base slots address = (slot : ℕ) → slot < slots → address ≡ base + 8 * slot → ⊥

record AtSlot (base slots address slot : ℕ) : Type 0 where
  below : slot < slots
  here : address ≡ base + 8 * slot

abbrev is_slot : ℕ → ℕ → ℕ → Bool
is_slot base slots address =
    nat_le base address && (address - base) % 8 == 0 && nat_lt ((address - base) / 8) slots

slot_there : (base slots address : ℕ) → is_slot base slots address ≡ true → AtSlot base slots address ((address - base) / 8)
slot_there base slots address e =
    let parts = three_parts (nat_le base address) ((address - base) % 8 == 0) (nat_lt ((address - base) / 8) slots) e in
    let low = leb-true base address parts.0 in
    let whole = eqb-true ((address - base) % 8) 0 parts.1 in
    let below = ltb-true ((address - base) / 8) slots parts.2 in
    record { below = below; here = omega arith }

no_slot : (base slots address : ℕ) → is_slot base slots address ≡ false → NoSlot base slots address
no_slot base slots address none slot lt at =
    both_ways (is_slot base slots address)
    none
    (and_from _ _
    (and_from _ _ (le-leb base address (omega arith)) (eq-eqb ((address - base) % 8) 0 (omega arith)))
    (lt-ltb ((address - base) / 8) slots (omega arith)))

-- ---- the program that comes into the machine

module _ (base slots : ℕ) (parts : List PartWords) (patching : Patching) (m : State) (programs : List RiscProgram)
    (current : Option ℕ) where
  abbrev chain : Chain
  chain = chain_of base slots parts m.program.grants

  abbrev words : RiscProgram
  words = patched chain patching

  module _ (wheel : IsWheel chain m.program programs current) (good : IsPatching chain patching) (machine : IsMachine m) where
    own : with_program (alone chain current) m ≡ m
    own = ap (λ (p : RiscProgram). with_program p m) (sym wheel.runs)

    safe : IsSafe (with_program (alone chain current) m)
    safe = subst IsSafe (sym own) machine.safe

    enters_by : (b : Bool) (address : ℕ) → is_slot base slots address ≡ b → next_fetch m ≡ Some address →
        EntersAt chain (if b then Some ((address - base) / 8) else None) patching m programs current
    enters_by false address e next = wheel
    enters_by true address e next =
        let slot : ℕ = (address - base) / 8 in
        let there = slot_there base slots address e in
        let fetch = fetches_there m.risc_on m.job m.pc address next in
        let belongs = good.belong slot there.below in
        record {
          wheel = wheel;
          there = Belongs-IsPart chain slot (part_at patching slot) belongs;
          home =
              safe_at_slot chain wheel.is wheel.sound current None slot m there.below fetch.idle
              (fetch.here ∙ there.here) wheel.part tt safe;
          safe =
              safe_at_slot chain wheel.is wheel.sound current (part_at patching slot) slot m there.below fetch.idle
              (fetch.here ∙ there.here) wheel.part belongs safe;
        }

    pub enters_at : (next : Option ℕ) → next ≡ next_fetch m → EntersAt chain (slot_of base slots next) patching m programs current
    enters_at None e = wheel
    enters_at (Some address) e = enters_by (is_slot base slots address) address refl (sym e)

    -- for the slot and the patching that the code has
    pub can_enter : (next slot : Option ℕ) (list : Patching) → next ≡ next_fetch m → slot ≡ slot_of base slots next → list ≡ patching →
        EntersAt chain slot list m programs current
    can_enter next slot list fetched is same =
        subst (λ (s : Option ℕ). EntersAt chain s list m programs current) (sym is)
        (subst (λ (ps : Patching). EntersAt chain (slot_of base slots next) ps m programs current) (sym same) (enters_at next fetched))

    came : (next slot : Option ℕ) (list : Patching) (middle : State) (kept : List RiscProgram) (now : Option ℕ) → next ≡ next_fetch m →
        slot ≡ slot_of base slots next → list ≡ patching →
        ((c : Chain) → EntersAt c slot list m programs current → EnteredAt c slot list m middle kept now) →
        EnteredAt chain (slot_of base slots next) patching m middle kept now
    came next slot list middle kept now fetched is same enters =
        subst (λ (ps : Patching). EnteredAt chain (slot_of base slots next) ps m middle kept now) same
        (subst (λ (s : Option ℕ). EnteredAt chain s list m middle kept now) is (enters chain (can_enter next slot list fetched is same)))

    -- ---- what the turn fetches then

    stands_behind : (address : ℕ) → NoSlot base slots address → Stands chain wheel.is wheel.sound address →
        slot_at chain chain.slots ≤ address
    stands_behind address none (inl slot) = absurd (none slot.0 slot.1 slot.2)
    stands_behind address none (inr low) = low

    alike_behind : ((address : ℕ) → next_fetch m ≡ Some address → NoSlot base slots address) → IsReadAlike m words
    alike_behind none on idle =
        let next = fetches_idle m.risc_on m.job m.pc on idle in
        let low =
        stands_behind m.pc (none m.pc next) (idle_stands chain wheel.is wheel.sound patching good m current wheel.part safe idle) in
        subst (λ (p : RiscProgram). AreFetchedAlike m.pc p words) (sym wheel.runs)
        (behind_alike chain (alone_in chain current) patching (length-alone chain current) good.long m.pc low)

    record IsReady (before after : State) (kept : List RiscProgram) (now : Option ℕ) : Type 0 where
      wheel_is : IsWheel chain after.program kept now
      same : (program : RiscProgram) → with_program program after ≡ with_program program before
      alike : IsReadAlike after words

    ready_behind : (after : State) (kept : List RiscProgram) (now : Option ℕ) → IsWheel chain after.program kept now → after ≡ m →
        ((address : ℕ) → next_fetch m ≡ Some address → NoSlot base slots address) → IsReady m after kept now
    ready_behind after kept now is e none =
        record {
          wheel_is = is;
          same = λ program. ap (with_program program) e;
          alike = subst (λ (s : State). IsReadAlike s words) (sym e) (alike_behind none);
        }

    ready_by : (b : Bool) (address : ℕ) (after : State) (kept : List RiscProgram) (now : Option ℕ) → is_slot base slots address ≡ b →
        next_fetch m ≡ Some address →
        EnteredAt chain (if b then Some ((address - base) / 8) else None) patching m after kept now → IsReady m after kept now
    ready_by false address after kept now e next entered =
        ready_behind after kept now entered.0 entered.1
        (λ other there. subst (NoSlot base slots) (some_same address other (sym next ∙ there)) (no_slot base slots address e))
    ready_by true address after kept now e next entered =
        let slot : ℕ = (address - base) / 8 in
        let there = slot_there base slots address e in
        let fetch = fetches_there m.risc_on m.job m.pc address next in
        record {
          wheel_is = entered.wheel;
          same = λ program. ap (with_program program) entered.machine;
          alike =
              subst (λ (s : State). IsReadAlike s words) (sym entered.machine)
              (λ on idle. subst (λ (pc : ℕ). AreFetchedAlike pc (alone chain (part_at patching slot)) words) (sym (fetch.here ∙ there.here))
              (slot_alike chain wheel.is wheel.sound patching good slot there.below));
        }

    ready : (next : Option ℕ) (after : State) (kept : List RiscProgram) (now : Option ℕ) → next ≡ next_fetch m →
        EnteredAt chain (slot_of base slots next) patching m after kept now → IsReady m after kept now
    ready None after kept now e entered =
        ready_behind after kept now entered.0 entered.1 (λ address there. absurd (none_some address (e ∙ there)))
    ready (Some address) after kept now e entered = ready_by (is_slot base slots address) address after kept now refl (sym e) entered

    -- ---- the turn

    module _ (next slot : Option ℕ) (list : Patching) (middle after : State) (kept : List RiscProgram) (now : Option ℕ)
        (fetched : next ≡ next_fetch m) (is : slot ≡ slot_of base slots next)
        (same_list : list ≡ patching)
        (enters : (c : Chain) → EntersAt c slot list m programs current → EnteredAt c slot list m middle kept now)
        (made : after ≡ turn middle) where
      in_machine : IsReady m middle kept now
      in_machine = ready next middle kept now fetched (came next slot list middle kept now fetched is same_list enters)

      program_stays : after.program ≡ middle.program
      program_stays = ap (λ (s : State). s.program) made ∙ program-step Turn middle

      grants_stay : after.program.grants ≡ m.program.grants
      grants_stay = ap (λ (p : RiscProgram). p.grants) (program_stays ∙ in_machine.wheel_is.runs)

      pub turn_wheel : IsWheel (chain_of base slots parts after.program.grants) after.program kept now
      turn_wheel =
          subst (λ g. IsWheel (chain_of base slots parts g) after.program kept now) (sym grants_stay)
          (subst (λ (p : RiscProgram). IsWheel chain p kept now) (sym program_stays) in_machine.wheel_is)

      pub turn_patching : IsPatching (chain_of base slots parts after.program.grants) patching
      turn_patching = subst (λ g. IsPatching (chain_of base slots parts g) patching) (sym grants_stay) good

      turn_machine : with_program words after ≡ turn (with_program words m)
      turn_machine =
          ap (with_program words) made ∙ sym (turn-with_program middle words in_machine.alike) ∙ ap turn (in_machine.same words)

      pub turn_state : state_of (chain_of base slots parts after.program.grants) patching after
          ≡ lived (Plain Turn) (state_of chain patching m)
      turn_state =
          ap (λ g. state_of (chain_of base slots parts g) patching after) grants_stay
          ∙ ap (λ (s : State). record { chain = chain; live = record { patching = patching; machine = s } }) turn_machine

    pub is_live : IsLive chain (live_of chain patching m)
    is_live = record { patching = good; program = refl; part = current; is_part = wheel.part; safe = safe }

    pub inside : LiveInside chain (live_of chain patching m)
    inside = LiveInside-IsLive chain wheel.is wheel.sound (live_of chain patching m) is_live
