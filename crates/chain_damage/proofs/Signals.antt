-- In a chain whose parts are fragments each signal of a field comes from an opening of the field, and the DMA controller is on in
-- between.
use Rattle.std.proofs.Common.{◌≡◌, ℕ, zero, suc, ◌+◌, ◌-◌, ◌*◌, ◌<◌, ◌≤◌, ◌⊎◌, inl, inr, Bool, true, false, ◌==◌, List, [], ◌∷◌}
use Rattle.std.proofs.Common.{All, length, Option, Some, None, Ok, refl, sym, ap, ◌∙◌, subst, arith, eq-eqb}
use Rattle.std.proofs.lemmas.Bool.{and_from, cases_Bool, cases_lt, or_from}
use Rattle.risc_word.specs.declared.Ctl.{Ctl}
use Rattle.risc_word.specs.declared.Code.{Code}
use Rattle.risc_word.specs.declared.Instr.{Instr}
use Rattle.risc_word.specs.declared.Instr.TheVariants.{Jump, Sync, Write, Skip, WriteC, Write123, Skip123, Write1S23}
use Rattle.risc_word.specs.Words.{Reading, control_bits, encoded}
use Rattle.fifo_model.specs.declared.Entry.{Entry}
use Rattle.fifo_model.specs.declared.Queue.{Queue}
use Rattle.fifo_model.specs.Queues.{is_full, queue_state, some_full}
use Rattle.irq_status.specs.declared.HostWrite.{HostWrite}
use Rattle.irq_status.specs.declared.HostWrite.TheVariants.{Ack, Enable, Trigger}
use Rattle.pixel_layout.specs.declared.Parity.{Parity}
use Rattle.machine_model.specs.declared.Cause.{Cause}
use Rattle.machine_model.specs.declared.Did.TheVariants.{Synced}
use Rattle.machine_model.specs.declared.Job.{Job}
use Rattle.machine_model.specs.declared.Job.TheVariants.{Idle, Waiting, Running}
use Rattle.machine_model.specs.declared.Seen.{Seen}
use Rattle.machine_model.specs.declared.Skipping.{Skipping}
use Rattle.machine_model.specs.declared.Skipping.TheVariants.{Nothing, ToEol, ToSync}
use Rattle.machine_model.specs.Paths.{RiscProgram, fetch, is_word}
use Rattle.machine_model.specs.Safety.{IsOrderly}
use Rattle.machine_model.specs.Seen.{fetched_did, seen, seen_alone, seen_if, seen_in}
use Rattle.machine_model.specs.States.{State}
use Rattle.machine_model.specs.Steps.{Control, Host, Push, Turn, host, push_control_if, push_if, with_fbus_if, with_fifo, with_program}
use Rattle.machine_model.specs.Steps.{with_risc}
use Rattle.machine_model.specs.Turns.{begun_with, counted, data_fetched, fetched, instr_fetched, jumped, turn, turn_if, worked}
use Rattle.machine_model.proofs.Orderly.{IsOrderly-with_program}
use Rattle.capture_desc.specs.declared.desc.Desc.{Desc}
use Rattle.picture_model.specs.Programs.{body, opening, signal}
use Rattle.field_law.specs.Sections.{IsPlain, StandsFrom, closing_at, words_in}
use Rattle.field_law.specs.Arrivals.{is_signal}
use Rattle.damage_model.specs.Marks.{is_opening_at, is_synced}
use Rattle.damage_law.proofs.AnswersKept.{pc_at, signal_by}
use Rattle.damage_law.proofs.SectionRuns.{busy_stays}
use Rattle.damage_law.proofs.SectionSteps.{push-Unmoved, push_control-Unmoved}
use Rattle.chain_model.specs.Chains.{Belongs, Chain, IsChain, IsSoundChain, Patching, alone, alone_in, jump_word, part_at, patched}
use Rattle.chain_model.specs.Chains.{slot_at, target}
use Rattle.chain_model.specs.Live.{IsLive, IsLiveStep, Live, LiveStep, Patch, Plain, first_live, live_step}
use Rattle.chain_model.proofs.Live.{IsLive-at}
use Rattle.chain_model.proofs.Slots.{length-alone}
use Rattle.chain_model.proofs.Words.{back_read, behind_alike, slot_read}
use Rattle.chain_law.specs.Fragments.{AreFragments}
use Rattle.chain_law.specs.Pictures.{live_of, section_in, step_at}
use Rattle.chain_law.proofs.Captured.{live_program}
use Rattle.chain_law.proofs.InTime.{none_from, signalling_turn, signals_first, signals_from, signals_now}
use Rattle.chain_damage.specs.Rows.{IsPartField, begin_in, machine_of}
use Rattle.chain_damage.specs.Behind.{IsSignalBehind}
use Rattle.chain_damage.proofs.Positions.{IsIt, Out, PartField, begin_at, behind_slots, closing_there, end_at, is_it_or}
use Rattle.chain_damage.proofs.Positions.{body_there, itself, never_closing, next_at, opening_itself, opening_there, to_next, to_part}
use Rattle.chain_damage.proofs.Positions.{to_slot}
use Rattle.chain_damage.proofs.Sectioned.{There, next_live, starts, there_next}

-- ---- where a turn goes

jumped_goes : (inside : Bool) (ctl : Ctl) (to : ℕ) (m : State) →
    ((jumped inside ctl to m).pc ≡ to) ⊎ ((jumped inside ctl to m).risc_on ≡ false)
jumped_goes true ctl to m = inl refl
jumped_goes false ctl to m = inr refl

begun_goes : (cause : Option Cause) (i : Instr) (n : ℕ) (to : Option ℕ) (m : State) →
    ((begun_with cause i n to m).pc ≡ m.pc + 4 * n) ⊎ ((begun_with cause i n to m).risc_on ≡ false)
begun_goes (Some cause) i n to m = inr refl
begun_goes None i n to m = inl refl

data_goes : (skipping : Skipping) (i : Instr) (n : ℕ) (m : State) →
    ((data_fetched skipping i n m).pc ≡ m.pc + 4 * n) ⊎ ((data_fetched skipping i n m).risc_on ≡ false)
data_goes Nothing i n m = begun_goes _ i n _ m
data_goes ToEol i n m = inl refl
data_goes ToSync i n m = inl refl

plain_goes : (i : Instr) (n : ℕ) (m : State) → IsPlain i →
    ((instr_fetched i n m).pc ≡ m.pc + 4 * n) ⊎ ((instr_fetched i n m).risc_on ≡ false)
plain_goes (Jump ctl to) n m plain = absurd plain
plain_goes (WriteC ctl ends off count) n m plain = absurd plain
plain_goes (Sync ctl resync code) n m plain = inl refl
plain_goes (Write ctl ends off count addr) n m plain = data_goes m.skipping (Write ctl ends off count addr) n m
plain_goes (Skip ctl ends count) n m plain = data_goes m.skipping (Skip ctl ends count) n m
plain_goes (Write123 ctl ends off counts addrs) n m plain = data_goes m.skipping (Write123 ctl ends off counts addrs) n m
plain_goes (Skip123 ctl ends counts) n m plain = data_goes m.skipping (Skip123 ctl ends counts) n m
plain_goes (Write1S23 ctl ends off counts addr) n m plain = data_goes m.skipping (Write1S23 ctl ends off counts addr) n m

-- ---- steps that are no turns

fbus_on : (full : Bool) (m : State) → (with_fbus_if full m).risc_on ≡ m.risc_on
fbus_on true m = refl
fbus_on false m = refl

push_on : (on : Bool) (q : Queue) (entry : Entry) (m : State) → (push_if on q entry m).risc_on ≡ m.risc_on
push_on true q entry m = fbus_on (is_full (queue_state q m.queues)) m
push_on false q entry m = refl

control_on : (on : Bool) (code : Code) (m : State) → (push_control_if on code m).risc_on ≡ m.risc_on
control_on true code m = fbus_on (some_full m.queues) m
control_on false code m = refl

-- off, or anywhere that the machine was; or at the base again
enabled_goes : (fifo risc on : Bool) (m : State) →
    ((with_risc risc on (with_fifo fifo m)).pc ≡ m.program.base)
    ⊎ (((with_risc risc on (with_fifo fifo m)).risc_on ≡ false) ⊎ (((with_risc risc on (with_fifo fifo m)).pc ≡ m.pc) × (on ≡ true)))
enabled_goes true true true m = inr (inr (refl, refl))
enabled_goes false true true m = inr (inr (refl, refl))
enabled_goes true true false m = inl refl
enabled_goes false true false m = inl refl
enabled_goes true false on m = inr (inl refl)
enabled_goes false false on m = inr (inl refl)

-- ---- a run

module _ (chain : Chain) (part : ℕ) (d : Desc) (field : Parity) (fill : ℕ) (steps : List LiveStep) (is : IsChain chain)
    (sound : IsSoundChain chain) (made : All (IsLiveStep chain) steps) (fragments : AreFragments chain)
    (f : IsPartField chain part d field) where
  abbrev at : ℕ → State
  at i = machine_of chain fill steps i

  abbrev Outside : ℕ → Type 0
  Outside pc = Out chain part d field is fragments f pc

  abbrev Field : Type 0
  Field = PartField chain part d field is fragments f

  abbrev this : Field
  this = itself chain part d field is fragments f

  abbrev Nothing_signals : ℕ → ℕ → Type 0
  Nothing_signals j i =
      (l : ℕ) → j ≤ l → l < i → signals_now (section_in chain part d field) (live_of chain fill steps l) (step_at steps l) ≡ false

  -- within the section since its opening
  record In (i : ℕ) : Type 0 where
    j : ℕ
    before : j < i
    is_turn : step_at steps j ≡ Plain Turn
    opened : is_opening_at (begin_in chain part d field) (at j) Turn ≡ true
    on : (l : ℕ) → j ≤ l → l ≤ i → (at l).risc_on ≡ true
    silent : Nothing_signals j i
    there : There chain part d field fill steps j is sound made f is_turn opened i

  -- off, or outside the section, or within it
  abbrev StateAt : ℕ → Type 0
  StateAt i = ((at i).risc_on ≡ false) ⊎ (Outside (at i).pc ⊎ In i)

  kept : (i : ℕ) → IsLive chain (live_of chain fill steps i)
  kept i = IsLive-at chain is sound fill steps i made

  program_is : (i : ℕ) → (at i).program ≡ patched chain (live_of chain fill steps i).patching
  program_is i = live_program chain fill steps is sound made i

  base_is : (i : ℕ) → (at i).program.base ≡ slot_at chain 0
  base_is i = ap (λ (p : RiscProgram). p.base) (program_is i) ∙ omega arith

  orderly : (i : ℕ) → IsOrderly (at i)
  orderly i = IsOrderly-with_program (at i).program (with_program (alone chain (kept i).part) (at i)) (kept i).safe.orderly

  to_base : Outside (slot_at chain 0)
  to_base = to_slot chain part d field is fragments f 0 (omega arith)

  -- ---- a turn that fetches outside

  module _ (i : ℕ) (on : (at i).risc_on ≡ true) (idle : (at i).job ≡ Idle) where
    abbrev patching : Patching
    patching = (live_of chain fill steps i).patching

    abbrev GoesTo : Type 0
    GoesTo = ((turn (at i)).risc_on ≡ false) ⊎ Outside (turn (at i)).pc

    turned : (r : Reading) → fetch (patched chain patching) (at i).pc ≡ r → turn (at i) ≡ fetched r (counted (at i))
    turned r read =
        ap (λ (b : Bool). turn_if b (counted (at i))) on ∙ ap (λ (j : Job). worked j (counted (at i))) idle
        ∙ ap (λ (p : RiscProgram). fetched (fetch p (at i).pc) (counted (at i))) (program_is i)
        ∙ ap (λ (x : Reading). fetched x (counted (at i))) read

    jumps : (ctl : Ctl) (to : ℕ) → fetch (patched chain patching) (at i).pc ≡ Ok (Jump ctl to, 2) → Outside to → GoesTo
    jumps ctl to read out = by_jump (jumped_goes (is_word (at i).program to) ctl to (counted (at i)))
      where
        is_turned : turn (at i) ≡ jumped (is_word (at i).program to) ctl to (counted (at i))
        is_turned = turned (Ok (Jump ctl to, 2)) read

        by_jump : ((jumped (is_word (at i).program to) ctl to (counted (at i))).pc ≡ to)
            ⊎ ((jumped (is_word (at i).program to) ctl to (counted (at i))).risc_on ≡ false) → GoesTo
        by_jump (inl there) = inr (subst Outside (sym (ap (λ (m : State). m.pc) is_turned ∙ there)) out)
        by_jump (inr off) = inl (ap (λ (m : State). m.risc_on) is_turned ∙ off)

    behind_read : slot_at chain chain.slots ≤ (at i).pc → (r : Reading) → fetch (alone chain None) (at i).pc ≡ r →
        fetch (patched chain patching) (at i).pc ≡ r
    behind_read low r read =
        sym (behind_alike chain (alone_in chain None) patching (length-alone chain None) (kept i).patching.long (at i).pc low).instruction
        ∙ read

    at_slot : (slot : ℕ) → slot ≤ chain.slots → (at i).pc ≡ slot_at chain slot → GoesTo
    at_slot slot few there = by_order (cases_lt slot chain.slots)
      where
        to_target : (to : Option ℕ) → slot < chain.slots → Belongs chain slot to → Outside (target chain slot to)
        to_target None less belongs = to_slot chain part d field is fragments f (slot + 1) (omega arith)
        to_target (Some number) less belongs = to_part chain part d field is fragments f number belongs.0

        by_order : (slot < chain.slots) ⊎ (chain.slots ≤ slot) → GoesTo
        by_order (inl less) =
            jumps (control_bits jump_word) (target chain slot (part_at patching slot))
            (ap (fetch (patched chain patching)) there ∙ slot_read chain patching (kept i).patching.long slot less)
            (to_target (part_at patching slot) less ((kept i).patching.belong slot less))
        by_order (inr more) =
            let same : slot ≡ chain.slots = omega arith in
            let base : slot_at chain 0 ≡ chain.base = omega arith in
            jumps (control_bits jump_word) chain.base
            (ap (fetch (patched chain patching)) (there ∙ ap (slot_at chain) same) ∙ back_read chain patching (kept i).patching.long)
            (subst Outside base to_base)

    at_opening : (p : Field) → (IsIt chain part d field is fragments f p → ⊥) → (at i).pc ≡ begin_at chain part d field is fragments f p →
        GoesTo
    at_opening p never there =
        let low = behind_slots chain part d field is fragments f p in
        let read =
        behind_read (omega arith) (Ok (opening p.of, 2))
        (ap (fetch (alone chain None)) there ∙ opening_there chain part d field is fragments f p) in
        let pc : (turn (at i)).pc ≡ begin_at chain part d field is fragments f p + 8 =
        ap (λ (m : State). m.pc) (turned (Ok (opening p.of, 2)) read) ∙ ap (λ (n : ℕ). n + 8) there in
        inr (subst Outside (sym pc)
        (inr (inr (
          record {
            p = p;
            rest = body p.shown p.of;
            stands = body_there chain part d field is fragments f p;
            low = omega arith;
            ends = refl;
          },
          never,
        ))))

    within : (p : Field) → (IsIt chain part d field is fragments f p → ⊥) → (rest : List Instr) →
        StandsFrom (alone chain None) (at i).pc rest (signal p.of) (next_at chain part d field is fragments f p) →
        begin_at chain part d field is fragments f p + 8 ≤ (at i).pc →
        (at i).pc + 4 * words_in rest ≡ end_at chain part d field is fragments f p → GoesTo
    within p never [] stands low ends =
        let behind = behind_slots chain part d field is fragments f p in
        jumps (signal p.of) (next_at chain part d field is fragments f p)
        (behind_read (omega arith) (Ok (Jump (signal p.of) (next_at chain part d field is fragments f p), 2)) stands)
        (to_next chain part d field is fragments f p)
    within p never (instr ∷ rest) stands low ends =
        let behind = behind_slots chain part d field is fragments f p in
        let read = behind_read (omega arith) (Ok (instr, length (encoded instr))) stands.0 in
        let is_turned = turned (Ok (instr, length (encoded instr))) read in
        by_plain is_turned (plain_goes instr (length (encoded instr)) (counted (at i)) stands.1)
      where
        by_plain : turn (at i) ≡ instr_fetched instr (length (encoded instr)) (counted (at i)) →
            ((instr_fetched instr (length (encoded instr)) (counted (at i))).pc ≡ (at i).pc + 4 * length (encoded instr))
            ⊎ ((instr_fetched instr (length (encoded instr)) (counted (at i))).risc_on ≡ false) → GoesTo
        by_plain is_turned (inl there) =
            inr (subst Outside (sym (ap (λ (m : State). m.pc) is_turned ∙ there))
            (inr (inr (
              record {
                p = p;
                rest = rest;
                stands = stands.2;
                low = omega arith;
                ends = omega arith;
              },
              never,
            ))))
        by_plain is_turned (inr off) = inl (ap (λ (m : State). m.risc_on) is_turned ∙ off)

    -- the closing of the section itself
    closes : (at i).pc ≡ end_at chain part d field is fragments f this → GoesTo
    closes there =
        let behind = behind_slots chain part d field is fragments f this in
        jumps (signal field) (next_at chain part d field is fragments f this)
        (behind_read (omega arith) (Ok (Jump (signal field) (next_at chain part d field is fragments f this), 2))
        (ap (fetch (alone chain None)) there ∙ closing_there chain part d field is fragments f this))
        (to_next chain part d field is fragments f this)

    -- the opening of the section itself
    opens_now : (at i).pc ≡ begin_in chain part d field → is_opening_at (begin_in chain part d field) (at i) Turn ≡ true
    opens_now there =
        let behind = behind_slots chain part d field is fragments f this in
        let read = behind_read (omega arith) (Ok (opening field, 2))
        (ap (fetch (alone chain None)) there ∙ opening_there chain part d field is fragments f this) in
        let seen_is : seen (at i) ≡ seen_alone Synced (at i).pc =
        ap (λ (b : Bool). seen_if b (at i)) on ∙ ap (λ (j : Job). seen_in j (at i)) idle
        ∙ ap (λ (p : RiscProgram). seen_alone (fetched_did (fetch p (at i).pc) (at i).skipping) (at i).pc) (program_is i)
        ∙ ap (λ (r : Reading). seen_alone (fetched_did r (at i).skipping) (at i).pc) read in
        and_from (is_synced (seen (at i)).did) ((seen (at i)).at == begin_in chain part d field)
        (ap (λ (s : Seen). is_synced s.did) seen_is)
        (eq-eqb (seen (at i)).at (begin_in chain part d field) (ap (λ (s : Seen). s.at) seen_is ∙ there))

  -- ---- one more step

  module _ (i : ℕ) (inside : i < length steps) where
    next_is : (st : LiveStep) → step_at steps i ≡ st → at (i + 1) ≡ (live_step chain st (live_of chain fill steps i)).machine
    next_is st is_st = ap (λ (l : Live). l.machine) (next_live chain fill steps i inside st is_st)

    goes_off : (st : LiveStep) (is_st : step_at steps i ≡ st) → (live_step chain st (live_of chain fill steps i)).machine.risc_on ≡ false →
        StateAt (i + 1)
    goes_off st is_st off = inl (ap (λ (m : State). m.risc_on) (next_is st is_st) ∙ off)

    goes_out : (st : LiveStep) (is_st : step_at steps i ≡ st) → Outside (live_step chain st (live_of chain fill steps i)).machine.pc →
        StateAt (i + 1)
    goes_out st is_st out = inr (inl (subst Outside (sym (ap (λ (m : State). m.pc) (next_is st is_st))) out))

    turn_goes : step_at steps i ≡ Plain Turn → ((turn (at i)).risc_on ≡ false) ⊎ Outside (turn (at i)).pc → StateAt (i + 1)
    turn_goes is_st (inl off) = goes_off (Plain Turn) is_st off
    turn_goes is_st (inr out) = goes_out (Plain Turn) is_st out

    -- the section opens
    opens : step_at steps i ≡ Plain Turn → (at i).risc_on ≡ true → (at i).job ≡ Idle → (at i).pc ≡ begin_in chain part d field →
        StateAt (i + 1)
    opens is_st on idle there = by_on (cases_Bool (at (i + 1)).risc_on)
      where
        opened : is_opening_at (begin_in chain part d field) (at i) Turn ≡ true
        opened = opens_now i on idle there

        by_on : ((at (i + 1)).risc_on ≡ true) ⊎ ((at (i + 1)).risc_on ≡ false) → StateAt (i + 1)
        by_on (inr off) = inl off
        by_on (inl on_next) =
            inr (inr (record {
              j = i;
              before = omega arith;
              is_turn = is_st;
              opened = opened;
              on = λ l from to. on_by l from to (cases_lt i l);
              silent = λ l from to. silent_there l (omega arith);
              there = starts chain part d field fill steps i is sound made f is_st opened inside;
            }))
          where
            on_by : (l : ℕ) → i ≤ l → l ≤ i + 1 → (i < l) ⊎ (l ≤ i) → (at l).risc_on ≡ true
            on_by l from to (inl more) = let same : i + 1 ≡ l = omega arith in subst (λ (n : ℕ). (at n).risc_on ≡ true) same on_next
            on_by l from to (inr less) = let same : i ≡ l = omega arith in subst (λ (n : ℕ). (at n).risc_on ≡ true) same on

            no_signal : signals_now (section_in chain part d field) (live_of chain fill steps i) (step_at steps i) ≡ false
            no_signal =
                ap (signals_now (section_in chain part d field) (live_of chain fill steps i)) is_st
                ∙ signal_by (at i).risc_on (at i).job (at i).pc (closing_at (section_in chain part d field))
                (λ on_is idle_is same.
                let end : (at i).pc ≡ begin_in chain part d field + 8 + 4 * words_in (body d field) = same in absurd (omega arith))

            silent_there : (l : ℕ) → l ≡ i →
                signals_now (section_in chain part d field) (live_of chain fill steps l) (step_at steps l) ≡ false
            silent_there l same =
                subst (λ (n : ℕ). signals_now (section_in chain part d field) (live_of chain fill steps n) (step_at steps n) ≡ false)
                (sym same) no_signal

    -- a turn outside
    out_fetches : step_at steps i ≡ Plain Turn → (at i).risc_on ≡ true → (at i).job ≡ Idle → Outside (at i).pc → StateAt (i + 1)
    out_fetches is_st on idle (inl s) = turn_goes is_st (at_slot i on idle s.slot s.few s.there)
    out_fetches is_st on idle (inr (inl o)) = by_it (is_it_or chain part d field is fragments f o.p)
      where
        by_it : IsIt chain part d field is fragments f o.p ⊎ (IsIt chain part d field is fragments f o.p → ⊥) → StateAt (i + 1)
        by_it (inl it) = opens is_st on idle (opening_itself chain part d field is fragments f (at i).pc o it)
        by_it (inr never) = turn_goes is_st (at_opening i on idle o.p never o.there)
    out_fetches is_st on idle (inr (inr w)) =
        turn_goes is_st (within i on idle w.0.p w.1 w.0.rest w.0.stands w.0.low w.0.ends)

    out_rests : step_at steps i ≡ Plain Turn → ((at i).risc_on ≡ true → (at i).job ≡ Idle → ⊥) → Outside (at i).pc → StateAt (i + 1)
    out_rests is_st busy out = goes_out (Plain Turn) is_st (subst Outside (sym (busy_stays (at i) busy)) out)

    out_turns : step_at steps i ≡ Plain Turn → Outside (at i).pc → (on : Bool) → (at i).risc_on ≡ on → (job : Job) → (at i).job ≡ job →
        StateAt (i + 1)
    out_turns is_st out true on Idle idle = out_fetches is_st on idle out
    out_turns is_st out true on (Waiting ctl resync code) j =
        out_rests is_st (λ is_on idle. let other : Waiting ctl resync code ≡ Idle = sym j ∙ idle in cc) out
    out_turns is_st out true on (Running instr ds) j =
        out_rests is_st (λ is_on idle. let other : Running instr ds ≡ Idle = sym j ∙ idle in cc) out
    out_turns is_st out false off job j = out_rests is_st (λ is_on idle. let never : true ≡ false = sym is_on ∙ off in cc) out

    host_out : (write : HostWrite) → step_at steps i ≡ Plain (Host write) → Outside (at i).pc → StateAt (i + 1)
    host_out (Ack mask) is_st out = goes_out (Plain (Host (Ack mask))) is_st out
    host_out (Trigger number) is_st out = goes_out (Plain (Host (Trigger number))) is_st out
    host_out (Enable fifo risc) is_st out = by_enabled (enabled_goes fifo risc (at i).risc_on (at i))
      where
        by_enabled : ((host (Enable fifo risc) (at i)).pc ≡ (at i).program.base)
            ⊎ (((host (Enable fifo risc) (at i)).risc_on ≡ false)
            ⊎ (((host (Enable fifo risc) (at i)).pc ≡ (at i).pc) × ((at i).risc_on ≡ true))) → StateAt (i + 1)
        by_enabled (inl base) = goes_out (Plain (Host (Enable fifo risc))) is_st (subst Outside (sym (base ∙ base_is i)) to_base)
        by_enabled (inr (inl off)) = goes_off (Plain (Host (Enable fifo risc))) is_st off
        by_enabled (inr (inr same)) = goes_out (Plain (Host (Enable fifo risc))) is_st (subst Outside (sym same.0) out)

    from_out : (st : LiveStep) → step_at steps i ≡ st → Outside (at i).pc → StateAt (i + 1)
    from_out (Plain Turn) is_st out = out_turns is_st out (at i).risc_on refl (at i).job refl
    from_out (Plain (Push q entry)) is_st out =
        goes_out (Plain (Push q entry)) is_st (subst Outside (sym (push-Unmoved q entry (at i) (orderly i).queues).pc) out)
    from_out (Plain (Control code)) is_st out =
        goes_out (Plain (Control code)) is_st (subst Outside (sym (push_control-Unmoved code (at i) (orderly i).queues).pc) out)
    from_out (Plain (Host write)) is_st out = host_out write is_st out
    from_out (Patch slot other) is_st out = goes_out (Patch slot other) is_st out

    host_off : (write : HostWrite) → step_at steps i ≡ Plain (Host write) → (at i).risc_on ≡ false → StateAt (i + 1)
    host_off (Ack mask) is_st off = goes_off (Plain (Host (Ack mask))) is_st off
    host_off (Trigger number) is_st off = goes_off (Plain (Host (Trigger number))) is_st off
    host_off (Enable fifo risc) is_st off = by_enabled (enabled_goes fifo risc (at i).risc_on (at i))
      where
        by_enabled : ((host (Enable fifo risc) (at i)).pc ≡ (at i).program.base)
            ⊎ (((host (Enable fifo risc) (at i)).risc_on ≡ false)
            ⊎ (((host (Enable fifo risc) (at i)).pc ≡ (at i).pc) × ((at i).risc_on ≡ true))) → StateAt (i + 1)
        by_enabled (inl base) = goes_out (Plain (Host (Enable fifo risc))) is_st (subst Outside (sym (base ∙ base_is i)) to_base)
        by_enabled (inr (inl off_then)) = goes_off (Plain (Host (Enable fifo risc))) is_st off_then
        by_enabled (inr (inr same)) = let never : true ≡ false = sym same.1 ∙ off in cc

    from_off : (st : LiveStep) → step_at steps i ≡ st → (at i).risc_on ≡ false → StateAt (i + 1)
    from_off (Plain Turn) is_st off =
        goes_off (Plain Turn) is_st (ap (λ (b : Bool). (turn_if b (counted (at i))).risc_on) off ∙ off)
    from_off (Plain (Push q entry)) is_st off = goes_off (Plain (Push q entry)) is_st (push_on (at i).fifo_on q entry (at i) ∙ off)
    from_off (Plain (Control code)) is_st off = goes_off (Plain (Control code)) is_st (control_on (at i).fifo_on code (at i) ∙ off)
    from_off (Plain (Host write)) is_st off = host_off write is_st off
    from_off (Patch slot other) is_st off = goes_off (Patch slot other) is_st off

    from_in : (n : In i) → (signals_now (section_in chain part d field) (live_of chain fill steps i) (step_at steps i) ≡ true)
        ⊎ (signals_now (section_in chain part d field) (live_of chain fill steps i) (step_at steps i) ≡ false) → StateAt (i + 1)
    from_in n (inl signals) =
        let is_st = signalling_turn (section_in chain part d field) (live_of chain fill steps i) (step_at steps i) signals in
        let closing =
        pc_at (at i).risc_on (at i).job (at i).pc (closing_at (section_in chain part d field))
        (sym (ap (signals_now (section_in chain part d field) (live_of chain fill steps i)) is_st) ∙ signals) in
        turn_goes is_st (closes i closing.0 closing.1 closing.2)
    from_in n (inr silent) = by_on (cases_Bool (at (i + 1)).risc_on)
      where
        by_on : ((at (i + 1)).risc_on ≡ true) ⊎ ((at (i + 1)).risc_on ≡ false) → StateAt (i + 1)
        by_on (inr off) = inl off
        by_on (inl on_next) =
            let before = n.before in
            inr (inr (record {
              j = n.j;
              before = omega arith;
              is_turn = n.is_turn;
              opened = n.opened;
              on = λ l from to. on_by l from to (cases_lt i l);
              silent = λ l from to. silent_by l from to (cases_lt l i);
              there =
                  there_next chain part d field fill steps n.j is sound made f n.is_turn n.opened i n.before inside n.there
                  (n.on i (omega arith) (omega arith)) silent;
            }))
          where
            on_by : (l : ℕ) → n.j ≤ l → l ≤ i + 1 → (i < l) ⊎ (l ≤ i) → (at l).risc_on ≡ true
            on_by l from to (inl more) = let same : i + 1 ≡ l = omega arith in subst (λ (x : ℕ). (at x).risc_on ≡ true) same on_next
            on_by l from to (inr less) = n.on l from less

            silent_by : (l : ℕ) → n.j ≤ l → l < i + 1 → (l < i) ⊎ (i ≤ l) →
                signals_now (section_in chain part d field) (live_of chain fill steps l) (step_at steps l) ≡ false
            silent_by l from to (inl less) = n.silent l from less
            silent_by l from to (inr more) =
                let same : i ≡ l = omega arith in
                subst (λ (x : ℕ). signals_now (section_in chain part d field) (live_of chain fill steps x) (step_at steps x) ≡ false) same
                silent

    goes_on : StateAt i → StateAt (i + 1)
    goes_on (inl off) = from_off (step_at steps i) refl off
    goes_on (inr (inl out)) = from_out (step_at steps i) refl out
    goes_on (inr (inr n)) =
        from_in n (cases_Bool (signals_now (section_in chain part d field) (live_of chain fill steps i) (step_at steps i)))

  -- ---- all places

  state_at : (n : ℕ) → n ≤ length steps → StateAt n
  state_at zero few =
      let base : (at 0).pc ≡ slot_at chain 0 = omega arith in inr (inl (subst Outside (sym base) to_base))
  state_at (suc n) few =
      let same : n + 1 ≡ suc n = omega arith in subst StateAt same (goes_on n (omega arith) (state_at n (omega arith)))

  -- ---- a signal

  module _ (k : ℕ) (inside : k < length steps) (is_turn : step_at steps k ≡ Plain Turn)
      (signals : is_signal (section_in chain part d field) (at k) Turn ≡ true) where
    closing : ((at k).risc_on ≡ true) × ((at k).job ≡ Idle) × ((at k).pc ≡ closing_at (section_in chain part d field))
    closing = pc_at (at k).risc_on (at k).job (at k).pc (closing_at (section_in chain part d field)) signals

    silent_to : (n i : ℕ) (j : ℕ) → j ≤ i → i + n ≡ k → Nothing_signals j k →
        signals_from (section_in chain part d field) chain (first_live chain fill) steps (live_program chain fill steps is sound made) i k
        ≡ false
    silent_to zero i j from there silent =
        let here : k ≡ i = omega arith in
        subst (λ (x : ℕ). signals_from (section_in chain part d field) chain (first_live chain fill) steps
        (live_program chain fill steps is sound made) x k ≡ false) here
        (none_from (section_in chain part d field) chain (first_live chain fill) steps (live_program chain fill steps is sound made) k)
    silent_to (suc n) i j from there silent =
        signals_first (section_in chain part d field) chain (first_live chain fill) steps (live_program chain fill steps is sound made) i k
        (omega arith) (omega arith)
        ∙ or_from (signals_now (section_in chain part d field) (live_of chain fill steps i) (step_at steps i))
        (signals_from (section_in chain part d field) chain (first_live chain fill) steps (live_program chain fill steps is sound made)
        (i + 1) k)
        (silent i from (omega arith)) (silent_to n (i + 1) j (omega arith) (omega arith) silent)

    by_state : StateAt k → (j : ℕ) × IsSignalBehind chain part d field fill steps j k
    by_state (inl off) = let never : true ≡ false = sym closing.0 ∙ off in cc
    by_state (inr (inl out)) = absurd (never_closing chain part d field is fragments f (at k).pc out closing.2)
    by_state (inr (inr n)) =
        let before = n.before in (
          n.j,
          record {
            turn = n.is_turn;
            opened = n.opened;
            signal = record {
              later = omega arith;
              there = inside;
              turn = is_turn;
              signal = signals;
              silent = silent_to (k - n.j) n.j n.j (omega arith) (omega arith) n.silent;
            };
            on = n.on;
          },
        )

    pub comes_from_opening : (j : ℕ) × IsSignalBehind chain part d field fill steps j k
    comes_from_opening = by_state (state_at k (omega arith))
