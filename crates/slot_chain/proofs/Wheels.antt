-- The programs of a chain when two of them are exchanged.
use Rattle.std.proofs.Common.{◌≡◌, ℕ, ◌-◌, ◌/◌, ◌%◌, ◌&&◌, nat_le, nat_lt, ◌<◌, ◌⊎◌, inl, inr, Bool, true, false, List, length, Option}
use Rattle.std.proofs.Common.{Some, None, refl, sym, ap, subst, ◌∙◌, arith, if◌then◌else◌, ◌==◌}
use Rattle.std.specs.Prelude.{slice_index_or, slice_set}
use Rattle.std.proofs.lemmas.Bool.{cases_eq, cond-true, eq-eqb, eqb-true}
use Rattle.std.proofs.lemmas.List.{get_or_default, get_or-set_same, get_or-set_other, length-set}
use Rattle.machine_model.specs.Paths.{RiscProgram, is_word}
use Rattle.machine_model.proofs.OneSpan.{is_word-one_span}
use Rattle.machine_model.specs.Safety.{IsSafe}
use Rattle.machine_model.specs.States.{State}
use Rattle.machine_model.specs.Steps.{with_program}
use Rattle.dma_machine.specs.Looks.{CanGoOn}
use Rattle.chain_model.specs.Chains.{Chain, IsPart, alone, alone_in, patched_words}
use Rattle.chain_model.proofs.Slots.{length-alone}
use Rattle.chain_model.proofs.Words.{length-patched}
use Rattle.slot_chain.specs.Wheels.{CanEnter, Entered, IsWheel, kept_part}

kept_own : (part : ℕ) → kept_part (Some part) part ≡ None
kept_own part = cond-true (part == part) None (Some part) (eq-eqb part part refl)

kept_by : (b : Bool) (current part : ℕ) → (current == part) ≡ b → (part ≡ current → ⊥) → (if b then None else Some part) ≡ Some part
kept_by true current part e ne = absurd (ne (sym (eqb-true current part e)))
kept_by false current part e ne = refl

kept_other : (current part : ℕ) → (part ≡ current → ⊥) → kept_part (Some current) part ≡ Some part
kept_other current part ne = kept_by (current == part) current part refl ne

-- two programs of the family have words at the same addresses
same_there : (chain : Chain) (one other : Option ℕ) (address : ℕ) → is_word (alone chain one) address ≡ is_word (alone chain other) address
same_there chain one other address =
    let long =
    length-patched chain (alone_in chain one) (length-alone chain one)
    ∙ sym (length-patched chain (alone_in chain other) (length-alone chain other)) in
    is_word-one_span chain.base (patched_words chain (alone_in chain one)) chain.grants address
    ∙ ap (λ n. nat_le chain.base address && (address - chain.base) % 4 == 0 && nat_lt ((address - chain.base) / 4) n) long
    ∙ sym (is_word-one_span chain.base (patched_words chain (alone_in chain other)) chain.grants address)

can_go_on : (chain : Chain) (from to : Option ℕ) (m : State) (program : RiscProgram) → m.program ≡ alone chain from →
    program ≡ alone chain to →
    IsSafe (with_program (alone chain to) m) → CanGoOn program m
can_go_on chain from to m program runs is safe =
    record {
      base = ap (λ (p : RiscProgram). p.base) is ∙ ap (λ (p : RiscProgram). p.base) (sym runs);
      there =
          λ address. ap (λ (p : RiscProgram). is_word p address) is ∙ same_there chain to from address
          ∙ ap (λ (p : RiscProgram). is_word p address) (sym runs);
      grants = ap (λ (p : RiscProgram). p.grants) is ∙ ap (λ (p : RiscProgram). p.grants) (sym runs);
      safe = subst (λ (p : RiscProgram). IsSafe (with_program p m)) (sym is) safe;
    }

-- after an exchange at the place of a part, whose program was that of another current one
module _ (chain : Chain) (running : RiscProgram) (programs : List RiscProgram) (current next : Option ℕ) (part : ℕ)
    (there : part < length chain.parts)
    (wheel : IsWheel chain running programs current) (is_part : IsPart chain next) (leads : kept_part current part ≡ next)
    (back : current ≡ kept_part next part)
    (others : (k : ℕ) → (k ≡ part → ⊥) → kept_part current k ≡ kept_part next k) where
  taken : slice_index_or programs part running ≡ alone chain next
  taken = wheel.kept part there ∙ ap (alone chain) leads

  kept_at : (k : ℕ) → k < length chain.parts → (k ≡ part) ⊎ (k ≡ part → ⊥) →
      slice_index_or (slice_set programs part running) k (alone chain next) ≡ alone chain (kept_part next k)
  kept_at k lt (inl e) =
      let count = wheel.count in
      ap (λ (n : ℕ). slice_index_or (slice_set programs part running) n (alone chain next)) e
      ∙ get_or-set_same programs part running (alone chain next) (omega arith)
      ∙ wheel.runs ∙ ap (alone chain) back ∙ ap (λ (n : ℕ). alone chain (kept_part next n)) (sym e)
  kept_at k lt (inr ne) =
      let count = wheel.count in
      get_or-set_other programs part k running (alone chain next) ne
      ∙ get_or_default programs k (alone chain next) running (omega arith)
      ∙ wheel.kept k lt ∙ ap (alone chain) (others k ne)

  pub exchanged : IsWheel chain (alone chain next) (slice_set programs part running) next
  exchanged =
      record {
        is = wheel.is;
        sound = wheel.sound;
        part = is_part;
        runs = refl;
        count = length-set programs part running ∙ wheel.count;
        kept = λ k lt. kept_at k lt (cases_eq k part);
      }

-- ---- the program without parts comes into the machine

module _ (chain : Chain) (m : State) (programs : List RiscProgram) (part : ℕ) where
  pub leave_inside : CanEnter chain None m programs (Some part) → part < length programs
  leave_inside can = let count = can.wheel.count in let there = can.wheel.part in omega arith

  leave_takes : CanEnter chain None m programs (Some part) → slice_index_or programs part m.program ≡ alone chain None
  leave_takes can = can.wheel.kept part can.wheel.part ∙ ap (alone chain) (kept_own part)

  pub leave_can : CanEnter chain None m programs (Some part) → CanGoOn (slice_index_or programs part m.program) m
  leave_can can = can_go_on chain (Some part) None m (slice_index_or programs part m.program) can.wheel.runs (leave_takes can) can.home

  pub left : (after : State) (kept : List RiscProgram) → CanEnter chain None m programs (Some part) →
      after ≡ with_program (slice_index_or programs part m.program) m → kept ≡ slice_set programs part m.program →
      Entered chain None m after kept None
  left after kept can made put =
      let now : after ≡ with_program (alone chain None) m = made ∙ ap (λ (p : RiscProgram). with_program p m) (leave_takes can) in
      record {
        wheel =
            subst (λ (p : RiscProgram). IsWheel chain p kept None) (ap (λ (s : State). s.program) (sym now))
            (subst (λ (ps : List RiscProgram). IsWheel chain (alone chain None) ps None) (sym put)
            (exchanged chain m.program programs (Some part) None part can.wheel.part can.wheel tt (kept_own part) refl
            (λ k ne. kept_other part k ne)));
        current_is = refl;
        machine = now;
      }

  -- ---- the program of a part comes into it

  bring_takes : CanEnter chain (Some part) m programs None → slice_index_or programs part m.program ≡ alone chain (Some part)
  bring_takes can = can.wheel.kept part can.there

  pub bring_inside : CanEnter chain (Some part) m programs None → part < length programs
  bring_inside can = let count = can.wheel.count in let there = can.there in omega arith

  pub bring_can : CanEnter chain (Some part) m programs None → CanGoOn (slice_index_or programs part m.program) m
  bring_can can = can_go_on chain None (Some part) m (slice_index_or programs part m.program) can.wheel.runs (bring_takes can) can.safe

  pub brought : (after : State) (kept : List RiscProgram) → CanEnter chain (Some part) m programs None →
      after ≡ with_program (slice_index_or programs part m.program) m → kept ≡ slice_set programs part m.program →
      Entered chain (Some part) m after kept (Some part)
  brought after kept can made put =
      let now : after ≡ with_program (alone chain (Some part)) m = made ∙ ap (λ (p : RiscProgram). with_program p m) (bring_takes can) in
      record {
        wheel =
            subst (λ (p : RiscProgram). IsWheel chain p kept (Some part)) (ap (λ (s : State). s.program) (sym now))
            (subst (λ (ps : List RiscProgram). IsWheel chain (alone chain (Some part)) ps (Some part)) (sym put)
            (exchanged chain m.program programs None (Some part) part can.there can.wheel can.there refl (sym (kept_own part))
            (λ k ne. sym (kept_other part k ne))));
        current_is = refl;
        machine = now;
      }

-- ---- both, one after the other

pub home_can : (chain : Chain) (part : Option ℕ) (m : State) (programs : List RiscProgram) (current : Option ℕ) →
    CanEnter chain part m programs current →
    CanEnter chain None m programs current
home_can chain part m programs current can = record { wheel = can.wheel; there = tt; home = can.home; safe = can.home }

pub then_can : (chain : Chain) (part : Option ℕ) (m after : State) (programs kept : List RiscProgram) (current now : Option ℕ) →
    CanEnter chain part m programs current →
    Entered chain None m after kept now → CanEnter chain part after kept now
then_can chain part m after programs kept current now can left =
    record {
      wheel = left.wheel;
      there = can.there;
      home = subst (λ (s : State). IsSafe (with_program (alone chain None) s)) (sym left.machine) can.home;
      safe = subst (λ (s : State). IsSafe (with_program (alone chain part) s)) (sym left.machine) can.safe;
    }
