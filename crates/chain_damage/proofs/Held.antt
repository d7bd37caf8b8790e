-- Each row of a field that is whole from its opening to its signal holds its line right after the signal.
use Rattle.std.proofs.Common.{◌≡◌, ℕ, ◌+◌, ◌<◌, ◌≤◌, ◌⊎◌, inl, inr, true, false, List, All, ap, ◌∙◌, arith}
use Rattle.std.proofs.lemmas.Bool.{cases_Bool}
use Rattle.pixel_layout.specs.declared.Parity.{Parity}
use Rattle.machine_model.specs.States.{State}
use Rattle.machine_model.specs.Steps.{Control, Host, Push, Turn}
use Rattle.capture_desc.specs.declared.desc.Desc.{Desc}
use Rattle.damage_law.proofs.SectionRuns.{holds_line, idle_memory, opens_at as about_to_open}
use Rattle.chain_model.specs.Chains.{Chain, IsChain, IsSoundChain}
use Rattle.chain_model.specs.Live.{IsLiveStep, Live, LiveStep, Patch, Plain}
use Rattle.chain_law.specs.Pictures.{step_at}
use Rattle.chain_law.proofs.Sound.{fragments_sound}
use Rattle.chain_damage.specs.Rows.{IsLastOpening, IsPartField, LiveRunsHoldWholeRows, begin_in, machine_of}
use Rattle.chain_damage.specs.Behind.{IsSignalBehind, SectionsHoldWholeRows}
use Rattle.chain_damage.specs.Rows.{opens_at, steps_between}
use Rattle.chain_damage.proofs.Signals.{comes_from_opening}
use Rattle.chain_damage.proofs.Sectioned.{after_signal, closing_is, earlier, held, made_between, orderly, skips, there_at, unpatched}

pub sections_hold_whole_rows : SectionsHoldWholeRows
sections_hold_whole_rows chain fill steps is sound made part d field j k f s =
    let there = there_at chain part d field fill steps j k is sound made f s k (earlier chain part d field fill steps j k is sound made f s)
    (omega arith) in
    let closing = closing_is chain part d field fill steps j k is sound made f s in
    let memory : (machine_of chain fill steps (k + 1)).memory ≡ there.now.memory =
    ap (λ (l : Live). l.machine.memory) (after_signal chain part d field fill steps j k is sound made f s)
    ∙ idle_memory (machine_of chain fill steps k) closing.0 closing.1 ∙ ap (λ (m : State). m.memory) there.same in
    record {
      unpatched = unpatched chain part d field fill steps j k is sound made f s;
      rows =
          λ q number mark.
          holds_line d (held chain part d field fill steps j is sound made f s.turn s.opened)
          (skips chain part d field fill steps j is sound made f s.turn s.opened)
          field f.described (machine_of chain fill steps j) there.now there.track (steps_between steps j k) there.inside
          (orderly chain part d field fill steps j is sound made f s.turn s.opened)
          (made_between chain part d field fill steps j k is sound made f s) q number mark (machine_of chain fill steps (k + 1)) memory;
    }

-- behind the opening the machine is at no opening of the section
module _ (chain : Chain) (part : ℕ) (d : Desc) (field : Parity) (fill : ℕ) (steps : List LiveStep) (j k : ℕ) (is : IsChain chain)
    (sound : IsSoundChain chain) (made : All (IsLiveStep chain) steps) (f : IsPartField chain part d field)
    (s : IsSignalBehind chain part d field fill steps j k) where
  never_opens : (i : ℕ) → j < i → i < k → (st : LiveStep) → opens_at chain part d field (machine_of chain fill steps i) st ≡ true → ⊥
  never_opens i from to (Plain Turn) opens =
      let there = there_at chain part d field fill steps j k is sound made f s i from (omega arith) in
      let low : begin_in chain part d field + 8 ≤ there.now.pc = there.inside.low in
      let pc : (machine_of chain fill steps i).pc ≡ there.now.pc = ap (λ (m : State). m.pc) there.same in
      let here = (about_to_open (machine_of chain fill steps i) (begin_in chain part d field) opens).2 in
      absurd (omega arith)
  never_opens i from to (Plain (Push q entry)) opens = cc
  never_opens i from to (Plain (Control code)) opens = cc
  never_opens i from to (Plain (Host write)) opens = cc
  never_opens i from to (Patch slot other) opens = cc

  no_opening : (i : ℕ) → j < i → i < k → opens_at chain part d field (machine_of chain fill steps i) (step_at steps i) ≡ false
  no_opening i from to = by_opens (cases_Bool (opens_at chain part d field (machine_of chain fill steps i) (step_at steps i)))
    where
      by_opens : (opens_at chain part d field (machine_of chain fill steps i) (step_at steps i) ≡ true)
          ⊎ (opens_at chain part d field (machine_of chain fill steps i) (step_at steps i) ≡ false) →
          opens_at chain part d field (machine_of chain fill steps i) (step_at steps i) ≡ false
      by_opens (inl opens) = absurd (never_opens i from to (step_at steps i) opens)
      by_opens (inr none) = none

  pub last_opening : IsLastOpening chain part d field fill steps j k
  last_opening =
      record {
        earlier = earlier chain part d field fill steps j k is sound made f s;
        opens = ap (opens_at chain part d field (machine_of chain fill steps j)) s.turn ∙ s.opened;
        last = no_opening;
      }

pub live_runs_hold_whole_rows : LiveRunsHoldWholeRows
live_runs_hold_whole_rows chain fill steps is fragments made part d field k f s =
    let sound = fragments_sound chain is fragments in
    let comes = comes_from_opening chain part d field fill steps is sound made fragments f k s.there s.turn s.signal in (
      comes.0,
      last_opening chain part d field fill steps comes.0 k is sound made f comes.1,
      sections_hold_whole_rows chain fill steps is sound made part d field comes.0 k f comes.1,
    )
