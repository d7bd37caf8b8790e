-- Steps of a machine that fetches nothing are steps of the chain, whatever the program: turns where it stands still, and plain entries.
use Rattle.std.proofs.Common.{◌≡◌, ℕ, zero, suc, true, refl, sym, ap, subst, ◌∙◌}
use Rattle.std.specs.Prelude.{List, [], ◌∷◌, Option, map, replicate}
use Rattle.machine_model.specs.Paths.{RiscProgram}
use Rattle.machine_model.specs.States.{State}
use Rattle.machine_model.specs.Steps.{Step, Turn, run, with_program}
use Rattle.machine_model.specs.Turns.{counted}
use Rattle.machine_model.proofs.Runs.{program-run}
use Rattle.dma_machine.specs.Stills.{is_still}
use Rattle.dma_machine.proofs.Standing.{is_still-program, is_still-turns}
use Rattle.dma_machine.proofs.StillSeen.{still_counts}
use Rattle.chain_model.specs.declared.PartWords.{PartWords}
use Rattle.chain_model.specs.Chains.{Chain, IsPatching, Patching, patched}
use Rattle.chain_model.specs.Live.{Live, Plain, live_run, live_step}
use Rattle.slot_chain.specs.States.{chain_of, live_of, state_of, stepped, turned}
use Rattle.slot_chain.specs.Wheels.{IsWheel}

-- turns take the same course with another program
still_alike : (count : ℕ) (program : RiscProgram) (m : State) → is_still m ≡ true →
    with_program program (run m (replicate count Turn)) ≡ run (with_program program m) (replicate count Turn)
still_alike zero program m still = refl
still_alike (suc count) program m still =
    let other : is_still (with_program program m) ≡ true = is_still-program program m ∙ still in
    ap (λ (s : State). with_program program (run s (replicate count Turn))) (still_counts m still)
    ∙ still_alike count program (counted m) (is_still-turns (counted m).turns m ∙ still)
    ∙ ap (λ (s : State). run s (replicate count Turn)) (sym (still_counts (with_program program m) other))

-- turns of a live run are those of its machine
plain_turns : (chain : Chain) (live : Live) (count : ℕ) → live_run chain live (replicate count (Plain Turn)) ≡ record live {
  machine = run live.machine (replicate count Turn);
}
plain_turns chain live zero = refl
plain_turns chain live (suc count) = plain_turns chain (live_step chain (Plain Turn) live) count

-- so are those of any steps
machine_steps : (chain : Chain) (live : Live) (steps : List Step) → live_run chain live (map Plain steps) ≡ record live {
  machine = run live.machine steps;
}
machine_steps chain live [] = refl
machine_steps chain live (s ∷ steps) = machine_steps chain (live_step chain (Plain s) live) steps

module _ (base slots : ℕ) (parts : List PartWords) (patching : Patching) (m after : State) (steps : List Step)
    (ran : after ≡ run m steps) where
  abbrev chain : Chain
  chain = chain_of base slots parts m.program.grants

  program_stays : after.program ≡ m.program
  program_stays = ap (λ (s : State). s.program) ran ∙ program-run m steps

  chain_stays : chain_of base slots parts after.program.grants ≡ chain
  chain_stays = ap (λ (p : RiscProgram). chain_of base slots parts p.grants) program_stays

  pub same_wheel : (programs : List RiscProgram) (current : Option ℕ) → IsWheel chain m.program programs current →
      IsWheel (chain_of base slots parts after.program.grants) after.program programs current
  same_wheel programs current wheel =
      subst (λ (c : Chain). IsWheel c after.program programs current) (sym chain_stays)
      (subst (λ (p : RiscProgram). IsWheel chain p programs current) (sym program_stays) wheel)

  pub same_patching : IsPatching chain patching → IsPatching (chain_of base slots parts after.program.grants) patching
  same_patching good = subst (λ (c : Chain). IsPatching c patching) (sym chain_stays) good

  -- with the words as they are patched the machine took the same course
  pub stepped_state : with_program (patched chain patching) after ≡ run (with_program (patched chain patching) m) steps →
      state_of (chain_of base slots parts after.program.grants) patching after ≡ stepped steps (state_of chain patching m)
  stepped_state alike =
      ap (λ (c : Chain). state_of c patching after) chain_stays
      ∙ ap (λ (s : State). record { chain = chain; live = record { patching = patching; machine = s } }) alike
      ∙ ap (λ (live : Live). record { chain = chain; live = live }) (sym (machine_steps chain (live_of chain patching m) steps))

module _ (base slots : ℕ) (parts : List PartWords) (patching : Patching) (m after : State) (count : ℕ)
    (ran : after ≡ run m (replicate count Turn)) where
  abbrev still_chain : Chain
  still_chain = chain_of base slots parts m.program.grants

  pub stood_state : is_still (live_of still_chain patching m).machine ≡ true →
      state_of (chain_of base slots parts after.program.grants) patching after ≡ turned count (state_of still_chain patching m)
  stood_state still =
      let words : RiscProgram = patched still_chain patching in
      let here : is_still m ≡ true = sym (is_still-program words m) ∙ still in
      let alike = ap (with_program words) ran ∙ still_alike count words m here in
      stepped_state base slots parts patching m after (replicate count Turn) ran alike
      ∙ ap (λ (live : Live). record { chain = still_chain; live = live })
      (machine_steps still_chain (live_of still_chain patching m) (replicate count Turn)
      ∙ sym (plain_turns still_chain (live_of still_chain patching m) count))
