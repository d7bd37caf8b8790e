-- A step of the decoder or the host: the programs of a chain stay as they are.
use Rattle.std.proofs.Common.{◌≡◌, ℕ, List, Option, sym, ap, subst, ◌∙◌}
use Rattle.machine_model.specs.Paths.{RiscProgram}
use Rattle.machine_model.specs.States.{State}
use Rattle.machine_model.specs.Steps.{Step, Turn, step, with_program}
use Rattle.machine_model.proofs.ProgramStays.{program-step}
use Rattle.chain_model.specs.declared.PartWords.{PartWords}
use Rattle.chain_model.specs.Chains.{Chain, IsPatching, Patching, patched}
use Rattle.chain_model.specs.Live.{Plain}
use Rattle.chain_model.proofs.Others.{step-with}
use Rattle.slot_chain.specs.States.{chain_of, lived, state_of}
use Rattle.slot_chain.specs.Wheels.{IsWheel}

module _ (base slots : ℕ) (parts : List PartWords) (patching : Patching) (m after : State) (s : Step) (made : after ≡ step s m) where
  abbrev chain : Chain
  chain = chain_of base slots parts m.program.grants

  same : after.program ≡ m.program
  same = ap (λ (m : State). m.program) made ∙ program-step s m

  pub stepped_patching : IsPatching chain patching → IsPatching (chain_of base slots parts after.program.grants) patching
  stepped_patching good = subst (λ (p : RiscProgram). IsPatching (chain_of base slots parts p.grants) patching) (sym same) good

  module _ (programs : List RiscProgram) (current : Option ℕ) (wheel : IsWheel chain m.program programs current) where
    pub stepped_wheel : IsWheel (chain_of base slots parts after.program.grants) after.program programs current
    stepped_wheel = subst (λ (p : RiscProgram). IsWheel (chain_of base slots parts p.grants) p programs current) (sym same) wheel

    pub stepped_state : ((s ≡ Turn) → ⊥) →
        state_of (chain_of base slots parts after.program.grants) patching after ≡ lived (Plain s) (state_of chain patching m)
    stepped_state other =
        let words : RiscProgram = patched chain patching in
        let base_is : m.program.base ≡ base = ap (λ (p : RiscProgram). p.base) wheel.runs in
        ap (λ (p : RiscProgram). state_of (chain_of base slots parts p.grants) patching after) same
        ∙ ap (λ (m : State). record { chain = chain; live = record { patching = patching; machine = m } })
        (ap (with_program words) made ∙ sym (step-with words s m other base_is))
