-- The steps of a stream are live steps of a chain with buffers.
use Rattle.std.proofs.Common.{◌≡◌, ℕ, ◌<◌, ◌⊎◌, inl, inr, All, List, [], ◌∷◌, Some, None, refl, sym, ap, ◌∙◌, subst, arith, ◌==◌}
use Rattle.std.proofs.lemmas.Bool.{cond-false, cond-true, eq-eqb, ne_eqb}
use Rattle.std.proofs.lemmas.List.Elements.{All-append, All-cons, All-head, All-nil, All-replicate, All-tail}
use Rattle.machine_model.specs.Steps as machine
use Rattle.capture_file.specs.declared.Step.{Step}
use Rattle.capture_file.specs.declared.Step.TheVariants.{Push, Control, Turns, Host, Patch}
use Rattle.capture_file.specs.Records.{StepFits}
use Rattle.chain_model.specs.Chains.{Belongs, Chain}
use Rattle.chain_model.specs.Live.{IsLiveStep, Live, LiveStep, Plain, live_run}
use Rattle.chain_law.proofs.Meets.{live_run-append}
use Rattle.slot_chain.specs.States.{ChainState}
use Rattle.slot_chain.specs.Pairs.{HasBuffers, part_for}
use Rattle.slot_chain.specs.Plays.{all_live_steps, chain_act, live_steps, no_buffer, part_asked}
use Rattle.slot_chain.specs.Promises.{played}

module _ (chain : Chain) (has : HasBuffers chain) where
  pub belongs : (slot buffer : ℕ) → slot < 2 → (buffer < 2) ⊎ (buffer ≡ 255) → Belongs chain slot (part_asked slot buffer)
  belongs slot buffer low (inl few) =
      let many = has.parts in
      let other : buffer ≡ no_buffer → ⊥ = λ e. absurd (omega arith) in
      subst (Belongs chain slot) (sym (cond-false (buffer == no_buffer) None (Some (part_for slot buffer)) (ne_eqb buffer no_buffer other)))
      (omega arith, has.own slot buffer low few)
  belongs slot buffer low (inr none) =
      subst (Belongs chain slot)
      (sym (cond-true (buffer == no_buffer) None (Some (part_for slot buffer)) (eq-eqb buffer no_buffer none))) tt

  pub exists : (slot : ℕ) → slot < 2 → slot < chain.slots
  exists slot low = let two = has.slots in omega arith

  one_live : (s : LiveStep) → IsLiveStep chain s → All (IsLiveStep chain) (s ∷ [])
  one_live s is = All-cons (IsLiveStep chain) s [] is (All-nil (IsLiveStep chain))

  are_live : (step : Step) → StepFits step → All (IsLiveStep chain) (live_steps step)
  are_live (Push queue entry) fits = one_live (Plain (machine.Push queue entry)) fits
  are_live (Control code) fits = one_live (Plain (machine.Control code)) tt
  are_live (Turns count) fits = All-replicate (IsLiveStep chain) count (Plain machine.Turn) tt
  are_live (Host write) fits = one_live (Plain (machine.Host write)) tt
  are_live (Patch slot buffer) fits = one_live _ (exists slot fits.0, belongs slot buffer fits.0 fits.1)

  pub all_live : (steps : List Step) → All StepFits steps → All (IsLiveStep chain) (all_live_steps steps)
  all_live [] fits = All-nil (IsLiveStep chain)
  all_live (step ∷ steps) fits =
      All-append (IsLiveStep chain) (live_steps step) (all_live_steps steps) (are_live step (All-head StepFits step steps fits))
      (all_live steps (All-tail StepFits step steps fits))

pub plays_run : (steps : List Step) (state : ChainState) → played steps state ≡ record state {
  live = live_run state.chain state.live (all_live_steps steps);
}
plays_run [] state = refl
plays_run (step ∷ steps) state =
    plays_run steps (chain_act step state)
    ∙ ap (λ (live : Live). record state { live = live })
    (sym (live_run-append state.chain state.live (live_steps step) (all_live_steps steps)))
