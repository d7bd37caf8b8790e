-- A chain that took the steps of a stream one after the other made the live run over all of them.
use Rattle.std.proofs.Common.{◌≡◌, ℕ, true, List, [], ◌∷◌, refl, ap, ◌∙◌}
use Rattle.capture_desc.specs.declared.desc.Desc.{Desc}
use Rattle.capture_file.specs.declared.Step.{Step}
use Rattle.slot_chain.specs.States.{ChainState}
use Rattle.slot_chain.specs.Pairs.{first_of_two}
use Rattle.slot_chain.specs.Plays.{chain_act}
use Rattle.slot_chain.specs.Promises.{played}
use Rattle.slot_chain.proofs.Plays.{plays_run}
use Rattle.stream_play.specs.Plays.{PlaysAll, acted}
use Rattle.stream_play.specs.Runs.{HasPlayedChain}

acted_played : (steps : List Step) (state : ChainState) → acted chain_act steps state ≡ played steps state
acted_played [] state = refl
acted_played (step ∷ steps) state = acted_played steps (chain_act step state)

pub chain_played : (bytes : List ℕ) (first second : Desc) (now : ChainState) →
    PlaysAll chain_act true bytes (first_of_two first second) now → HasPlayedChain bytes first second now
chain_played bytes first second now (steps, reads, is) = (
  steps,
  reads,
  ap (λ (s : ChainState). s.live) (is ∙ acted_played steps (first_of_two first second) ∙ plays_run steps (first_of_two first second)),
)
