-- What holds of live runs holds of every stream that the chain of two descriptions plays.
use Rattle.std.proofs.Common.{All, List}
use Rattle.capture_desc.specs.declared.desc.Desc.{Desc}
use Rattle.capture_file.specs.declared.Step.{Step}
use Rattle.capture_file.specs.Records.{StepFits}
use Rattle.chain_model.specs.Live.{IsLiveStep}
use Rattle.chain_law.proofs.Promises.{live_runs_keep_promises}
use Rattle.slot_chain.specs.Pairs.{chain_of_two}
use Rattle.slot_chain.specs.Plays.{all_live_steps}
use Rattle.slot_chain.specs.Promises.{PlaysKeepPromises}
use Rattle.slot_chain.proofs.Pairs.{is, is_sound}
use Rattle.slot_chain.proofs.Plays.{all_live}
use Rattle.slot_chain.proofs.Standing.{has_buffers}

pub plays_are_live : (first second : Desc) (steps : List Step) → All StepFits steps →
    All (IsLiveStep (chain_of_two first second)) (all_live_steps steps)
plays_are_live first second steps fits = all_live (chain_of_two first second) (has_buffers first second) steps fits

pub plays_keep_promises : PlaysKeepPromises
plays_keep_promises first second steps pair fits =
    live_runs_keep_promises (chain_of_two first second) first.fill (all_live_steps steps) (is first second pair)
    (is_sound first second pair) (plays_are_live first second steps fits)
