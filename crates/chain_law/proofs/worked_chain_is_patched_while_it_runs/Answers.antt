use Rattle.chain_law.proofs.Worked.{first_signalled, is_chain, is_sound, second_signalled}
use Rattle.chain_law.proofs.worked_chain_is_patched_while_it_runs.Goals as goal

pub returns-clause-chain : goal.returns-clause-chain
returns-clause-chain c = is_chain

pub returns-clause-sound : goal.returns-clause-sound
returns-clause-sound c = is_sound

pub returns-clause-first : goal.returns-clause-first
returns-clause-first c = first_signalled

pub returns-clause-second : goal.returns-clause-second
returns-clause-second c = second_signalled
