use Rattle.chain_law.proofs.Promises.{live_runs_keep_promises}
use Rattle.chain_law.proofs.live_runs_keep_promises.Goals as goal

pub returns : goal.returns
returns c = live_runs_keep_promises
