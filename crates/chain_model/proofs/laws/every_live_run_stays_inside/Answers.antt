use Rattle.chain_model.proofs.Live.{IsLive-at, LiveInside-IsLive}
use Rattle.chain_model.proofs.laws.every_live_run_stays_inside.Goals as goal

pub returns : goal.returns
returns c = λ chain fill steps number is sound made. LiveInside-IsLive chain is sound _ (IsLive-at chain is sound fill steps number made)
