use Rattle.turn_trace.proofs.Lines.{untold-OnlyCounts}
use Rattle.turn_trace.proofs.laws.untold_turns_only_count.Goals as goal

pub returns : goal.returns
returns c = untold-OnlyCounts
