use Rattle.std.proofs.Common.{refl}
use Rattle.chain_law.proofs.Worked.{are_fragments}
use Rattle.chain_damage.proofs.Worked.{field_there, signal_behind, signal_there}
use Rattle.chain_damage.proofs.worked_chain_holds_a_whole_row.Goals as goal

pub returns-clause-fragments : goal.returns-clause-fragments
returns-clause-fragments c = are_fragments

pub returns-clause-field : goal.returns-clause-field
returns-clause-field c = field_there

pub returns-clause-signal : goal.returns-clause-signal
returns-clause-signal c = signal_there

pub returns-clause-behind : goal.returns-clause-behind
returns-clause-behind c = signal_behind

pub returns-clause-whole : goal.returns-clause-whole
returns-clause-whole c = refl
