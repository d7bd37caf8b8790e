use Rattle.std.proofs.Common.{◌≡◌, ◌++◌, drop}
use Rattle.bt878_words.specs.Words.{texts}
use Rattle.bt878_cases.proofs.desks.list_of.Given as goal

abbrev pub invariant-loop-name : goal.invariant-loop-name
invariant-loop-name l = l.list.items ++ texts (drop l.name-index l.names) ≡ texts l.names
