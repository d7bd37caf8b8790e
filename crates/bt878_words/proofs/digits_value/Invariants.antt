-- the digits that are left, from the value of those before, give the number
use Rattle.std.proofs.Common.{◌≡◌, drop}
use Rattle.bt878_words.specs.Words.{number_from}
use Rattle.bt878_words.proofs.digits_value.Given as goal

abbrev pub invariant-loop-byte : goal.invariant-loop-byte
invariant-loop-byte l = number_from l.value (drop l.byte-index l.word) ≡ number_from 0 l.word
