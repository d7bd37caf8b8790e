-- What two descriptions lack for a chain, in words. Numbers are decimal.
use Rattle.std.specs.Prelude.{ℕ, List, ◌++◌, codes}
use Rattle.std.specs.Fmt.{decimal}
use Rattle.chain_model.specs.declared.ChainFault.{ChainFault}
use Rattle.chain_model.specs.declared.ChainFault.TheVariants.{Base, Shared, TooMany, TooLong, OnPage}

-- a fault of two descriptions that make no chain
abbrev pub chain_words : ChainFault → List ℕ
chain_words Base = codes "base"
chain_words (Shared number) = codes "shared " ++ decimal number
chain_words TooMany = codes "too many"
chain_words TooLong = codes "too long"
chain_words OnPage = codes "on page"
