-- What is reported where a chain isn't made.
use Rattle.std.specs.Prelude.{⊤}
use Rattle.slot_chain.specs.declared.making.ChainError.{ChainError}
use Rattle.slot_chain.specs.declared.making.ChainError.TheVariants as chain
use Rattle.chain_model.specs.declared.ChainFault.TheVariants as fault
use Rattle.slot_chain.specs.declared.faults.DoubleBufferError.{DoubleBufferError}
use Rattle.slot_chain.specs.declared.faults.DoubleBufferError.TheVariants.{Fault, Memory}

-- a chain of fragments is sound
abbrev pub IsOfFragments : ChainError → Type 0
IsOfFragments (chain.Bad part address number cause) = ⊥
IsOfFragments _ = ⊤

abbrev pub told : ChainError → DoubleBufferError
told chain.Base = Fault fault.Base
told chain.TooLong = Fault fault.TooLong
told chain.OnPage = Fault fault.OnPage
told (chain.Bad part address number cause) = Memory
told chain.Memory = Memory
