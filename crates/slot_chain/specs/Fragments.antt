-- Where there is no place for a fragment.
use Rattle.std.specs.Prelude.{◌≡◌, ℕ, ◌<◌, ⊤, true}
use Rattle.capture_desc.specs.declared.desc.Desc.{Desc}
use Rattle.chain_model.specs.Chains.{chain_limit}
use Rattle.slot_chain.specs.Making.{is_too_long}
use Rattle.chain_model.specs.declared.ChainFault.TheVariants.{TooLong}
use Rattle.slot_chain.specs.declared.faults.DoubleBufferError.{DoubleBufferError}
use Rattle.slot_chain.specs.declared.faults.DoubleBufferError.TheVariants.{Fault, Memory}
use Rattle.slot_chain.specs.Pairs.{chain_of_two}

-- the address at which one was to be is beyond the end of every chain
abbrev pub IsBeyond : ℕ → DoubleBufferError → Type 0
IsBeyond at (Fault TooLong) = chain_limit < at
IsBeyond at (Fault _) = ⊥
IsBeyond at Memory = ⊤

-- so the chain of two descriptions is too long
abbrev pub IsLong : Desc → Desc → DoubleBufferError → Type 0
IsLong first second (Fault TooLong) = is_too_long (chain_of_two first second) ≡ true
IsLong first second (Fault _) = ⊥
IsLong first second Memory = ⊤
