-- What a fault shows of the document that a text is.
use Rattle.std.specs.Prelude.{◌≡◌, true, false, Option, None, IsSomeAnd, ⊤}
use Rattle.toml.specs.Data.{Members}
use Rattle.toml_keys.specs.Keys.{IsLeastUnknown, is_there}
use Rattle.capture_desc.specs.declared.fault.DescFault.{DescFault}
use Rattle.capture_desc.specs.declared.fault.DescFault.TheVariants.{NotToml, Unknown, Missing, WrongKind, OutOfRange}
use Rattle.capture_desc.specs.declared.fault.DescError.{DescError}
use Rattle.capture_desc.specs.declared.fault.DescError.TheVariants.{Bad, Memory}
use Rattle.capture_desc.specs.Keys.{is_known, name_of}

abbrev pub Shows : Option Members → DescFault → Type 0
Shows document NotToml = document ≡ None
Shows document (Unknown name) = IsSomeAnd document (IsLeastUnknown is_known name)
Shows document (Missing key) = IsSomeAnd document (λ members. is_there (name_of key) members ≡ false)
Shows document (WrongKind key) = IsSomeAnd document (λ members. is_there (name_of key) members ≡ true)
Shows document (OutOfRange key) = IsSomeAnd document (λ members. is_there (name_of key) members ≡ true)

-- out of memory shows nothing of it
abbrev pub Explains : Option Members → DescError → Type 0
Explains document (Bad fault) = Shows document fault
Explains document Memory = ⊤
