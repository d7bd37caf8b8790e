-- What is at the keys of a description, or the fault of a key.
use Rattle.std.specs.Prelude.{ℕ, List, Option, Result}
use Rattle.toml.specs.Data.{Members}
use Rattle.toml_keys.specs.declared.KeyFault.{KeyFault}
use Rattle.toml_keys.specs.declared.KeyFault.TheVariants as key_fault
use Rattle.toml_keys.specs.Values.{number, otherwise, required, told, u32_max, word}
use Rattle.clip_spans.specs.declared.Rect.{Rect}
use Rattle.capture_desc.specs.declared.fault.Key.{Key}
use Rattle.capture_desc.specs.declared.fault.DescFault.{DescFault}
use Rattle.capture_desc.specs.declared.fault.DescFault.TheVariants.{Missing, WrongKind, OutOfRange}
use Rattle.capture_desc.specs.Keys.{name_of}

abbrev pub Reading : Type 0 → Type 0
Reading A = Result A DescFault

abbrev pub fault_of : Key → KeyFault → DescFault
fault_of key key_fault.Missing = Missing key
fault_of key key_fault.WrongKind = WrongKind key
fault_of key key_fault.OutOfRange = OutOfRange key

-- a word of a list
abbrev pub required_word : {A : Type 0} → (List ℕ → Option A) → Key → Members → Reading A
required_word named key members = told (fault_of key) (required (word named (name_of key) members))

abbrev pub word_or : {A : Type 0} → A → (List ℕ → Option A) → Key → Members → Reading A
word_or default named key members = told (fault_of key) (otherwise default (word named (name_of key) members))

-- a number of 32 bits, or one from 0 to most
abbrev pub required_number : Key → Members → Reading ℕ
required_number key members = told (fault_of key) (required (number 0 u32_max (name_of key) members))

abbrev pub optional_number : Key → Members → Reading (Option ℕ)
optional_number key members = told (fault_of key) (number 0 u32_max (name_of key) members)

abbrev pub number_or : ℕ → ℕ → Key → Members → Reading ℕ
number_or default most key members = told (fault_of key) (otherwise default (number 0 most (name_of key) members))

-- a rectangle by its four numbers
abbrev pub rect : ℕ × ℕ × ℕ × ℕ → Rect
rect row = record { x = row.0; y = row.1; w = row.2; h = row.3 }
