-- Chains of readings.
use Rattle.std.proofs.Common.{◌≡◌, Result, Ok, Err, refl}
use Rattle.std.specs.Prelude.{IfErr}
use Rattle.toml_keys.specs.declared.KeyFault.{KeyFault}
use Rattle.toml_keys.specs.Values.{Reading, ◌>>=◌, told}

-- a chain that ends well went on at its first reading
pub gone_on : {A B C F : Type 0} (r : Result A F) (next : A → Result B F) (end : B) → r >>= next ≡ Ok end →
    ((value : A) → r ≡ Ok value → next value ≡ Ok end → C) → C
gone_on (Ok value) next end h then = then value refl h
gone_on (Err fault) next end h then = absurd (cc)

-- a fault of a chain is one of its readings'
pub chain : {A B F : Type 0} (P : F → Type 0) (r : Result A F) (next : A → Result B F) → IfErr r P →
    ((a : A) → r ≡ Ok a → IfErr (next a) P) → IfErr (r >>= next) P
chain P (Ok a) next has then = then a refl
chain P (Err fault) next has then = has

-- a value with its key's fault is the value that was read there
pub told-ok : {A F : Type 0} (fault_of : KeyFault → F) (r : Reading A) (value : A) → told fault_of r ≡ Ok value → r ≡ Ok value
told-ok fault_of (Ok found) value is = cc
told-ok fault_of (Err fault) value is = absurd (cc)
