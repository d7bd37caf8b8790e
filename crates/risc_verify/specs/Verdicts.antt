-- What a refusal names; out of memory names nothing.
use Rattle.std.specs.Prelude.{◌≡◌, ℕ, ◌+◌, ⊤}
use Rattle.machine_model.specs.Paths.{RiscProgram, IsFirstBad}
use Rattle.risc_verify.specs.declared.walk.Why.{Why}
use Rattle.risc_verify.specs.declared.walk.Why.TheVariants.{Bad, Memory}

-- it names the first place of the path that isn't fine
abbrev pub Refuses : RiscProgram → Why → Type 0
Refuses program (Bad at nth cause) = IsFirstBad program at nth cause
Refuses program Memory = ⊤

-- each place up to the one at fault was one step
abbrev pub HasCounted : ℕ → ℕ → Why → Type 0
HasCounted before after (Bad at nth cause) = after ≡ before + (nth + 1)
HasCounted before after Memory = ⊤
