-- Fields of an instruction that are read together.
use Rattle.std.specs.Prelude.{ℕ, List, Some, codes}
use Rattle.risc_word.specs.declared.Ctl.{Ctl}
use Rattle.risc_text.specs.Readers.{Read, control, nibble, ◌>>=◌}

-- the control bits, and the lanes that are left out
abbrev pub control_and_off : List ℕ → Read (Ctl × ℕ)
control_and_off text = do
  ctl ← control text
  off ← nibble (codes " off=") ctl.1
  Some ((ctl.0, off.0), off.1)
