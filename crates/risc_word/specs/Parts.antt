-- The parts of an instruction that most instructions have.
use Rattle.std.specs.Prelude.{ℕ, false}
use Rattle.risc_word.specs.declared.Ctl.{Ctl}
use Rattle.risc_word.specs.declared.Ends.{Ends}
use Rattle.risc_word.specs.declared.Instr.{Instr}
use Rattle.risc_word.specs.declared.Instr.TheVariants.{Write, Skip, WriteC, Jump, Sync, Write123, Skip123, Write1S23}

-- the control bits
abbrev pub instr_ctl : Instr → Ctl
instr_ctl (Write ctl ends off count addr) = ctl
instr_ctl (Skip ctl ends count) = ctl
instr_ctl (WriteC ctl ends off count) = ctl
instr_ctl (Jump ctl target) = ctl
instr_ctl (Sync ctl resync code) = ctl
instr_ctl (Write123 ctl ends off counts addrs) = ctl
instr_ctl (Skip123 ctl ends counts) = ctl
instr_ctl (Write1S23 ctl ends off counts addr) = ctl

-- the marks of an instruction that is in no line
abbrev pub no_ends : Ends
no_ends = record { sol = false; eol = false }

-- where it is in its line
abbrev pub instr_ends : Instr → Ends
instr_ends (Write ctl ends off count addr) = ends
instr_ends (Skip ctl ends count) = ends
instr_ends (WriteC ctl ends off count) = ends
instr_ends (Jump ctl target) = no_ends
instr_ends (Sync ctl resync code) = no_ends
instr_ends (Write123 ctl ends off counts addrs) = ends
instr_ends (Skip123 ctl ends counts) = ends
instr_ends (Write1S23 ctl ends off counts addr) = ends

-- the lanes that are off, a bit for each
abbrev pub instr_off : Instr → ℕ
instr_off (Write ctl ends off count addr) = off
instr_off (Skip ctl ends count) = 0
instr_off (WriteC ctl ends off count) = off
instr_off (Jump ctl target) = 0
instr_off (Sync ctl resync code) = 0
instr_off (Write123 ctl ends off counts addrs) = off
instr_off (Skip123 ctl ends counts) = 0
instr_off (Write1S23 ctl ends off counts addr) = off
