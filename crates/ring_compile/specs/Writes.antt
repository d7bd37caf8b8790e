-- One WRITE of a line, as the code makes it.
use Rattle.std.specs.Prelude.{ℕ, ◌+◌, ◌-◌, ◌*◌, ◌==◌, Bool, if◌then◌else◌}
use Rattle.risc_word.specs.declared.Ctl.{Ctl}
use Rattle.risc_word.specs.declared.Instr.{Instr}
use Rattle.risc_word.specs.declared.Instr.TheVariants.{Write}
use Rattle.page_table.specs.Scattered.{ScatterList, address_at, run_at, scatter_list}
use Rattle.picture_model.specs.Programs.{no_control}
use Rattle.ring_model.specs.Rings.{Ring, bytes_of, memory_of}

-- the pages of a ring as one stretch of bytes
abbrev pub scattered : Ring → ScatterList
scattered r = scatter_list (memory_of r) (bytes_of r)

-- the control bits of a WRITE or line: those of the last, or none
abbrev pub control_at : Ctl → Bool → Ctl
control_at last is_last = if is_last then last else no_control

-- a WRITE of n bytes of a line from byte `at` on
abbrev pub write_at : Ring → ℕ → Ctl → ℕ → ℕ → Instr
write_at r number last at n =
    Write (control_at last (at + n == r.line_bytes)) (record { sol = at == 0; eol = at + n == r.line_bytes }) 0 n
    (address_at (memory_of r) (number * r.line_bytes + at))

-- the bytes from a byte of a line to the end of its page or line
abbrev pub run_length : Ring → ℕ → ℕ → ℕ
run_length r number at =
    (run_at (scattered r) (number * r.line_bytes + at) (r.line_bytes - at)).1
