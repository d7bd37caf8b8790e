-- A field of one line, worked: it arrives behind an entry of an earlier one.
use Rattle.std.specs.Prelude.{ℕ, true, false, List, [], ◌∷◌}
use Rattle.risc_word.specs.declared.Code.TheVariants.{Vre, Fm1}
use Rattle.risc_word.specs.declared.Ctl.{Ctl}
use Rattle.risc_word.specs.declared.Instr.TheVariants.{Write, Sync}
use Rattle.fifo_model.specs.declared.Entry.{Entry}
use Rattle.fifo_model.specs.declared.Queue.{Queue}
use Rattle.fifo_model.specs.declared.Queue.TheVariants.{One, Two, Three}
use Rattle.page_table.specs.Grants.{chunk}
use Rattle.page_table.specs.Blocks.{byte_at}
use Rattle.machine_model.specs.Paths.{RiscProgram, one_span}
use Rattle.machine_model.specs.States.{State, first_state}
use Rattle.machine_model.specs.Turns.{stored_all}
use Rattle.machine_model.specs.Steps.{Step, Push, Control, Turn, run}
use Rattle.field_law.specs.Fields.{Token, Mark, Row}
use Rattle.field_law.specs.Sections.{Section, section_stores}
use Rattle.field_law.specs.Arrivals.{Met, meeting}

-- SYNC VRE with RESYNC, SYNC FM1, a WRITE of 8 bytes and a JUMP to the base
abbrev pub program : RiscProgram
program =
    one_span 0x1000
    (0x80008004 ∷ 0 ∷ 0x80000006 ∷ 0 ∷ 0x1c000008 ∷ 0x20000 ∷ 0x71e10000 ∷ 0x1000 ∷ [])
    (chunk 0x20000 16 ∷ [])

abbrev pub no_bits : Ctl
no_bits = record { irq = false; set = 0; reset = 0 }

abbrev pub section : Section
section =
    record {
      opening = no_bits;
      code = Vre;
      at = 0x1008;
      body = Sync no_bits false Fm1 ∷ Write no_bits (record { sol = true; eol = true }) 0 8 0x20000 ∷ [];
      closing = record { irq = true; set = 1; reset = 14 };
      target = 0x1000;
    }

abbrev pub line : List ℕ
line = 0x10 ∷ 0x11 ∷ 0x12 ∷ 0x13 ∷ 0x14 ∷ 0x15 ∷ 0x16 ∷ 0x17 ∷ []

abbrev pub field : Queue → List Token
field One = Mark Fm1 ∷ Row line ∷ []
field Two = Mark Fm1 ∷ []
field Three = Mark Fm1 ∷ []

abbrev pub entry : ℕ → ℕ → Entry
entry status dword = record { status = status; dword = dword }

-- after these steps a machine waits in the opening, and its first queue holds pixels of an earlier field
abbrev pub begun : List Step
begun = Push One (entry 0 0xffffffff) ∷ Turn ∷ []

abbrev pub machine : State
machine = run (first_state program 0) begun

-- the field is pushed between turns; the turn after these is the signal
abbrev pub moves : List Step
moves =
    Turn ∷ Control Vre ∷ Turn ∷ Control Fm1 ∷ Push One (entry 2 0x13121110) ∷ Turn ∷ Turn ∷ Turn ∷ Turn ∷ Push One (entry 1 0x17161514)
    ∷ Turn ∷ Turn ∷ []

abbrev pub early : List Met
early = meeting program moves

-- the byte at each address in the end
abbrev pub final : ℕ → ℕ
final address = byte_at (stored_all machine.memory (section_stores section field One)) address
