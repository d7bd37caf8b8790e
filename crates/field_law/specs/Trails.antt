-- A trail: instructions along a path, with JUMPs between them, from an opening to what ends the field. A section is one.
use Rattle.std.specs.Prelude.{◌≡◌, ℕ, ◌+◌, ◌*◌, true, List, [], ◌∷◌, length, None, Ok}
use Rattle.risc_word.specs.declared.Code.{Code}
use Rattle.risc_word.specs.declared.Ctl.{Ctl}
use Rattle.risc_word.specs.declared.Instr.{Instr}
use Rattle.risc_word.specs.declared.Instr.TheVariants.{Jump, Sync}
use Rattle.risc_word.specs.Words.{encoded}
use Rattle.irq_status.specs.Register.{applied}
use Rattle.machine_model.specs.Paths.{RiscProgram, is_word, fetch, demands_of, demands_cause}
use Rattle.field_law.specs.Sections.{Section, IsPlain, closing_at}

-- an opening SYNC, the instructions that the machine comes to after it, and the one at which the field ends
pub record Trail : Type 0 where
  -- the control bits and the code of the opening, which waits without FDSR
  pub opening : Ctl
  pub code : Code
  -- the address after the opening
  pub at : ℕ
  pub body : List Instr
  -- what ends the field, and its address
  pub closing : Instr
  pub end : ℕ

-- where the machine goes on after an instruction
abbrev pub next_at : Instr → ℕ → ℕ
next_at (Jump ctl target) at = target
next_at instr at = at + 4 * length (encoded instr)

-- an instruction of a body: a JUMP to a word, or one without WRITEC and with all lanes on that writes granted memory
abbrev pub IsOnTrail : RiscProgram → Instr → Type 0
IsOnTrail program (Jump ctl target) = is_word program target ≡ true
IsOnTrail program instr = IsPlain instr × (demands_cause program.grants (demands_of instr None) ≡ None)

-- what ends a field: a JUMP to a word, or the SYNC of the next field
abbrev pub IsClosing : RiscProgram → Instr → Type 0
IsClosing program (Jump ctl target) = is_word program target ≡ true
IsClosing program (Sync ctl resync code) = Unit {0}
IsClosing program _ = ⊥

-- a program leads along a trail: from its opening the machine comes to these instructions and then to the closing, for
-- the first time
abbrev pub LeadsFrom : RiscProgram → ℕ → ℕ → List Instr → Instr → Type 0
LeadsFrom program end at [] closing =
    (at ≡ end) × (fetch program at ≡ Ok (closing, length (encoded closing))) × IsClosing program closing
LeadsFrom program end at (instr ∷ rest) closing =
    (at ≡ end → ⊥) × (fetch program at ≡ Ok (instr, length (encoded instr))) × IsOnTrail program instr
    × LeadsFrom program end (next_at instr at) rest closing

abbrev pub Leads : Trail → RiscProgram → Type 0
Leads t program = LeadsFrom program t.end t.at t.body t.closing

-- a section is a trail of which each instruction is behind the one before it
abbrev pub trail_of : Section → Trail
trail_of s =
    record {
      opening = s.opening;
      code = s.code;
      at = s.at;
      body = s.body;
      closing = Jump s.closing s.target;
      end = closing_at s;
    }

-- INT_STAT after the closing: a JUMP applies its control bits
abbrev pub after_closing : Instr → ℕ → ℕ
after_closing (Jump ctl target) register = applied ctl register
after_closing _ register = register
