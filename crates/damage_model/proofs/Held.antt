-- A program that holds the sections of a description's fields, wherever they begin in it.
use Rattle.std.proofs.Common.{◌≡◌, ℕ, ◌+◌, true}
use Rattle.page_table.specs.Grants.{granted}
use Rattle.pixel_layout.specs.declared.Parity.{Parity}
use Rattle.machine_model.specs.Paths.{RiscProgram}
use Rattle.capture_desc.specs.declared.desc.Desc.{Desc}
use Rattle.picture_model.specs.Described.{describes}
use Rattle.picture_model.specs.Programs.{body, compiled, section_begin, section_next, signal}
use Rattle.picture_model.proofs.FaultlessGeometry.{IsRight}
use Rattle.field_law.specs.Sections.{HoldsFrom}
use Rattle.picture_law.proofs.Program.{section_holds}

-- where the section of each described field begins, and where its closing leads; the program may write the description's memory
pub record IsHeld (d : Desc) : Type 0 where
  pub right : IsRight d
  pub program : RiscProgram
  pub begin : Parity → ℕ
  pub next : Parity → ℕ
  pub holds : (field : Parity) → describes d.fields field ≡ true →
      HoldsFrom program (begin field + 8) (body d field) (signal field) (next field)
  pub covers : (address : ℕ) → granted (compiled d).grants address ≡ true → granted program.grants address ≡ true

-- the description's own
abbrev pub compiled_held : (d : Desc) → IsRight d → IsHeld d
compiled_held d right =
    record {
      right = right;
      program = compiled d;
      begin = section_begin d d.base;
      next = section_next d d.base d.base;
      holds = λ field is. section_holds d field right is;
      covers = λ address is. is;
    }
