-- A description file that is read and checked, and the program that it asks for.
use Rattle.std.specs.Prelude.{◌≡◌, ℕ, true, ⊤, List, length, Option, Some, None, Result, Ok, Err, if◌then◌else◌, nat_lt}
use Rattle.capture_desk.specs.Desks.{Inputs}
use Rattle.capture_desc.specs.declared.desc.Desc.{Desc}
use Rattle.capture_desc.specs.declared.fault.DescFault.{DescFault}
use Rattle.capture_desc.specs.Description.{described}
use Rattle.picture_model.specs.declared.BuildFault.{BuildFault}
use Rattle.picture_model.specs.Geometry.{first_fault}
use Rattle.picture_model.specs.Programs.{compiled}
use Rattle.planar_plan.specs.declared.judge.BuildError.{BuildError}
use Rattle.planar_plan.specs.declared.judge.BuildError.TheVariants.{Bad, Memory}
use Rattle.program_build.specs.Checks.{IsChecked}
use Rattle.machine_model.specs.Paths.{RiscProgram}
use Rattle.capture_file.specs.declared.Input.TheVariants.{Desc as DescFile}
use Rattle.command_texts.specs.declared.refusal.Refusal.{Refusal}
use Rattle.command_texts.specs.declared.refusal.Refusal.TheVariants.{Malformed, BadDesc, BadGeometry, NoMemory}
use Rattle.command_steps.specs.Inputs.{Always, ByBytes, Input, Judge, OfInput}
use Rattle.command_inputs.specs.Limits.{too_long}

-- the most bytes of a description file, which is read up to one byte beyond them at most
abbrev pub longest_description : ℕ
longest_description = 1048576

-- a description without a fault of geometry, or the first such fault
abbrev pub judged : Option BuildFault → Desc → Result Desc Refusal
judged None d = Ok d
judged (Some fault) d = Err (BadGeometry fault)

abbrev pub judged_reading : (Desc → Option BuildFault) → Result Desc DescFault → Result Desc Refusal
judged_reading fault_in (Err fault) = Err (BadDesc fault)
judged_reading fault_in (Ok d) = judged (fault_in d) d

-- the description of a file: it is short enough, its text describes a capture, and the geometry has no fault that is
-- looked for; or the first refusal
abbrev pub description_by : (Desc → Option BuildFault) → List ℕ → Result Desc Refusal
description_by fault_in bytes =
    if nat_lt longest_description (length bytes)
    then Err (Malformed DescFile (too_long longest_description))
    else judged_reading fault_in (described bytes)

-- with its program
abbrev pub description_of : List ℕ → Result Desc Refusal
description_of bytes = description_by first_fault bytes

-- why a text describes no capture; running out of memory is free
abbrev pub Misreads : Result Desc DescFault → Refusal → Type 0
Misreads found (BadDesc fault) = found ≡ Err fault
Misreads found NoMemory = ⊤
Misreads found _ = ⊥

-- why a geometry is refused
abbrev pub geometry_refusal : BuildError → Refusal
geometry_refusal (Bad fault) = BadGeometry fault
geometry_refusal Memory = NoMemory

-- a file is that of a valid description
pub record Describes (bytes : List ℕ) (d : Desc) : Type 0 where
  pub reads : description_of bytes ≡ Ok d
  pub checked : IsChecked d

abbrev pub HoldsValid : List ℕ → Type 0
HoldsValid bytes = (d : Desc) × Describes bytes d

-- why a file that isn't too long holds none; running out of memory is free
abbrev pub IsRefused : (Desc → Option BuildFault) → List ℕ → Refusal → Type 0
IsRefused fault_in bytes NoMemory = ⊤
IsRefused fault_in bytes (BadDesc fault) = description_by fault_in bytes ≡ Err (BadDesc fault)
IsRefused fault_in bytes (BadGeometry fault) = description_by fault_in bytes ≡ Err (BadGeometry fault)
IsRefused fault_in bytes _ = ⊥

-- an input isn't that of such a description
abbrev pub IsBadDescBy : (Desc → Option BuildFault) → List ℕ → Refusal → Option Inputs → Type 0
IsBadDescBy fault_in name (Malformed DescFile fault) inputs =
    OfInput name inputs (λ bytes. description_by fault_in bytes ≡ Err (Malformed DescFile fault))
IsBadDescBy fault_in name (BadDesc fault) inputs = OfInput name inputs (λ bytes. description_by fault_in bytes ≡ Err (BadDesc fault))
IsBadDescBy fault_in name (BadGeometry fault) inputs =
    OfInput name inputs (λ bytes. description_by fault_in bytes ≡ Err (BadGeometry fault))
IsBadDescBy fault_in name _ inputs = ⊥

abbrev pub IsBadDesc : List ℕ → Refusal → Option Inputs → Type 0
IsBadDesc name refusal inputs = IsBadDescBy first_fault name refusal inputs

-- the program of a description file, and its fill
pub record GivesCompiled (bytes : List ℕ) (program : RiscProgram) (fill : ℕ) : Type 0 where
  pub description : Desc
  pub describes : Describes bytes description
  pub compiles : program ≡ compiled description
  pub fills : fill ≡ description.fill

-- a file is that of this description, with its program and its fill
pub record GivesDescribed (d : Desc) (bytes : List ℕ) (program : RiscProgram) (fill : ℕ) : Type 0 where
  pub describes : Describes bytes d
  pub compiles : program ≡ compiled d
  pub fills : fill ≡ d.fill

-- ---- as an input

abbrev pub descriptions : Judge
descriptions = record { most = longest_description; kept = true; MayGoOn = Always; IsGood = ByBytes HoldsValid; IsBad = IsBadDesc }

abbrev pub a_description : List ℕ → Input
a_description name = record { name = name; judge = descriptions }
