-- A description that is checked against a program: whether the program shows each field that it describes.
use Rattle.std.specs.Prelude.{◌≡◌, ℕ, ⊤, Bool, true, false, List, Option, Ok}
use Rattle.capture_desk.specs.Desks.{Inputs}
use Rattle.capture_desc.specs.declared.desc.Desc.{Desc}
use Rattle.check_model.specs.Texts.{check_text}
use Rattle.check_model.specs.Verdicts.{shows}
use Rattle.machine_model.specs.Paths.{RiscProgram}
use Rattle.picture_model.specs.Geometry.{frame_fault}
use Rattle.command_texts.specs.declared.refusal.Refusal.{Refusal}
use Rattle.command_texts.specs.declared.refusal.Refusal.TheVariants.{Differs, NoMemory}
use Rattle.command_steps.specs.Inputs.{Always, ByBytes, Input, Judge, OfInput}
use Rattle.command_inputs.specs.Chains.{frame_of}
use Rattle.command_inputs.specs.Descriptions.{IsBadDescBy, longest_description}
use Rattle.command_inputs.specs.Programs.{GivesSound}

-- ---- what is found

-- of a program and a description: whether each described field is shown, and what is printed of them
pub record Finds (program : RiscProgram) (d : Desc) (all_shown : Bool) (text : List ℕ) : Type 0 where
  pub shown : shows program d ≡ all_shown
  pub says : text ≡ check_text program d

-- why a description is refused; running out of memory is free
abbrev pub IsRefusedBy : RiscProgram → Desc → Refusal → Type 0
IsRefusedBy program d (Differs text) = Finds program d false text
IsRefusedBy program d NoMemory = ⊤
IsRefusedBy program d _ = ⊥

-- the same of the description of a file
pub record FindsIn (program : RiscProgram) (bytes : List ℕ) (all_shown : Bool) (text : List ℕ) : Type 0 where
  pub description : Desc
  pub reads : frame_of bytes ≡ Ok description
  pub finds : Finds program description all_shown text

-- ---- as an input, where the program is known

-- a file is that of a description each field of which is shown
abbrev pub HoldsShown : RiscProgram → List ℕ → Type 0
HoldsShown program bytes = (d : Desc) × (frame_of bytes ≡ Ok d) × (shows program d ≡ true)

-- or not each, or it is no description
abbrev pub IsBadFor : RiscProgram → List ℕ → Refusal → Option Inputs → Type 0
IsBadFor program name (Differs text) told = OfInput name told (λ bytes. FindsIn program bytes false text)
IsBadFor program name refusal told = IsBadDescBy frame_fault name refusal told

abbrev pub shown_with : RiscProgram → Judge
shown_with program =
    record { most = longest_description; kept = true; MayGoOn = Always; IsGood = ByBytes (HoldsShown program); IsBad = IsBadFor program }

abbrev pub a_shown_with : RiscProgram → List ℕ → Input
a_shown_with program name = record { name = name; judge = shown_with program }

-- ---- as an input, where the program is that of a file, and sound

-- what is found of the program of a file and of the description of another
pub record FindsBy (program_bytes bytes : List ℕ) (all_shown : Bool) (text : List ℕ) : Type 0 where
  pub program : RiscProgram
  pub fill : ℕ
  pub accepts : GivesSound program_bytes program fill
  pub finds : FindsIn program bytes all_shown text

-- each field that is described is shown
pub record AreShown (program_bytes bytes : List ℕ) : Type 0 where
  pub program : RiscProgram
  pub fill : ℕ
  pub accepts : GivesSound program_bytes program fill
  pub shown : HoldsShown program bytes

abbrev pub HoldsShownBy : List ℕ → Option Inputs → List ℕ → Type 0
HoldsShownBy program_name told bytes = OfInput program_name told (λ program_bytes. AreShown program_bytes bytes)

abbrev pub IsBadShown : List ℕ → List ℕ → Refusal → Option Inputs → Type 0
IsBadShown program_name name (Differs text) told =
    OfInput name told (λ bytes. OfInput program_name told (λ program_bytes. FindsBy program_bytes bytes false text))
IsBadShown program_name name refusal told = IsBadDescBy frame_fault name refusal told

abbrev pub shown_files : List ℕ → Judge
shown_files program_name =
    record {
      most = longest_description;
      kept = true;
      MayGoOn = Always;
      IsGood = HoldsShownBy program_name;
      IsBad = IsBadShown program_name;
    }

abbrev pub a_shown_description : List ℕ → List ℕ → Input
a_shown_description program_name name = record { name = name; judge = shown_files program_name }
