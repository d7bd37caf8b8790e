-- The description of a check, which is checked against a program.
use Rattle.std.proofs.Common.{List, ℕ, ◌∷◌, Bool, true, false, Result}
use Rattle.capture_desc.specs.declared.desc.Desc.{Desc}
use Rattle.capture_desk.specs.Desks.{Seen}
use Rattle.machine_model.specs.Paths.{RiscProgram}
use Rattle.picture_model.specs.Geometry.{frame_fault}
use Rattle.command_texts.specs.declared.refusal.Refusal.{Refusal}
use Rattle.command_texts.specs.declared.refusal.Refusal.TheVariants.{Differs, NoMemory, ReadFault}
use Rattle.command_steps.specs.Inputs.{Input, OfInput, StopsAt}
use Rattle.command_steps.specs.Reading.{Takes}
use Rattle.command_steps.proofs.Inputs.{OfInput-map}
use Rattle.command_steps.proofs.Judging.{takes_as}
use Rattle.command_inputs.specs.Chains.{IsFrameFile}
use Rattle.command_inputs.specs.Checked.{AreShown, Finds, FindsBy, FindsIn, HoldsShown, HoldsShownBy, IsBadFor, IsBadShown, IsRefusedBy}
use Rattle.command_inputs.specs.Checked.{a_shown_description, a_shown_with, shown_files, shown_with}
use Rattle.command_inputs.specs.Descriptions.{IsBadDescBy}
use Rattle.command_inputs.specs.Programs.{GivesSound}

-- ---- the description, where the program is known

module _ (program : RiscProgram) (name : List ℕ) (old new : Seen) where
  -- a file that gives no description of its own
  pub frame_stops : (refusal : Refusal) → StopsAt (IsBadDescBy frame_fault) name refusal old new →
      StopsAt (IsBadFor program) name refusal old new
  frame_stops ReadFault h = h
  frame_stops NoMemory h = tt
  frame_stops (Differs text) h = absurd h
  frame_stops refusal h = h

  module _ (d : Desc) (reads : OfInput name old.told.inputs (λ bytes. IsFrameFile bytes d)) where
    -- what is found of the description is found of the file
    pub found : (all_shown : Bool) (text : List ℕ) → Finds program d all_shown text →
        OfInput name old.told.inputs (λ bytes. FindsIn program bytes all_shown text)
    found all_shown text finds =
        OfInput-map name old.told.inputs (λ bytes. IsFrameFile bytes d) (λ bytes. FindsIn program bytes all_shown text)
        (λ bytes e. record { description = d; reads = e; finds = finds }) reads

    pub differing_stops : (refusal : Refusal) → IsRefusedBy program d refusal → StopsAt (IsBadFor program) name refusal old new
    differing_stops NoMemory h = tt
    differing_stops (Differs text) h = found false text h
    differing_stops refusal h = absurd h

    pub holds_shown : (text : List ℕ) → Finds program d true text → OfInput name old.told.inputs (HoldsShown program)
    holds_shown text finds =
        OfInput-map name old.told.inputs (λ bytes. IsFrameFile bytes d) (HoldsShown program) (λ bytes e. (d, e, finds.shown)) reads

-- ---- the program was read from a file

module _ (program_name name : List ℕ) (program : RiscProgram) (fill : ℕ) (old new : Seen)
    (reads : OfInput program_name old.told.inputs (λ bytes. GivesSound bytes program fill)) where
  holds_shown_by : (bytes : List ℕ) → HoldsShown program bytes → HoldsShownBy program_name old.told.inputs bytes
  holds_shown_by bytes shown =
      OfInput-map program_name old.told.inputs (λ program_bytes. GivesSound program_bytes program fill)
      (λ program_bytes. AreShown program_bytes bytes)
      (λ program_bytes accepts. record { program = program; fill = fill; accepts = accepts; shown = shown }) reads

  -- what is found of the description is found of both files
  pub found_by : (all_shown : Bool) (text bytes : List ℕ) → FindsIn program bytes all_shown text →
      OfInput program_name old.told.inputs (λ program_bytes. FindsBy program_bytes bytes all_shown text)
  found_by all_shown text bytes finds =
      OfInput-map program_name old.told.inputs (λ program_bytes. GivesSound program_bytes program fill)
      (λ program_bytes. FindsBy program_bytes bytes all_shown text)
      (λ program_bytes accepts. record { program = program; fill = fill; accepts = accepts; finds = finds }) reads

  shown_stops : (refusal : Refusal) → StopsAt (IsBadFor program) name refusal old new →
      StopsAt (IsBadShown program_name) name refusal old new
  shown_stops ReadFault h = h
  shown_stops NoMemory h = tt
  shown_stops (Differs text) h =
      OfInput-map name old.told.inputs (λ bytes. FindsIn program bytes false text)
      (λ bytes. OfInput program_name old.told.inputs (λ program_bytes. FindsBy program_bytes bytes false text)) (found_by false text) h
  shown_stops refusal h = h

  -- it is taken as one that is checked by both files
  pub shown_taken : {A : Type 0} (inputs : List Input) (r : Result A Refusal) → Takes (a_shown_with program name ∷ inputs) r old new →
      Takes (a_shown_description program_name name ∷ inputs) r old new
  shown_taken inputs r h =
      takes_as name (shown_with program) (shown_files program_name) inputs r old new
      (λ good. OfInput-map name old.told.inputs (HoldsShown program) (HoldsShownBy program_name old.told.inputs) holds_shown_by good)
      shown_stops h
