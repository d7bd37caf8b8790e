-- Why a description file is refused, in its reading or its check.
use Rattle.std.proofs.Common.{◌≡◌, ◌<◌, ℕ, List, Option, length, Err, sym, ap, subst, ◌∙◌, cond}
use Rattle.std.proofs.lemmas.Bool.{lt-ltb}
use Rattle.capture_desc.specs.declared.desc.Desc.{Desc}
use Rattle.capture_desc.specs.Description.{described}
use Rattle.capture_file.specs.declared.Input.TheVariants.{Desc as DescFile}
use Rattle.capture_desk.specs.Desks.{Seen}
use Rattle.picture_model.specs.declared.BuildFault.{BuildFault}
use Rattle.command_texts.specs.declared.refusal.Refusal.{Refusal}
use Rattle.command_texts.specs.declared.refusal.Refusal.TheVariants.{BadDesc, BadGeometry, Malformed, NoMemory, ReadFault}
use Rattle.command_steps.specs.Inputs.{OfInput, StopsAt}
use Rattle.command_steps.proofs.Inputs.{OfInput-map}
use Rattle.command_inputs.specs.Descriptions.{IsBadDescBy, IsRefused, description_by, judged_reading, longest_description}
use Rattle.command_inputs.specs.Limits.{IsLonger, too_long}
use Rattle.command_inputs.proofs.UpToLimit.{of_whole}

module _ (fault_in : Desc → Option BuildFault) (name : List ℕ) (old new : Seen) where
  is_too_long : (content : List ℕ) → longest_description < length content →
      description_by fault_in content ≡ Err (Malformed DescFile (too_long longest_description))
  is_too_long content more =
      ap (λ b. cond b (Err (Malformed DescFile (too_long longest_description))) (judged_reading fault_in (described content)))
      (lt-ltb longest_description (length content) more)

  pub longer_stops : (refusal : Refusal) → StopsAt (IsLonger longest_description DescFile) name refusal old new →
      StopsAt (IsBadDescBy fault_in) name refusal old new
  longer_stops ReadFault h = h
  longer_stops NoMemory h = tt
  longer_stops (Malformed file fault) (file_is, fault_is, long) =
      subst (λ f. IsBadDescBy fault_in name (Malformed f fault) old.told.inputs) (sym file_is)
      (OfInput-map name old.told.inputs (λ bytes. longest_description < length bytes)
      (λ bytes. description_by fault_in bytes ≡ Err (Malformed DescFile fault))
      (λ bytes more. is_too_long bytes more ∙ ap (λ x. Err (Malformed DescFile x)) (sym fault_is)) long)
  longer_stops refusal h = absurd h

  pub refused_stops : (bytes : List ℕ) → OfInput name old.told.inputs (λ content. bytes ≡ content) → (refusal : Refusal) →
      IsRefused fault_in bytes refusal → StopsAt (IsBadDescBy fault_in) name refusal old new
  refused_stops bytes whole NoMemory h = tt
  refused_stops bytes whole (BadDesc fault) h =
      of_whole name old.told.inputs bytes whole (λ content. description_by fault_in content ≡ Err (BadDesc fault)) h
  refused_stops bytes whole (BadGeometry fault) h =
      of_whole name old.told.inputs bytes whole (λ content. description_by fault_in content ≡ Err (BadGeometry fault)) h
  refused_stops bytes whole refusal h = absurd h
