-- Why a ring file is refused, in its reading or its check.
use Rattle.std.proofs.Common.{◌≡◌, ◌<◌, ℕ, List, length, Err, sym, ap, subst, ◌∙◌, cond}
use Rattle.std.proofs.lemmas.Bool.{lt-ltb}
use Rattle.capture_file.specs.declared.Input.TheVariants as input
use Rattle.capture_desk.specs.Desks.{Seen}
use Rattle.ring_compile.specs.Files.{described}
use Rattle.command_texts.specs.declared.refusal.Refusal.{Refusal}
use Rattle.command_texts.specs.declared.refusal.Refusal.TheVariants.{BadRing, Malformed, NoMemory, ReadFault}
use Rattle.command_steps.specs.Inputs.{OfInput, StopsAt}
use Rattle.command_steps.proofs.Inputs.{OfInput-map}
use Rattle.command_inputs.specs.Limits.{IsLonger, too_long}
use Rattle.command_inputs.specs.Rings.{IsBadRing, IsRefused, judged_reading, longest_ring, ring_of}
use Rattle.command_inputs.proofs.UpToLimit.{of_whole}

module _ (name : List ℕ) (old new : Seen) where
  is_too_long : (content : List ℕ) → longest_ring < length content → ring_of content ≡ Err (Malformed input.Ring (too_long longest_ring))
  is_too_long content more =
      ap (λ b. cond b (Err (Malformed input.Ring (too_long longest_ring))) (judged_reading (described content)))
      (lt-ltb longest_ring (length content) more)

  pub longer_stops : (refusal : Refusal) → StopsAt (IsLonger longest_ring input.Ring) name refusal old new →
      StopsAt IsBadRing name refusal old new
  longer_stops ReadFault h = h
  longer_stops NoMemory h = tt
  longer_stops (Malformed file fault) (file_is, fault_is, long) =
      subst (λ f. IsBadRing name (Malformed f fault) old.told.inputs) (sym file_is)
      (OfInput-map name old.told.inputs (λ bytes. longest_ring < length bytes) (λ bytes. ring_of bytes ≡ Err (Malformed input.Ring fault))
      (λ bytes more. is_too_long bytes more ∙ ap (λ x. Err (Malformed input.Ring x)) (sym fault_is)) long)
  longer_stops refusal h = absurd h

  pub refused_stops : (bytes : List ℕ) → OfInput name old.told.inputs (λ content. bytes ≡ content) → (refusal : Refusal) →
      IsRefused bytes refusal → StopsAt IsBadRing name refusal old new
  refused_stops bytes whole NoMemory h = tt
  refused_stops bytes whole (BadRing fault) h =
      of_whole name old.told.inputs bytes whole (λ content. ring_of content ≡ Err (BadRing fault)) h
  refused_stops bytes whole refusal h = absurd h
