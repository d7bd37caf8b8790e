-- What a reader finds of all bytes is so of the stream.
use Rattle.std.proofs.Common.{◌≡◌, ℕ, ◌≤◌, false, ◌+◌, ◌-◌, List, [], ◌∷◌, ◌++◌, length, take, drop, Result, Err, refl, sym, ap, subst, ◌∙◌}
use Rattle.std.proofs.Common.{arith, append_assoc}
use Rattle.std.specs.Prelude.{MatchResult}
use Rattle.std.proofs.lemmas.List.{append-nil, drop-drop, take_rest}
use Rattle.capture_file.specs.declared.FileFault.{FileFault}
use Rattle.capture_file.specs.declared.Step.{Step}
use Rattle.capture_file.specs.declared.reader.Got.{Got}
use Rattle.capture_file.specs.declared.reader.Got.TheVariants as got
use Rattle.capture_file.specs.Streams.{Bad, Reading, reading, steps_of, stream_of, whole_file}
use Rattle.capture_file.specs.Readers.{Closed, Failed, Opening, Phase, PlacedAt, Reader, Records, Uses, after_answer, behind, closed_by}
use Rattle.capture_file.specs.Readers.{ending_in, resumed}
use Rattle.kept_stream.specs.Kept.{HoldsKept, longest_kept}

-- what an answer means for the bytes behind the first ones
pub front_used : (reader after : Reader) (found : Got) (at used : ℕ) (stream bytes : List ℕ) → bytes ≡ stream →
    ((more : List ℕ) → resumed reader (take (length bytes - at) (drop at bytes) ++ more)
    ≡ after_answer found (resumed after (drop used (take (length bytes - at) (drop at bytes)) ++ more))) →
    resumed reader (drop at stream) ≡ after_answer found (resumed after (drop (at + used) stream))
front_used reader after found at used stream bytes is whole =
    let piece : List ℕ = take (length bytes - at) (drop at bytes) in
    let all : piece ≡ drop at bytes = take_rest bytes at in
    let rest : drop used piece ++ [] ≡ drop (at + used) bytes =
    append-nil (drop used piece) ∙ ap (drop used) all ∙ drop-drop used at bytes in
    ap (λ (x : List ℕ). resumed reader (drop at x)) (sym is)
    ∙ ap (resumed reader) (sym (append-nil piece ∙ all))
    ∙ whole []
    ∙ ap (λ (x : List ℕ). after_answer found (resumed after x)) (rest ∙ ap (drop (at + used)) is)

pub uses_within : (found : Got) (used count : ℕ) → Uses found used count → used ≤ count
uses_within (got.Step s) used count h = h.1
uses_within got.End used count h = h.1
uses_within got.More used count h = omega (arith, h)
uses_within (got.Bad fault) used count h = h

module _ (bytes : List ℕ) where
  abbrev whole : Reading
  whole = stream_of longest_kept false bytes

  abbrev pub IsAnswer : Result (Unit {0}) FileFault → Type 0
  IsAnswer r = MatchResult r (λ _. HoldsKept bytes) (λ fault. steps_of longest_kept false bytes ≡ Err fault)

  -- a fault that was met
  pub met_fault : (fault : FileFault) (steps : List Step) (rest : Reading) → whole ≡ behind steps rest → rest ≡ reading [] (Bad fault) →
      steps_of longest_kept false bytes ≡ Err fault
  met_fault fault steps rest is ends =
      ap (λ (r : Reading). whole_file (length bytes) r.steps r.ending) (is ∙ ap (behind steps) ends)

  -- an answer that isn't a fault
  pub answered : (found : Got) (steps : List Step) (rest left : Reading) → whole ≡ behind steps rest → rest ≡ after_answer found left →
      ((fault : FileFault) → found ≡ got.Bad fault → ⊥) →
      (later : List Step) × (whole ≡ behind later left)
  answered (got.Step s) steps rest left is answers good = (
    steps ++ s ∷ [],
    is ∙ ap (behind steps) answers ∙ ap (λ list. reading list left.ending) (sym (append_assoc steps (s ∷ []) left.steps)),
  )
  answered got.End steps rest left is answers good = (steps, is ∙ ap (behind steps) answers)
  answered got.More steps rest left is answers good = (steps, is ∙ ap (behind steps) answers)
  answered (got.Bad fault) steps rest left is answers good = absurd (good fault refl)

  -- all bytes were used
  ended : (phase : Phase) (place : ℕ) (steps : List Step) → whole ≡ behind steps (reading [] (ending_in phase)) →
      PlacedAt phase place (length bytes) → IsAnswer (closed_by place (ending_in phase))
  ended Opening place steps is placed =
      ap (λ (r : Reading). whole_file (length bytes) r.steps r.ending) is
      ∙ ap (λ n. whole_file n (steps ++ []) (ending_in Opening)) (sym placed)
  ended (Records form) place steps is placed =
      ap (λ (r : Reading). whole_file (length bytes) r.steps r.ending) is
      ∙ ap (λ n. whole_file n (steps ++ []) (ending_in Opening)) (sym placed)
  ended Closed place steps is placed = (steps ++ [], ap (λ (r : Reading). whole_file (length bytes) r.steps r.ending) is)
  ended (Failed fault) place steps is placed = ap (λ (r : Reading). whole_file (length bytes) r.steps r.ending) is

  pub all_used : (reader : Reader) (steps : List Step) (rest : List ℕ) (r : Result (Unit {0}) FileFault) → rest ≡ [] →
      whole ≡ behind steps (resumed reader rest) → PlacedAt reader.phase reader.place (length bytes) →
      resumed reader [] ≡ reading [] (ending_in reader.phase) → r ≡ closed_by reader.place (ending_in reader.phase) → IsAnswer r
  all_used reader steps rest r none is placed ends answer =
      subst IsAnswer (sym answer)
      (ended reader.phase reader.place steps (is ∙ ap (λ x. behind steps (resumed reader x)) none ∙ ap (behind steps) ends) placed)
