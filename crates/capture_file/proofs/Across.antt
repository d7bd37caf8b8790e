-- A record that begins in one piece and goes on in the next: six bytes are kept at most.
use Rattle.std.proofs.Common.{◌≡◌, ℕ, ◌+◌, ◌<◌, ◌≤◌, List, ◌++◌, length, take, Option, None, sym, ap, ◌∙◌, arith, length-append}
use Rattle.std.proofs.lemmas.List.{take_all}
use Rattle.capture_file.specs.declared.records.Form.{Form}
use Rattle.capture_file.specs.declared.records.Found.{Found}
use Rattle.capture_file.specs.declared.records.Found.TheVariants.{Cut}
use Rattle.capture_file.specs.Records.{HasFour, Spans, Passes, Sums, FoundFits}
use Rattle.capture_file.specs.Streams.{number_at, record_at, most_turns}
use Rattle.capture_file.proofs.Fields.{number_at-six, number_at-four, record_at-six, record_at-spans, record_at-passes, record_at-sums}
use Rattle.capture_file.proofs.Fields.{record_at-fits}

module _ (form : Form) (turns : ℕ) (held more new : List ℕ) (found : Found) (filled : new ≡ take 6 (held ++ more))
    (is : found ≡ record_at form turns new) where
  pub found_across : found ≡ record_at form turns (held ++ more)
  found_across = is ∙ ap (record_at form turns) filled ∙ record_at-six form turns (held ++ more)

  pub kept_across : found ≡ Cut → new ≡ held ++ more
  kept_across cut =
      let spans = record_at-spans form turns (held ++ more) in
      let short : length (held ++ more) < 6 = rw (sym found_across ∙ cut) at spans in
      filled ∙ take_all 6 (held ++ more) (omega arith)

  pub spans_across : Spans found (length held + length more)
  spans_across = rw (found_across, sym (length-append held more)) (record_at-spans form turns (held ++ more))

  pub passes_across : record_at form turns held ≡ Cut → Passes found (length held)
  passes_across cut = rw found_across (record_at-passes form turns held more cut)

  pub sums_across : turns ≤ most_turns → Sums found turns
  sums_across few = rw found_across (record_at-sums form turns (held ++ more) few)

  pub fits_across : FoundFits found
  fits_across = rw found_across (record_at-fits form turns (held ++ more))

module _ (held more new : List ℕ) (found : Option ℕ) (filled : new ≡ take 6 (held ++ more)) (is : found ≡ number_at new) where
  pub number_across : found ≡ number_at (held ++ more)
  number_across = is ∙ ap number_at filled ∙ number_at-six (held ++ more)

  pub number_spans : HasFour found (length held + length more)
  number_spans = rw (number_across, sym (length-append held more)) (number_at-four (held ++ more))

  pub number_kept : found ≡ None → new ≡ held ++ more
  number_kept none =
      let four = number_at-four (held ++ more) in
      let short : length (held ++ more) < 4 = rw (sym number_across ∙ none) at four in
      filled ∙ take_all 6 (held ++ more) (omega arith)
