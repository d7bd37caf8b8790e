-- What is read to one byte beyond the longest decides what the whole stream is.
use Rattle.std.proofs.Common.{◌≡◌, ◌+◌, ◌∙◌, false, List, ℕ, take, Result, Ok, Err, ap, subst, sym, refl}
use Rattle.capture_file.specs.declared.FileFault.{FileFault}
use Rattle.capture_file.specs.declared.Step.{Step}
use Rattle.capture_file.specs.Streams.{steps_of}
use Rattle.capture_file.specs.declared.Input.TheVariants.{Stream}
use Rattle.capture_desk.specs.Desks.{Seen}
use Rattle.command_texts.specs.declared.refusal.Refusal.TheVariants.{Malformed}
use Rattle.command_steps.specs.Inputs.{OfInput, raw_files}
use Rattle.command_steps.proofs.Inputs.{OfInput-map}
use Rattle.command_steps.proofs.Judging.{judged, not_judged, raw_stops}
use Rattle.kept_stream.specs.Kept.{HoldsKept, IsBadKept, kept_streams, longest_kept}
use Rattle.kept_stream.proofs.UpToLimit.{kept_whole, read_is_whole}
use Rattle.kept_stream.proofs.keep_stream.Goals as goal

module _ (name : List ℕ) (old new : Seen) (bytes : List ℕ)
    (read : OfInput name old.told.inputs (λ content. bytes ≡ take (longest_kept + 1) content)) where
  -- what the bytes are found to be, the stream is
  whole_found : (found : Result (List Step) FileFault) → steps_of longest_kept false bytes ≡ found →
      OfInput name old.told.inputs (λ content. steps_of longest_kept false content ≡ found)
  whole_found found h =
      OfInput-map name old.told.inputs (λ content. bytes ≡ take (longest_kept + 1) content)
      (λ content. steps_of longest_kept false content ≡ found)
      (λ content e. sym (read_is_whole content) ∙ ap (steps_of longest_kept false) (sym e) ∙ h) read

  holds : HoldsKept bytes → OfInput name old.told.inputs HoldsKept
  holds (steps, h) =
      OfInput-map name old.told.inputs (λ content. steps_of longest_kept false content ≡ Ok steps) HoldsKept (λ content e. (steps, e))
      (whole_found (Ok steps) h)

pub returns-in_err-bytes-clause-takes : goal.returns-in_err-bytes-clause-takes
returns-in_err-bytes-clause-takes g c =
    let name = c.args.name.now in
    let old = g.D.Desk.seen c.args.desk.now in
    let new = g.D.Desk.seen c.read_whole.new.desk in
    let refusal = c.in_err-bytes.field-0.0 in
    not_judged name (raw_files longest_kept) kept_streams c.from_residual.result refusal old new c.from_residual.ensures.1
    (raw_stops IsBadKept longest_kept name refusal old new) c.in_err-bytes.ensures.takes

pub returns-in-Ok-clause-kept : goal.returns-in-Ok-clause-kept
returns-in-Ok-clause-kept g c =
    let bytes = c.in_ok-bytes.bytes.items in
    let kept : HoldsKept bytes = subst HoldsKept c.deref.ensures.value c.in-Ok.ensures in
    OfInput-map c.args.name.now (g.D.Desk.seen c.args.desk.now).told.inputs (λ content. bytes ≡ take (longest_kept + 1) content)
    (λ content. content ≡ bytes)
    (λ content e. kept_whole bytes content kept.0 e kept.1) c.in_ok-bytes.ensures.bytes

pub returns-in-Ok-clause-takes : goal.returns-in-Ok-clause-takes
returns-in-Ok-clause-takes g c =
    let name = c.args.name.now in
    let old = g.D.Desk.seen c.args.desk.now in
    let new = g.D.Desk.seen c.read_whole.new.desk in
    let bytes = c.in_ok-bytes.bytes.items in
    judged name (raw_files longest_kept) kept_streams {A = ℕ} refl (Ok 0) old new
    (holds name old new bytes c.in_ok-bytes.ensures.bytes (subst HoldsKept c.deref.ensures.value c.in-Ok.ensures)) tt
    c.in_ok-bytes.ensures.takes

pub returns-in-Err-clause-takes : goal.returns-in-Err-clause-takes
returns-in-Err-clause-takes g c =
    let name = c.args.name.now in
    let old = g.D.Desk.seen c.args.desk.now in
    let new = g.D.Desk.seen c.read_whole.new.desk in
    let bytes = c.in_ok-bytes.bytes.items in
    judged name (raw_files longest_kept) kept_streams {A = ℕ} refl (Err (Malformed Stream c.in-Err.fault)) old new tt
    (whole_found name old new bytes c.in_ok-bytes.ensures.bytes (Err c.in-Err.fault)
    (subst (λ b. steps_of longest_kept false b ≡ Err c.in-Err.fault) c.deref.ensures.value c.in-Err.ensures)) c.in_ok-bytes.ensures.takes
