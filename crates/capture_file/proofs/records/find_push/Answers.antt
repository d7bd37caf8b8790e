use Rattle.std.proofs.Common.{◌≡◌, ◌-◌, length, take, drop, get_or, ap, sym, ◌∙◌, arith}
use Rattle.capture_file.specs.declared.Step.{Step}
use Rattle.capture_file.specs.declared.Step.TheVariants.{Push}
use Rattle.capture_file.specs.declared.records.Found.TheVariants.{Whole}
use Rattle.capture_file.specs.declared.records.RecordKind.TheVariants as kind
use Rattle.capture_file.specs.Streams.{kind_of_tag}
use Rattle.capture_file.proofs.Fields.{push_six, tagged_push}
use Rattle.capture_file.proofs.records.find_push.Goals.{in-1, in-2, in-3}
use Rattle.capture_file.proofs.records.find_push.Goals as goal

pub returns-in-Whole-Push-default-clause-some : goal.returns-in-Whole-Push-default-clause-some
returns-in-Whole-Push-default-clause-some c = λ form turns.
    let bytes = c.args.bytes.now in
    let tagged : kind_of_tag form (get_or bytes 0 0) ≡ kind.Push c.match-tag.queue =
    elim c.match-tag.branch [
      | in-1 w ↦ ap (kind_of_tag form) w.in-1.is ∙ ap kind.Push (sym w.queue-is)
      | in-2 w ↦ ap (kind_of_tag form) w.in-2.is ∙ ap kind.Push (sym w.queue-is)
      | in-3 w ↦ ap (kind_of_tag form) w.in-3.is ∙ ap kind.Push (sym w.queue-is)
    ]
    in
    let found = c.in-Whole-Push-default.ensures in
    let step = c.in-Whole-Push-default.field-0-is in
    let len = push_six c.match-tag.queue (take (length bytes - 1) (drop 1 bytes)) _ _ (sym found) in
    tagged_push form turns bytes c.match-tag.queue (omega arith) tagged
    ∙ sym found
    ∙ ap (λ (s : Step). Whole s c.in-Whole-Push-default.field-1) step
    ∙ ap (Whole (Push c.in-Whole-Push-default.queue c.in-Whole-Push-default.entry)) len
