use Rattle.std.proofs.Common.{◌∙◌, ap}
use Rattle.capture_file.specs.Streams.{number_at}
use Rattle.capture_file.proofs.Across.{number_across, number_spans, number_kept}
use Rattle.capture_file.proofs.reader.number_across.Goals as goal

pub returns-clause-found : goal.returns-clause-found
returns-clause-found c =
    number_across c.args.held.now c.args.more.now c.fill.new.self c.number.result c.fill.ensures
    (c.number.ensures ∙ ap number_at c.as_slice.ensures)

pub returns-clause-kept : goal.returns-clause-kept
returns-clause-kept c =
    number_kept c.args.held.now c.args.more.now c.fill.new.self c.number.result c.fill.ensures
    (c.number.ensures ∙ ap number_at c.as_slice.ensures)

pub returns-clause-spans : goal.returns-clause-spans
returns-clause-spans c =
    number_spans c.args.held.now c.args.more.now c.fill.new.self c.number.result c.fill.ensures
    (c.number.ensures ∙ ap number_at c.as_slice.ensures)
