use Rattle.std.proofs.Common.{◌∙◌, ap}
use Rattle.capture_file.specs.Streams.{record_at}
use Rattle.capture_file.proofs.Across.{found_across, kept_across, spans_across, passes_across, sums_across, fits_across}
use Rattle.capture_file.proofs.reader.find_across.Goals as goal

pub returns-clause-found : goal.returns-clause-found
returns-clause-found c =
    found_across c.args.form c.args.turns c.args.held.now c.args.more.now c.fill.new.self c.find.result c.fill.ensures
    (c.find.ensures ∙ ap (record_at c.args.form c.args.turns) c.as_slice.ensures)

pub returns-clause-kept : goal.returns-clause-kept
returns-clause-kept c =
    kept_across c.args.form c.args.turns c.args.held.now c.args.more.now c.fill.new.self c.find.result c.fill.ensures
    (c.find.ensures ∙ ap (record_at c.args.form c.args.turns) c.as_slice.ensures)

pub returns-clause-spans : goal.returns-clause-spans
returns-clause-spans c =
    spans_across c.args.form c.args.turns c.args.held.now c.args.more.now c.fill.new.self c.find.result c.fill.ensures
    (c.find.ensures ∙ ap (record_at c.args.form c.args.turns) c.as_slice.ensures)

pub returns-clause-passes : goal.returns-clause-passes
returns-clause-passes c =
    passes_across c.args.form c.args.turns c.args.held.now c.args.more.now c.fill.new.self c.find.result c.fill.ensures
    (c.find.ensures ∙ ap (record_at c.args.form c.args.turns) c.as_slice.ensures) c.requires.cut

pub returns-clause-sums : goal.returns-clause-sums
returns-clause-sums c =
    sums_across c.args.form c.args.turns c.args.held.now c.args.more.now c.fill.new.self c.find.result c.fill.ensures
    (c.find.ensures ∙ ap (record_at c.args.form c.args.turns) c.as_slice.ensures) c.requires.few

pub returns-clause-fits : goal.returns-clause-fits
returns-clause-fits c =
    fits_across c.args.form c.args.turns c.args.held.now c.args.more.now c.fill.new.self c.find.result c.fill.ensures
    (c.find.ensures ∙ ap (record_at c.args.form c.args.turns) c.as_slice.ensures)
