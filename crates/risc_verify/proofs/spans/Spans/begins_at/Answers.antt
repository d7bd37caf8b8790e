use Rattle.std.proofs.Common.{◌∙◌, sym}
use Rattle.risc_verify.proofs.Cuts.{only_span}
use Rattle.risc_verify.proofs.spans.Spans.begins_at.Goals as goal

pub returns-in-1 : goal.returns-in-1
returns-in-1 c = only_span c.args.entry c.args.self.now c.at.result (sym c.len.ensures ∙ c.in-1.is) c.at.ensures
