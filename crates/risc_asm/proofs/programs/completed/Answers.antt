use Rattle.std.proofs.Common.{◌∙◌, Some, ap, arith, length, sym}
use Rattle.machine_model.specs.Paths.{RiscProgram}
use Rattle.risc_listing.proofs.Spans.{no_span}
use Rattle.risc_text.specs.Assembly.{with_entry}
use Rattle.risc_asm.proofs.Filling.{entry_many, filled_length}
use Rattle.risc_asm.proofs.programs.completed.Goals as goal

pub at-requires : goal.at-requires
at-requires c =
    let same = ap length c.in_ok-spans.ensures in
    let long = filled_length c.args.spans in
    let some = c.requires in
    omega arith

pub returns : goal.returns
returns c = λ low.
    let same = c.in_ok-spans.ensures in
    let sizes = ap length same in
    let long = filled_length c.args.spans in
    let some = c.requires in
    let len = c.len.ensures in
    let many = entry_many c.in_ok-spans.spans no_span (omega arith) in
    let program = sym many ∙ ap with_entry same in
    let at = c.at.ensures no_span in
    ap (λ at. Some (at, c.in_ok-spans.spans)) at ∙ ap (λ (p : RiscProgram). Some (p.base, p.spans)) program
