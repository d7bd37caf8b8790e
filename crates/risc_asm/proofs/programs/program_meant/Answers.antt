use Rattle.std.proofs.Common.{◌≡◌, ◌<◌, ◌∙◌, ◌^◌, ℕ, List, Option, Some, ap, length, subst, sym}
use Rattle.page_table.specs.Taken.{listed}
use Rattle.machine_model.specs.Paths.{IsProgram, RiscProgram, Span}
use Rattle.risc_text.specs.Assembly.{completed}
use Rattle.risc_asm.specs.Programs.{meant}
use Rattle.risc_asm.proofs.Filling.{completed_some, map_ok, pair_is}
use Rattle.risc_asm.proofs.programs.program_meant.Goals as goal

pub returns-in-Some-2 : goal.returns-in-Some-2
returns-in-Some-2 c =
    let grants = listed c.args.chunks.now in
    let spans = c.args.spans in
    let all = meant c.args.entry spans grants in
    map_ok
    (λ found. (program : RiscProgram) → 0 < length c.in-Some-2.spans → IsProgram program → program ≡ record {
      base = c.in-Some-2.entry;
      spans = c.in-Some-2.spans;
      grants = grants;
    } → found ≡ Some program)
    (λ found. IsProgram all → found ≡ Some all)
    c.program_of_spans-in-Some-2.result
    (λ found h made.
    let low = subst (λ (entry : Option ℕ). (meant entry spans grants).base < 2 ^ 32) c.in-None.is made.low in
    let same =
    pair_is c.in-Some-2.entry (completed spans).base c.in-Some-2.spans (completed spans).spans
    (sym c.in-Some-2.is ∙ c.in_ok-entry-in-None.ensures low) in
    let base = sym same.0 in
    let more = sym same.1 in
    h all (subst (λ (spans : List Span). 0 < length spans) more (completed_some spans c.requires)) made
    (ap (λ (entry : Option ℕ). meant entry spans grants) c.in-None.is ∙ (λ i. record { base = base i; spans = more i; grants = grants })))
    c.program_of_spans-in-Some-2.ensures
