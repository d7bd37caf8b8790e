use Rattle.std.proofs.Common.{◌∙◌, ◌++◌, List, ℕ, refl, ap, arith}
use Rattle.risc_listing.specs.Listings.{base_line}
use Rattle.risc_text.specs.Drafts.{Draft}
use Rattle.risc_asm.proofs.Telling.{begins}
use Rattle.risc_asm.proofs.text.begin_at.Goals as goal

pub returns-clause-holds : goal.returns-clause-holds
returns-clause-holds c =
    let cut = c.in_ok-rest.ensures.cases in
    let base = c.args.base in
    let piece_is =
    c.as_bytes.ensures.value ∙ c.as_str.ensures.value ∙ c.push_base.ensures
    ∙ ap (λ (list : List ℕ). list ++ base_line base) c.new-line.ensures in
    (begins base _ c.new.result.words.items c.args.text.now c.in_ok-rest.rest.now c.as_bytes.result.now (omega arith)
    (ap (λ (d : Draft). d.words) c.new.ensures) piece_is cut.0 cut.1 refl).settled

pub returns-clause-front : goal.returns-clause-front
returns-clause-front c =
    let cut = c.in_ok-rest.ensures.cases in
    let base = c.args.base in
    let piece_is =
    c.as_bytes.ensures.value ∙ c.as_str.ensures.value ∙ c.push_base.ensures
    ∙ ap (λ (list : List ℕ). list ++ base_line base) c.new-line.ensures in
    (begins base _ c.new.result.words.items c.args.text.now c.in_ok-rest.rest.now c.as_bytes.result.now (omega arith)
    (ap (λ (d : Draft). d.words) c.new.ensures) piece_is cut.0 cut.1 refl).front_is
