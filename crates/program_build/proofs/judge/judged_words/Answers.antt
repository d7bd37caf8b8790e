use Rattle.std.proofs.Common.{◌∙◌, ℕ, Some, None, length, ap, arith}
use Rattle.std.proofs.lemmas.Result.{err_from_is_err_and}
use Rattle.capture_desc.specs.declared.desc.Desc.{Desc}
use Rattle.picture_model.specs.Programs.{sections_words}
use Rattle.program_build.proofs.Checking.{on_page}
use Rattle.program_build.proofs.judge.judged_words.Goals as goal

pub returns-in_err-program_on_page-clause-answer : goal.returns-in_err-program_on_page-clause-answer
returns-in_err-program_on_page-clause-answer c =
    let p = err_from_is_err_and c.from_residual-in_err-program_on_page.result c.from_residual-in_err-program_on_page.ensures.1 in
    let d = c.args.frame.now in
    let same = c.desc-desc.ensures.value in
    let base = ap (λ (e : Desc). e.base) same in
    let long = c.in_ok-words.ensures.words.long ∙ ap (λ (n : ℕ). length (sections_words d n n)) base in
    let count = c.len.ensures in
    let from = c.from.ensures in
    rw (p.1, p.2) (on_page d c.desc-desc.result.now _ (Some c.in_err-program_on_page.field-0.0) same
    (omega arith) c.in_ok-program_base.ensures c.in_err-program_on_page.ensures)

pub returns-clause-answer : goal.returns-clause-answer
returns-clause-answer c =
    let d = c.args.frame.now in
    let same = c.desc-desc.ensures.value in
    let base = ap (λ (e : Desc). e.base) same in
    let long = c.in_ok-words.ensures.words.long ∙ ap (λ (n : ℕ). length (sections_words d n n)) base in
    let count = c.len.ensures in
    let from = c.from.ensures in
    on_page d c.desc-desc.result.now _ None same (omega arith) c.in_ok-program_base.ensures c.in_ok-program_on_page.ensures
