use Rattle.std.proofs.Common.{◌∙◌, ◌++◌, ℕ, List, length, ap, arith}
use Rattle.machine_model.specs.Paths.{one_span}
use Rattle.picture_model.specs.Programs.{body, vbi_words, words_of}
use Rattle.field_check.proofs.Standing.{body_few, body_words, words_plan}
use Rattle.field_check.proofs.plan.field_plan.Goals as goal

few : goal.new-requires-clause-few
few c =
    let d = c.args.frame.now in
    let vbi = c.in_ok-compile_vbi.ensures.words ∙ ap (λ (ws : List ℕ). ws ++ vbi_words d c.args.field) c.new-words.ensures.items in
    let all =
    body_words d c.desc-desc.ensures.framed c.in_ok-compile_field.ensures.description c.args.field c.requires _ _ vbi
    c.in_ok-compile_field.ensures.words in
    let long = ap (λ (ws : List ℕ). length ws) all in
    let small = body_few d c.desc-desc.ensures.framed c.in_ok-compile_field.ensures.description c.args.field c.requires in
    omega arith

pub new-requires-clause-few : goal.new-requires-clause-few
new-requires-clause-few c = few c

pub new-requires-clause-ends : goal.new-requires-clause-ends
new-requires-clause-ends c = let small = few c in omega arith

pub returns : goal.returns
returns c =
    let d = c.args.frame.now in
    let vbi = c.in_ok-compile_vbi.ensures.words ∙ ap (λ (ws : List ℕ). ws ++ vbi_words d c.args.field) c.new-words.ensures.items in
    let all =
    body_words d c.desc-desc.ensures.framed c.in_ok-compile_field.ensures.description c.args.field c.requires _ _ vbi
    c.in_ok-compile_field.ensures.words in
    words_plan d c.desc-desc.ensures.framed c.in_ok-compile_field.ensures.description c.args.field c.requires c.new.result
    (c.new.ensures ∙ ap (λ (ws : List ℕ). one_span 0 ws c.in_ok-grants.grants) all
    ∙ ap (one_span 0 (words_of (body d c.args.field))) c.in_ok-grants.ensures)
