use Rattle.std.proofs.Common.{◌≡◌, ◌+◌, ◌*◌, ◌%◌, ◌^◌, ◌++◌, ◌∙◌, ℕ, List, length, ap, arith}
use Rattle.pixel_layout.specs.declared.Parity.TheVariants.{Top}
use Rattle.picture_model.proofs.Limit.{sections_few}
use Rattle.picture_model.proofs.FaultlessGeometry.{IsFrame-IsRight}
use Rattle.program_build.proofs.SectionWords.{both_long, both_whole, open_long, open_words}
use Rattle.program_build.proofs.sections.both_sections.Goals as goal

pub address_after-bottom-requires : goal.address_after-bottom-requires
address_after-bottom-requires c =
    let d = c.args.frame.now in
    let is = c.in_ok-push_body.ensures.description in
    let few = sections_few d c.args.at c.args.back is (IsFrame-IsRight d is c.requires.framed.geometry) in
    let whole = both_long d c.args.at c.args.back c.requires.both in
    let top = open_long d Top in
    let words : c.push_body.new.out.items ≡ open_words d Top =
    c.in_ok-push_body.ensures.words ∙ ap (λ (w : List ℕ). w ++ open_words d Top) c.new-words.ensures.items in
    let size = ap length words in
    let len = c.len.ensures in omega arith

pub returns-clause-words : goal.returns-clause-words
returns-clause-words c =
    let d = c.args.frame.now in
    let words : c.push_body.new.out.items ≡ open_words d Top =
    c.in_ok-push_body.ensures.words ∙ ap (λ (w : List ℕ). w ++ open_words d Top) c.new-words.ensures.items in
    let size = ap length words in
    let len = c.len.ensures in
    let len = c.len.ensures in
    let count : c.len.result ≡ length c.push_body.new.out.items = omega arith in
    both_whole d c.args.at c.args.back c.requires.both c.push_body.new.out.items c.push_instr.new.out.items c.push_section.new.out.items
    c.closing.result c.address_after-bottom.result
    words c.closing.ensures.value c.in_ok-push_instr.ensures.words c.in_ok-push_section.ensures.words
    (c.address_after-bottom.ensures ∙ ap (λ (n : ℕ). (c.args.at + 4 * (n + 2)) % 2 ^ 32) count)
