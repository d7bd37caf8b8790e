use Rattle.std.proofs.Common.{◌∙◌, length, ap, arith}
use Rattle.picture_model.proofs.Limit.{sections_few}
use Rattle.picture_model.proofs.FaultlessGeometry.{IsFrame-IsRight}
use Rattle.slot_chain.proofs.fragments.fragment.Goals as goal

pub returns-clause-words : goal.returns-clause-words
returns-clause-words c =
    let d = c.args.frame.now in
    let is = c.in_ok-words.ensures.description in
    let few = sections_few d c.args.at c.args.back is (IsFrame-IsRight d is c.desc-desc.ensures.framed.geometry) in
    let low = c.requires.low in
    c.from_vec.ensures ∙ c.in_ok-words.ensures.words.same (omega arith)

pub returns-clause-few : goal.returns-clause-few
returns-clause-few c =
    let d = c.args.frame.now in
    let is = c.in_ok-words.ensures.description in
    let few = sections_few d c.args.at c.args.back is (IsFrame-IsRight d is c.desc-desc.ensures.framed.geometry) in
    let size = ap length c.from_vec.ensures ∙ c.in_ok-words.ensures.words.long in omega arith
