use Rattle.std.proofs.Common.{◌≡◌, ◌+◌, ◌-◌, sym, ◌∙◌, arith}
use Rattle.page_table.specs.Grants.{chunk}
use Rattle.page_table.proofs.Neighbour.{last_shares, none_share}
use Rattle.page_table.proofs.shares_byte.Goals as goal

pub returns-in-Some : goal.returns-in-Some
returns-in-Some c =
    let new = chunk c.args.at c.args.len in
    let ends : (c.args.at + (c.args.len - 1)) + 1 ≡ new.at + new.len = omega arith in
    let between = c.range.ensures.between tt in
    let step = c.in-Some.ensures.steps in
    let told = last_shares new (c.args.at + (c.args.len - 1)) ends 0 c.args.set.now.entries _ _ c.requires.rising (sym between ∙ step) in
    let shared = told.0 in
    cc

pub returns-in-None : goal.returns-in-None
returns-in-None c =
    let new = chunk c.args.at c.args.len in
    let ends : (c.args.at + (c.args.len - 1)) + 1 ≡ new.at + new.len = omega arith in
    let between = c.range.ensures.between tt in
    let step = c.in-None.ensures.steps in
    sym (none_share new (c.args.at + (c.args.len - 1)) ends c.args.set.now.entries (sym between ∙ step.0))
