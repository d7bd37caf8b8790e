use Rattle.std.proofs.Common.{ap, sym, ◌∙◌, ℕ, List}
use Rattle.std.specs.List.{list_any}
use Rattle.page_table.specs.Grants.{is_met}
use Rattle.page_table.specs.Taken.{listed, pair_chunk}
use Rattle.page_table.proofs.Listed.{any_map}
use Rattle.page_table.proofs.PageSet.meets.Goals as goal

pub returns-clause-met : goal.returns-clause-met
returns-clause-met c =
    let met = is_met c.args.begin c.args.end in
    c.any_met.ensures ∙ sym (any_map met pair_chunk c.deref.result.now)
    ∙ ap (λ (pairs : List (ℕ × ℕ)). list_any met (listed pairs)) c.deref.ensures.value ∙ ap (list_any met) c.self.view_is
