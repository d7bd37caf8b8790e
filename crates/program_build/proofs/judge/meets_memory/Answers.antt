use Rattle.std.proofs.Common.{◌∙◌, ℕ, List, Option, map, sym, ap}
use Rattle.std.specs.List.{list_any}
use Rattle.page_table.specs.Taken.{listed, page_at, pair_chunk}
use Rattle.picture_model.specs.Described.{memory_from}
use Rattle.page_table.specs.Grants.{is_met}
use Rattle.page_table.proofs.Listed.{any_map}
use Rattle.program_build.proofs.judge.meets_memory.Goals as goal

pub returns-in-None : goal.returns-in-None
returns-in-None c =
    let met = is_met c.args.base c.args.end in
    c.any_page_met.ensures
    ∙ sym (any_map met page_at c.as_slice.result.now)
    ∙ ap (λ (pages : List ℕ). list_any met (map page_at pages)) c.as_slice.ensures
    ∙ ap (λ (chunks : Option (List (ℕ × ℕ))). list_any met (memory_from chunks c.args.desc.now.pages)) (sym c.in-None.is)

pub returns-in-Some : goal.returns-in-Some
returns-in-Some c =
    let met = is_met c.args.base c.args.end in
    c.any_met.ensures
    ∙ sym (any_map met pair_chunk c.as_slice-in-Some.result.now)
    ∙ ap (λ (pairs : List (ℕ × ℕ)). list_any met (listed pairs)) c.as_slice-in-Some.ensures
    ∙ ap (λ (chunks : Option (List (ℕ × ℕ))). list_any met (memory_from chunks c.args.desc.now.pages)) (sym c.in-Some.is)
