use Rattle.std.proofs.Common.{rules, arith, sym, ◌∙◌, ap}
use Rattle.std.proofs.lemmas.List.Sorted.{IsNonDecreasingBy-from_sort_by_key, All-permutation, list_any-IsPermutation}
use Rattle.std.specs.List.{All}
use Rattle.clip_spans.specs.Parts.{IsPart, inside, is_inside}
use Rattle.clip_spans.specs.declared.Part.{Part}
use Rattle.clip_spans.proofs.Covered.{parts_say, parts_sized}
use Rattle.clip_spans.proofs.Sorting.{sorted_in_order}
use Rattle.clip_spans.proofs.sorted_parts.Goals as goal

pub returns-clause-order : goal.returns-clause-order
returns-clause-order c =
    let sized : All (IsPart c.args.width) c.in_ok-parts.parts.items =
    rw c.in_ok-parts.ensures (parts_sized c.args.rects.now c.args.row c.args.width c.args.unit c.requires.unit.0 c.requires.unit.1)
    in
    sorted_in_order c.args.width 0 _
    (IsNonDecreasingBy-from_sort_by_key (λ (p : Part). p.from) _ c.sort_unstable_by_key.ensures.sorted (λ a r q k. search rules))
    (All-permutation (IsPart c.args.width) _ _ c.sort_unstable_by_key.ensures.permutation sized)
    (λ k d within. omega arith)

pub returns-clause-parts : goal.returns-clause-parts
returns-clause-parts c = λ x below.
    sym (list_any-IsPermutation (inside x) _ _ c.sort_unstable_by_key.ensures.permutation)
    ∙ ap (λ parts. is_inside parts x) c.in_ok-parts.ensures
    ∙ parts_say c.args.rects.now c.args.row c.args.width c.args.unit x c.requires.unit.0 c.requires.unit.1 below
