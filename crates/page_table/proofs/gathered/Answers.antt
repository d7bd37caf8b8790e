use Rattle.std.proofs.Common.{ℕ, List, Ok, ap, refl, sym, ◌∙◌}
use Rattle.page_table.specs.Taken.{listed}
use Rattle.page_table.proofs.Gathering.{rising_stays}
use Rattle.page_table.proofs.gathered.Goals as goal

pub returns-then-are_rising-clause-answer : goal.returns-then-are_rising-clause-answer
returns-then-are_rising-clause-answer c =
    rising_stays (listed c.args.chunks.now) (c.if-are_rising.ensures.0 refl)
    ∙ ap (λ (pairs : List (ℕ × ℕ)). Ok (listed pairs)) (sym c.in_ok-chunks.ensures.items)
