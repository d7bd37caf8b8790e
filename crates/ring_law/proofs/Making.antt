-- Memory under way: the stores that are still to be made, in their order, give the memory of the end.
use Rattle.std.proofs.Common.{List, [], ap, refl, sym, ◌++◌, ◌∙◌, ◌∷◌, ◌≡◌}
use Rattle.page_table.specs.Blocks.{Block}
use Rattle.field_law.proofs.Within.{IsMade}
use Rattle.fifo_model.specs.declared.Queue.TheVariants.{One, Three, Two}
use Rattle.fifo_model.specs.declared.Queue.{Queue}
use Rattle.machine_model.specs.Turns.{Store, stored_all}
use Rattle.machine_model.proofs.Stored.{stored_all-append}

-- the first queue stores alone
pub record Makes (final memory : List Block) (stores : Queue → List Store) : Type 0 where
  pub one : stored_all memory (stores One) ≡ final
  pub two : stores Two ≡ []
  pub three : stores Three ≡ []

front_none : (xs ys : List Store) → [] ≡ xs ++ ys → (xs ≡ []) × (ys ≡ [])
front_none [] ys e = (refl, sym e)
front_none (x ∷ xs) ys e = cc

pub makes_made : (final : List Block) → IsMade (Makes final)
makes_made final memory stores One made rest split h =
    record { one = sym (stored_all-append memory made rest) ∙ ap (stored_all memory) (sym split) ∙ h.one; two = h.two; three = h.three }
makes_made final memory stores Two made rest split h =
    let none = front_none made rest (sym h.two ∙ split) in
    record {
      one = ap (λ (made : List Store). stored_all (stored_all memory made) (stores One)) none.0 ∙ h.one;
      two = none.1;
      three = h.three;
    }
makes_made final memory stores Three made rest split h =
    let none = front_none made rest (sym h.three ∙ split) in
    record {
      one = ap (λ (made : List Store). stored_all (stored_all memory made) (stores One)) none.0 ∙ h.one;
      two = h.two;
      three = none.1;
    }
