-- The number of waking entries, and whether there is one.
use Rattle.std.proofs.Common.{◌≡◌, ℕ, ◌+◌, Bool, true, false, ◌||◌, cond, nat_lt, List, [], ◌∷◌, refl, ap, ◌∙◌, arith}
use Rattle.std.specs.List.{list_any}
use Rattle.std.proofs.lemmas.Bool.Decides.{nat_tests}
use Rattle.std.proofs.lemmas.List.Sums.{sum_by-cons}
use Rattle.sync_status.specs.Statuses.{kind_of}
use Rattle.fifo_model.specs.declared.Entry.{Entry}
use Rattle.fifo_model.specs.Queues.{wakes}
use Rattle.fifo_model.specs.Rings.{waking}

some_or : (b : Bool) (n : ℕ) (any : Bool) → nat_lt 0 n ≡ any → nat_lt 0 (cond b 1 0 + n) ≡ (b || any)
some_or true n any same = grind (arith, nat_tests)
some_or false n any same = grind (arith, nat_tests)

waking-cons : (entry : Entry) (rest : List Entry) → waking (entry ∷ rest) ≡ cond (wakes (kind_of entry.status)) 1 0 + waking rest
waking-cons entry rest = sum_by-cons (λ entry. cond (wakes (kind_of entry.status)) 1 0) entry rest

-- some entry is counted exactly where some entry wakes
pub any_waking : (entries : List Entry) → nat_lt 0 (waking entries) ≡ list_any (λ entry. wakes (kind_of entry.status)) entries
any_waking [] = refl
any_waking (entry ∷ rest) =
    ap (λ n. nat_lt 0 n) (waking-cons entry rest)
    ∙ some_or (wakes (kind_of entry.status)) (waking rest) _ (any_waking rest)
