-- What is asked of the queues stays granted while it is taken.
use Rattle.std.proofs.Common.{◌≡◌, ℕ, ◌+◌, ◌-◌, ◌^◌, ◌≤◌, Bool, true, false, List, Option, Some, None, refl, sym, ap, ◌∙◌, arith}
use Rattle.std.proofs.Common.{option_map, if◌then◌else◌, nat_lt, ltb-false, le-ltb}
use Rattle.fifo_model.specs.declared.Queue.{Queue}
use Rattle.fifo_model.specs.declared.Queue.TheVariants.{One, Two, Three}
use Rattle.page_table.specs.Grants.{Chunk, first_ungranted}
use Rattle.machine_model.specs.declared.Cause.TheVariants.{Wrap, Ungranted}
use Rattle.machine_model.specs.declared.Demand.{Demand}
use Rattle.machine_model.specs.declared.Demands.{Demands}
use Rattle.machine_model.specs.Paths.{written_cause, range_cause, demand_cause, demands_cause}
use Rattle.machine_model.specs.Turns.{demand_on, with_demand, demand_less}
use Rattle.machine_model.proofs.Places.{first-none, none-first}
use Rattle.machine_model.proofs.Ranges.{range_after}

-- a range that can be written
pub record IsRange (grants : List Chunk) (address count : ℕ) : Type 0 where
  pub ends : address + count ≤ 2 ^ 32
  pub whole : first_ungranted grants address count ≡ None

no_byte : (first : Option ℕ) → option_map Ungranted first ≡ None → first ≡ None
no_byte None h = refl
no_byte (Some address) h = cc

range-if : (grants : List Chunk) (address count : ℕ) (wraps : Bool) → nat_lt (2 ^ 32) (address + count) ≡ wraps →
    (if wraps then Some Wrap else option_map Ungranted (first_ungranted grants address count)) ≡ None → IsRange grants address count
range-if grants address count true w h = cc
range-if grants address count false w h = record { ends = ltb-false _ _ w; whole = no_byte _ h }

pub written-IsRange : (grants : List Chunk) (address count : ℕ) → written_cause grants address count ≡ None → IsRange grants address count
written-IsRange grants address count h = range-if grants address count _ refl h

pub IsRange-written : (grants : List Chunk) (address count : ℕ) → IsRange grants address count → written_cause grants address count ≡ None
IsRange-written grants address count h =
    ap (λ wraps. if wraps then Some Wrap else option_map Ungranted (first_ungranted grants address count)) (le-ltb _ _ h.ends)
    ∙ ap (option_map Ungranted) h.whole

pub IsRange-after : (grants : List Chunk) (address count taken : ℕ) → taken ≤ count → IsRange grants address count →
    IsRange grants (address + taken) (count - taken)
IsRange-after grants address count taken le h =
    record { ends = let ends = h.ends in omega arith; whole = range_after grants address count taken le h.whole }

less-range : (grants : List Chunk) (address : Option ℕ) (count taken : ℕ) → taken ≤ count → range_cause grants address count ≡ None →
    range_cause grants (option_map (λ at. at + taken) address) (count - taken) ≡ None
less-range grants None count taken le h = refl
less-range grants (Some address) count taken le h =
    IsRange-written grants _ _ (IsRange-after grants address count taken le (written-IsRange grants address count h))

pub demand_less-granted : (grants : List Chunk) (d : Demand) (taken : ℕ) → taken ≤ d.rest → demand_cause grants d ≡ None →
    demand_cause grants (demand_less taken d) ≡ None
demand_less-granted grants d taken le h = less-range grants d.address d.rest taken le h

pub demand-granted : (grants : List Chunk) (q : Queue) (ds : Demands) → demands_cause grants ds ≡ None →
    demand_cause grants (demand_on q ds) ≡ None
demand-granted grants One ds h = (first-none _ _ h).0
demand-granted grants Two ds h = (first-none _ _ (first-none _ _ h).1).0
demand-granted grants Three ds h = (first-none _ _ (first-none _ _ h).1).1

pub with_demand-granted : (grants : List Chunk) (q : Queue) (d : Demand) (ds : Demands) → demand_cause grants d ≡ None →
    demands_cause grants ds ≡ None →
    demands_cause grants (with_demand q d ds) ≡ None
with_demand-granted grants One d ds e h = none-first _ _ e (first-none _ _ h).1
with_demand-granted grants Two d ds e h =
    none-first _ _ (first-none _ _ h).0 (none-first _ _ e (first-none _ _ (first-none _ _ h).1).1)
with_demand-granted grants Three d ds e h =
    none-first _ _ (first-none _ _ h).0 (none-first _ _ (first-none _ _ (first-none _ _ h).1).0 e)

-- a demand with an address ends at or below 2^32, and each byte of its range is granted
pub demand-IsRange : (grants : List Chunk) (d : Demand) (address : ℕ) → d.address ≡ Some address → demand_cause grants d ≡ None →
    IsRange grants address d.rest
demand-IsRange grants d address e h =
    written-IsRange grants address d.rest (ap (λ at. range_cause grants at d.rest) (sym e) ∙ h)
