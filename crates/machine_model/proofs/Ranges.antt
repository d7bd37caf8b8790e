-- Ranges of granted bytes.
use Rattle.std.proofs.Common.{◌≡◌, ℕ, zero, suc, ◌+◌, ◌-◌, ◌<◌, ◌≤◌, Bool, true, false, List, Some, None, refl, arith, if◌then◌else◌}
use Rattle.page_table.specs.Grants.{Chunk, granted, first_ungranted}
use Rattle.page_table.proofs.Grants.{all_granted}

-- one byte less of a granted range
less_one : (grants : List Chunk) (address count : ℕ) (first : Bool) → granted grants address ≡ first →
    (if first then first_ungranted grants (address + 1) count else Some address) ≡ None →
    (granted grants address ≡ true) × (first_ungranted grants (address + 1) count ≡ None)
less_one grants address count true g h = (g, h)
less_one grants address count false g h = cc

pub first_granted : (grants : List Chunk) (address count : ℕ) → first_ungranted grants address (suc count) ≡ None →
    (granted grants address ≡ true) × (first_ungranted grants (address + 1) count ≡ None)
first_granted grants address count h = less_one grants address count _ refl h

pub range_after : (grants : List Chunk) (address count taken : ℕ) → taken ≤ count → first_ungranted grants address count ≡ None →
    first_ungranted grants (address + taken) (count - taken) ≡ None
range_after grants address count zero le h =
    let a : address + 0 ≡ address = omega arith in
    let b : count - 0 ≡ count = omega arith in
    rw (a, b) h
range_after grants address zero (suc taken) le h = absurd (omega arith)
range_after grants address (suc count) (suc taken) le h =
    let rest = range_after grants (address + 1) count taken (omega arith) (first_granted grants address count h).1 in
    let a : address + suc taken ≡ address + 1 + taken = omega arith in
    let b : suc count - suc taken ≡ count - taken = omega arith in
    rw (a, b) rest

pub granted_at : (grants : List Chunk) (address count at : ℕ) → at < count → first_ungranted grants address count ≡ None →
    granted grants (address + at) ≡ true
granted_at grants address count at lt h = all_granted grants address count (address + at) h (omega arith) (omega arith)
