-- How many bytes a verdict takes.
use Rattle.std.proofs.Common.{◌≡◌, ℕ, ◌<◌, ◌≤◌, ◌==◌, ◌⊎◌, inl, inr, Bool, true, false, if◌then◌else◌, List, [], ◌∷◌, slice_index_or, zero}
use Rattle.std.proofs.Common.{suc, rules, arith}
use Rattle.sync_status.specs.declared.StatusKind.{StatusKind}
use Rattle.sync_status.specs.declared.StatusKind.TheVariants.{Control, Start, Pixels, End, Reserved}
use Rattle.sync_status.specs.declared.Verdict.TheVariants.{Discard, Missing}
use Rattle.sync_status.specs.Statuses.{kinds, kind_of, valid_lanes, taken_of, verdict_on, TakesWithin}

-- some bytes are left of an entry of 1 to 4 valid bytes of which not all are taken
takes-some : (valid taken rest : ℕ) → 1 ≤ rest → taken < valid → TakesWithin valid taken rest (taken_of valid taken rest)
takes-some valid taken rest asked left = (omega arith, omega arith, omega arith)

below : (valid taken : ℕ) → 1 ≤ valid → (taken ≡ 0) ⊎ (taken < valid) → taken < valid
below valid taken some left = elim left [ inl none ↦ omega arith | inr less ↦ less ]

takes-start : (fresh : Bool) (taken rest : ℕ) →
    1 ≤ rest → taken < 4 → TakesWithin 4 taken rest (if fresh then Missing else taken_of 4 taken rest)
    × TakesWithin 4 taken rest (if fresh then taken_of 4 taken rest else Discard)
takes-start true taken rest asked left = (tt, takes-some 4 taken rest asked left)
takes-start false taken rest asked left = (takes-some 4 taken rest asked left, tt)

-- an end has 1 to 4 valid bytes, in every kind of the table
abbrev pub EndHasBytes : StatusKind → Type 0
EndHasBytes (End count) = 1 ≤ count
EndHasBytes _ = Unit {0}

abbrev EachHasBytes : List StatusKind → Type 0
EachHasBytes [] = Unit {0}
EachHasBytes (kind ∷ rest) = EndHasBytes kind × EachHasBytes rest

each-kind : (list : List StatusKind) (status : ℕ) → EachHasBytes list → EndHasBytes (slice_index_or list status Reserved)
each-kind [] status every = tt
each-kind (kind ∷ rest) zero every = every.0
each-kind (kind ∷ rest) (suc status) every = each-kind rest status every.1

pub end-has_bytes : (status : ℕ) → EndHasBytes (kind_of status)
end-has_bytes status = each-kind kinds status (search rules)

pub verdict-takes : (kind : StatusKind) (need_sol : Bool) (taken rest : ℕ) → EndHasBytes kind → 1 ≤ rest →
    (taken ≡ 0) ⊎ (taken < valid_lanes kind) → TakesWithin (valid_lanes kind) taken rest (verdict_on kind need_sol taken rest)
verdict-takes (Control code) true taken rest some asked left = tt
verdict-takes (Control code) false taken rest some asked left = tt
verdict-takes Start true taken rest some asked left = (takes-start (taken == 0) taken rest asked (below 4 taken (omega arith) left)).1
verdict-takes Start false taken rest some asked left = (takes-start (taken == 0) taken rest asked (below 4 taken (omega arith) left)).0
verdict-takes Pixels true taken rest some asked left = tt
verdict-takes Pixels false taken rest some asked left = takes-some 4 taken rest asked (below 4 taken (omega arith) left)
verdict-takes (End count) true taken rest some asked left = tt
verdict-takes (End count) false taken rest some asked left = takes-some count taken rest asked (below count taken some left)
verdict-takes Reserved true taken rest some asked left = tt
verdict-takes Reserved false taken rest some asked left = tt
