-- The fronts that a turn removes, and the bytes that it takes of one.
use Rattle.std.proofs.Common.{◌≡◌, ℕ, zero, suc, ◌-◌, ◌≤◌, ◌⊎◌, inl, inr, min, Bool, true, false, not, List, [], ◌∷◌, Option, Some, None}
use Rattle.std.proofs.Common.{IsSome, refl, arith, if◌then◌else◌, slice_index_or}
use Rattle.risc_word.specs.declared.Code.{Code}
use Rattle.sync_status.specs.declared.StatusKind.{StatusKind}
use Rattle.sync_status.specs.declared.StatusKind.TheVariants.{Control, Start, Pixels, End, Reserved}
use Rattle.sync_status.specs.declared.Verdict.TheVariants.{Take, Discard, Missing}
use Rattle.sync_status.specs.Statuses.{kinds, kind_of, valid_bytes, valid_lanes, is_control, taken_of, verdict_on}
use Rattle.fifo_model.specs.declared.Entry.{Entry}
use Rattle.fifo_model.specs.declared.Queue.{Queue}
use Rattle.fifo_model.specs.declared.Queue.TheVariants.{One, Two, Three}
use Rattle.fifo_model.specs.Queues.{Queues, queue_state, front, code_of_kind, front_code_of, front_code}
use Rattle.machine_model.specs.Turns.{no_code, lowest_stray, code_if}

-- ---- waiting

pick : Queue → Bool → Bool → Bool → Bool
pick One one two three = one
pick Two one two three = two
pick Three one two three = three

first_of_three : (one two three : Bool) (q : Queue) →
    (if one then Some One else (if two then Some Two else (if three then Some Three else None))) ≡ Some q →
    pick q one two three ≡ true
unfolding pick
first_of_three true two three One h = refl
first_of_three true two three Two h = cc
first_of_three true two three Three h = cc
first_of_three false true three One h = cc
first_of_three false true three Two h = refl
first_of_three false true three Three h = cc
first_of_three false false true One h = cc
first_of_three false false true Two h = cc
first_of_three false false true Three h = refl
first_of_three false false false q h = cc

-- an entry of data has no control code
pub data_code : (kind : StatusKind) → not (is_control kind) ≡ true → code_of_kind kind ≡ None
data_code (Control code) h = cc
data_code Start h = refl
data_code Pixels h = refl
data_code (End count) h = refl
data_code Reserved h = refl

front_stray : (top : Option Entry) → no_code top ≡ true → front_code_of top ≡ None
front_stray None h = refl
front_stray (Some entry) h = data_code (kind_of entry.status) h

-- the front of the lowest stray queue is no control code
pub front-stray : (q : Queue) (queues : Queues) → lowest_stray queues ≡ Some q → front_code (queue_state q queues) ≡ None
unfolding pick
front-stray One queues h = front_stray (front queues.one) (first_of_three _ _ _ One h)
front-stray Two queues h = front_stray (front queues.two) (first_of_three _ _ _ Two h)
front-stray Three queues h = front_stray (front queues.three) (first_of_three _ _ _ Three h)

-- a common code is at each front
pub codes_there : (one two three : Option Code) (seen : Code) → code_if one two three ≡ Some seen → IsSome one × IsSome two × IsSome three
codes_there (Some a) (Some b) (Some c) seen h = (refl, refl, refl)
codes_there (Some a) (Some b) None seen h = cc
codes_there (Some a) None three seen h = cc
codes_there None two three seen h = cc

-- ---- running

pub discarded-data : (kind : StatusKind) (needs_sol : Bool) (taken rest : ℕ) → verdict_on kind needs_sol taken rest ≡ Discard →
    is_control kind ≡ false
discarded-data (Control code) true taken rest h = cc
discarded-data (Control code) false taken rest h = cc
discarded-data Start needs_sol taken rest h = refl
discarded-data Pixels needs_sol taken rest h = refl
discarded-data (End count) needs_sol taken rest h = refl
discarded-data Reserved needs_sol taken rest h = refl

-- what is taken of a front
pub record Takes (kind : StatusKind) (taken rest count : ℕ) : Type 0 where
  pub least : count ≡ min rest (valid_lanes kind - taken)
  pub moving : (kind ≡ Start) ⊎ ((kind ≡ Pixels) ⊎ ((valid : ℕ) × (kind ≡ End valid)))

took_start : (begins : Bool) (taken rest count : ℕ) → (if begins then taken_of 4 taken rest else Discard) ≡ Take count →
    Takes Start taken rest count
took_start true taken rest count h = record { least = cc; moving = inl refl }
took_start false taken rest count h = cc

took_more : (begins : Bool) (taken rest count : ℕ) → (if begins then Missing else taken_of 4 taken rest) ≡ Take count →
    Takes Start taken rest count
took_more true taken rest count h = cc
took_more false taken rest count h = record { least = cc; moving = inl refl }

pub take-Takes : (kind : StatusKind) (needs_sol : Bool) (taken rest count : ℕ) → verdict_on kind needs_sol taken rest ≡ Take count →
    Takes kind taken rest count
take-Takes (Control code) true taken rest count h = cc
take-Takes (Control code) false taken rest count h = cc
take-Takes Start true taken rest count h = took_start _ taken rest count h
take-Takes Start false taken rest count h = took_more _ taken rest count h
take-Takes Pixels true taken rest count h = cc
take-Takes Pixels false taken rest count h = record { least = cc; moving = inr (inl refl) }
take-Takes (End valid) true taken rest count h = cc
take-Takes (End valid) false taken rest count h = record { least = cc; moving = inr (inr (valid, refl)) }
take-Takes Reserved true taken rest count h = cc
take-Takes Reserved false taken rest count h = cc

-- an end has 1 to 4 valid bytes
ends_some : StatusKind → Type 0
ends_some (End count) = (1 ≤ count) × (count ≤ 4)
ends_some _ = Unit {0}

all_ends : List StatusKind → Type 0
all_ends [] = Unit {0}
all_ends (kind ∷ rest) = ends_some kind × all_ends rest

ends_at : (list : List StatusKind) (at : ℕ) → all_ends list → ends_some (slice_index_or list at Reserved)
unfolding ends_some all_ends
ends_at [] at h = tt
ends_at (kind ∷ rest) zero h = h.0
ends_at (kind ∷ rest) (suc at) h = ends_at rest at h.1

ends_kinds : all_ends kinds
unfolding ends_some all_ends
ends_kinds = search arith

takes_some : (kind : StatusKind) → ends_some kind → (kind ≡ Start) ⊎ ((kind ≡ Pixels) ⊎ ((valid : ℕ) × (kind ≡ End valid))) →
    1 ≤ valid_lanes kind
unfolding ends_some
takes_some Start e h = omega arith
takes_some Pixels e h = omega arith
takes_some (End valid) e h = e.0
takes_some (Control code) e (inl h) = cc
takes_some (Control code) e (inr (inl h)) = cc
takes_some (Control code) e (inr (inr h)) = cc
takes_some Reserved e (inl h) = cc
takes_some Reserved e (inr (inl h)) = cc
takes_some Reserved e (inr (inr h)) = cc

pub valid-some : (status taken rest count : ℕ) → Takes (kind_of status) taken rest count → 1 ≤ valid_bytes status
valid-some status taken rest count h = takes_some (kind_of status) (ends_at kinds status ends_kinds) h.moving
