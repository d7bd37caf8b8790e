-- The first of some faults, and the faults of pages and chunks.
use Rattle.std.proofs.Common.{◌≡◌, ℕ, ◌≤◌, ◌||◌, List, [], ◌∷◌, ◌++◌, length, Option, Some, None, Result, Ok, Err, IfOk, refl, ap, ◌∙◌}
use Rattle.std.specs.Prelude.{nat_lt, IfSome}
use Rattle.std.proofs.lemmas.Bool.{cond-false, le-ltb, or_from}
use Rattle.page_table.specs.declared.PageFault.{PageFault}
use Rattle.page_table.specs.declared.PageFault.TheVariants.{TooMany, Unaligned, Twice}
use Rattle.page_table.specs.Grants.{Chunk, max_bytes, max_chunks, total}
use Rattle.page_table.specs.Scattered.{IsScatterList, ScatterList, scatter_list}
use Rattle.page_table.specs.Taken.{first_shared, in_order, listed, unless_shared, unless_unaligned}
use Rattle.capture_desc.specs.declared.desc.Desc.{Desc}
use Rattle.capture_desc.specs.WellFormed.{IsWellFormed}
use Rattle.picture_model.specs.declared.BuildFault.{BuildFault}
use Rattle.picture_model.specs.Described.{highest_end, memory_from, memory_of, taken}
use Rattle.picture_model.specs.Geometry.{Check, first_after, first_unaligned, frame_fault, memory_faults, page_faults, picture_faults}
use Rattle.picture_model.specs.Geometry.{size_faults, too_few}
use Rattle.planar_plan.specs.declared.judge.BuildError.{BuildError}
use Rattle.planar_plan.specs.declared.judge.BuildError.TheVariants.{Bad, Memory}
use Rattle.planar_plan.specs.Frames.{HasScatter, IsFramed, Judges, area_faults, taken_memory}

-- the first of some faults

pub first_after-append : (found : Option BuildFault) (checks more : List Check) (d : Desc) →
    first_after found (checks ++ more) d ≡ first_after (first_after found checks d) more d
first_after-append (Some fault) checks more d = refl
first_after-append None [] more d = refl
first_after-append None (check ∷ rest) more d = first_after-append (check d) rest more d

module _ (checks more : List Check) (d : Desc) where
  -- a fault among the front ones is the first, and where there is none the others decide
  pub some_front : (fault : BuildFault) → first_after None checks d ≡ Some fault → first_after None (checks ++ more) d ≡ Some fault
  some_front fault is = first_after-append None checks more d ∙ ap (λ (o : Option BuildFault). first_after o more d) is

  pub none_front : first_after None checks d ≡ None → first_after None (checks ++ more) d ≡ first_after None more d
  none_front is = first_after-append None checks more d ∙ ap (λ (o : Option BuildFault). first_after o more d) is

last_alone : (found : Option BuildFault) (d : Desc) → first_after found [] d ≡ found
last_alone (Some fault) d = refl
last_alone None d = refl

pub one_alone : (check : Check) (d : Desc) → first_after None (check ∷ []) d ≡ check d
one_alone check d = last_alone (check d) d

-- the faults of a frame, as they are checked: in groups

module _ (d : Desc) where
  pub at_sizes : (fault : BuildFault) → first_after None size_faults d ≡ Some fault → first_after None picture_faults d ≡ Some fault
  at_sizes = some_front size_faults area_faults d

  pub at_areas : (found : Option BuildFault) → first_after None size_faults d ≡ None → first_after None area_faults d ≡ found →
      first_after None picture_faults d ≡ found
  at_areas found sizes is = none_front size_faults area_faults d sizes ∙ is

  pub at_picture : (fault : BuildFault) → first_after None picture_faults d ≡ Some fault → frame_fault d ≡ Some fault
  at_picture = some_front picture_faults (page_faults ++ memory_faults) d

  pub at_pages : (fault : BuildFault) → first_after None picture_faults d ≡ None → first_after None page_faults d ≡ Some fault →
      frame_fault d ≡ Some fault
  at_pages fault picture is =
      none_front picture_faults (page_faults ++ memory_faults) d picture ∙ some_front page_faults memory_faults d fault is

  pub at_memory : first_after None picture_faults d ≡ None → first_after None page_faults d ≡ None → frame_fault d ≡ too_few d
  at_memory picture pages =
      none_front picture_faults (page_faults ++ memory_faults) d picture
      ∙ none_front page_faults memory_faults d pages
      ∙ one_alone too_few d

-- pages and chunks

few_pages : (pages : List ℕ) → length pages ≤ max_chunks →
    taken_memory None pages ≡ unless_unaligned (first_unaligned None pages) (memory_from None pages)
few_pages pages few = cond-false (nat_lt max_chunks (length pages)) _ _ (le-ltb max_chunks (length pages) few)

few_chunks : (pairs : List (ℕ × ℕ)) (pages : List ℕ) → length pairs ≤ max_chunks → total (listed pairs) ≤ max_bytes →
    taken_memory (Some pairs) pages ≡ unless_unaligned (first_unaligned (Some pairs) pages) (memory_from (Some pairs) pages)
few_chunks pairs pages few small =
    cond-false (nat_lt max_chunks (length pairs) || nat_lt max_bytes (total (listed pairs))) _ _
    (or_from _ _ (le-ltb max_chunks (length pairs) few) (le-ltb max_bytes (total (listed pairs)) small))

few_in : (chunks : Option (List (ℕ × ℕ))) (pages : List ℕ) → length pages ≤ max_chunks → IfSome chunks (λ cs. length cs ≤ max_chunks) →
    IfSome chunks (λ cs. total (listed cs) ≤ max_bytes) →
    taken_memory chunks pages ≡ unless_unaligned (first_unaligned chunks pages) (memory_from chunks pages)
few_in None pages few chunks bytes = few_pages pages few
few_in (Some pairs) pages few chunks bytes = few_chunks pairs pages chunks bytes

-- the pages or chunks of a description are not too many
pub few_of : (d : Desc) → IsWellFormed d → taken_memory d.chunks d.pages ≡ unless_unaligned (first_unaligned d.chunks d.pages) (memory_of d)
few_of d formed = few_in d.chunks d.pages formed.pages formed.chunks formed.bytes

grants_by : (unaligned shared : Option ℕ) (chunks : List Chunk) → unaligned ≡ None → first_shared [] chunks ≡ shared → shared ≡ None →
    unless_unaligned unaligned chunks ≡ Ok (in_order chunks)
grants_by (Some place) shared chunks one same two = cc
grants_by None (Some place) chunks one same two = cc
grants_by None None chunks one same two = ap (λ (o : Option ℕ). unless_shared o chunks) same

-- aligned and apart they make grants, so the call answers no fault of theirs
pub no_fault_taken : (d : Desc) (pages : List ℕ) (fault : PageFault) → IsWellFormed d → first_unaligned d.chunks d.pages ≡ None →
    first_shared [] (memory_of d) ≡ None → pages ≡ d.pages → taken_memory d.chunks pages ≡ Err fault → ⊥
no_fault_taken d pages fault formed aligned apart same is =
    let taken =
    few_of d formed ∙ grants_by (first_unaligned d.chunks d.pages) (first_shared [] (memory_of d)) (memory_of d) aligned refl apart in
    let changed = ap (taken_memory d.chunks) same in cc

-- what each answer means
module _ (chunks : List Chunk) where
  shared_ok : (place : Option ℕ) (grants : List Chunk) → unless_shared place chunks ≡ Ok grants → place ≡ None
  shared_ok None grants is = refl
  shared_ok (Some place) grants is = cc

  pub taken_ok : (place : Option ℕ) (grants : List Chunk) → unless_unaligned place chunks ≡ Ok grants →
      (place ≡ None) × (first_shared [] chunks ≡ None)
  taken_ok None grants is = (refl, shared_ok (first_shared [] chunks) grants is)
  taken_ok (Some place) grants is = cc

  shared_twice : (place : Option ℕ) (p : ℕ) → unless_shared place chunks ≡ Err (Twice p) → place ≡ Some p
  shared_twice None p is = cc
  shared_twice (Some place) p is = cc

  pub taken_twice : (place : Option ℕ) (p : ℕ) → unless_unaligned place chunks ≡ Err (Twice p) →
      (place ≡ None) × (first_shared [] chunks ≡ Some p)
  taken_twice None p is = (refl, shared_twice (first_shared [] chunks) p is)
  taken_twice (Some place) p is = cc

  shared_unaligned : (place : Option ℕ) (p : ℕ) → unless_shared place chunks ≡ Err (Unaligned p) → ⊥
  shared_unaligned None p is = cc
  shared_unaligned (Some place) p is = cc

  pub taken_unaligned : (place : Option ℕ) (p : ℕ) → unless_unaligned place chunks ≡ Err (Unaligned p) → place ≡ Some p
  taken_unaligned None p is = absurd (shared_unaligned (first_shared [] chunks) p is)
  taken_unaligned (Some place) p is = cc

  shared_many : (place : Option ℕ) → unless_shared place chunks ≡ Err TooMany → ⊥
  shared_many None is = cc
  shared_many (Some place) is = cc

  pub taken_many : (place : Option ℕ) → unless_unaligned place chunks ≡ Err TooMany → ⊥
  taken_many None is = shared_many (first_shared [] chunks) is
  taken_many (Some place) is = cc

-- what a call found, with another fault in place of the one that it found

pub judges_err : (A B : Type 0) (found other : Option BuildFault) (error : BuildError) →
    ((fault : BuildFault) → found ≡ Some fault → other ≡ Some fault) → Judges {T = A} found (Err error) → Judges {T = B} other (Err error)
judges_err A B found other (Bad fault) stands judged = stands fault judged
judges_err A B found other Memory stands judged = judged

pub has_scatter : (d : Desc) (found : Option BuildFault) (result : Result ScatterList BuildError) → (found ≡ None → IsFramed d) →
    Judges found result →
    IfOk result (λ s. s ≡ scatter_list (memory_of d) (highest_end (taken d))) → IfOk result IsScatterList → IfOk result (HasScatter d)
has_scatter d found (Ok s) framed judged scatter list =
    record { framed = framed judged; list = list; scatter = scatter }
has_scatter d found (Err error) framed judged scatter list = tt
