-- The memory of two descriptions as grants, or its fault.
use Rattle.std.proofs.Common.{◌≡◌, ℕ, ◌^◌, ◌<◌, ◌≤◌, Bool, true, false, not, ◌||◌, All, List, [], ◌++◌, length, Option, Some, None, Ok, Err}
use Rattle.std.proofs.Common.{refl, sym, ap, ◌∙◌, subst, arith, if◌then◌else◌, IfSome}
use Rattle.std.specs.Prelude.{nat_lt}
use Rattle.std.specs.List.{list_any, position}
use Rattle.std.proofs.lemmas.List.{length-map, map-append}
use Rattle.std.proofs.lemmas.List.Elements.{All-append}
use Rattle.page_table.specs.Grants.{Chunk, max_bytes, max_chunks, total}
use Rattle.page_table.specs.declared.PageFault.TheVariants.{TooMany, Unaligned, Twice, Memory}
use Rattle.page_table.specs.Taken.{Answers, Taking, first_shared, in_order, is_aligned, listed, page_at, pair_chunk, shares, taken_chunks}
use Rattle.page_table.specs.Taken.{unless_many, unless_shared}
use Rattle.capture_desc.specs.declared.desc.Desc.{Desc}
use Rattle.picture_model.specs.Described.{memory_from, memory_of}
use Rattle.picture_model.proofs.FaultlessGeometry.{IsFrame-memory, aligned_memory as aligned_chunks}
use Rattle.planar_plan.specs.Frames.{IsFramed}
use Rattle.slot_chain.specs.Faults.{are_too_many, shared_chunk}
use Rattle.slot_chain.specs.Pairs.{memory_of_two}
use Rattle.slot_chain.proofs.Granting.{all_aligned, apart_both, shared-listed}

-- ---- the memory of one description

few_by : (chunks : Option (List (ℕ × ℕ))) (pages : List ℕ) → length pages ≤ max_chunks → IfSome chunks (λ cs. length cs ≤ max_chunks) →
    length (memory_from chunks pages) ≤ max_chunks
few_by None pages few short = let size = length-map pages page_at in omega arith
few_by (Some pairs) pages few short = let size = length-map pairs pair_chunk in omega arith

module _ (d : Desc) (framed : IsFramed d) where
  aligned_memory : All (λ c. is_aligned c ≡ true) (memory_of d)
  aligned_memory =
      let memory = IsFrame-memory d framed.geometry in
      aligned_chunks d.chunks d.pages framed.pages memory.0 memory.1

  apart_memory : first_shared [] (memory_of d) ≡ None
  apart_memory = (IsFrame-memory d framed.geometry).1

  -- it has few chunks
  pub few_chunks : (pairs : List (ℕ × ℕ)) → listed pairs ≡ memory_of d → length pairs ≤ max_chunks
  few_chunks pairs is =
      let size = length-map pairs pair_chunk in
      let same = ap length is in
      let few = few_by d.chunks d.pages framed.formed.pages framed.formed.chunks in omega arith

-- ---- that of two

-- what is taken of chunks that are aligned and apart
abbrev pub IsTaken : Bool → List Chunk → Taking → Type 0
IsTaken many grants (Ok found) = (many ≡ false) × (found ≡ grants)
IsTaken many grants (Err TooMany) = many ≡ true
IsTaken many grants (Err (Unaligned place)) = ⊥
IsTaken many grants (Err (Twice place)) = ⊥
IsTaken many grants (Err Memory) = Unit {0}

abbrev ok : List Chunk → Taking
ok chunks = Ok chunks

ok_same : (one two : List Chunk) → ok one ≡ ok two → one ≡ two
ok_same one two e = cc

taken_by : (many : Bool) (grants : List Chunk) (result : Taking) → Answers (if many then Err TooMany else Ok grants) result →
    IsTaken many grants result
taken_by true grants (Ok found) e = absurd cc
taken_by true grants (Err TooMany) e = refl
taken_by true grants (Err (Unaligned place)) e = cc
taken_by true grants (Err (Twice place)) e = cc
taken_by true grants (Err Memory) e = tt
taken_by false grants (Ok found) e = (refl, sym (ok_same grants found e))
taken_by false grants (Err TooMany) e = absurd cc
taken_by false grants (Err (Unaligned place)) e = cc
taken_by false grants (Err (Twice place)) e = cc
taken_by false grants (Err Memory) e = tt

module _ (first second e f : Desc) (one_framed : IsFramed first) (two_framed : IsFramed second) (e_is : e ≡ first) (f_is : f ≡ second)
    (kept later one two : List (ℕ × ℕ))
    (kept_is : listed kept ≡ memory_of e) (later_is : listed later ≡ memory_of f) (one_same : one ≡ kept) (two_same : two ≡ later)
    (found : Option ℕ)
    (is : found ≡ position (λ pair. list_any (λ other. shares (pair_chunk pair) (pair_chunk other)) one) two) where
  one_is : listed one ≡ memory_of first
  one_is = ap listed one_same ∙ kept_is ∙ ap memory_of e_is

  two_is : listed two ≡ memory_of second
  two_is = ap listed two_same ∙ later_is ∙ ap memory_of f_is

  -- the chunk that was found is the shared one, and its number is small
  pub shared_is : shared_chunk first second ≡ found
  shared_is =
      ap (λ (cs : List Chunk). position (λ c. list_any (shares c) cs) (memory_of second)) (sym one_is)
      ∙ ap (λ (cs : List Chunk). position (λ c. list_any (shares c) (listed one)) cs) (sym two_is) ∙ shared-listed one two ∙ sym is

  pub small : (number : ℕ) → number < length two → number < 2 ^ 32
  small number within = let few = few_chunks second two_framed two two_is in omega arith

  module _ (none : found ≡ None) (more both all : List (ℕ × ℕ)) (more_same : more ≡ later) (both_are : both ≡ kept ++ more)
      (all_same : all ≡ both) where
    apart : shared_chunk first second ≡ None
    apart = shared_is ∙ none

    listed_both : listed all ≡ memory_of_two first second
    listed_both =
        ap listed (all_same ∙ both_are) ∙ map-append pair_chunk kept more
        ∙ ap (λ (cs : List Chunk). cs ++ listed more) (kept_is ∙ ap memory_of e_is)
        ∙ ap (λ (cs : List Chunk). memory_of first ++ cs) (ap listed more_same ∙ later_is ∙ ap memory_of f_is)

    aligned_both : position (λ pair. not (is_aligned (pair_chunk pair))) all ≡ None
    aligned_both =
        all_aligned all
        (subst (All (λ c. is_aligned c ≡ true)) (sym listed_both)
        (All-append (λ c. is_aligned c ≡ true) (memory_of first) (memory_of second) (aligned_memory first one_framed)
        (aligned_memory second two_framed)))

    apart_all : first_shared [] (memory_of_two first second) ≡ None
    apart_all = apart_both (memory_of first) (memory_of second) (apart_memory first one_framed) (apart_memory second two_framed) apart

    many_is : (nat_lt max_chunks (length all) || nat_lt max_bytes (total (listed all))) ≡ are_too_many first second
    many_is =
        ap (λ (n : ℕ). nat_lt max_chunks n || nat_lt max_bytes (total (listed all))) (sym (length-map all pair_chunk))
        ∙ ap (λ (cs : List Chunk). nat_lt max_chunks (length cs) || nat_lt max_bytes (total cs)) listed_both

    taken_both : taken_chunks all ≡ (if are_too_many first second then Err TooMany else Ok (in_order (memory_of_two first second)))
    taken_both =
        ap (λ (b : Bool). unless_many b (position (λ pair. not (is_aligned (pair_chunk pair))) all) (listed all)) many_is
        ∙ ap (λ (place : Option ℕ). unless_many (are_too_many first second) place (listed all)) aligned_both
        ∙ ap (λ (cs : List Chunk). unless_many (are_too_many first second) None cs) listed_both
        ∙ ap (λ (place : Option ℕ). if are_too_many first second then Err TooMany else unless_shared place (memory_of_two first second))
        apart_all

    pub is_taken : (result : Taking) → Answers (taken_chunks all) result →
        IsTaken (are_too_many first second) (in_order (memory_of_two first second)) result
    is_taken result answer =
        taken_by (are_too_many first second) (in_order (memory_of_two first second)) result
        (subst (λ (wanted : Taking). Answers wanted result) taken_both answer)
