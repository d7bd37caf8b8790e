-- Bytes that instructions took are where the instructions write, whatever is taken after them.
use Rattle.std.proofs.Common.{◌≡◌, ℕ, zero, suc, ◌+◌, ◌-◌, ◌<◌, ◌≤◌, ◌⊎◌, inl, inr, true, List, [], ◌∷◌, ◌++◌, length, length-append}
use Rattle.std.proofs.Common.{Option, Some, None, option_map, refl, sym, ap, ◌∙◌, subst, arith, ⊎_elim}
use Rattle.std.proofs.lemmas.Bool.{cases_eq, cases_lt}
use Rattle.std.specs.Prelude.{slice_index}
use Rattle.risc_word.specs.declared.Instr.{Instr}
use Rattle.fifo_model.specs.declared.Queue.{Queue}
use Rattle.fifo_model.specs.declared.Queue.TheVariants.{One, Two, Three}
use Rattle.page_table.specs.Grants.{Chunk, granted}
use Rattle.page_table.specs.Blocks.{Block, byte_at, chunks_of, stored}
use Rattle.page_table.proofs.Memory.{byte_at-stored_other, byte_at-stored_same, chunks_of-stored}
use Rattle.machine_model.specs.Paths.{demands_of}
use Rattle.machine_model.specs.Turns.{demand_on, stored_all}
use Rattle.field_law.specs.Sections.{laid, laid_from}

-- ---- bytes laid in memory

laid_other : (memory : List Block) (at : ℕ) (bytes : List ℕ) (other : ℕ) → (other < at) ⊎ (at + length bytes ≤ other) →
    byte_at (stored_all memory (laid_from at bytes)) other ≡ byte_at memory other
laid_other memory at [] other apart = refl
laid_other memory at (byte ∷ bytes) other apart =
    laid_other (stored memory at byte) (at + 1) bytes other (further apart)
    ∙ byte_at-stored_other memory at byte other (λ same. ⊎_elim (λ less. absurd (omega arith)) (λ more. absurd (omega arith)) apart)
  where
    further : (other < at) ⊎ (at + length (byte ∷ bytes) ≤ other) → (other < at + 1) ⊎ (at + 1 + length bytes ≤ other)
    further (inl less) = inl (omega arith)
    further (inr more) = inr (omega arith)

laid_there : (memory : List Block) (at : ℕ) (bytes : List ℕ) (y : ℕ) → y < length bytes →
    ((z : ℕ) → z < length bytes → granted (chunks_of memory) (at + z) ≡ true) →
    byte_at (stored_all memory (laid_from at bytes)) (at + y) ≡ slice_index bytes y
laid_there memory at [] y inside allowed = absurd (omega arith)
laid_there memory at (byte ∷ bytes) zero inside allowed =
    let first : at + 0 ≡ at = omega arith in
    laid_other (stored memory at byte) (at + 1) bytes (at + 0) (inl (omega arith)) ∙ ap (byte_at (stored memory at byte)) first
    ∙ byte_at-stored_same memory at byte (ap (granted (chunks_of memory)) (sym first) ∙ allowed 0 (omega arith))
laid_there memory at (byte ∷ bytes) (suc y) inside allowed =
    let next : at + suc y ≡ at + 1 + y = omega arith in
    ap (byte_at (stored_all (stored memory at byte) (laid_from (at + 1) bytes))) next
    ∙ laid_there (stored memory at byte) (at + 1) bytes y (omega arith)
    (λ z less.
    let there : at + 1 + z ≡ at + suc z = omega arith in
    ap (λ (chunks : List Chunk). granted chunks (at + 1 + z)) (chunks_of-stored memory at byte) ∙ ap (granted (chunks_of memory)) there
    ∙ allowed (suc z) (omega arith))

pub index_first : (xs ys : List ℕ) (y : ℕ) → y < length xs → slice_index (xs ++ ys) y ≡ slice_index xs y
index_first [] ys y inside = absurd (omega arith)
index_first (x ∷ xs) ys zero inside = refl
index_first (x ∷ xs) ys (suc y) inside = index_first xs ys y (omega arith)

pub index_later : (xs ys : List ℕ) (y : ℕ) → slice_index (xs ++ ys) (length xs + y) ≡ slice_index ys y
index_later [] ys y = ap (slice_index ys) (omega arith)
index_later (x ∷ xs) ys y =
    let next : length (x ∷ xs) + y ≡ suc (length xs + y) = omega arith in
    ap (slice_index (x ∷ (xs ++ ys))) next ∙ index_later xs ys y

-- ---- the instructions of a section

abbrev pub address_on : Queue → Instr → Option ℕ
address_on q i = (demand_on q (demands_of i None)).address

abbrev pub count_on : Queue → Instr → ℕ
count_on q i = (demand_on q (demands_of i None)).rest

-- what an instruction has of a queue
abbrev pub Had : Type 0
Had = ℕ → Queue → List ℕ

pub same_queue_or : (p q : Queue) → (p ≡ q) ⊎ (p ≡ q → ⊥)
same_queue_or One One = inl refl
same_queue_or One Two = inr (λ same. cc)
same_queue_or One Three = inr (λ same. cc)
same_queue_or Two One = inr (λ same. cc)
same_queue_or Two Two = inl refl
same_queue_or Two Three = inr (λ same. cc)
same_queue_or Three One = inr (λ same. cc)
same_queue_or Three Two = inr (λ same. cc)
same_queue_or Three Three = inl refl

-- no two of them write to one address, and all that they write is granted
module _ (IsIn : ℕ → Instr → Type 0) (grants : List Chunk)
    (apart : (a b : ℕ) (i j : Instr) (p q : Queue) (s t x y : ℕ) → IsIn a i → IsIn b j → address_on p i ≡ Some s → address_on q j ≡ Some t →
    x < count_on p i → y < count_on q j → s + x ≡ t + y → (a ≡ b) × (p ≡ q) × (x ≡ y))
    (allowed : (a : ℕ) (i : Instr) (p : Queue) (s x : ℕ) → IsIn a i → address_on p i ≡ Some s → x < count_on p i →
    granted grants (s + x) ≡ true) where
  pub record Placed (memory : List Block) (had : Had) : Type 0 where
    pub few : (a : ℕ) (i : Instr) (p : Queue) → IsIn a i → length (had a p) ≤ count_on p i
    pub there : (a : ℕ) (i : Instr) (p : Queue) (s y : ℕ) → IsIn a i → address_on p i ≡ Some s → y < length (had a p) →
        byte_at memory (s + y) ≡ slice_index (had a p) y

  module _ (memory : List Block) (had next : Had) (at : ℕ) (i : Instr) (q : Queue) (new : List ℕ) (chunks : chunks_of memory ≡ grants)
      (is_in : IsIn at i)
      (grows : next at q ≡ had at q ++ new) (others : (a : ℕ) (p : Queue) → (a ≡ at → p ≡ q → ⊥) → next a p ≡ had a p)
      (room : length (had at q) + length new ≤ count_on q i)
      (only : (j : Instr) → IsIn at j → j ≡ i) (h : Placed memory had) where
    abbrev after : List Block
    after = stored_all memory (laid (option_map (λ s. s + length (had at q)) (address_on q i)) new)

    few_next : (a : ℕ) (j : Instr) (p : Queue) → IsIn a j → (a ≡ at) ⊎ (a ≡ at → ⊥) → (p ≡ q) ⊎ (p ≡ q → ⊥) →
        length (next a p) ≤ count_on p j
    few_next a j p is (inl same) (inl queue) =
        let long = length-append (had at q) new in
        let here : length (next at q) ≤ count_on q i = let size = ap (λ (bytes : List ℕ). length bytes) grows in omega arith in
        let instr = only j (subst (λ (b : ℕ). IsIn b j) same is) in
        subst (λ (b : ℕ). length (next b p) ≤ count_on p j) (sym same)
        (subst (λ (x : Queue). length (next at x) ≤ count_on x j) (sym queue)
        (subst (λ (x : Instr). length (next at q) ≤ count_on q x) (sym instr) here))
    few_next a j p is (inr different) queue =
        subst (λ (bytes : List ℕ). length bytes ≤ count_on p j) (sym (others a p (λ same both. different same))) (h.few a j p is)
    few_next a j p is same (inr different) =
        subst (λ (bytes : List ℕ). length bytes ≤ count_on p j) (sym (others a p (λ both queue. different queue))) (h.few a j p is)

    -- where the new bytes don't lie
    stays : (to : Option ℕ) → address_on q i ≡ to → (a : ℕ) (j : Instr) (p : Queue) (s y : ℕ) → IsIn a j → address_on p j ≡ Some s →
        y < count_on p j →
        ((x : ℕ) → length (had at q) ≤ x → (a ≡ at) × (p ≡ q) × (y ≡ x) → ⊥) →
        byte_at (stored_all memory (laid (option_map (λ b. b + length (had at q)) to) new)) (s + y) ≡ byte_at memory (s + y)
    stays None is a j p s y is_at goes inside never = refl
    stays (Some t) is a j p s y is_at goes inside never =
        laid_other memory (t + length (had at q)) new (s + y)
        (by_low (cases_lt (s + y) (t + length (had at q))) (cases_lt (s + y) (t + length (had at q) + length new)))
      where
        by_low : (s + y < t + length (had at q)) ⊎ (t + length (had at q) ≤ s + y) →
            (s + y < t + length (had at q) + length new) ⊎ (t + length (had at q) + length new ≤ s + y) →
            (s + y < t + length (had at q)) ⊎ (t + length (had at q) + length new ≤ s + y)
        by_low (inl less) high = inl less
        by_low (inr more) (inr beyond) = inr beyond
        by_low (inr more) (inl within) =
            let x = s + y - t in
            absurd (never x (omega arith) (apart a at j i p q s t y x is_at is_in goes is inside (omega arith) (omega arith)))

    new_there : (to : Option ℕ) → address_on q i ≡ to → (s y : ℕ) → to ≡ Some s → length (had at q) ≤ y →
        y < length (had at q) + length new →
        byte_at (stored_all memory (laid (option_map (λ b. b + length (had at q)) to) new)) (s + y)
        ≡ slice_index new (y - length (had at q))
    new_there None is s y goes low high = cc
    new_there (Some t) is s y goes low high =
        let same : t ≡ s = cc in
        let there : s + y ≡ t + length (had at q) + (y - length (had at q)) = omega arith in
        ap (byte_at (stored_all memory (laid_from (t + length (had at q)) new))) there
        ∙ laid_there memory (t + length (had at q)) new (y - length (had at q)) (omega arith)
        (λ z less.
        let place : t + length (had at q) + z ≡ t + (length (had at q) + z) = omega arith in
        ap (λ (c : List Chunk). granted c (t + length (had at q) + z)) chunks ∙ ap (granted grants) place
        ∙ allowed at i q t (length (had at q) + z) is_in is (omega arith))

    there_next : (a : ℕ) (j : Instr) (p : Queue) (s y : ℕ) → IsIn a j → address_on p j ≡ Some s → y < length (next a p) →
        (a ≡ at) ⊎ (a ≡ at → ⊥) → (p ≡ q) ⊎ (p ≡ q → ⊥) →
        byte_at after (s + y) ≡ slice_index (next a p) y
    there_next a j p s y is goes inside (inr different) queue = old a j p s y is goes inside (λ same both. different same)
      where
        old : (a : ℕ) (j : Instr) (p : Queue) (s y : ℕ) → IsIn a j → address_on p j ≡ Some s → y < length (next a p) →
            (a ≡ at → p ≡ q → ⊥) → byte_at after (s + y) ≡ slice_index (next a p) y
        old a j p s y is goes inside never =
            let same = others a p never in
            let size = ap (λ (bytes : List ℕ). length bytes) same in
            let few = h.few a j p is in
            stays (address_on q i) refl a j p s y is goes (omega arith) (λ x low both. never both.0 both.1)
            ∙ h.there a j p s y is goes (omega arith)
            ∙ ap (λ (bytes : List ℕ). slice_index bytes y) (sym same)
    there_next a j p s y is goes inside same (inr different) =
        let is_same = others a p (λ both queue. different queue) in
        let size = ap (λ (bytes : List ℕ). length bytes) is_same in
        let few = h.few a j p is in
        stays (address_on q i) refl a j p s y is goes (omega arith) (λ x low both. different both.1)
        ∙ h.there a j p s y is goes (omega arith)
        ∙ ap (λ (bytes : List ℕ). slice_index bytes y) (sym is_same)
    there_next a j p s y is goes inside (inl same) (inl queue) =
        subst (λ (b : ℕ). byte_at after (s + y) ≡ slice_index (next b p) y) (sym same)
        (subst (λ (x : Queue). byte_at after (s + y) ≡ slice_index (next at x) y) (sym queue)
        (subst (λ (bytes : List ℕ). byte_at after (s + y) ≡ slice_index bytes y) (sym grows) (by_low (cases_lt y (length (had at q))))))
      where
        instr : j ≡ i
        instr = only j (subst (λ (b : ℕ). IsIn b j) same is)

        goes_here : address_on q i ≡ Some s
        goes_here = ap (λ (x : Instr). address_on q x) (sym instr) ∙ ap (λ (x : Queue). address_on x j) (sym queue) ∙ goes

        inside_here : y < length (had at q) + length new
        inside_here =
            let size = ap (λ (bytes : List ℕ). length bytes) (ap (λ (b : ℕ). next b p) same ∙ ap (next at) queue ∙ grows) in
            omega (arith, length-append (had at q) new)

        by_low : (y < length (had at q)) ⊎ (length (had at q) ≤ y) → byte_at after (s + y) ≡ slice_index (had at q ++ new) y
        by_low (inl less) =
            stays (address_on q i) refl at i q s y is_in goes_here (omega arith) (λ x low both. let is_x = both.2 in absurd (omega arith))
            ∙ h.there at i q s y is_in goes_here less ∙ sym (index_first (had at q) new y less)
        by_low (inr more) =
            let split : length (had at q) + (y - length (had at q)) ≡ y = omega arith in
            new_there (address_on q i) refl s y goes_here more inside_here ∙ sym (index_later (had at q) new (y - length (had at q)))
            ∙ ap (slice_index (had at q ++ new)) split

    pub placed_more : Placed after next
    placed_more =
        record {
          few = λ a j p is. few_next a j p is (cases_eq a at) (same_queue_or p q);
          there = λ a j p s y is goes inside. there_next a j p s y is goes inside (cases_eq a at) (same_queue_or p q);
        }
