-- Rows in which every place holds a value.
use Rattle.std.proofs.Common.{◌≡◌, ℕ, zero, suc, ◌+◌, ◌<◌, List, [], ◌∷◌, ◌++◌, length, get_or, take, drop, replicate, map, refl, sym, ap}
use Rattle.std.proofs.Common.{◌∙◌, arith, Option, Some, None}
use Rattle.std.proofs.Math.ListN.{length-set, set}
use Rattle.std.proofs.lemmas.List.{length-map, take-map, drop-map, map-set, get_or-map, replicate-append-replicate, take_more_set, take_all}
use Rattle.page_ram.specs.Row.{somes, AreFilled}
use Rattle.page_ram.specs.Extents.{set_run}

module _ {X : Type 0} where
  pub somes-map : (xs : List X) → somes (map Some xs) ≡ xs
  somes-map [] = refl
  somes-map (x ∷ xs) = ap (λ (ys : List X). x ∷ ys) (somes-map xs)

  pub same_values : (xs ys : List X) → map Some xs ≡ map Some ys → xs ≡ ys
  same_values xs ys same = sym (somes-map xs) ∙ ap somes same ∙ somes-map ys

  pub AreFilled-map : (cs : List (Option X)) (xs : List X) → cs ≡ map Some xs → AreFilled cs × (somes cs ≡ xs)
  AreFilled-map cs xs same =
      let values : somes cs ≡ xs = ap somes same ∙ somes-map xs in
      (same ∙ sym (ap (map Some) values), values)

  pub length_filled : (cs : List (Option X)) → AreFilled cs → length cs ≡ length (somes cs)
  length_filled cs filled = ap length filled ∙ length-map (somes cs) Some

  pub filled_at : (cs : List (Option X)) (i : ℕ) (d : X) → AreFilled cs → i < length (somes cs) →
      get_or cs i None ≡ Some (get_or (somes cs) i d)
  filled_at cs i d filled within =
      ap (λ (l : List (Option X)). get_or l i None) filled ∙ get_or-map Some (somes cs) i d None within

  pub filled_set : (cs : List (Option X)) (i : ℕ) (x : X) → AreFilled cs → set cs i (Some x) ≡ map Some (set (somes cs) i x)
  filled_set cs i x filled =
      ap (λ (l : List (Option X)). set l i (Some x)) filled ∙ sym (map-set Some (somes cs) i x)

  pub filled_set_run : (cs : List (Option X)) (i : ℕ) (xs : List X) → AreFilled cs →
      set_run cs i (map Some xs) ≡ map Some (set_run (somes cs) i xs)
  filled_set_run cs i [] filled = filled
  filled_set_run cs i (x ∷ xs) filled =
      let parts = AreFilled-map (set cs i (Some x)) (set (somes cs) i x) (filled_set cs i x filled) in
      filled_set_run (set cs i (Some x)) (i + 1) xs parts.0
      ∙ ap (λ (values : List X). map Some (set_run values (i + 1) xs)) parts.1

  pub length-set_run : (old : List X) (i : ℕ) (xs : List X) → length (set_run old i xs) ≡ length old
  length-set_run old i [] = refl
  length-set_run old i (x ∷ xs) = length-set_run (set old i x) (i + 1) xs ∙ length-set old i x

  pub filled_run : (cs : List (Option X)) (from len : ℕ) → AreFilled cs →
      take len (drop from cs) ≡ map Some (take len (drop from (somes cs)))
  filled_run cs from len filled =
      ap (λ (l : List (Option X)). take len (drop from l)) filled
      ∙ ap (take len) (drop-map Some from (somes cs)) ∙ take-map Some len (drop from (somes cs))

  map-replicate : (n : ℕ) (x : X) → map Some (replicate n x) ≡ replicate n (Some x)
  map-replicate zero x = refl
  map-replicate (suc n) x = ap (λ (cs : List (Option X)). Some x ∷ cs) (map-replicate n x)

  -- one more place gets the value
  pub one_more : (cs : List (Option X)) (i : ℕ) (x : X) → i < length cs → take i cs ≡ replicate i (Some x) →
      take (i + 1) (set cs i (Some x)) ≡ replicate (i + 1) (Some x)
  one_more cs i x within before =
      take_more_set cs i (Some x) within ∙ ap (λ (l : List (Option X)). l ++ Some x ∷ []) before
      ∙ replicate-append-replicate i 1 (Some x)

  pub all_filled : (cs : List (Option X)) (n i : ℕ) (x : X) → length cs ≡ n → i ≡ n → take i cs ≡ replicate i (Some x) →
      AreFilled cs × (somes cs ≡ replicate n x)
  all_filled cs n i x long end all =
      AreFilled-map cs (replicate n x)
      (sym (take_all i cs (omega arith)) ∙ all ∙ ap (λ (k : ℕ). replicate k (Some x)) end ∙ sym (map-replicate n x))
