-- The chroma of a line: what follows its entries of luma is its entries of chroma, one index after another.
use Rattle.std.proofs.Common.{◌≡◌, ℕ, zero, suc, ◌+◌, ◌-◌, ◌*◌, ◌/◌, ◌%◌, ◌≤◌, ◌<◌, List, [], ◌∷◌, ◌++◌, sym, ap, ◌∙◌, arith, ⊎_elim}
use Rattle.std.proofs.Common.{eq-eqb}
use Rattle.std.specs.Prelude.{◌==◌}
use Rattle.std.specs.List.{flat_map, range_with_len}
use Rattle.std.proofs.lemmas.Bool.{and_from, and_left, and_right, cases_eq, cases_lt, cond-false, cond-true, le-ltb, lt-ltb, ne_eqb}
use Rattle.std.proofs.lemmas.Nat.{div-add-mod', mul-le}
use Rattle.std.proofs.Math.Nat.{lt_of_mul-lt-mul_right, mul-mod_left}
use Rattle.fifo_model.specs.declared.Queue.TheVariants.{Two, Three}
use Rattle.field_stream.specs.Pushes.{Push, Fill, chroma_after, line_entries, status_at}

-- the two entries of chroma with an index
abbrev pub chroma_at : ℕ → ℕ → List Push
chroma_at chroma index = Fill Two (status_at chroma index) ∷ Fill Three (status_at chroma index) ∷ []

module _ (chroma across : ℕ) (some : 0 < across) where
  abbrev many : ℕ
  many = line_entries chroma

  -- what follows an entry of luma

  two_follow : (k : ℕ) → k % across ≡ 0 → k / across < many → chroma_after chroma across k ≡ chroma_at chroma (k / across)
  two_follow k even less = cond-true _ _ _ (and_from _ _ (eq-eqb (k % across) 0 even) (lt-ltb (k / across) many less))

  none_between : (k : ℕ) → (k % across ≡ 0 → ⊥) → chroma_after chroma across k ≡ []
  none_between k odd = cond-false _ _ _ (and_left _ _ (ne_eqb (k % across) 0 odd))

  none_left : (k : ℕ) → many ≤ k / across → chroma_after chroma across k ≡ []
  none_left k none = cond-false _ _ _ (and_right (k % across == 0) _ (le-ltb (k / across) many none))

  -- the entries of chroma from an index on
  abbrev left : ℕ → List Push
  left done = flat_map (chroma_at chroma) (range_with_len done (many - done))

  left_next : (done : ℕ) → done < many → left done ≡ chroma_at chroma done ++ left (done + 1)
  left_next done less =
      let more : many - done ≡ suc (many - (done + 1)) = omega arith in
      ap (λ (n : ℕ). flat_map (chroma_at chroma) (range_with_len done n)) more

  left_none : (done : ℕ) → many ≤ done → left done ≡ []
  left_none done none =
      let same : many - done ≡ 0 = omega arith in ap (λ (n : ℕ). flat_map (chroma_at chroma) (range_with_len done n)) same

  -- from an entry of luma on, where so many of chroma on a queue came before it and the last of luma comes after the
  -- last of chroma
  left_from : (from n done : ℕ) → from ≤ done * across → done * across < from + across → many * across < from + n + across →
      flat_map (chroma_after chroma across) (range_with_len from n) ≡ left done
  left_from from zero done low high last =
      let least : many < done + 1 = lt_of_mul-lt-mul_right across (omega (arith, low, last)) in sym (left_none done (omega (arith, least)))
  left_from from (suc n) done low high last =
      let later = flat_map (chroma_after chroma across) (range_with_len (from + 1) n) in
      ⊎_elim
      (λ even.
      let place = div-add-mod' from across in
      let above : from / across < done + 1 = lt_of_mul-lt-mul_right across (omega (arith, place, even, low, some)) in
      let below : done < from / across + 1 = lt_of_mul-lt-mul_right across (omega (arith, place, even, high)) in
      let next : (done + 1) * across ≡ done * across + across = omega arith in
      let same : from / across ≡ done = omega (arith, above, below) in
      let here : done * across ≡ from =
      ap (λ (q : ℕ). q * across) (sym same) ∙ (let whole : from / across * across ≡ from = omega (arith, place, even) in whole) in
      let more = left_from (from + 1) n (done + 1) (omega (arith, next, here, some)) (omega (arith, next, here)) (omega (arith, last)) in
      ⊎_elim
      (λ less.
      ap (λ (first : List Push). first ++ later) (two_follow from even less ∙ ap (chroma_at chroma) same)
      ∙ ap (λ (rest : List Push). chroma_at chroma done ++ rest) more ∙ sym (left_next done (omega (arith, same, less))))
      (λ none.
      ap (λ (first : List Push). first ++ later) (none_left from none) ∙ more
      ∙ left_none (done + 1) (omega (arith, same, none)) ∙ sym (left_none done (omega (arith, same, none))))
      (cases_lt (from / across) many))
      (λ odd.
      let apart : from ≡ done * across → ⊥ = λ same. odd (ap (λ (k : ℕ). k % across) same ∙ mul-mod_left done across) in
      let before : from < done * across =
      ⊎_elim (λ less. less) (λ more. absurd (apart (omega (arith, low, more)))) (cases_lt from (done * across)) in
      ap (λ (first : List Push). first ++ later) (none_between from odd)
      ∙ left_from (from + 1) n done (omega (arith, before)) (omega (arith, high)) (omega (arith, last)))
      (cases_eq (from % across) 0)

  pub line_chroma : (luma : ℕ) → luma ≡ chroma * across →
      flat_map (chroma_after chroma across) (range_with_len 0 (line_entries luma)) ≡ flat_map (chroma_at chroma) (range_with_len 0 many)
  line_chroma luma even =
      let quarter : 4 * many ≤ chroma + 3 = omega arith in
      let product = mul-le (4 * many) across (chroma + 3) across quarter (omega arith) in
      left_from 0 (line_entries luma) 0 (omega arith) (omega (arith, some)) (omega (arith, even, product, some))
      ∙ (let all : many - 0 ≡ many = omega arith in ap (λ (n : ℕ). flat_map (chroma_at chroma) (range_with_len 0 n)) all)
