-- Lines by their numbers.
use Rattle.std.proofs.Common.{◌≡◌, ℕ, zero, suc, ◌-◌, ◌<◌, ◌≤◌, List, [], ◌++◌, length, map, refl, sym, ap, ◌∙◌, arith, ◌∷◌, append_assoc}
use Rattle.std.specs.Prelude.{slice_index_or}
use Rattle.std.specs.List.{range_with_len}
use Rattle.std.proofs.lemmas.List.{get_or_append_left, get_or-append_right, get_or-map}
use Rattle.std.proofs.lemmas.List.FromFn.{get_or-map-range_with_len, length-map-range_with_len}
use Rattle.fifo_model.specs.declared.Queue.{Queue}
use Rattle.fifo_model.specs.declared.Queue.TheVariants.{One}
use Rattle.pixel_layout.specs.declared.Parity.{Parity}
use Rattle.capture_desc.specs.declared.desc.Desc.{Desc}
use Rattle.picture_model.specs.Described.{both, field_height, picture_row, rows_of, vbi_skip}
use Rattle.check_model.specs.declared.Line.{Line}
use Rattle.check_model.specs.declared.Line.TheVariants.{SkippedVbi, Vbi, Skipped, Row}
use Rattle.check_model.specs.Lines.{lines_on, picture_lines, vbi_lines_from}

-- numbers that are named, and then others
first_at : (f : ℕ → Line) (n k : ℕ) (rest : List Line) (d : Line) → k < n → slice_index_or (map f (range_with_len 0 n) ++ rest) k d ≡ f k
first_at f n k rest d lt =
    let long = length-map-range_with_len f 0 n in
    get_or_append_left (map f (range_with_len 0 n)) rest d k (omega arith) ∙ get_or-map-range_with_len f 0 n k k d lt (omega arith)

later_at : (f : ℕ → Line) (n k : ℕ) (rest : List Line) (d : Line) → n ≤ k →
    slice_index_or (map f (range_with_len 0 n) ++ rest) k d ≡ slice_index_or rest (k - n) d
later_at f n k rest d le = get_or-append_right (map f (range_with_len 0 n)) rest n k d (length-map-range_with_len f 0 n) le

beyond : {A : Type 0} (xs : List A) (k : ℕ) (d : A) → length xs ≤ k → slice_index_or xs k d ≡ d
beyond [] zero d le = refl
beyond [] (suc k) d le = refl
beyond (x ∷ xs) zero d le = absurd (omega arith)
beyond (x ∷ xs) (suc k) d le = beyond xs k d (omega arith)

named_long : (f : ℕ → Line) (xs : List ℕ) → length (map f xs) ≡ length xs
named_long f [] = refl
named_long f (x ∷ xs) = ap suc (named_long f xs)

module _ (d e : Desc) (same : e ≡ d) (field : Parity) (k s : ℕ) (skips : s ≡ e.skip_lines) where
  skips_d : s ≡ d.skip_lines
  skips_d = skips ∙ ap (λ (d : Desc). d.skip_lines) same

  pub skipped_at : k < s → Skipped k ≡ slice_index_or (picture_lines d field) k (Row 0)
  skipped_at lt = let is = skips_d in sym (first_at Skipped d.skip_lines k (map Row (rows_of d field)) (Row 0) (omega arith))

  rows_at : s ≤ k → slice_index_or (picture_lines d field) k (Row 0) ≡ slice_index_or (map Row (rows_of d field)) (k - s) (Row 0)
  rows_at le =
      let is = skips_d in
      later_at Skipped d.skip_lines k (map Row (rows_of d field)) (Row 0) (omega arith)
      ∙ ap (λ (n : ℕ). slice_index_or (map Row (rows_of d field)) (k - n) (Row 0)) (sym is)

  pub row_at : s ≤ k → k - s < field_height e field →
      Row (picture_row (both e) field (k - s)) ≡ slice_index_or (picture_lines d field) k (Row 0)
  row_at le lt =
      let high : field_height e field ≡ field_height d field = ap (λ (d : Desc). field_height d field) same in
      let long = length-map-range_with_len (picture_row (both d) field) 0 (field_height d field) in
      sym (rows_at le
      ∙ get_or-map Row (rows_of d field) (k - s) 0 (Row 0) (omega arith)
      ∙ ap Row
      (get_or-map-range_with_len (picture_row (both d) field) 0 (field_height d field) (k - s) (k - s) 0 (omega arith) (omega arith))
      ∙ ap (λ (d : Desc). Row (picture_row (both d) field (k - s))) (sym same))

  pub no_row_at : s ≤ k → field_height e field ≤ k - s → Row 0 ≡ slice_index_or (picture_lines d field) k (Row 0)
  no_row_at le high_le =
      let high : field_height e field ≡ field_height d field = ap (λ (d : Desc). field_height d field) same in
      let long = length-map-range_with_len (picture_row (both d) field) 0 (field_height d field) in
      let rows : length (map Row (rows_of d field)) ≡ length (rows_of d field) = named_long Row (rows_of d field) in
      sym (rows_at le ∙ beyond (map Row (rows_of d field)) (k - s) (Row 0) (omega arith))

-- the lines of queue 1 where there are VBI lines
module _ (d e : Desc) (same : e ≡ d) (field : Parity) (q : Queue) (one : q ≡ One) (k s n : ℕ) (skips : s ≡ vbi_skip e field)
    (lines : n ≡ e.vbi_lines) (some : 0 < n) where
  skip_d : s ≡ vbi_skip d field
  skip_d = skips ∙ ap (λ (d : Desc). vbi_skip d field) same

  lines_d : n ≡ d.vbi_lines
  lines_d = lines ∙ ap (λ (d : Desc). d.vbi_lines) same

  from : (m : ℕ) → 0 < m → vbi_lines_from m d field ≡ map SkippedVbi (range_with_len 0 (vbi_skip d field)) ++ map Vbi (range_with_len 0 m)
  from zero lt = absurd (omega arith)
  from (suc m) lt = refl

  on_one : lines_on q d field ≡ (map SkippedVbi (range_with_len 0 s) ++ map Vbi (range_with_len 0 n)) ++ picture_lines d field
  on_one =
      let is = lines_d in
      ap (λ (q : Queue). lines_on q d field) one ∙ ap (λ (vbi : List Line). vbi ++ picture_lines d field) (from d.vbi_lines (omega arith))
      ∙ ap (λ (s : ℕ). (map SkippedVbi (range_with_len 0 s) ++ map Vbi (range_with_len 0 d.vbi_lines)) ++ picture_lines d field)
      (sym skip_d)
      ∙ ap (λ (n : ℕ). (map SkippedVbi (range_with_len 0 s) ++ map Vbi (range_with_len 0 n)) ++ picture_lines d field) (sym lines_d)

  in_order : slice_index_or (lines_on q d field) k (Row 0)
      ≡ slice_index_or (map SkippedVbi (range_with_len 0 s) ++ (map Vbi (range_with_len 0 n) ++ picture_lines d field)) k (Row 0)
  in_order =
      ap (λ (lines : List Line). slice_index_or lines k (Row 0))
      (on_one ∙ append_assoc (map SkippedVbi (range_with_len 0 s)) (map Vbi (range_with_len 0 n)) (picture_lines d field))

  pub skipped_vbi_at : k < s → SkippedVbi k ≡ slice_index_or (lines_on q d field) k (Row 0)
  skipped_vbi_at lt = sym (in_order ∙ first_at SkippedVbi s k _ (Row 0) lt)

  pub vbi_at : s ≤ k → k - s < n → Vbi (k - s) ≡ slice_index_or (lines_on q d field) k (Row 0)
  vbi_at le lt = sym (in_order ∙ later_at SkippedVbi s k _ (Row 0) le ∙ first_at Vbi n (k - s) _ (Row 0) lt)

  pub picture_at : s ≤ k → n ≤ k - s →
      slice_index_or (picture_lines d field) (k - s - n) (Row 0) ≡ slice_index_or (lines_on q d field) k (Row 0)
  picture_at le ge = sym (in_order ∙ later_at SkippedVbi s k _ (Row 0) le ∙ later_at Vbi n (k - s) _ (Row 0) ge)
