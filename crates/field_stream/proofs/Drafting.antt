-- Pushes that are drafted one after the other.
use Rattle.std.proofs.Common.{◌≡◌, ℕ, zero, suc, ◌+◌, List, [], ◌∷◌, ◌++◌, map, refl, sym, ap, ◌∙◌, arith, add-one}
use Rattle.std.proofs.lemmas.List.{append-nil}
use Rattle.std.proofs.lemmas.List.Concat.{flat_map-append}
use Rattle.std.proofs.lemmas.List.FromFn.{map-range_with_len_more}
use Rattle.std.specs.List.{flat_map, range_with_len}
use Rattle.field_stream.specs.Pushes.{Push}
use Rattle.field_stream.specs.Drafts.{Drafted, pushed, pushed_all}

pub pushed_all-append : (a b : List Push) (d : Drafted) → pushed_all (a ++ b) d ≡ pushed_all b (pushed_all a d)
pushed_all-append [] b d = refl
pushed_all-append (push ∷ a) b d = pushed_all-append a b (pushed push d)

-- a range that is one longer
range_more : (from n k : ℕ) → from + n ≡ k → range_with_len from (suc n) ≡ range_with_len from n ++ k ∷ []
range_more from zero k e = ap (λ (x : ℕ). x ∷ []) (let same : from ≡ k = omega arith in same)
range_more from (suc n) k e = ap (λ (xs : List ℕ). from ∷ xs) (range_more (from + 1) n k (omega arith))

range_next : (n : ℕ) → range_with_len 0 (n + 1) ≡ range_with_len 0 n ++ n ∷ []
range_next n = ap (range_with_len 0) (add-one n) ∙ range_more 0 n n (omega arith)

pub map_more : (f : ℕ → Push) (n : ℕ) (d e : Drafted) → d ≡ pushed_all (map f (range_with_len 0 n)) e →
    pushed (f n) d ≡ pushed_all (map f (range_with_len 0 (n + 1))) e
map_more f n d e is =
    ap (pushed (f n)) is
    ∙ sym (pushed_all-append (map f (range_with_len 0 n)) (f n ∷ []) e)
    ∙ ap (λ (ps : List Push). pushed_all ps e) (sym (map-range_with_len_more f 0 n n (omega arith)))

pub flat_map_more : (f : ℕ → List Push) (n : ℕ) (d e : Drafted) → d ≡ pushed_all (flat_map f (range_with_len 0 n)) e →
    pushed_all (f n) d ≡ pushed_all (flat_map f (range_with_len 0 (n + 1))) e
flat_map_more f n d e is =
    ap (pushed_all (f n)) is
    ∙ sym (pushed_all-append (flat_map f (range_with_len 0 n)) (f n) e)
    ∙ ap (λ (ps : List Push). pushed_all ps e) (sym (ap (flat_map f) (range_next n) ∙ flat_map-append f (range_with_len 0 n) (n ∷ [])
    ∙ ap (λ (ps : List Push). flat_map f (range_with_len 0 n) ++ ps) (append-nil (f n))))
