-- The words of a pc and an INT_STAT.
use Rattle.std.proofs.Common.{◌≡◌, ℕ, List, [], ◌∷◌, ◌++◌, length, codes, refl, sym, ap, ap₂, subst, ◌∙◌, arith, append_assoc}
use Rattle.std.proofs.lemmas.List.{append-nil}
use Rattle.std.proofs.lemmas.Str.{IsUtf8-append, IsUtf8-from_ascii}
use Rattle.std.proofs.lemmas.Str.Ascii.{IsAscii-cons, IsAscii-nil}
use Rattle.std.specs.Prelude.{slice_index_or}
use Rattle.std.specs.Str.{IsUtf8}
use Rattle.risc_listing.specs.Lines.{at_text}
use Rattle.turn_trace.specs.Kept.{kept_words}

-- the numbers of a state begin with them
pub kept-first : (pc int_stat : ℕ) (rest : List ℕ) →
    kept_words pc int_stat ++ rest ≡ codes " |" ++ (at_text pc ++ (at_text int_stat ++ rest))
kept-first pc int_stat rest = ap (λ (list : List ℕ). codes " |" ++ list) (append_assoc (at_text pc) (at_text int_stat) rest)

-- the numbers of a state and the end of their line, one behind the other
pub numbers-end : (at bits one two three moved end : List ℕ) →
    codes " |" ++ (at ++ (bits ++ (one ++ (two ++ (three ++ (moved ++ end))))))
    ≡ (codes " |" ++ (at ++ (bits ++ (one ++ (two ++ (three ++ moved)))))) ++ end
numbers-end at bits one two three moved end = simp append_assoc

-- three levels and what comes behind them
pub levels-first : (one two three last : List ℕ) → (one ++ (two ++ three)) ++ last ≡ one ++ (two ++ (three ++ last))
levels-first one two three last = append_assoc one (two ++ three) last ∙ ap (λ (list : List ℕ). one ++ list) (append_assoc two three last)

-- nine bytes, one by one
pub nine : (bytes rest : List ℕ) → length bytes ≡ 9 →
    slice_index_or bytes 0 0 ∷ slice_index_or bytes 1 0 ∷ slice_index_or bytes 2 0 ∷ slice_index_or bytes 3 0 ∷ slice_index_or bytes 4 0
    ∷ slice_index_or bytes 5 0 ∷ slice_index_or bytes 6 0 ∷ slice_index_or bytes 7 0 ∷ slice_index_or bytes 8 0 ∷ rest ≡ bytes ++ rest
nine (a ∷ b ∷ c ∷ d ∷ e ∷ f ∷ g ∷ h ∷ i ∷ []) rest is = refl
nine [] rest is = absurd (omega arith)
nine (_ ∷ []) rest is = absurd (omega arith)
nine (_ ∷ _ ∷ []) rest is = absurd (omega arith)
nine (_ ∷ _ ∷ _ ∷ []) rest is = absurd (omega arith)
nine (_ ∷ _ ∷ _ ∷ _ ∷ []) rest is = absurd (omega arith)
nine (_ ∷ _ ∷ _ ∷ _ ∷ _ ∷ []) rest is = absurd (omega arith)
nine (_ ∷ _ ∷ _ ∷ _ ∷ _ ∷ _ ∷ []) rest is = absurd (omega arith)
nine (_ ∷ _ ∷ _ ∷ _ ∷ _ ∷ _ ∷ _ ∷ []) rest is = absurd (omega arith)
nine (_ ∷ _ ∷ _ ∷ _ ∷ _ ∷ _ ∷ _ ∷ _ ∷ []) rest is = absurd (omega arith)
nine (_ ∷ _ ∷ _ ∷ _ ∷ _ ∷ _ ∷ _ ∷ _ ∷ _ ∷ x ∷ more) rest is = absurd (omega arith)

-- the twenty bytes of them, one by one
abbrev pub spelled : List ℕ → List ℕ → List ℕ
spelled at bits =
    32 ∷ 124 ∷ slice_index_or at 0 0 ∷ slice_index_or at 1 0 ∷ slice_index_or at 2 0 ∷ slice_index_or at 3 0 ∷ slice_index_or at 4 0
    ∷ slice_index_or at 5 0 ∷ slice_index_or at 6 0 ∷ slice_index_or at 7 0 ∷ slice_index_or at 8 0
    ∷ slice_index_or bits 0 0 ∷ slice_index_or bits 1 0 ∷ slice_index_or bits 2 0 ∷ slice_index_or bits 3 0 ∷ slice_index_or bits 4 0
    ∷ slice_index_or bits 5 0 ∷ slice_index_or bits 6 0 ∷ slice_index_or bits 7 0 ∷ slice_index_or bits 8 0 ∷ []

pub spelled-words : (at bits : List ℕ) → length at ≡ 9 → length bits ≡ 9 → spelled at bits ≡ codes " |" ++ (at ++ bits)
spelled-words at bits one two =
    ap (λ (list : List ℕ). 32 ∷ 124 ∷ list)
    (nine at _ one ∙ ap (λ (list : List ℕ). at ++ list) (nine bits [] two ∙ append-nil bits))

pub spelled-kept : (pc int_stat : ℕ) (at bits : List ℕ) → length at ≡ 9 → length bits ≡ 9 → at ≡ at_text pc → bits ≡ at_text int_stat →
    IsUtf8 at → IsUtf8 bits →
    (spelled at bits ≡ kept_words pc int_stat) × IsUtf8 (spelled at bits)
spelled-kept pc int_stat at bits one two at_is bits_is at_utf8 bits_utf8 = (
  spelled-words at bits one two ∙ ap₂ (λ (a b : List ℕ). codes " |" ++ (a ++ b)) at_is bits_is,
  subst IsUtf8 (sym (spelled-words at bits one two))
      (IsUtf8-append (codes " |") (at ++ bits)
      (IsUtf8-from_ascii (codes " |") (IsAscii-cons 32 (124 ∷ []) (omega arith) (IsAscii-cons 124 [] (omega arith) IsAscii-nil)))
      (IsUtf8-append at bits at_utf8 bits_utf8)),
)
