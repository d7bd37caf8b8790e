-- The lines of words and of chunks, one after the other.
use Rattle.std.proofs.Common.{◌≡◌, ℕ, zero, suc, ◌+◌, ◌-◌, ◌*◌, ◌≤◌, List, [], ◌∷◌, ◌++◌, length, drop, refl, sym, ap, ◌∙◌, arith}
use Rattle.std.proofs.Common.{append_assoc}
use Rattle.std.proofs.lemmas.List.{append-nil, drop-drop, drop_all}
use Rattle.std.specs.Prelude.{slice_index}
use Rattle.risc_listing.specs.Listings.{line_of, spelled, word_lines, words_of}

-- words that are passed over
pub word_lines-skip : (at skip : ℕ) (words : List ℕ) → word_lines at skip words ≡ word_lines (at + 4 * skip) 0 (drop skip words)
unfolding word_lines
word_lines-skip at zero [] = refl
word_lines-skip at (suc skip) [] = refl
word_lines-skip at zero (word ∷ rest) = ap (λ (n : ℕ). word_lines n 0 (word ∷ rest)) (let e : at ≡ at + 4 * 0 = omega arith in e)
word_lines-skip at (suc skip) (_ ∷ rest) =
    word_lines-skip (at + 4) skip rest
    ∙ ap (λ (n : ℕ). word_lines n 0 (drop skip rest)) (let e : at + 4 + 4 * skip ≡ at + 4 * suc skip = omega arith in e)

pass : (at number word : ℕ) (rest : List ℕ) → 1 ≤ number →
    word_lines (at + 4) (number - 1) rest ≡ word_lines (at + 4 * number) 0 (drop number (word ∷ rest))
pass at zero word rest some = absurd (omega arith)
pass at (suc number) word rest some =
    let less : suc number - 1 ≡ number = omega arith in
    let on : at + 4 + 4 * number ≡ at + 4 * suc number = omega arith in
    ap (λ (n : ℕ). word_lines (at + 4) n rest) less
    ∙ word_lines-skip (at + 4) number rest
    ∙ ap (λ (n : ℕ). word_lines n 0 (drop number rest)) on

-- the line of the words at the front, and those after it
pub word_lines-front : (at : ℕ) (words : List ℕ) → 1 ≤ length words → 1 ≤ words_of (spelled words) →
    word_lines at 0 words ≡ line_of at (slice_index words 0) (spelled words)
    ++ word_lines (at + 4 * words_of (spelled words)) 0 (drop (words_of (spelled words)) words)
unfolding word_lines
word_lines-front at [] one some = absurd (omega arith)
word_lines-front at (word ∷ rest) one some =
    ap (λ (after : List ℕ). line_of at word (spelled (word ∷ rest)) ++ after) (pass at (words_of (spelled (word ∷ rest))) word rest some)

-- the same from a word of a list on
next_line : (base i number : ℕ) (words rest : List ℕ) → rest ≡ drop i words → 1 ≤ length rest → number ≡ words_of (spelled rest) →
    1 ≤ number →
    word_lines (base + 4 * i) 0 (drop i words)
    ≡ line_of (base + 4 * i) (slice_index rest 0) (spelled rest) ++ word_lines (base + 4 * (i + number)) 0 (drop (i + number) words)
next_line base i number words rest is one same some =
    let on : base + 4 * i + 4 * number ≡ base + 4 * (i + number) = omega arith in
    let left : drop number rest ≡ drop (i + number) words = ap (drop number) is ∙ drop-drop number i words in
    let front : word_lines (base + 4 * i) 0 rest
    ≡ line_of (base + 4 * i) (slice_index rest 0) (spelled rest) ++ word_lines (base + 4 * i + 4 * number) 0 (drop number rest) =
    rw same (word_lines-front (base + 4 * i) rest one (rw same at some))
    in
    ap (λ (list : List ℕ). word_lines (base + 4 * i) 0 list) (sym is)
    ∙ front
    ∙ ap (λ (n : ℕ). line_of (base + 4 * i) (slice_index rest 0) (spelled rest) ++ word_lines n 0 (drop number rest)) on
    ∙ ap (λ (list : List ℕ). line_of (base + 4 * i) (slice_index rest 0) (spelled rest) ++ word_lines (base + 4 * (i + number)) 0 list) left

-- a text goes on by a line
pub lines_more : (base i number : ℕ) (words rest before now whole : List ℕ) → rest ≡ drop i words → 1 ≤ length rest →
    number ≡ words_of (spelled rest) → 1 ≤ number →
    now ≡ before ++ line_of (base + 4 * i) (slice_index rest 0) (spelled rest) →
    before ++ word_lines (base + 4 * i) 0 (drop i words) ≡ whole →
    now ++ word_lines (base + 4 * (i + number)) 0 (drop (i + number) words) ≡ whole
lines_more base i number words rest before now whole is one same some appended so_far =
    ap (λ (text : List ℕ). text ++ word_lines (base + 4 * (i + number)) 0 (drop (i + number) words)) appended
    ∙ append_assoc before (line_of (base + 4 * i) (slice_index rest 0) (spelled rest))
    (word_lines (base + 4 * (i + number)) 0 (drop (i + number) words))
    ∙ sym (ap (λ (lines : List ℕ). before ++ lines) (next_line base i number words rest is one same some))
    ∙ so_far

-- after the last word there is no line
pub lines_end : (at i : ℕ) (words text whole : List ℕ) → length words ≤ i → text ++ word_lines at 0 (drop i words) ≡ whole → text ≡ whole
unfolding word_lines
lines_end at i words text whole past so_far =
    sym (append-nil text)
    ∙ sym (ap (λ (list : List ℕ). text ++ word_lines at 0 list) (drop_all i words past))
    ∙ so_far
