-- Pieces of lines, byte by byte.
use Rattle.std.proofs.Common.{◌≡◌, ℕ, ◌+◌, ◌/◌, ◌%◌, ◌<◌, ◌≤◌, List, [], ◌∷◌, ◌++◌, length, codes, sym, ap, ap₂, subst, ◌∙◌, arith}
use Rattle.std.proofs.lemmas.Fmt.{decimal_digit}
use Rattle.std.proofs.lemmas.List.{append-nil}
use Rattle.std.proofs.lemmas.Str.{IsUtf8-append, IsUtf8-from_ascii}
use Rattle.std.proofs.lemmas.Str.Ascii.{IsAscii-cons, IsAscii-nil}
use Rattle.std.specs.Prelude.{slice_index_or}
use Rattle.std.specs.Str.{IsUtf8}
use Rattle.fifo_model.specs.declared.Queue.{Queue}
use Rattle.risc_listing.specs.Lines.{at_text, count_text, line_end}
use Rattle.risc_listing.proofs.Decimal.{count_text-IsUtf8, two_digits}
use Rattle.turn_trace.specs.Traces.{moved_words, queue_name}
use Rattle.turn_trace.proofs.KeptWords.{nine}

-- a letter before a text
letter : (b : ℕ) (rest : List ℕ) → b < 128 → IsUtf8 rest → IsUtf8 (b ∷ rest)
letter b rest small utf8 = IsUtf8-append (b ∷ []) rest (IsUtf8-from_ascii (b ∷ []) (IsAscii-cons b [] small IsAscii-nil)) utf8

-- ---- a push of four pixel bytes

abbrev pub pixels : ℕ → List ℕ → List ℕ
pixels digit at = 112 ∷ 117 ∷ 115 ∷ 104 ∷ 32 ∷ digit ∷ 32 ∷ 112 ∷ 120 ∷ 118 ∷ at

pub pixels-words : (q : Queue) (digit dword : ℕ) (at : List ℕ) → at ≡ at_text dword → queue_name q ≡ digit ∷ [] →
    pixels digit at ≡ codes "push " ++ (queue_name q ++ (codes " " ++ (codes "pxv" ++ at_text dword)))
pixels-words q digit dword at at_is name_is =
    ap (pixels digit) at_is ∙ ap (λ (name : List ℕ). codes "push " ++ (name ++ (codes " " ++ (codes "pxv" ++ at_text dword)))) (sym name_is)

pub pixels-IsUtf8 : (digit : ℕ) (at : List ℕ) → digit < 128 → IsUtf8 at → IsUtf8 (pixels digit at)
pixels-IsUtf8 digit at small utf8 =
    let v : IsUtf8 (118 ∷ at) = letter 118 at (omega arith) utf8 in
    let xv : IsUtf8 (120 ∷ 118 ∷ at) = letter 120 (118 ∷ at) (omega arith) v in
    let pxv : IsUtf8 (112 ∷ 120 ∷ 118 ∷ at) = letter 112 (120 ∷ 118 ∷ at) (omega arith) xv in
    let behind : List ℕ = 32 ∷ 112 ∷ 120 ∷ 118 ∷ at in
    let named : IsUtf8 (digit ∷ behind) = letter digit behind small (letter 32 (112 ∷ 120 ∷ 118 ∷ at) (omega arith) pxv) in
    letter 112 (117 ∷ 115 ∷ 104 ∷ 32 ∷ digit ∷ behind) (omega arith)
    (letter 117 (115 ∷ 104 ∷ 32 ∷ digit ∷ behind) (omega arith)
    (letter 115 (104 ∷ 32 ∷ digit ∷ behind) (omega arith)
    (letter 104 (32 ∷ digit ∷ behind) (omega arith) (letter 32 (digit ∷ behind) (omega arith) named))))

-- the nine bytes of an address one by one
abbrev pub one_by_one : List ℕ → List ℕ → List ℕ
one_by_one at rest =
    slice_index_or at 0 0 ∷ slice_index_or at 1 0 ∷ slice_index_or at 2 0 ∷ slice_index_or at 3 0 ∷ slice_index_or at 4 0
    ∷ slice_index_or at 5 0 ∷ slice_index_or at 6 0 ∷ slice_index_or at 7 0 ∷ slice_index_or at 8 0 ∷ rest

pub spelled-pixels : (digit : ℕ) (at : List ℕ) → length at ≡ 9 → pixels digit (one_by_one at []) ≡ pixels digit at
spelled-pixels digit at long = ap (pixels digit) (nine at [] long ∙ append-nil at)

-- ---- a burst

abbrev pub burst : ℕ → ℕ → List ℕ
burst digit taken = 32 ∷ 109 ∷ 111 ∷ 118 ∷ 101 ∷ 32 ∷ digit ∷ 32 ∷ (48 + taken) ∷ []

pub burst-words : (q : Queue) (digit taken : ℕ) → taken < 10 → queue_name q ≡ digit ∷ [] →
    burst digit taken ≡ codes " " ++ moved_words q taken
burst-words q digit taken small name_is =
    ap (λ (numeral : List ℕ). codes " " ++ (codes "move " ++ (digit ∷ 32 ∷ numeral))) (sym (decimal_digit taken small))
    ∙ ap (λ (name : List ℕ). codes " " ++ (codes "move " ++ (name ++ count_text taken))) (sym name_is)

burst-IsUtf8 : (digit taken : ℕ) → digit < 128 → taken < 10 → IsUtf8 (burst digit taken)
burst-IsUtf8 digit taken small few =
    IsUtf8-from_ascii (burst digit taken)
    (IsAscii-cons 32 (109 ∷ 111 ∷ 118 ∷ 101 ∷ 32 ∷ digit ∷ 32 ∷ (48 + taken) ∷ []) (omega arith)
    (IsAscii-cons 109 (111 ∷ 118 ∷ 101 ∷ 32 ∷ digit ∷ 32 ∷ (48 + taken) ∷ []) (omega arith)
    (IsAscii-cons 111 (118 ∷ 101 ∷ 32 ∷ digit ∷ 32 ∷ (48 + taken) ∷ []) (omega arith)
    (IsAscii-cons 118 (101 ∷ 32 ∷ digit ∷ 32 ∷ (48 + taken) ∷ []) (omega arith)
    (IsAscii-cons 101 (32 ∷ digit ∷ 32 ∷ (48 + taken) ∷ []) (omega arith)
    (IsAscii-cons 32 (digit ∷ 32 ∷ (48 + taken) ∷ []) (omega arith)
    (IsAscii-cons digit (32 ∷ (48 + taken) ∷ []) small
    (IsAscii-cons 32 ((48 + taken) ∷ []) (omega arith) (IsAscii-cons (48 + taken) [] (omega arith) IsAscii-nil)))))))))

pub burst_of : (q : Queue) (digit taken address : ℕ) (at : List ℕ) → length at ≡ 9 → at ≡ at_text address → IsUtf8 at →
    queue_name q ≡ digit ∷ [] → digit < 128 → taken < 10 →
    (one_by_one at (burst digit taken) ≡ at_text address ++ (codes " " ++ moved_words q taken)) × IsUtf8 (one_by_one at (burst digit taken))
burst_of q digit taken address at long at_is utf8 name_is small few = (
  nine at (burst digit taken) long ∙ ap₂ (λ (a b : List ℕ). a ++ b) at_is (burst-words q digit taken few name_is),
  subst IsUtf8 (sym (nine at (burst digit taken) long)) (IsUtf8-append at (burst digit taken) utf8 (burst-IsUtf8 digit taken small few)),
)

-- ---- turns of which nothing was seen

abbrev pub still_bytes : ℕ → List ℕ
still_bytes n = 115 ∷ 116 ∷ 105 ∷ 108 ∷ 108 ∷ 32 ∷ (48 + n / 10) ∷ (48 + n % 10) ∷ 10 ∷ []

pub still-words : (n : ℕ) → 10 ≤ n → n < 100 → still_bytes n ≡ codes "still" ++ (count_text n ++ line_end)
still-words n low high = ap (λ (numeral : List ℕ). codes "still" ++ ((codes " " ++ numeral) ++ line_end)) (sym (two_digits n low high))

pub still-IsUtf8 : (n : ℕ) → n < 100 → IsUtf8 (codes "still" ++ (count_text n ++ line_end))
still-IsUtf8 n small =
    IsUtf8-append (codes "still") (count_text n ++ line_end)
    (IsUtf8-from_ascii (codes "still")
    (IsAscii-cons 115 (116 ∷ 105 ∷ 108 ∷ 108 ∷ []) (omega arith)
    (IsAscii-cons 116 (105 ∷ 108 ∷ 108 ∷ []) (omega arith)
    (IsAscii-cons 105 (108 ∷ 108 ∷ []) (omega arith)
    (IsAscii-cons 108 (108 ∷ []) (omega arith) (IsAscii-cons 108 [] (omega arith) IsAscii-nil))))))
    (IsUtf8-append (count_text n) line_end (count_text-IsUtf8 n (omega arith))
    (IsUtf8-from_ascii line_end (IsAscii-cons 10 [] (omega arith) IsAscii-nil)))

-- ---- three numbers of one digit

pub three-IsUtf8 : (one two three : ℕ) → one < 10 → two < 10 → three < 10 → IsUtf8 (count_text one ++ (count_text two ++ count_text three))
three-IsUtf8 one two three a b c =
    IsUtf8-append (count_text one) (count_text two ++ count_text three) (count_text-IsUtf8 one (omega arith))
    (IsUtf8-append (count_text two) (count_text three) (count_text-IsUtf8 two (omega arith)) (count_text-IsUtf8 three (omega arith)))

pub three-digits : (one two three : ℕ) → one < 10 → two < 10 → three < 10 →
    32 ∷ (48 + one) ∷ 32 ∷ (48 + two) ∷ 32 ∷ (48 + three) ∷ [] ≡ count_text one ++ (count_text two ++ count_text three)
three-digits one two three a b c =
    ap (λ (numeral : List ℕ). (codes " " ++ numeral) ++ (32 ∷ (48 + two) ∷ 32 ∷ (48 + three) ∷ [])) (sym (decimal_digit one a))
    ∙ ap (λ (numeral : List ℕ). count_text one ++ ((codes " " ++ numeral) ++ (32 ∷ (48 + three) ∷ []))) (sym (decimal_digit two b))
    ∙ ap (λ (numeral : List ℕ). count_text one ++ (count_text two ++ (codes " " ++ numeral))) (sym (decimal_digit three c))
