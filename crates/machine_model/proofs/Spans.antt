-- Spans that are apart: the word at an address is that of the one span that has it.
use Rattle.std.proofs.Common.{◌≡◌, ℕ, ◌+◌, ◌-◌, ◌*◌, ◌/◌, ◌%◌, ◌<◌, ◌≤◌, true, false, List, [], ◌∷◌, ◌++◌, length, Some, ap, ◌∙◌, arith}
use Rattle.std.proofs.Common.{if◌then◌else◌, ◌==◌, nat_lt, nat_le, slice_index, leb-true, lt-ltb, le-leb, eq-eqb}
use Rattle.machine_model.specs.Paths.{Span, AreApart, end_of, stands_in, word_among}
use Rattle.machine_model.proofs.BeforeTurns.{three_parts, three_from}
use Rattle.machine_model.proofs.OneSpan.{never, ge-ltb}

-- a span is behind all that come before it
pub stands_behind : (before after : List Span) (from : ℕ) (s : Span) → AreApart from (before ++ s ∷ after) → from ≤ s.at
stands_behind [] after from s apart = apart.0
stands_behind (b ∷ before) after from s apart =
    let later = stands_behind before after (end_of b + 1) s apart.2 in
    let begins = apart.0 in
    omega arith

-- an address at a span or behind it is no address of one before
pub not_in : (b : Span) (address : ℕ) → end_of b ≤ address → stands_in b address ≡ false
not_in b address h =
    never (nat_le b.at address) ((address - b.at) % 4 == 0) (nat_lt ((address - b.at) / 4) (length b.words))
    (ge-ltb ((address - b.at) / 4) (length b.words) (omega arith))

pub word_of_span : (before after : List Span) (from : ℕ) (s : Span) (address : ℕ) → AreApart from (before ++ s ∷ after) →
    stands_in s address ≡ true →
    word_among (before ++ s ∷ after) address ≡ Some (slice_index s.words ((address - s.at) / 4))
word_of_span [] after from s address apart stands =
    ap (λ stands. if stands then Some (slice_index s.words ((address - s.at) / 4)) else word_among after address) stands
word_of_span (b ∷ before) after from s address apart stands =
    let behind = stands_behind before after (end_of b + 1) s apart.2 in
    let at =
    leb-true s.at address
    (three_parts (nat_le s.at address) ((address - s.at) % 4 == 0) (nat_lt ((address - s.at) / 4) (length s.words)) stands).0 in
    ap (λ there. if there then Some (slice_index b.words ((address - b.at) / 4)) else word_among (before ++ s ∷ after) address)
    (not_in b address (omega arith))
    ∙ word_of_span before after (end_of b + 1) s address apart.2 stands

-- the address of each word of a span
pub stands_at : (s : Span) (k : ℕ) → k < length s.words → stands_in s (s.at + 4 * k) ≡ true
stands_at s k h =
    three_from (nat_le s.at (s.at + 4 * k)) ((s.at + 4 * k - s.at) % 4 == 0) (nat_lt ((s.at + 4 * k - s.at) / 4) (length s.words))
    (le-leb s.at (s.at + 4 * k) (omega arith)) (eq-eqb ((s.at + 4 * k - s.at) % 4) 0 (omega arith))
    (lt-ltb ((s.at + 4 * k - s.at) / 4) (length s.words) (omega arith))

pub word_of_span-at : (before after : List Span) (from : ℕ) (s : Span) (k : ℕ) → AreApart from (before ++ s ∷ after) → k < length s.words →
    word_among (before ++ s ∷ after) (s.at + 4 * k) ≡ Some (slice_index s.words k)
word_of_span-at before after from s k apart h =
    let number : (s.at + 4 * k - s.at) / 4 ≡ k = omega arith in
    word_of_span before after from s (s.at + 4 * k) apart (stands_at s k h) ∙ ap (λ k. Some (slice_index s.words k)) number
