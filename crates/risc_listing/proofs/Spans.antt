-- The lines of spans, one after the other.
use Rattle.std.proofs.Common.{◌≡◌, ℕ, ◌+◌, ◌^◌, ◌<◌, ◌≤◌, List, [], ◌∷◌, ◌++◌, length, drop, get_or, sym, ap, ◌∙◌, append_assoc}
use Rattle.std.specs.List.{All, flat_map}
use Rattle.std.proofs.lemmas.List.Elements.{All-cons, All-nil}
use Rattle.std.proofs.lemmas.List.{drop_more}
use Rattle.machine_model.specs.Paths.{Span, AreApart, end_of, span}
use Rattle.risc_listing.specs.Listings.{span_lines}

pub no_span : Span
no_span = span 0 []

-- a text goes on by the lines of a span
pub spans_more : (spans : List Span) (number : ℕ) (s : Span) (before now whole : List ℕ) → number < length spans →
    s ≡ get_or spans number no_span → now ≡ before ++ span_lines s →
    before ++ flat_map span_lines (drop number spans) ≡ whole → now ++ flat_map span_lines (drop (number + 1) spans) ≡ whole
spans_more spans number s before now whole inside is appended so_far =
    let rest = flat_map span_lines (drop (number + 1) spans) in
    ap (λ (text : List ℕ). text ++ rest) appended
    ∙ append_assoc before (span_lines s) rest
    ∙ ap (λ (s : Span). before ++ (span_lines s ++ rest)) is
    ∙ sym (ap (λ (spans : List Span). before ++ flat_map span_lines spans) (drop_more spans number no_span inside))
    ∙ so_far

pub spans_end : (from : ℕ) (spans : List Span) → AreApart from spans → All (λ s. end_of s ≤ 2 ^ 32) spans
spans_end from [] apart = All-nil (λ s. end_of s ≤ 2 ^ 32)
spans_end from (s ∷ rest) apart = All-cons (λ s. end_of s ≤ 2 ^ 32) s rest apart.1.ends (spans_end (end_of s + 1) rest apart.2)
