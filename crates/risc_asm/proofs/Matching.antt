-- A text is compared with the lines of words, piece by piece, and with those of spans.
use Rattle.std.proofs.Common.{◌≡◌, ℕ, ◌+◌, ◌*◌, ◌<◌, ◌≤◌, true, List, [], ◌++◌, length, take, drop, get_or, refl, sym, ap, subst, ◌∙◌}
use Rattle.std.proofs.Common.{append_assoc, arith}
use Rattle.std.specs.Borrow.{Bor}
use Rattle.std.specs.Prelude.{◌==◌, Result}
use Rattle.std.specs.Cmp.Lexicographic.{pointwise}
use Rattle.std.specs.List.{flat_map}
use Rattle.std.proofs.lemmas.List.{append-nil, drop_all, drop_more}
use Rattle.machine_model.specs.Paths.{Span}
use Rattle.risc_listing.specs.Listings.{span_lines, word_lines}
use Rattle.risc_listing.proofs.Spans.{no_span}
use Rattle.risc_asm.specs.Verdicts.{Differs, WithoutLines}
use Rattle.risc_asm.proofs.Agreeing.{first_differs, piece_found, then_differs, then_lines}

pub found : (rest piece : List ℕ) → pointwise (λ one other. one == other) (take (length piece) rest) piece ≡ true →
    rest ≡ piece ++ drop (length piece) rest
found rest piece is = piece_found rest piece (drop (length piece) rest) is refl

-- lines up to some are at the front of a text, and these are left
pub record Matched (lines left text rest : List ℕ) : Type 0 where
  pub shown : List ℕ
  pub text_is : text ≡ shown ++ rest
  pub lines_are : lines ≡ shown ++ left

pub none_yet : (lines text : List ℕ) → Matched lines lines text text
none_yet lines text = record { shown = []; text_is = refl; lines_are = refl }

pub on : (lines left text rest piece later more : List ℕ) → Matched lines left text rest → left ≡ piece ++ later → rest ≡ piece ++ more →
    Matched lines later text more
on lines left text rest piece later more so_far left_is rest_is = record {
  shown = so_far.shown ++ piece;
  text_is = so_far.text_is ∙ ap (λ (list : List ℕ). so_far.shown ++ list) rest_is ∙ sym (append_assoc so_far.shown piece more);
  lines_are = so_far.lines_are ∙ ap (λ (list : List ℕ). so_far.shown ++ list) left_is ∙ sym (append_assoc so_far.shown piece later);
}

pub stops : (lines left text rest piece later more : List ℕ) → Matched lines left text rest → left ≡ piece ++ later →
    Differs piece rest more → Differs lines text more
stops lines left text rest piece later more so_far left_is differs =
    subst (λ (list : List ℕ). Differs list text more) (sym (so_far.lines_are ∙ ap (λ (list : List ℕ). so_far.shown ++ list) left_is))
    (then_differs so_far.shown (piece ++ later) text rest more so_far.text_is (first_differs piece later rest more differs))

pub all : (lines left text rest : List ℕ) → Matched lines left text rest → left ≡ [] → text ≡ lines ++ rest
all lines left text rest so_far none =
    let whole : lines ≡ so_far.shown = so_far.lines_are ∙ ap (λ (list : List ℕ). so_far.shown ++ list) none ∙ append-nil so_far.shown in
    so_far.text_is ∙ ap (λ (list : List ℕ). list ++ rest) (sym whole)

pub no_words : (at next : ℕ) (words : List ℕ) → length words ≤ next → word_lines at 0 (drop next words) ≡ []
unfolding word_lines
no_words at next words past = ap (word_lines at 0) (drop_all next words past)

pub next_span : (spans : List Span) (number : ℕ) (s : Span) → number < length spans → s ≡ get_or spans number no_span →
    flat_map span_lines (drop number spans) ≡ span_lines s ++ flat_map span_lines (drop (number + 1) spans)
next_span spans number s inside is =
    ap (flat_map span_lines) (drop_more spans number no_span inside)
    ∙ ap (λ (s : Span). span_lines s ++ flat_map span_lines (drop (number + 1) spans)) (sym is)

pub no_spans : (spans : List Span) (number : ℕ) → length spans ≤ number → flat_map span_lines (drop number spans) ≡ []
no_spans spans number past = ap (flat_map span_lines) (drop_all number spans past)

-- from the first word on these are all lines
pub from_first : (lines : List ℕ) (base : ℕ) (words text rest : List ℕ) (answer : Result (Bor (List ℕ)) (Bor (List ℕ))) →
    text ≡ lines ++ rest → WithoutLines (word_lines (base + 4 * 0) 0 (drop 0 words)) rest answer →
    WithoutLines (lines ++ word_lines base 0 words) text answer
from_first lines base words text rest answer is h =
    let same : base + 4 * 0 ≡ base = omega arith in
    subst (λ (at : ℕ). WithoutLines (lines ++ word_lines at 0 words) text answer) same
    (then_lines lines (word_lines (base + 4 * 0) 0 words) text rest answer is h)
