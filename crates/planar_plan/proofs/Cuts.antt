-- The cuts of a line without its spans, and one piece after another.
use Rattle.std.proofs.Common.{◌≡◌, ℕ, zero, suc, ◌+◌, ◌-◌, ◌<◌, ◌≤◌, List, [], ◌∷◌, ◌++◌, refl, sym, ap, ◌∙◌, subst, append_assoc}
use Rattle.std.specs.List.{All}
use Rattle.std.proofs.lemmas.List.Elements.{All-append, All-cons, All-nil}
use Rattle.page_table.specs.Grants.{Chunk}
use Rattle.clip_spans.specs.declared.Span.{Span}
use Rattle.picture_model.specs.declared.Piece.{Piece}
use Rattle.picture_model.specs.Plans.{Cut, Strip, cut, cuts_from, cuts_left, cuts_of, longest, piece_of, pieces_of, span_cuts}
use Rattle.picture_model.proofs.Cutting.{EachFits, next_cut}
use Rattle.planar_plan.specs.Lines.{CountsFit, bare}

-- how a line is cut rests on its tracks alone

bare-cuts_from : (memory : List Chunk) (strip : Strip) (s : Span) (fuel rest at : ℕ) →
    cuts_from fuel rest memory (bare strip) s at ≡ cuts_from fuel rest memory strip s at
bare-cuts_from memory strip s zero rest at = refl
bare-cuts_from memory strip s (suc fuel) zero at = refl
bare-cuts_from memory strip s (suc fuel) (suc rest) at =
    ap (λ (later : List Cut). cut at (longest memory strip s at) s.clipped ∷ later)
    (bare-cuts_from memory strip s fuel (suc rest - longest memory strip s at) (at + longest memory strip s at))

pub bare-span_cuts : (memory : List Chunk) (strip : Strip) (s : Span) → span_cuts memory (bare strip) s ≡ span_cuts memory strip s
bare-span_cuts memory strip s = bare-cuts_from memory strip s (s.to - s.from) (s.to - s.from) s.from

pub bare-cuts_of : (memory : List Chunk) (strip : Strip) (spans : List Span) →
    cuts_of memory (bare strip) spans ≡ cuts_of memory strip spans
bare-cuts_of memory strip [] = refl
bare-cuts_of memory strip (s ∷ rest) =
    ap (λ (cuts : List Cut). cuts ++ cuts_of memory (bare strip) rest) (bare-span_cuts memory strip s)
    ∙ ap (λ (cuts : List Cut). span_cuts memory strip s ++ cuts) (bare-cuts_of memory strip rest)

pub pieces-append : (memory : List Chunk) (strip : Strip) (cuts more : List Cut) →
    pieces_of memory strip (cuts ++ more) ≡ pieces_of memory strip cuts ++ pieces_of memory strip more
pieces-append memory strip [] more = refl
pieces-append memory strip (k ∷ cuts) more =
    ap (λ (later : List Piece). piece_of memory strip k ∷ later) (pieces-append memory strip cuts more)

-- one piece more

module _ (memory : List Chunk) (strip : Strip) (s : Span) (out new all : List Piece) (piece : Piece) where
  pub one_more : (at n : ℕ) → EachFits memory strip s → s.from ≤ at → at < s.to → n ≡ longest memory strip s at →
      piece ≡ piece_of memory strip (cut at n s.clipped) → new ≡ out ++ piece ∷ [] →
      out ++ pieces_of memory strip (cuts_left memory strip s at) ≡ all →
      new ++ pieces_of memory strip (cuts_left memory strip s (at + n)) ≡ all
  one_more at n each from before long is added whole =
      let later = pieces_of memory strip (cuts_left memory strip s (at + n)) in
      let next : cuts_left memory strip s at ≡ cut at n s.clipped ∷ cuts_left memory strip s (at + n) =
      next_cut memory strip s at each from before ∙ ap (λ (m : ℕ). cut at m s.clipped ∷ cuts_left memory strip s (at + m)) (sym long)
      in
      ap (λ (pieces : List Piece). pieces ++ later) added
      ∙ append_assoc out (piece ∷ []) later
      ∙ ap (λ (p : Piece). out ++ p ∷ later) is
      ∙ ap (λ (cuts : List Cut). out ++ pieces_of memory strip cuts) (sym next)
      ∙ whole

  pub counts_more : CountsFit piece → new ≡ out ++ piece ∷ [] → All CountsFit out → All CountsFit new
  counts_more fits added before =
      subst (All CountsFit) (sym added)
      (All-append CountsFit out (piece ∷ []) before (All-cons CountsFit piece [] fits (All-nil CountsFit)))

-- one span more
pub next_span : (memory : List Chunk) (strip : Strip) (s : Span) (rest : List Span) (out new all : List Piece) →
    new ≡ out ++ pieces_of memory strip (span_cuts memory strip s) →
    out ++ pieces_of memory strip (cuts_of memory strip (s ∷ rest)) ≡ all → new ++ pieces_of memory strip (cuts_of memory strip rest) ≡ all
next_span memory strip s rest out new all added whole =
    let first = pieces_of memory strip (span_cuts memory strip s) in
    let later = pieces_of memory strip (cuts_of memory strip rest) in
    ap (λ (pieces : List Piece). pieces ++ later) added
    ∙ append_assoc out first later
    ∙ ap (λ (pieces : List Piece). out ++ pieces) (sym (pieces-append memory strip (span_cuts memory strip s) (cuts_of memory strip rest)))
    ∙ whole
