-- The spans of a row: the maximal runs of pixels that are clipped, or not, together with their units.
use Rattle.std.specs.Prelude.{ℕ, zero, suc, ◌+◌, ◌<◌, ◌≤◌, ◌≡◌, Bool, not, List, [], ◌∷◌, if◌then◌else◌}
use Rattle.clip_spans.specs.Clipping.{clipped_at, is_same}
use Rattle.clip_spans.specs.declared.Rect.{Rect}
use Rattle.clip_spans.specs.declared.Span.{Span}

abbrev pub span : ℕ → ℕ → Bool → Span
span start finish answer = record { from = start; to = finish; clipped = answer }

-- a maximal run of one answer of a test, below an end
pub record IsRun (test : ℕ → Bool) (end : ℕ) (s : Span) : Type 0 where
  pub some : s.from < s.to
  pub within : s.to ≤ end
  pub same : (x : ℕ) → s.from ≤ x → x < s.to → test x ≡ s.clipped
  pub maximal : s.to < end → test s.to ≡ not s.clipped

-- the runs of a test from x up to an end, in order and without a gap
abbrev pub AreRunsFrom : (ℕ → Bool) → ℕ → ℕ → List Span → Type 0
AreRunsFrom test end x [] = x ≡ end
AreRunsFrom test end x (s ∷ rest) = (s.from ≡ x) × IsRun test end s × AreRunsFrom test end s.to rest

-- the spans of a row of this width
abbrev pub AreSpans : List Rect → ℕ → ℕ → ℕ → List Span → Type 0
AreSpans rects row width pixels spans = AreRunsFrom (clipped_at rects row pixels) width 0 spans

-- the first span, if there is one, has the other answer
abbrev pub BeginsWithout : Bool → List Span → Type 0
BeginsWithout answer [] = Unit {0}
BeginsWithout answer (s ∷ rest) = s.clipped ≡ not answer

-- clipped spans and others alternate
abbrev pub Alternate : List Span → Type 0
Alternate [] = Unit {0}
Alternate (s ∷ rest) = BeginsWithout s.clipped rest × Alternate rest

-- the runs, where the pixel before them has this answer
abbrev pub joined : ℕ → Bool → List Span → List Span
joined x answer [] = span x (x + 1) answer ∷ []
joined x answer (s ∷ rest) =
    if is_same answer s.clipped then span x s.to answer ∷ rest else span x (x + 1) answer ∷ s ∷ rest

-- the runs of so many pixels from x on
abbrev pub runs_from : (ℕ → Bool) → ℕ → ℕ → List Span
runs_from test x zero = []
runs_from test x (suc count) = joined x (test x) (runs_from test (x + 1) count)

-- the one list of spans of a row
abbrev pub spans_of : List Rect → ℕ → ℕ → ℕ → List Span
spans_of rects row width pixels = runs_from (clipped_at rects row pixels) 0 width
