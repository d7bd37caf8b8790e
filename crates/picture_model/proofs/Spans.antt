-- The spans of a row in grains are the runs of grains that are clipped, or not.
use Rattle.std.proofs.Common.{◌≡◌, ℕ, ◌+◌, ◌-◌, ◌*◌, ◌/◌, ◌%◌, ◌<◌, ◌≤◌, Bool, true, false, not, List, [], ◌∷◌, map, refl, sym, ap, ◌∙◌}
use Rattle.std.proofs.Common.{subst, arith, ⊎_elim, if◌then◌else◌}
use Rattle.std.proofs.lemmas.Bool.{cases_lt}
use Rattle.std.proofs.lemmas.Nat.{div-add-mod', div-mul-add, mod-mul-add, mul-le, row_fits, div_below, le-div}
use Rattle.std.proofs.Math.Nat.{zero-mod, zero-div}
use Rattle.clip_spans.specs.Clipping.{unit_clipped, clipped_at}
use Rattle.clip_spans.specs.Runs.{span, spans_of, IsRun, AreRunsFrom}
use Rattle.clip_spans.specs.declared.Span.{Span}
use Rattle.clip_spans.proofs.Runs.{spans_of-spans, never_both}
use Rattle.pixel_layout.proofs.Table.{layout_sizes}
use Rattle.capture_desc.specs.declared.desc.Desc.{Desc}
use Rattle.picture_model.specs.Described.{layout_of}
use Rattle.picture_model.specs.Places.{HasPlane, byte_clipped}
use Rattle.picture_model.specs.Plans.{grain_bytes, grain_clipped, grains_of, row_strip}
use Rattle.picture_model.proofs.FaultlessGeometry.{IsRight}
use Rattle.picture_model.proofs.Grains.{other_planes}
use Rattle.std.specs.Prelude.{◌==◌}

pub mul_div : (a p : ℕ) → 1 ≤ p → a * p / p ≡ a
mul_div a p some = let e : a * p ≡ a * p + 0 = omega arith in ap (λ n. n / p) e ∙ div-mul-add a p 0 some

whole_product : (a p : ℕ) → 1 ≤ p → (a * p) % p ≡ 0
whole_product a p some = let e : a * p ≡ a * p + 0 = omega arith in ap (λ n. n % p) e ∙ mod-mul-add a p 0 some

pub whole_is : (x p : ℕ) → x % p ≡ 0 → x / p * p ≡ x
whole_is x p whole = let parts = div-add-mod' x p in omega arith

div_before : (x p : ℕ) → 1 ≤ p → 0 < x % p → (x - 1) / p ≡ x / p
div_before x p some part =
    let parts = div-add-mod' x p in
    let e : x - 1 ≡ x / p * p + (x % p - 1) = omega arith in
    ap (λ n. n / p) e ∙ div-mul-add (x / p) p (x % p - 1) (omega arith)

pub less_product : (a b p : ℕ) → 1 ≤ p → a < b → a * p < b * p
less_product a b p some less = let fits = row_fits a p b p less (omega arith) in omega arith

pub product_less : (a b p : ℕ) → a * p < b * p → a < b
product_less a b p less =
    ⊎_elim (λ yes. yes) (λ no. let more = mul-le b p a p no (omega arith) in absurd (omega arith)) (cases_lt a b)

product_le : (a b p : ℕ) → 1 ≤ p → a * p ≤ b * p → a ≤ b
product_le a b p some less =
    ⊎_elim (λ more. let fits = less_product b a p some more in absurd (omega arith)) (λ yes. yes) (cases_lt b a)

-- from pixels to units

abbrev unit_span : ℕ → Span → Span
unit_span p s = span (s.from / p) (s.to / p) s.clipped

module _ (answer : ℕ → Bool) (p w : ℕ) (some : 1 ≤ p) where
  -- a run of pixels ends between units
  end_whole : (s : Span) → IsRun (λ x. answer (x / p)) (w * p) s → s.to % p ≡ 0
  end_whole s run =
      let long = run.some in
      let within = run.within in
      ⊎_elim
      (λ part.
      ⊎_elim
      (λ below.
      let turns : answer (s.to / p) ≡ not s.clipped = run.maximal below in
      let last : answer ((s.to - 1) / p) ≡ s.clipped = run.same (s.to - 1) (omega arith) (omega arith) in
      absurd (never_both s.clipped (sym last ∙ ap answer (div_before s.to p some part) ∙ turns)))
      (λ at. let e : s.to ≡ w * p = omega arith in ap (λ n. n % p) e ∙ whole_product w p some)
      (cases_lt s.to (w * p)))
      (λ none. omega arith)
      (cases_lt 0 (s.to % p))

  unit_run : (s : Span) → s.from % p ≡ 0 → IsRun (λ x. answer (x / p)) (w * p) s → IsRun answer w (unit_span p s)
  unit_run s begins run =
      let ends = end_whole s run in
      let from = whole_is s.from p begins in
      let to = whole_is s.to p ends in
      let long = run.some in
      let within = run.within in
      record {
        some = product_less (s.from / p) (s.to / p) p (omega arith);
        within = product_le (s.to / p) w p some (omega arith);
        same = λ u low high.
            let after = mul-le (s.from / p) p u p low (omega arith) in
            let before = less_product u (s.to / p) p some high in
            sym (ap answer (mul_div u p some)) ∙ run.same (u * p) (omega arith) (omega arith);
        maximal = λ below. let less = less_product (s.to / p) w p some below in run.maximal (omega arith);
      }

  unit_runs : (x : ℕ) (spans : List Span) → x % p ≡ 0 → AreRunsFrom (λ x. answer (x / p)) (w * p) x spans →
      AreRunsFrom answer w (x / p) (map (unit_span p) spans)
  unit_runs x [] whole runs = ap (λ n. n / p) runs ∙ mul_div w p some
  unit_runs x (s ∷ rest) whole runs =
      let begins : s.from % p ≡ 0 = ap (λ n. n % p) runs.0 ∙ whole in
      (ap (λ n. n / p) runs.0, unit_run s begins runs.1, unit_runs s.to rest (end_whole s runs.1) runs.2)

-- from units to bytes

abbrev byte_span : ℕ → Span → Span
byte_span m s = span (s.from * m) (s.to * m) s.clipped

module _ (answer : ℕ → Bool) (m w : ℕ) (some : 1 ≤ m) where
  byte_run : (s : Span) → IsRun answer w s → IsRun (λ g. answer (g / m)) (w * m) (byte_span m s)
  byte_run s run =
      record {
        some = less_product s.from s.to m some run.some;
        within = mul-le s.to m w m run.within (omega arith);
        same = λ g low high. run.same (g / m) (le-div s.from g m some low) (div_below g m s.to some high);
        maximal = λ below. ap answer (mul_div s.to m some) ∙ run.maximal (product_less s.to w m below);
      }

  byte_runs : (a : ℕ) (spans : List Span) → AreRunsFrom answer w a spans →
      AreRunsFrom (λ g. answer (g / m)) (w * m) (a * m) (map (byte_span m) spans)
  byte_runs a [] runs = ap (λ n. n * m) runs
  byte_runs a (s ∷ rest) runs = (ap (λ n. n * m) runs.0, byte_run s runs.1, byte_runs s.to rest runs.2)

both_steps : (p m : ℕ) (spans : List Span) →
    map (byte_span m) (map (unit_span p) spans) ≡ map (λ s. span (s.from / p * m) (s.to / p * m) s.clipped) spans
both_steps p m [] = refl
both_steps p m (s ∷ rest) = ap (λ (later : List Span). span (s.from / p * m) (s.to / p * m) s.clipped ∷ later) (both_steps p m rest)

grain_runs : (planar : Bool) (answer : ℕ → Bool) (p m w : ℕ) (spans : List Span) → 1 ≤ p → 1 ≤ m →
    AreRunsFrom (λ x. answer (x / p)) (w * p) 0 spans →
    AreRunsFrom (λ g. answer (if planar then g else g / m)) (if planar then w else w * m) 0
    (map (λ s. span (if planar then s.from / p else s.from / p * m) (if planar then s.to / p else s.to / p * m) s.clipped) spans)
grain_runs true answer p m w spans some some' runs =
    subst (λ n. AreRunsFrom answer w n (map (unit_span p) spans)) (zero-div p) (unit_runs answer p w some 0 spans (zero-mod p) runs)
grain_runs false answer p m w spans some some' runs =
    let units = unit_runs answer p w some 0 spans (zero-mod p) runs in
    let bytes = byte_runs answer m w some' (0 / p) (map (unit_span p) spans) units in
    let none = zero-div p in
    let first : 0 / p * m ≡ 0 * m = ap (λ n. n * m) none in
    let begin : 0 / p * m ≡ 0 = omega arith in
    subst (λ n. AreRunsFrom (λ g. answer (g / m)) (w * m) n (map (λ s. span (s.from / p * m) (s.to / p * m) s.clipped) spans)) begin
    (subst (λ (list : List Span). AreRunsFrom (λ g. answer (g / m)) (w * m) (0 / p * m) list) (both_steps p m spans) bytes)

-- the spans of a row's strip are the runs of its grains
pub row_runs : (d : Desc) (row : ℕ) → IsRight d →
    AreRunsFrom (grain_clipped d row) (grains_of (layout_of d) d.width) 0 (row_strip d row).spans
row_runs d row right =
    let l = layout_of d in
    let sizes = layout_sizes d.format in
    let width = whole_is d.width l.pixels right.units in
    let runs =
    subst (λ n. AreRunsFrom (clipped_at d.clip row l.pixels) n 0 (spans_of d.clip row d.width l.pixels)) (sym width)
    (spans_of-spans d.clip row d.width l.pixels) in
    grain_runs l.planar (unit_clipped d.clip row l.pixels) l.pixels l.bytes (d.width / l.pixels)
    (spans_of d.clip row d.width l.pixels) sizes.some_pixels sizes.some_bytes runs

-- a byte of a row is clipped with its grain

one_unit : (p : ℕ) → 1 ≤ p → p / p ≡ 1
one_unit p some = let e : 1 * p ≡ p = omega arith in ap (λ n. n / p) (sym e) ∙ mul_div 1 p some

in_unit : (planar first : Bool) (p m across g j : ℕ) → 1 ≤ p → (planar ≡ true → p ≡ across) → (first ≡ false → planar ≡ true) →
    j < (if first then (if planar then m else 1) else (if planar then 1 else 0)) →
    (g * (if first then (if planar then m else 1) else (if planar then 1 else 0)) + j) / (if first then p / p * m else p / across)
    ≡ (if planar then g else g / m)
in_unit true true p m across g j some same has inside =
    let one = one_unit p some in
    let e : p / p * m ≡ 1 * m = ap (λ n. n * m) one in
    let whole : p / p * m ≡ m = omega arith in
    ap (λ n. (g * m + j) / n) whole ∙ div-mul-add g m j inside
in_unit true false p m across g j some same has inside =
    let one : p / across ≡ 1 = ap (λ n. p / n) (sym (same refl)) ∙ one_unit p some in
    ap (λ n. (g * 1 + j) / n) one ∙ div-mul-add g 1 j inside
in_unit false true p m across g j some same has inside =
    let one = one_unit p some in
    let e : p / p * m ≡ 1 * m = ap (λ n. n * m) one in
    let whole : p / p * m ≡ m = omega arith in
    let grain : g * 1 + j ≡ g = omega arith in
    ap (λ n. (g * 1 + j) / n) whole ∙ ap (λ n. n / m) grain
in_unit false false p m across g j some same has inside = let no = has refl in cc

pub byte_clipped-grain : (d : Desc) (plane row g j : ℕ) → HasPlane d plane → j < grain_bytes (layout_of d) plane →
    byte_clipped d plane row (g * grain_bytes (layout_of d) plane + j) ≡ grain_clipped d row g
byte_clipped-grain d plane row g j has inside =
    let l = layout_of d in
    let sizes = layout_sizes d.format in
    ap (unit_clipped d.clip row l.pixels)
    (in_unit l.planar (plane == 1) l.pixels l.bytes l.across g j sizes.some_pixels (λ planar. (sizes.unit planar).0)
    (λ other. other_planes d plane has other) inside)
