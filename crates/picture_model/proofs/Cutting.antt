-- The cuts of a span: what fits, that there is one list of them, and what it covers.
use Rattle.std.proofs.Common.{sym, ◌≡◌, ℕ, zero, suc, ◌+◌, ◌-◌, ◌*◌, ◌<◌, ◌≤◌, Bool, true, false, List, [], ◌∷◌, ◌++◌, Option, Some, None}
use Rattle.std.proofs.Common.{refl, ap, ◌∙◌, subst, arith, ⊎_elim}
use Rattle.std.proofs.lemmas.Bool.{cases_lt}
use Rattle.std.proofs.Math.Nat.{le-div_iff_mul-le}
use Rattle.page_table.specs.Grants.{Chunk}
use Rattle.clip_spans.specs.declared.Span.{Span}
use Rattle.picture_model.specs.Plans.{Track, Strip, Cut, IsInOneChunk, FitsTrack, Fits, IsCut, AreCutsFrom, AreCuts, most, bytes_free}
use Rattle.picture_model.specs.Plans.{most_of, longest, cut, cuts_from, cuts_left, span_cuts, cuts_of}

-- so many grains fit exactly where they are no more than the most

most_above : (size bytes rest n : ℕ) → n ≤ rest → n * size ≤ bytes → n ≤ most size bytes rest
most_above zero bytes rest n within few = within
most_above (suc less) bytes rest n within few =
    let some : 0 < suc less = omega arith in (le-div_iff_mul-le {k = suc less} {x = n} {y = bytes} some).1 few

most_fits : (size bytes rest n : ℕ) → n ≤ most size bytes rest → n * size ≤ bytes
most_fits zero bytes rest n below = omega arith
most_fits (suc less) bytes rest n below =
    let some : 0 < suc less = omega arith in (le-div_iff_mul-le {k = suc less} {x = n} {y = bytes} some).0 below

free_parts : (memory : List Chunk) (clipped : Bool) (size : ℕ) (start : Option ℕ) (at n : ℕ) →
    n * size ≤ bytes_free memory clipped size start at → (n * size ≤ 4092) × IsInOneChunk memory clipped size start at n
free_parts memory true size start at n h = (h, tt)
free_parts memory false size None at n h = (h, tt)
free_parts memory false size (Some start) at n h = (omega arith, omega arith)

parts_free : (memory : List Chunk) (clipped : Bool) (size : ℕ) (start : Option ℕ) (at n : ℕ) → n * size ≤ 4092 →
    IsInOneChunk memory clipped size start at n → n * size ≤ bytes_free memory clipped size start at
parts_free memory true size start at n few whole = few
parts_free memory false size None at n few whole = few
parts_free memory false size (Some start) at n few whole = omega arith

track_most : (memory : List Chunk) (clipped : Bool) (at n rest : ℕ) (t : Track) → n ≤ rest → FitsTrack memory clipped at n t →
    n ≤ most_of memory clipped at rest t
track_most memory clipped at n rest t within fits =
    most_above t.size (bytes_free memory clipped t.size t.start at) rest n within
    (parts_free memory clipped t.size t.start at n fits.few fits.whole)

most_track : (memory : List Chunk) (clipped : Bool) (at n rest : ℕ) (t : Track) → n ≤ most_of memory clipped at rest t →
    FitsTrack memory clipped at n t
most_track memory clipped at n rest t below =
    let parts =
    free_parts memory clipped t.size t.start at n (most_fits t.size (bytes_free memory clipped t.size t.start at) rest n below) in
    record { few = parts.0; whole = parts.1 }

module _ (memory : List Chunk) (strip : Strip) (s : Span) (at n : ℕ) where
  pub Fits-longest : Fits memory strip s at n → n ≤ longest memory strip s at
  Fits-longest fits =
      let within = fits.within in
      let rest : n ≤ s.to - at = omega arith in
      let one = track_most memory s.clipped at n (s.to - at) strip.one rest fits.one in
      let two = track_most memory s.clipped at n (s.to - at) strip.two rest fits.two in
      let three = track_most memory s.clipped at n (s.to - at) strip.three rest fits.three in
      omega arith

  pub longest-Fits : at ≤ s.to → n ≤ longest memory strip s at → Fits memory strip s at n
  longest-Fits inside below =
      record {
        within = omega arith;
        one = most_track memory s.clipped at n (s.to - at) strip.one (omega arith);
        two = most_track memory s.clipped at n (s.to - at) strip.two (omega arith);
        three = most_track memory s.clipped at n (s.to - at) strip.three (omega arith);
      }

-- one grain fits wherever a span isn't done
abbrev pub EachFits : List Chunk → Strip → Span → Type 0
EachFits memory strip s = (at : ℕ) → s.from ≤ at → at < s.to → Fits memory strip s at 1

same_cut : (a b n m : ℕ) (c d : Bool) → a ≡ b → n ≡ m → c ≡ d → cut a n c ≡ cut b m d
same_cut a b n m c d first second third = cc

module _ (memory : List Chunk) (strip : Strip) (s : Span) where
  -- a cut is the longest
  cut_longest : (at : ℕ) (k : Cut) → at ≤ s.to → IsCut memory strip s at k → k ≡ cut at (longest memory strip s at) s.clipped
  cut_longest at k inside is =
      let here : k.at ≡ at = is.here in
      let same : k.clipped ≡ s.clipped = is.same in
      let most = Fits-longest memory strip s at k.n is.fits in
      let long : k.n ≡ longest memory strip s at =
      ⊎_elim
      (λ more. absurd (is.longest (longest-Fits memory strip s at (k.n + 1) inside (omega arith))))
      (λ no. omega arith)
      (cases_lt k.n (longest memory strip s at))
      in
      same_cut k.at at k.n (longest memory strip s at) k.clipped s.clipped here long same

  longest_cut : (at : ℕ) → at < s.to → 1 ≤ longest memory strip s at →
      IsCut memory strip s at (cut at (longest memory strip s at) s.clipped)
  longest_cut at inside some =
      record {
        here = refl;
        same = refl;
        some = some;
        fits = longest-Fits memory strip s at (longest memory strip s at) (omega arith) (omega arith);
        longest = λ fits. let most = Fits-longest memory strip s at (longest memory strip s at + 1) fits in absurd (omega arith);
      }

  -- there is one list of cuts
  pub cuts_are : EachFits memory strip s → (fuel rest at : ℕ) → s.from ≤ at → at + rest ≡ s.to → rest ≤ fuel →
      AreCutsFrom memory strip s at (cuts_from fuel rest memory strip s at)
  cuts_are each zero rest at from all enough = omega arith
  cuts_are each (suc fuel) zero at from all enough = omega arith
  cuts_are each (suc fuel) (suc rest) at from all enough =
      let inside : at < s.to = omega arith in
      let some : 1 ≤ longest memory strip s at = Fits-longest memory strip s at 1 (each at from inside) in
      let fits = longest-Fits memory strip s at (longest memory strip s at) (omega arith) (omega arith) in
      let within = fits.within in (
        longest_cut at inside some,
        cuts_are each fuel (suc rest - longest memory strip s at) (at + longest memory strip s at) (omega arith) (omega arith)
            (omega arith),
      )

  pub only_cuts : (fuel rest at : ℕ) (cuts : List Cut) → at + rest ≡ s.to → rest ≤ fuel → AreCutsFrom memory strip s at cuts →
      cuts ≡ cuts_from fuel rest memory strip s at
  only_cuts zero rest at [] all enough are = refl
  only_cuts (suc fuel) zero at [] all enough are = refl
  only_cuts (suc fuel) (suc rest) at [] all enough are = absurd (omega arith)
  only_cuts zero rest at (k ∷ cuts) all enough are =
      let some = are.0.some in let within = are.0.fits.within in absurd (omega arith)
  only_cuts (suc fuel) zero at (k ∷ cuts) all enough are =
      let some = are.0.some in let within = are.0.fits.within in absurd (omega arith)
  only_cuts (suc fuel) (suc rest) at (k ∷ cuts) all enough are =
      let some = are.0.some in
      let within = are.0.fits.within in
      let first : k ≡ cut at (longest memory strip s at) s.clipped = cut_longest at k (omega arith) are.0 in
      let long : k.n ≡ longest memory strip s at = ap (λ (c : Cut). c.n) first in
      let later : cuts ≡ cuts_from fuel (suc rest - k.n) memory strip s (at + k.n) =
      only_cuts fuel (suc rest - k.n) (at + k.n) cuts (omega arith) (omega arith) are.1 in
      let same : cuts ≡ cuts_from fuel (suc rest - longest memory strip s at) memory strip s (at + longest memory strip s at) =
      subst (λ (n : ℕ). cuts ≡ cuts_from fuel (suc rest - n) memory strip s (at + n)) long later in
      cc

module _ (memory : List Chunk) (strip : Strip) (s : Span) where
  -- the cuts that are left are the longest that fits here, and those left behind it
  pub next_cut : (at : ℕ) → EachFits memory strip s → s.from ≤ at → at < s.to →
      cuts_left memory strip s at ≡ cut at (longest memory strip s at) s.clipped ∷ cuts_left memory strip s (at + longest memory strip s at)
  next_cut at each from inside =
      let n = longest memory strip s at in
      let some : 1 ≤ n = Fits-longest memory strip s at 1 (each at from inside) in
      let fits = longest-Fits memory strip s at n (omega arith) (omega arith) in
      let within = fits.within in
      let later = cuts_are memory strip s each (s.to - (at + n)) (s.to - (at + n)) (at + n) (omega arith) (omega arith) (omega arith) in
      sym (only_cuts memory strip s (s.to - at) (s.to - at) at (cut at n s.clipped ∷ cuts_left memory strip s (at + n)) (omega arith)
      (omega arith) (longest_cut memory strip s at inside some, later))

  pub no_cut : (at : ℕ) → s.to ≤ at → cuts_left memory strip s at ≡ []
  no_cut at done =
      let none : s.to - at ≡ 0 = omega arith in ap (λ (n : ℕ). cuts_from n n memory strip s at) none

-- the cuts of a line

abbrev pub AreOrdered : List Span → Type 0
AreOrdered [] = Unit {0}
AreOrdered (s ∷ rest) = (s.from ≤ s.to) × AreOrdered rest

abbrev pub AllFit : List Chunk → Strip → List Span → Type 0
AllFit memory strip [] = Unit {0}
AllFit memory strip (s ∷ rest) = EachFits memory strip s × AllFit memory strip rest

pub cuts_of-AreCuts : (memory : List Chunk) (strip : Strip) (spans : List Span) → AreOrdered spans → AllFit memory strip spans →
    AreCuts memory strip spans (cuts_of memory strip spans)
cuts_of-AreCuts memory strip [] ordered fit = refl
cuts_of-AreCuts memory strip (s ∷ rest) ordered fit =
    let order = ordered.0 in (
      span_cuts memory strip s,
      cuts_of memory strip rest,
      refl,
      cuts_are memory strip s fit.0 (s.to - s.from) (s.to - s.from) s.from (omega arith) (omega arith) (omega arith),
      cuts_of-AreCuts memory strip rest ordered.1 fit.1,
    )

pub only_cuts_of : (memory : List Chunk) (strip : Strip) (spans : List Span) (cuts : List Cut) → AreOrdered spans →
    AreCuts memory strip spans cuts → cuts ≡ cuts_of memory strip spans
only_cuts_of memory strip [] cuts ordered are = are
only_cuts_of memory strip (s ∷ rest) cuts ordered are =
    let order = ordered.0 in
    let first : are.0 ≡ span_cuts memory strip s =
    only_cuts memory strip s (s.to - s.from) (s.to - s.from) s.from are.0 (omega arith) (omega arith) are.3 in
    let later : are.1 ≡ cuts_of memory strip rest = only_cuts_of memory strip rest are.1 ordered.1 are.4 in
    are.2 ∙ ap (λ (cs : List Cut). cs ++ are.1) first ∙ ap (λ (cs : List Cut). span_cuts memory strip s ++ cs) later
