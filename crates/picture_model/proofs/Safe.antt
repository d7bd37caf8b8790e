-- The cuts of a line cover it, and what they write is granted.
use Rattle.std.proofs.Common.{◌≡◌, ℕ, ◌+◌, ◌*◌, ◌<◌, ◌≤◌, Bool, true, false, List, [], ◌∷◌, ◌++◌, Option, Some, None, sym, subst, arith}
use Rattle.std.specs.List.{All}
use Rattle.std.proofs.lemmas.Nat.{row_fits}
use Rattle.page_table.specs.Grants.{Chunk, total}
use Rattle.page_table.specs.Taken.{is_aligned}
use Rattle.page_table.specs.Scattered.{room_at}
use Rattle.page_table.proofs.Scattered.{address_at-fits, run_granted}
use Rattle.clip_spans.specs.declared.Span.{Span}
use Rattle.picture_model.specs.Plans.{Track, Strip, Cut, IsInOneChunk, FitsTrack, IsCut, AreCutsFrom, AreCuts, Follow, IsWritten, Writes}
use Rattle.picture_model.specs.Plans.{IsMoved, IsSafeCut, CoverSafely, cuts_of}
use Rattle.picture_model.proofs.Grains.{IsTrack, GrainsFit}
use Rattle.picture_model.proofs.Each.{Each, each_All, each_append}
use Rattle.picture_model.proofs.Strips.{Cover, IsStrip, cover_end, strip_cuts}

-- the cuts of a line follow each other

follow_span : (memory : List Chunk) (strip : Strip) (s : Span) (at : ℕ) (cuts : List Cut) → AreCutsFrom memory strip s at cuts →
    Follow s.to at cuts
follow_span memory strip s at [] are = are
follow_span memory strip s at (k ∷ rest) are = (are.0.here, are.0.some, follow_span memory strip s (at + k.n) rest are.1)

follow_append : (middle end at : ℕ) (xs ys : List Cut) → Follow middle at xs → Follow end middle ys → Follow end at (xs ++ ys)
follow_append middle end at [] ys one two = subst (λ (n : ℕ). Follow end n ys) (sym one) two
follow_append middle end at (k ∷ xs) ys one two = (one.0, one.1, follow_append middle end (at + k.n) xs ys one.2 two)

follow_cuts : (memory : List Chunk) (strip : Strip) (end at : ℕ) (spans : List Span) (cuts : List Cut) → Cover end at spans →
    AreCuts memory strip spans cuts → Follow end at cuts
follow_cuts memory strip end at [] cuts cover are = subst (λ (ks : List Cut). Follow end at ks) (sym are) cover
follow_cuts memory strip end at (s ∷ rest) cuts cover are =
    let first : Follow s.to at are.0 = subst (λ (n : ℕ). Follow s.to n are.0) cover.0 (follow_span memory strip s s.from are.0 are.3) in
    let later = follow_cuts memory strip end s.to rest are.1 cover.2 are.4 in
    subst (λ (ks : List Cut). Follow end at ks) (sym are.2) (follow_append s.to end at are.0 are.1 first later)

-- each is safe

module _ (memory : List Chunk) (aligned : All (λ c. is_aligned c ≡ true) memory) where
  written : (grains size start at n : ℕ) → 0 < n → at < grains → GrainsFit memory grains size (Some start) →
      n * size ≤ room_at memory (start + at * size) → IsWritten memory (start + at * size) (n * size)
  written grains size start at n some inside fit room =
      let within : start + grains * size ≤ total memory = fit.1 in
      let wide : 0 < size = fit.0 in
      let step = row_fits at size grains size inside (omega arith) in
      let one = row_fits 0 size n size some (omega arith) in
      let ends = address_at-fits memory (start + at * size) aligned (omega arith) in
      record {
        some = omega arith;
        room = room;
        granted = run_granted memory (start + at * size) (n * size) room;
        ends = omega arith;
      }

  writes : (clipped : Bool) (grains size : ℕ) (start : Option ℕ) (at n : ℕ) → 0 < n → at < grains → GrainsFit memory grains size start →
      IsInOneChunk memory clipped size start at n → Writes memory clipped size start at n
  writes true grains size start at n some inside fit one = tt
  writes false grains size None at n some inside fit one = tt
  writes false grains size (Some start) at n some inside fit one = written grains size start at n some inside fit one

  moved : (grains : ℕ) (k : Cut) (t : Track) → 0 < k.n → k.at < grains → IsTrack memory grains t → FitsTrack memory k.clipped k.at k.n t →
      IsMoved memory k t
  moved grains k t some inside is fits =
      record { few = fits.few; written = writes k.clipped grains t.size t.start k.at k.n some inside is.fit fits.whole }

  same_track : (s : Span) (at : ℕ) (k : Cut) (t : Track) → k.at ≡ at → k.clipped ≡ s.clipped → FitsTrack memory s.clipped at k.n t →
      FitsTrack memory k.clipped k.at k.n t
  same_track s at k t here same fits =
      subst (λ (g : ℕ). FitsTrack memory k.clipped g k.n t) (sym here) (subst (λ (b : Bool). FitsTrack memory b at k.n t) (sym same) fits)

  safe_cut : (strip : Strip) (s : Span) (at : ℕ) (k : Cut) → IsStrip memory strip → s.to ≤ strip.grains → IsCut memory strip s at k →
      IsSafeCut memory strip k
  safe_cut strip s at k is end cut =
      let some = cut.some in
      let here = cut.here in
      let within = cut.fits.within in
      let inside : k.at < strip.grains = omega arith in
      record {
        one = moved strip.grains k strip.one some inside is.one (same_track s at k strip.one here cut.same cut.fits.one);
        two = moved strip.grains k strip.two some inside is.two (same_track s at k strip.two here cut.same cut.fits.two);
        three = moved strip.grains k strip.three some inside is.three (same_track s at k strip.three here cut.same cut.fits.three);
      }

  safe_span : (strip : Strip) (s : Span) (at : ℕ) (cuts : List Cut) → IsStrip memory strip → s.to ≤ strip.grains →
      AreCutsFrom memory strip s at cuts → Each (IsSafeCut memory strip) cuts
  safe_span strip s at [] is end are = tt
  safe_span strip s at (k ∷ rest) is end are = (safe_cut strip s at k is end are.0, safe_span strip s (at + k.n) rest is end are.1)

  safe_spans : (strip : Strip) (at : ℕ) (spans : List Span) (cuts : List Cut) → IsStrip memory strip → Cover strip.grains at spans →
      AreCuts memory strip spans cuts → Each (IsSafeCut memory strip) cuts
  safe_spans strip at [] cuts is cover are = subst (Each (IsSafeCut memory strip)) (sym are) tt
  safe_spans strip at (s ∷ rest) cuts is cover are =
      let end = cover_end strip.grains s.to rest cover.2 in
      let first = safe_span strip s s.from are.0 is end are.3 in
      let later = safe_spans strip s.to rest are.1 is cover.2 are.4 in
      subst (Each (IsSafeCut memory strip)) (sym are.2) (each_append (IsSafeCut memory strip) are.0 are.1 first later)

pub cuts_follow : (memory : List Chunk) (strip : Strip) → IsStrip memory strip → Follow strip.grains 0 (cuts_of memory strip strip.spans)
cuts_follow memory strip is =
    follow_cuts memory strip strip.grains 0 strip.spans (cuts_of memory strip strip.spans) is.covers (strip_cuts memory strip is)

pub cuts_safe : (memory : List Chunk) (strip : Strip) → All (λ c. is_aligned c ≡ true) memory → IsStrip memory strip →
    Each (IsSafeCut memory strip) (cuts_of memory strip strip.spans)
cuts_safe memory strip aligned is =
    safe_spans memory aligned strip 0 strip.spans (cuts_of memory strip strip.spans) is is.covers (strip_cuts memory strip is)

pub cover_safely : (memory : List Chunk) (strip : Strip) → All (λ c. is_aligned c ≡ true) memory → IsStrip memory strip →
    CoverSafely memory strip (cuts_of memory strip strip.spans)
cover_safely memory strip aligned is =
    record {
      follow = cuts_follow memory strip is;
      safe = each_All (IsSafeCut memory strip) (cuts_of memory strip strip.spans) (cuts_safe memory strip aligned is);
    }
