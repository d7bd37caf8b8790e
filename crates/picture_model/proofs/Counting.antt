-- How many words a line has: those of a cut for each span, and more where a chunk ends or 4,092 bytes are full.
use Rattle.std.proofs.Common.{◌≡◌, ℕ, ◌+◌, ◌-◌, ◌*◌, ◌<◌, ◌≤◌, ◌⊎◌, inl, inr, Bool, true, false, List, [], ◌∷◌, ◌++◌, Option, Some, None}
use Rattle.std.proofs.Common.{refl, sym, ap, ◌∙◌, subst, arith, ⊎_elim}
use Rattle.std.proofs.lemmas.Bool.{cases_lt}
use Rattle.std.proofs.lemmas.Nat.{row_fits, mul-le}
use Rattle.page_table.specs.Grants.{Chunk}
use Rattle.page_table.specs.Scattered.{room_at}
use Rattle.page_table.proofs.Scattered.{room_at-add}
use Rattle.clip_spans.specs.declared.Span.{Span}
use Rattle.picture_model.specs.Plans.{Track, Strip, Cut, IsInOneChunk, FitsTrack, IsCut, AreCutsFrom, AreCuts, cuts_of}
use Rattle.picture_model.proofs.Ends.{ended, ended-le, ended-past}
use Rattle.picture_model.proofs.Grains.{IsTrack, GrainsFit}
use Rattle.picture_model.proofs.Strips.{Cover, IsStrip, cover_end, strip_cuts}

-- the chunk ends that a track has passed at a grain
abbrev pub passed : List Chunk → ℕ → Option ℕ → ℕ → ℕ
passed memory size None g = 0
passed memory size (Some start) g = ended memory (start + g * size)

-- a number that never falls along a line, and rises by 4,089 at least at each cut that doesn't end its span
abbrev pub level : List Chunk → Track → ℕ → ℕ
level memory t g = 4089 * passed memory t.size t.start g + g * t.size

passed-le : (memory : List Chunk) (size : ℕ) (start : Option ℕ) (g n : ℕ) → passed memory size start g ≤ passed memory size start (g + n)
passed-le memory size None g n = omega arith
passed-le memory size (Some start) g n =
    let more = mul-le g size (g + n) size (omega arith) (omega arith) in
    ended-le memory (start + g * size) (start + (g + n) * size) (omega arith)

parted : (g n size : ℕ) → (g + n) * size ≡ g * size + n * size
parted g n size = grind arith

level-le : (memory : List Chunk) (t : Track) (g n : ℕ) → level memory t g ≤ level memory t (g + n)
level-le memory t g n =
    let more = passed-le memory t.size t.start g n in let parts = parted g n t.size in omega arith

-- a track on which one grain more doesn't fit

abbrev Full : List Chunk → Bool → ℕ → ℕ → Track → Type 0
Full memory clipped g n t = FitsTrack memory clipped g (n + 1) t ⊎ (level memory t g + 4089 ≤ level memory t (g + n))

bytes_full : (memory : List Chunk) (t : Track) (g n : ℕ) → t.size ≤ 4 → 4092 < (n + 1) * t.size →
    level memory t g + 4089 ≤ level memory t (g + n)
bytes_full memory t g n small full =
    let more = passed-le memory t.size t.start g n in
    let parts = parted g n t.size in
    let next = parted n 1 t.size in
    omega arith

-- the chunk of a grain ends just behind the n grains
chunk_ends : (memory : List Chunk) (grains size start g n : ℕ) → GrainsFit memory grains size (Some start) → g + n < grains →
    n * size ≤ room_at memory (start + g * size) →
    room_at memory (start + g * size) < (n + 1) * size → ended memory (start + g * size) + 1 ≤ ended memory (start + (g + n) * size)
chunk_ends memory grains size start g n fit inside fits full =
    let parts = parted g n size in
    let next = parted n 1 size in
    let step : (g + n) * size + size ≤ grains * size = row_fits (g + n) size grains size inside (omega arith) in
    let end = fit.1 in
    let wide = fit.0 in
    let there : start + g * size + n * size ≡ start + (g + n) * size = omega arith in
    let past : room_at memory (start + g * size) ≤ n * size =
    ⊎_elim
    (λ more.
    let later = room_at-add memory (start + g * size) (n * size) more in
    let same : room_at memory (start + (g + n) * size) ≡ room_at memory (start + g * size) - n * size =
    ap (room_at memory) (sym there) ∙ later in
    let room = fit.2 (g + n) inside in
    absurd (omega arith))
    (λ no. no)
    (cases_lt (n * size) (room_at memory (start + g * size)))
    in
    let one = ended-past memory (start + g * size) (n * size) (omega arith) past in
    subst (λ (o : ℕ). ended memory (start + g * size) + 1 ≤ ended memory o) there one

track_full : (memory : List Chunk) (clipped : Bool) (grains size : ℕ) (start : Option ℕ) (g n : ℕ) → size ≤ 4 →
    GrainsFit memory grains size start → g + n < grains → n * size ≤ 4092 →
    IsInOneChunk memory clipped size start g n → Full memory clipped g n (record { size = size; start = start })
track_full memory true grains size start g n small fit inside few one =
    ⊎_elim (λ full. inr (bytes_full memory (record { size = size; start = start }) g n small full))
    (λ fits. inl (record { few = fits; whole = tt })) (cases_lt 4092 ((n + 1) * size))
track_full memory false grains size None g n small fit inside few one =
    ⊎_elim (λ full. inr (bytes_full memory (record { size = size; start = None }) g n small full))
    (λ fits. inl (record { few = fits; whole = tt })) (cases_lt 4092 ((n + 1) * size))
track_full memory false grains size (Some start) g n small fit inside few one =
    ⊎_elim
    (λ full. inr (bytes_full memory (record { size = size; start = Some start }) g n small full))
    (λ fits. ⊎_elim
    (λ past. let ends = chunk_ends memory grains size start g n fit inside one past in let parts = parted g n size in inr (omega arith))
    (λ room. inl (record { few = fits; whole = room }))
    (cases_lt (room_at memory (start + g * size)) ((n + 1) * size)))
    (cases_lt 4092 ((n + 1) * size))

-- the words that a cut takes at most: what is clipped is skipped
abbrev pub words_for : Bool → ℕ
words_for true = 2
words_for false = 5

words_for-few : (clipped : Bool) → words_for clipped ≤ 5
words_for-few true = omega arith
words_for-few false = omega arith

abbrev pub cut_words : List Cut → ℕ
cut_words [] = 0
cut_words (k ∷ rest) = words_for k.clipped + cut_words rest

cut_words-append : (xs ys : List Cut) → cut_words (xs ++ ys) ≡ cut_words xs + cut_words ys
cut_words-append [] ys = omega arith
cut_words-append (k ∷ xs) ys = let more = cut_words-append xs ys in omega arith

-- the words of spans that are cut once each
abbrev pub span_weights : List Span → ℕ
span_weights [] = 0
span_weights (s ∷ rest) = words_for s.clipped + span_weights rest

-- the levels of the three tracks together
abbrev pub height : List Chunk → Strip → ℕ → ℕ
height memory strip g = level memory strip.one g + level memory strip.two g + level memory strip.three g

module _ (memory : List Chunk) (strip : Strip) (is : IsStrip memory strip) where
  height-le : (g n : ℕ) → height memory strip g ≤ height memory strip (g + n)
  height-le g n =
      let one = level-le memory strip.one g n in
      let two = level-le memory strip.two g n in
      let three = level-le memory strip.three g n in omega arith

  full : (s : Span) (t : Track) (g n : ℕ) → IsTrack memory strip.grains t → g + n < strip.grains → FitsTrack memory s.clipped g n t →
      Full memory s.clipped g n t
  full s t g n fit inside fits = track_full memory s.clipped strip.grains t.size t.start g n fit.small fit.fit inside fits.few fits.whole

  -- a cut that doesn't end its span
  cut_rises : (s : Span) (at : ℕ) (k : Cut) → s.to ≤ strip.grains → at + k.n < s.to → IsCut memory strip s at k →
      height memory strip at + 4089 ≤ height memory strip (at + k.n)
  cut_rises s at k end inside cut =
      let one = level-le memory strip.one at k.n in
      let two = level-le memory strip.two at k.n in
      let three = level-le memory strip.three at k.n in
      ⊎_elim
      (λ fits_one. ⊎_elim
      (λ fits_two. ⊎_elim
      (λ fits_three. absurd (cut.longest (record { within = omega arith; one = fits_one; two = fits_two; three = fits_three })))
      (λ rises. omega arith)
      (full s strip.three at k.n is.three (omega arith) cut.fits.three))
      (λ rises. omega arith)
      (full s strip.two at k.n is.two (omega arith) cut.fits.two))
      (λ rises. omega arith)
      (full s strip.one at k.n is.one (omega arith) cut.fits.one)

  none_left : (s : Span) (rest : List Cut) (at : ℕ) → at ≡ s.to → AreCutsFrom memory strip s at rest → cut_words rest ≡ 0
  none_left s [] at done are = refl
  none_left s (k ∷ rest) at done are =
      let some = are.0.some in let within = are.0.fits.within in absurd (omega arith)

  span_words : (s : Span) (at : ℕ) (cuts : List Cut) → s.to ≤ strip.grains → AreCutsFrom memory strip s at cuts →
      cut_words cuts * 4089 + 5 * height memory strip at ≤ 5 * height memory strip s.to + words_for s.clipped * 4089
  span_words s at [] end are =
      let same : height memory strip at ≡ height memory strip s.to = ap (height memory strip) are in omega arith
  span_words s at (k ∷ rest) end are =
      let within = are.0.fits.within in
      let few = words_for-few s.clipped in
      let same : words_for k.clipped ≡ words_for s.clipped = ap words_for are.0.same in
      ⊎_elim
      (λ inside.
      let rises = cut_rises s at k end inside are.0 in
      let more = span_words s (at + k.n) rest end are.1 in omega arith)
      (λ done.
      let last : at + k.n ≡ s.to = omega arith in
      let none = none_left s rest (at + k.n) last are.1 in
      let level : height memory strip (at + k.n) ≡ height memory strip s.to = ap (height memory strip) last in
      let rises = height-le at k.n in omega arith)
      (cases_lt (at + k.n) s.to)

  spans_words : (at : ℕ) (spans : List Span) (cuts : List Cut) → Cover strip.grains at spans → AreCuts memory strip spans cuts →
      cut_words cuts * 4089 + 5 * height memory strip at ≤ 5 * height memory strip strip.grains + span_weights spans * 4089
  spans_words at [] cuts cover are =
      let none : cut_words cuts ≡ 0 = ap cut_words are in
      let same : height memory strip at ≡ height memory strip strip.grains = ap (height memory strip) cover in omega arith
  spans_words at (s ∷ rest) cuts cover are =
      let end = cover_end strip.grains s.to rest cover.2 in
      let first = span_words s s.from are.0 end are.3 in
      let later = spans_words s.to rest are.1 cover.2 are.4 in
      let begin : height memory strip s.from ≡ height memory strip at = ap (height memory strip) cover.0 in
      let all : cut_words cuts ≡ cut_words are.0 + cut_words are.1 = ap cut_words are.2 ∙ cut_words-append are.0 are.1 in omega arith

-- the chunk ends that a line's tracks have passed at a grain
abbrev pub all_passed : List Chunk → Strip → ℕ → ℕ
all_passed memory strip g =
    passed memory strip.one.size strip.one.start g + passed memory strip.two.size strip.two.start g
    + passed memory strip.three.size strip.three.start g

-- the words of a line are those for each of its spans, 5 for each chunk end that it crosses, and 5 more
pub line_words-few : (memory : List Chunk) (strip : Strip) → IsStrip memory strip →
    strip.grains * strip.one.size + strip.grains * strip.two.size + strip.grains * strip.three.size ≤ 4096 →
    cut_words (cuts_of memory strip strip.spans) + 5 * all_passed memory strip 0
    ≤ 5 * all_passed memory strip strip.grains + span_weights strip.spans + 5
line_words-few memory strip is small =
    let count = spans_words memory strip is 0 strip.spans (cuts_of memory strip strip.spans) is.covers (strip_cuts memory strip is) in
    omega arith
