-- Pieces that are put one after the other are one piece.
use Rattle.std.proofs.Common.{◌≡◌, ℕ, ◌+◌, ◌-◌, ◌*◌, ◌<◌, ◌≤◌, List, [], ◌∷◌, ◌++◌, length, map, take, drop, get_or, Result, refl, sym, ap}
use Rattle.std.proofs.Common.{subst, ◌∙◌, arith, length-take, length-drop}
use Rattle.std.proofs.lemmas.List.{append-nil, take-append-drop, take_more}
use Rattle.std.proofs.Math.Seq.{take-add}
use Rattle.std.proofs.lemmas.List.Concat.{flat_map-append}
use Rattle.std.specs.List.{flat_map}
use Rattle.byteorder.specs.Endian.{little_bytes}
use Rattle.page_table.specs.Grants.{Chunk}
use Rattle.capture_desk.specs.Desks.{Told, after_write, Puts}
use Rattle.capture_desk.proofs.Laws.{after_write-after_write}
use Rattle.capture_desk.proofs.Pieces.{BreaksOff, put_after, breaks_off_after, breaks_off_within}
use Rattle.capture_desk.proofs.Pieces as pieces
use Rattle.capture_file.specs.declared.program.Layout.{Layout}
use Rattle.capture_file.specs.Programs.{numbers_spelled, page_spelled, chunk_spelled, chunk_in, chunk_numbers, grants_spelled, layout_of}
use Rattle.capture_file.specs.Programs.{name_of, placed_spelled, span_spelled, spanned_spelled, spelled_as}
use Rattle.capture_file.specs.declared.program.ProgramForm.{ProgramForm}
use Rattle.machine_model.specs.Paths.{RiscProgram, Span}

-- a piece of which a front was written, and then came a fault
abbrev pub Breaks : List ℕ → Told → Told → Type 0
Breaks = BreaksOff after_write

pub puts_after : (a b : List ℕ) (old mid new : Told) → mid ≡ after_write a old → new ≡ after_write b mid → new ≡ after_write (a ++ b) old
puts_after = put_after after_write after_write-after_write

pub breaks_after : (a b : List ℕ) (old mid new : Told) → mid ≡ after_write a old → Breaks b mid new → Breaks (a ++ b) old new
breaks_after = breaks_off_after after_write after_write-after_write

pub breaks_within : (a c : List ℕ) (old new : Told) → Breaks a old new → Breaks (a ++ c) old new
breaks_within = breaks_off_within after_write

-- ---- numbers

pub piece_numbers : (numbers : List ℕ) (at count : ℕ) (piece : List ℕ) → at + count ≤ length numbers →
    take (4 * length (take (at + count - at) (drop at numbers))) piece ≡ numbers_spelled (take (at + count - at) (drop at numbers)) →
    take (4 * count) piece ≡ numbers_spelled (take count (drop at numbers))
piece_numbers numbers at count piece within h =
    let k : at + count - at ≡ count = omega arith in
    let n : length (take count (drop at numbers)) ≡ count = omega (arith, length-take count (drop at numbers), length-drop at numbers) in
    let h' : take (4 * length (take count (drop at numbers))) piece ≡ numbers_spelled (take count (drop at numbers)) = rw k at h in
    ap (λ (m : ℕ). take (4 * m) piece) (sym n) ∙ h'

pub more_numbers : (numbers : List ℕ) (at count : ℕ) →
    numbers_spelled (take at numbers) ++ numbers_spelled (take count (drop at numbers)) ≡ numbers_spelled (take (at + count) numbers)
more_numbers numbers at count =
    sym (flat_map-append (little_bytes 4) (take at numbers) (take count (drop at numbers)))
    ∙ ap numbers_spelled (sym (take-add at count numbers))

pub whole_numbers : (numbers : List ℕ) (n : ℕ) →
    numbers_spelled (take n numbers) ++ numbers_spelled (drop n numbers) ≡ numbers_spelled numbers
whole_numbers numbers n =
    sym (flat_map-append (little_bytes 4) (take n numbers) (drop n numbers)) ∙ ap numbers_spelled (take-append-drop n numbers)

pub pages_are_numbers : (chunks : List Chunk) → numbers_spelled (map (λ (c : Chunk). c.at) chunks) ≡ flat_map page_spelled chunks
pages_are_numbers [] = refl
pages_are_numbers (c ∷ chunks) = ap (λ (zs : List ℕ). little_bytes 4 c.at ++ zs) (pages_are_numbers chunks)

pub chunks_are_numbers : (chunks : List Chunk) → numbers_spelled (flat_map chunk_numbers chunks) ≡ flat_map chunk_spelled chunks
chunks_are_numbers [] = refl
chunks_are_numbers (c ∷ chunks) = ap (λ (zs : List ℕ). chunk_spelled c ++ zs) (chunks_are_numbers chunks)

pub numbers_break : (numbers : List ℕ) (at count : ℕ) (piece : List ℕ) (old mid new : Told) →
    take (4 * count) piece ≡ numbers_spelled (take count (drop at numbers)) →
    mid ≡ after_write (numbers_spelled (take at numbers)) old → Breaks (take (4 * count) piece) mid new →
    Breaks (numbers_spelled numbers) old new
numbers_break numbers at count piece old mid new e f h =
    let b : Breaks (numbers_spelled (take count (drop at numbers))) mid new = subst (λ (zs : List ℕ). Breaks zs mid new) e h in
    let c = breaks_after (numbers_spelled (take at numbers)) (numbers_spelled (take count (drop at numbers))) old mid new f b in
    let d : Breaks (numbers_spelled (take (at + count) numbers)) old new =
    subst (λ (zs : List ℕ). Breaks zs old new) (more_numbers numbers at count) c in
    subst (λ (zs : List ℕ). Breaks zs old new) (whole_numbers numbers (at + count))
    (breaks_within (numbers_spelled (take (at + count) numbers)) (numbers_spelled (drop (at + count) numbers)) old new d)

pub numbers_more : (numbers : List ℕ) (at count : ℕ) (piece : List ℕ) (old mid new : Told) →
    take (4 * count) piece ≡ numbers_spelled (take count (drop at numbers)) →
    mid ≡ after_write (numbers_spelled (take at numbers)) old → new ≡ after_write (take (4 * count) piece) mid →
    new ≡ after_write (numbers_spelled (take (at + count) numbers)) old
numbers_more numbers at count piece old mid new e f h =
    puts_after (numbers_spelled (take at numbers)) (numbers_spelled (take count (drop at numbers))) old mid new f
    (h ∙ ap (λ (zs : List ℕ). after_write zs mid) e)
    ∙ ap (λ (zs : List ℕ). after_write zs old) (more_numbers numbers at count)

-- ---- chunks, each spelled by a function

module _ (one : Chunk → List ℕ) (chunks : List Chunk) (at count : ℕ) (old mid new : Told)
    (done : mid ≡ after_write (flat_map one (take at chunks)) old) where
  pub chunks_more : (bytes : List ℕ) → bytes ≡ flat_map one (take count (drop at chunks)) → new ≡ after_write bytes mid →
      new ≡ after_write (flat_map one (take (at + count) chunks)) old
  chunks_more bytes is e =
      puts_after (flat_map one (take at chunks)) (flat_map one (take count (drop at chunks))) old mid new done
      (e ∙ ap (λ (zs : List ℕ). after_write zs mid) is)
      ∙ ap (λ (zs : List ℕ). after_write zs old)
      (sym (flat_map-append one (take at chunks) (take count (drop at chunks))) ∙ ap (flat_map one) (sym (take-add at count chunks)))

  pub chunks_break : (bytes : List ℕ) → bytes ≡ flat_map one (take count (drop at chunks)) → Breaks bytes mid new →
      Breaks (flat_map one chunks) old new
  chunks_break bytes is h =
      let b : Breaks (flat_map one (take count (drop at chunks))) mid new = subst (λ (zs : List ℕ). Breaks zs mid new) is h in
      let c = breaks_after (flat_map one (take at chunks)) (flat_map one (take count (drop at chunks))) old mid new done b in
      let d : Breaks (flat_map one (take (at + count) chunks)) old new =
      subst (λ (zs : List ℕ). Breaks zs old new)
      (sym (flat_map-append one (take at chunks) (take count (drop at chunks))) ∙ ap (flat_map one) (sym (take-add at count chunks))) c in
      subst (λ (zs : List ℕ). Breaks zs old new)
      (sym (flat_map-append one (take (at + count) chunks) (drop (at + count) chunks))
      ∙ ap (flat_map one) (take-append-drop (at + count) chunks))
      (breaks_within (flat_map one (take (at + count) chunks)) (flat_map one (drop (at + count) chunks)) old new d)

-- ---- one piece after another, with the answer to the last

pub puts_then : {A E : Type 0} (a b : List ℕ) (old mid new : Told) (r : Result A E) → mid ≡ after_write a old →
    Puts b r after_write mid new → Puts (a ++ b) r after_write old new
puts_then = pieces.puts_then after_write after_write-after_write

pub grants_break : (layout : Layout) (chunks : List Chunk) (old new : Told) → Breaks (little_bytes 4 (length chunks)) old new →
    Breaks (grants_spelled layout chunks) old new
grants_break layout chunks old new h = breaks_within (little_bytes 4 (length chunks)) (flat_map (chunk_in layout) chunks) old new h

pub chunks_then : {A E : Type 0} (layout : Layout) (chunks : List Chunk) (old mid new : Told) (r : Result A E) →
    mid ≡ after_write (little_bytes 4 (length chunks)) old → Puts (flat_map (chunk_in layout) chunks) r after_write mid new →
    Puts (grants_spelled layout chunks) r after_write old new
chunks_then layout chunks old mid new r e h =
    puts_then (little_bytes 4 (length chunks)) (flat_map (chunk_in layout) chunks) old mid new r e h

-- ---- a span, and the spans and the entry

-- two numbers, and others
pub two_then : {A E : Type 0} (a b : ℕ) (words : List ℕ) (old mid new : Told) (r : Result A E) →
    mid ≡ after_write (numbers_spelled (a ∷ b ∷ [])) old →
    Puts (numbers_spelled words) r after_write mid new →
    Puts ((little_bytes 4 a ++ little_bytes 4 b) ++ numbers_spelled words) r after_write old new
two_then a b words old mid new r e h = puts_then (little_bytes 4 a ++ little_bytes 4 b) (numbers_spelled words) old mid new r e h

pub two_break : (a b : ℕ) (words : List ℕ) (old new : Told) → Breaks (numbers_spelled (a ∷ b ∷ [])) old new →
    Breaks ((little_bytes 4 a ++ little_bytes 4 b) ++ numbers_spelled words) old new
two_break a b words old new h = breaks_within (little_bytes 4 a ++ little_bytes 4 b) (numbers_spelled words) old new h

module _ (spans : List Span) (at : ℕ) (within : at < length spans) (s : Span) (is : (d : Span) → s ≡ get_or spans at d) (old mid new : Told)
    (done : mid ≡ after_write (flat_map span_spelled (take at spans)) old) where
  one_more : flat_map span_spelled (take at spans) ++ span_spelled s ≡ flat_map span_spelled (take (at + 1) spans)
  one_more =
      ap (λ (zs : List ℕ). flat_map span_spelled (take at spans) ++ zs) (sym (append-nil (span_spelled s)))
      ∙ sym (flat_map-append span_spelled (take at spans) (s ∷ []))
      ∙ ap (λ (t : Span). flat_map span_spelled (take at spans ++ t ∷ [])) (is s)
      ∙ ap (flat_map span_spelled) (sym (take_more spans at s within))

  pub span_more : new ≡ after_write (span_spelled s) mid → new ≡ after_write (flat_map span_spelled (take (at + 1) spans)) old
  span_more e =
      puts_after (flat_map span_spelled (take at spans)) (span_spelled s) old mid new done e
      ∙ ap (λ (zs : List ℕ). after_write zs old) one_more

  pub span_breaks : Breaks (span_spelled s) mid new → Breaks (flat_map span_spelled spans) old new
  span_breaks h =
      let c = breaks_after (flat_map span_spelled (take at spans)) (span_spelled s) old mid new done h in
      let d : Breaks (flat_map span_spelled (take (at + 1) spans)) old new = subst (λ (zs : List ℕ). Breaks zs old new) one_more c in
      subst (λ (zs : List ℕ). Breaks zs old new)
      (sym (flat_map-append span_spelled (take (at + 1) spans) (drop (at + 1) spans))
      ∙ ap (flat_map span_spelled) (take-append-drop (at + 1) spans))
      (breaks_within (flat_map span_spelled (take (at + 1) spans)) (flat_map span_spelled (drop (at + 1) spans)) old new d)

-- the number of the spans, the spans, and the entry
module _ (entry : ℕ) (spans : List Span) where
  abbrev count : List ℕ
  count = little_bytes 4 (length spans)

  abbrev each : List ℕ
  each = flat_map span_spelled spans

  pub count_breaks : (old new : Told) → Breaks count old new → Breaks (spanned_spelled entry spans) old new
  count_breaks old new h = breaks_within (count ++ each) (little_bytes 4 entry) old new (breaks_within count each old new h)

  pub each_breaks : (old a new : Told) → a ≡ after_write count old → Breaks each a new → Breaks (spanned_spelled entry spans) old new
  each_breaks old a new e h = breaks_within (count ++ each) (little_bytes 4 entry) old new (breaks_after count each old a new e h)

  pub entry_then : {A E : Type 0} (old a b new : Told) (r : Result A E) → a ≡ after_write count old → b ≡ after_write each a →
      Puts (little_bytes 4 entry) r after_write b new →
      Puts (spanned_spelled entry spans) r after_write old new
  entry_then old a b new r e f h = puts_then (count ++ each) (little_bytes 4 entry) old b new r (puts_after count each old a b e f) h

-- ---- a program

module _ (form : ProgramForm) (program : RiscProgram) (fill : ℕ) where
  abbrev name : List ℕ
  name = name_of form

  abbrev placed : List ℕ
  placed = placed_spelled form program

  abbrev grants : List ℕ
  grants = grants_spelled (layout_of form) program.grants

  pub name_breaks : (old new : Told) → Breaks name old new → Breaks (spelled_as form program fill) old new
  name_breaks old new h =
      breaks_within (name ++ placed ++ grants) (fill ∷ []) old new
      (breaks_within (name ++ placed) grants old new (breaks_within name placed old new h))

  pub placed_breaks : (old a new : Told) → a ≡ after_write name old → Breaks placed a new → Breaks (spelled_as form program fill) old new
  placed_breaks old a new e h =
      breaks_within (name ++ placed ++ grants) (fill ∷ []) old new
      (breaks_within (name ++ placed) grants old new (breaks_after name placed old a new e h))

  pub grants_break_after : (old a b new : Told) → a ≡ after_write name old → b ≡ after_write placed a → Breaks grants b new →
      Breaks (spelled_as form program fill) old new
  grants_break_after old a b new e f h =
      breaks_within (name ++ placed ++ grants) (fill ∷ []) old new
      (breaks_after (name ++ placed) grants old b new (puts_after name placed old a b e f) h)

  pub fill_then : {A E : Type 0} (old a b c new : Told) (r : Result A E) → a ≡ after_write name old → b ≡ after_write placed a →
      c ≡ after_write grants b → Puts (fill ∷ []) r after_write c new →
      Puts (spelled_as form program fill) r after_write old new
  fill_then old a b c new r e f g h =
      puts_then (name ++ placed ++ grants) (fill ∷ []) old c new r
      (puts_after (name ++ placed) grants old b c (puts_after name placed old a b e f) g) h
