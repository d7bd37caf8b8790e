-- Where a reader wants more, the bytes that it used hold no fault.
use Rattle.std.proofs.Common.{◌≡◌, ℕ, ◌+◌, ◌-◌, ◌<◌, ◌≤◌, Bool, true, false, List, [], ◌∷◌, ◌++◌, length, take, drop, Option, Some, None}
use Rattle.std.proofs.Common.{refl, sym, ap, subst, ◌∙◌, arith, length-append, length-take}
use Rattle.std.proofs.lemmas.Bool.{ltb-false}
use Rattle.std.proofs.lemmas.List.{take_all, append-nil}
use Rattle.std.proofs.Math.Seq.{drop-length}
use Rattle.std.specs.Prelude.{⊤, nat_lt}
use Rattle.capture_file.specs.declared.FileFault.{FileFault}
use Rattle.capture_file.specs.declared.reader.Got.{Got}
use Rattle.capture_file.specs.declared.reader.Got.TheVariants as got
use Rattle.capture_file.specs.declared.records.Form.{Form}
use Rattle.capture_file.specs.declared.records.Form.TheVariants.{Bfs1, Bfs2, Bfs3}
use Rattle.capture_file.specs.declared.records.Found.{Found}
use Rattle.capture_file.specs.declared.records.Found.TheVariants.{Cut, Wrong, Last, Whole}
use Rattle.capture_file.specs.Records.{HasFour}
use Rattle.capture_file.specs.Streams.{Bad, Reading, form_of, number_at, record_at}
use Rattle.capture_file.specs.Readers.{Closed, Failed, IsAt, IsReader, Opening, Phase, Reader, Records, Taken, Uses, after_answer, begun}
use Rattle.capture_file.specs.Readers.{closed_taken, ending_in, form_taken, found_taken}
use Rattle.capture_file.specs.Readers.{record_taken, resumed, taken, taken_in, unfinished_if, word_taken}
use Rattle.capture_file.proofs.Answered.{reader-ends, taken-moves}
use Rattle.capture_file.proofs.Fields.{number_at-four}
use Rattle.capture_file.proofs.Resumed.{taken-goes}

-- a phase that is no fault
abbrev IsFine : Phase → Type 0
IsFine (Failed fault) = ⊥
IsFine _ = ⊤

-- a reader that wants more is one, at no fault
abbrev Wants : Got → Reader → Type 0
Wants got.More r = IsReader r × IsFine r.phase
Wants _ r = ⊤

abbrev longer : Reader → List ℕ → Reader
longer r piece = record r { place = r.place + length piece; held = r.held ++ piece }

unfinished-wants : (over : Bool) (r : Reader) (piece : List ℕ) → nat_lt (r.limit - r.place) (length piece) ≡ over → r.place ≤ r.limit →
    IsFine r.phase →
    (take (r.limit - r.place) piece ≡ piece → IsAt r.phase (longer r piece)) → let t = unfinished_if over r piece in Wants t.answer t.reader
unfinished-wants true r piece is below fine at = tt
unfinished-wants false r piece is below fine at =
    let within : length piece ≤ r.limit - r.place = ltb-false (r.limit - r.place) (length piece) is in
    (record { below = omega (arith, within, below); at = at (take_all (r.limit - r.place) piece within) }, fine)

fine_at : (phase other : Phase) → phase ≡ other → IsFine other → IsFine phase
fine_at phase other e h = subst IsFine (sym e) h

module _ (form : Form) (r : Reader) (piece : List ℕ) (phase : r.phase ≡ Records form) (is : IsReader r) where
  at_cut : record_at form r.turns (r.held ++ take (r.limit - r.place) piece) ≡ Cut → take (r.limit - r.place) piece ≡ piece →
      IsAt r.phase (longer r piece)
  at_cut cut whole =
      let at = subst (λ p. IsAt p r) phase is.at in
      let size = length-append r.held piece in
      subst (λ p. IsAt p (longer r piece)) (sym phase)
      (omega (arith, at.0, size), ap (λ (zs : List ℕ). record_at form r.turns (r.held ++ zs)) (sym whole) ∙ cut, at.2)

  found-wants : (found : Found) →
      record_at form r.turns (r.held ++ take (r.limit - r.place) piece) ≡ found → let t = found_taken found r piece in
      Wants t.answer t.reader
  found-wants Cut e =
      unfinished-wants (nat_lt (r.limit - r.place) (length piece)) r piece refl is.below
      (fine_at r.phase (Records form) phase tt) (at_cut e)
  found-wants (Wrong from to why) e = tt
  found-wants Last e = tt
  found-wants (Whole step len) e = tt

  record-wants : let t = record_taken form r piece in Wants t.answer t.reader
  record-wants = found-wants (record_at form r.turns (r.held ++ take (r.limit - r.place) piece)) refl

module _ (r : Reader) (piece : List ℕ) (phase : r.phase ≡ Opening) (is : IsReader r) where
  at_none : number_at (r.held ++ take (r.limit - r.place) piece) ≡ None → take (r.limit - r.place) piece ≡ piece →
      IsAt r.phase (longer r piece)
  at_none none whole =
      let at = subst (λ p. IsAt p r) phase is.at in
      let size = length-append r.held piece in
      let four = number_at-four (r.held ++ take (r.limit - r.place) piece) in
      let short : length (r.held ++ take (r.limit - r.place) piece) < 4 =
      subst (λ o. HasFour o (length (r.held ++ take (r.limit - r.place) piece))) none four in
      let few : length (r.held ++ piece) < 4 = subst (λ (zs : List ℕ). length (r.held ++ zs) < 4) whole short in
      subst (λ p. IsAt p (longer r piece)) (sym phase) (omega (arith, at.0, size), few, at.2)

  -- behind the first word
  begun-reads : (form : Form) (word : ℕ) → number_at (r.held ++ take (r.limit - r.place) piece) ≡ Some word →
      record_at form r.turns [] ≡ Cut → IsReader (begun form r)
  begun-reads form word some none =
      let at = subst (λ p. IsAt p r) phase is.at in
      let size = length-append r.held (take (r.limit - r.place) piece) in
      let front = length-take (r.limit - r.place) piece in
      let four : 4 ≤ length (r.held ++ take (r.limit - r.place) piece) =
      subst (λ o. HasFour o (length (r.held ++ take (r.limit - r.place) piece))) some
      (number_at-four (r.held ++ take (r.limit - r.place) piece)) in
      record { below = omega (arith, four, size, front, at.0, is.below); at = (omega arith, none, omega (arith, at.2)) }

  form-wants : (form : Option Form) (word : ℕ) →
      number_at (r.held ++ take (r.limit - r.place) piece) ≡ Some word → let t = form_taken form (4 - length r.held) r piece in
      Wants t.answer t.reader
  form-wants None word some = tt
  form-wants (Some Bfs1) word some =
      record-wants Bfs1 (begun Bfs1 r) (drop (4 - length r.held) piece) refl (begun-reads Bfs1 word some refl)
  form-wants (Some Bfs2) word some = tt
  form-wants (Some Bfs3) word some = tt

  word-wants : (word : Option ℕ) → number_at (r.held ++ take (r.limit - r.place) piece) ≡ word → let t = word_taken word r piece in
      Wants t.answer t.reader
  word-wants None e =
      unfinished-wants (nat_lt (r.limit - r.place) (length piece)) r piece refl is.below (fine_at r.phase Opening phase tt) (at_none e)
  word-wants (Some word) e = form-wants (form_of r.chained word) word e

closed-wants : (r : Reader) (piece : List ℕ) → r.phase ≡ Closed → IsReader r → let t = closed_taken r piece in Wants t.answer t.reader
closed-wants r [] phase is = (is, fine_at r.phase Closed phase tt)
closed-wants r (byte ∷ piece) phase is = tt

phase-wants : (phase : Phase) (r : Reader) (piece : List ℕ) → r.phase ≡ phase → IsReader r → let t = taken_in phase r piece in
    Wants t.answer t.reader
phase-wants Opening r piece e is = word-wants r piece e is (number_at (r.held ++ take (r.limit - r.place) piece)) refl
phase-wants (Records form) r piece e is = record-wants form r piece e is
phase-wants Closed r piece e is = closed-wants r piece e is
phase-wants (Failed fault) r piece e is = tt

taken-wants : (r : Reader) (piece : List ℕ) → IsReader r → let t = taken r piece in Wants t.answer t.reader
unfolding taken
taken-wants r piece is = phase-wants r.phase r piece refl is

-- ---- the bytes

fine_ending : (phase : Phase) (fault : FileFault) → IsFine phase → ending_in phase ≡ Bad fault → ⊥
fine_ending Opening fault fine e = absurd (cc)
fine_ending (Records form) fault fine e = absurd (cc)
fine_ending Closed fault fine e = absurd (cc)
fine_ending (Failed other) fault fine e = fine

module _ (r : Reader) (piece : List ℕ) (t : Taken) (is : IsReader r) (exact : t ≡ taken r piece) (more : t.answer ≡ got.More) where
  wanted : IsReader t.reader × IsFine t.reader.phase
  wanted =
      subst (λ answer. Wants answer t.reader) more (subst (λ (u : Taken). Wants u.answer u.reader) (sym exact) (taken-wants r piece is))

  all_used : t.used ≡ length piece
  all_used =
      subst (λ answer. Uses answer t.used (length piece)) more
      (subst (λ (u : Taken). Uses u.answer u.used (length piece)) (sym exact) (taken-moves r piece is).0)

  goes : resumed r (piece ++ []) ≡ after_answer t.answer (resumed t.reader (drop t.used piece ++ []))
  goes =
      subst (λ (u : Taken). resumed r (piece ++ []) ≡ after_answer u.answer (resumed u.reader (drop u.used piece ++ []))) (sym exact)
      (taken-goes r piece [] is)

  same_ending : (resumed r piece).ending ≡ ending_in t.reader.phase
  same_ending =
      ap (λ (zs : List ℕ). (resumed r zs).ending) (sym (append-nil piece))
      ∙ ap (λ (found : Reading). found.ending) goes
      ∙ ap (λ answer. (after_answer answer (resumed t.reader (drop t.used piece ++ []))).ending) more
      ∙ ap (λ n. (resumed t.reader (drop n piece ++ [])).ending) all_used
      ∙ ap (λ (zs : List ℕ). (resumed t.reader (zs ++ [])).ending) (drop-length piece)
      ∙ ap (λ (found : Reading). found.ending) (reader-ends t.reader wanted.0)

  pub wants-more : (fault : FileFault) → (resumed r piece).ending ≡ Bad fault → ⊥
  wants-more fault bad = fine_ending t.reader.phase fault wanted.1 (sym same_ending ∙ bad)
