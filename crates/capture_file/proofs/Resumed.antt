-- What a reader has done with a piece and what it does with the bytes after it are the whole.
use Rattle.std.proofs.Common.{◌≡◌, ℕ, zero, suc, ◌+◌, ◌-◌, ◌<◌, ◌≤◌, inl, inr, Bool, true, false, List, [], ◌∷◌, ◌++◌, length, take, drop}
use Rattle.std.proofs.Common.{Option, Some, None, refl, sym, ap, ◌∙◌, arith, append_assoc, length-append, length-take, length-drop}
use Rattle.std.proofs.lemmas.Bool.{ltb-true, ltb-false, lt-ltb}
use Rattle.std.proofs.lemmas.List.{take_all, take-append-le, drop-append-le, drop-take, drop_all, drop-drop, nil_from_length}
use Rattle.std.proofs.Math.Seq.{take-append-add, drop-append-add}
use Rattle.std.specs.Prelude.{nat_lt}
use Rattle.capture_file.specs.declared.FileKind.{FileKind}
use Rattle.capture_file.specs.declared.FileKind.TheVariants as fault
use Rattle.capture_file.specs.declared.FileFault.{FileFault}
use Rattle.capture_file.specs.declared.Step.{Step}
use Rattle.capture_file.specs.Readers.{Phase, Opening, Records, Closed, Failed, Reader, Taken, resumed, taken, taken_in, unfinished_if}
use Rattle.capture_file.specs.Readers.{found_taken, record_taken, form_taken, word_taken, beyond_end, begun, after_answer, IsAt, IsReader}
use Rattle.capture_file.specs.declared.records.Form.{Form}
use Rattle.capture_file.specs.declared.records.Form.TheVariants.{Bfs1, Bfs2, Bfs3}
use Rattle.capture_file.specs.declared.records.Found.{Found}
use Rattle.capture_file.specs.declared.records.Found.TheVariants.{Cut, Wrong, Last, Whole}
use Rattle.capture_file.specs.Streams.{Reading, reading, with_step, Ended, Bad, fault_at, number_at, form_of, record_at, records, within}
use Rattle.capture_file.specs.Streams.{within_if, too_long, after_end, first_trigger, turns_of, stream_of, judged, opened, opened_by}
use Rattle.capture_file.specs.Records.{HasFour, Spans, Passes}
use Rattle.capture_file.proofs.Fields.{Keeps, number_at-four, number_at-append, record_at-spans, record_at-passes, record_at-append}
use Rattle.capture_file.proofs.Readings.{records-front, front_of}

-- the front of a list and more
pub take_both : {A : Type 0} (n : ℕ) (xs ys : List A) → take n (xs ++ ys) ≡ take n xs ++ take (n - length xs) ys
take_both zero [] ys = refl
take_both (suc n) [] ys = ap (λ (k : ℕ). take k ys) (let e : suc n ≡ suc n - 0 = omega arith in e)
take_both zero (x ∷ xs) ys = ap (λ (k : ℕ). take k ys) (let e : 0 ≡ 0 - length (x ∷ xs) = omega arith in e)
take_both {A = A} (suc n) (x ∷ xs) ys =
    ap (λ (zs : List A). x ∷ zs) (take_both n xs ys)
    ∙ ap (λ (k : ℕ). x ∷ (take n xs ++ take k ys)) (let e : n - length xs ≡ suc n - suc (length xs) = omega arith in e)

-- the limit asks for nothing of the steps
within_if-step : (b : Bool) (limit : ℕ) (step : Step) (rest : Reading) →
    within_if b limit (with_step step rest) ≡ with_step step (within_if b limit rest)
within_if-step true limit step rest = refl
within_if-step false limit step rest = refl

within-step : (limit count other : ℕ) (step : Step) (rest : Reading) → count ≡ other →
    within limit count (with_step step rest) ≡ with_step step (within limit other rest)
within-step limit count other step rest e =
    ap (λ (n : ℕ). within limit n (with_step step rest)) e ∙ within_if-step (nat_lt limit other) limit step rest

within_if-bad : (b : Bool) (limit : ℕ) (fault : FileFault) → within_if b limit (reading [] (Bad fault)) ≡ reading [] (Bad fault)
within_if-bad true limit fault = refl
within_if-bad false limit fault = refl

within-bad : (limit count : ℕ) (fault : FileFault) → within limit count (reading [] (Bad fault)) ≡ reading [] (Bad fault)
within-bad limit count fault = within_if-bad (nat_lt limit count) limit fault

within-over : (limit count : ℕ) (found : Reading) → limit < count →
    within limit count found ≡ reading found.steps (too_long limit found.ending)
within-over limit count found h = ap (λ (b : Bool). within_if b limit found) (lt-ltb limit count h)

-- a reader by its fields
abbrev pub reader : ℕ → Bool → Phase → ℕ → ℕ → List ℕ → Reader
reader limit chained phase place turns held =
    record { limit = limit; chained = chained; phase = phase; place = place; turns = turns; held = held }

abbrev Goes : Reader → List ℕ → List ℕ → Taken → Type 0
Goes r piece more t = resumed r (piece ++ more) ≡ after_answer t.answer (resumed t.reader (drop t.used piece ++ more))

-- behind what was used of a piece
used_of : (limit place used : ℕ) (held piece more : List ℕ) → used ≤ limit - place → used ≤ length piece →
    drop (length held + used) (held ++ take (limit - place) (piece ++ more)) ≡ take (limit - (place + used)) (drop used piece ++ more)
used_of limit place used held piece more h k =
    let all : limit - place ≡ used + (limit - (place + used)) = omega arith in
    drop-append-add held (take (limit - place) (piece ++ more)) used
    ∙ ap (λ (n : ℕ). drop used (take n (piece ++ more))) all
    ∙ drop-take used (limit - (place + used)) (piece ++ more)
    ∙ ap (take (limit - (place + used))) (drop-append-le used piece more k)

module _ (form : Form) (limit : ℕ) (chained : Bool) (place turns : ℕ) (held piece more : List ℕ) (below : place ≤ limit)
    (inside : length held ≤ place) where
  regrouped : held ++ take (limit - place) (piece ++ more)
      ≡ (held ++ take (limit - place) piece) ++ take (limit - place - length piece) more
  regrouped =
      ap (λ (zs : List ℕ). held ++ zs) (take_both (limit - place) piece more)
      ∙ sym (append_assoc held (take (limit - place) piece) (take (limit - place - length piece) more))

  -- what was found in the piece is at the front of the whole
  fronted : (found : Found) →
      record_at form turns ((held ++ take (limit - place) piece) ++ take (limit - place - length piece) more) ≡ found →
      records form turns (place - length held) 0 (held ++ take (limit - place) (piece ++ more))
      ≡ front_of found form turns (place - length held) (held ++ take (limit - place) (piece ++ more))
  fronted found is =
      records-front form turns (place - length held) (held ++ take (limit - place) (piece ++ more))
      ∙ ap (λ (f : Found). front_of f form turns (place - length held) (held ++ take (limit - place) (piece ++ more)))
      (ap (record_at form turns) regrouped ∙ is)

  whole-goes : (step : Step) (len : ℕ) → Spans (Whole step len) (length (held ++ take (limit - place) piece)) → length held < len →
      record_at form turns ((held ++ take (limit - place) piece) ++ take (limit - place - length piece) more) ≡ Whole step len →
      Goes (reader limit chained (Records form) place turns held) piece more
      (found_taken (Whole step len) (reader limit chained (Records form) place turns held) piece)
  unfolding resumed
  whole-goes step len spans past is =
      let size : length (held ++ take (limit - place) piece) ≡ length held + length (take (limit - place) piece) =
      length-append held (take (limit - place) piece) in
      let front = length-take (limit - place) piece in
      let used : length held + (len - length held) ≡ len = omega arith in
      let in_room : len - length held ≤ limit - place = omega arith in
      let in_piece : len - length held ≤ length piece = omega arith in
      let next : place - length held + len ≡ place + (len - length held) - 0 = omega arith in
      let count : place + length (piece ++ more) ≡ place + (len - length held) + length (drop (len - length held) piece ++ more) =
      omega (arith, length-append piece more, length-append (drop (len - length held) piece) more, length-drop (len - length held) piece) in
      ap (within limit (place + length (piece ++ more))) (fronted (Whole step len) is)
      ∙ within-step limit (place + length (piece ++ more))
      (place + (len - length held) + length (drop (len - length held) piece ++ more)) step
      (records form (turns + turns_of step) (place - length held + len) 0 (drop len (held ++ take (limit - place) (piece ++ more)))) count
      ∙ ap (λ (rest : Reading).
      with_step step (within limit (place + (len - length held) + length (drop (len - length held) piece ++ more)) rest))
      (ap (λ (n : ℕ). records form (turns + turns_of step) n 0 (drop len (held ++ take (limit - place) (piece ++ more)))) next
      ∙ ap (records form (turns + turns_of step) (place + (len - length held) - 0) 0)
      (ap (λ (n : ℕ). drop n (held ++ take (limit - place) (piece ++ more))) (sym used)
      ∙ used_of limit place (len - length held) held piece more in_room in_piece))

  wrong-goes : (from to : ℕ) (kind : FileKind) →
      record_at form turns ((held ++ take (limit - place) piece) ++ take (limit - place - length piece) more) ≡ Wrong from to kind →
      Goes (reader limit chained (Records form) place turns held) piece more
      (found_taken (Wrong from to kind) (reader limit chained (Records form) place turns held) piece)
  unfolding resumed
  wrong-goes from to kind is =
      ap (within limit (place + length (piece ++ more))) (fronted (Wrong from to kind) is)
      ∙ within-bad limit (place + length (piece ++ more)) (fault_at (place - length held + from) kind)

  last-goes : held ≡ [] → 0 < length (take (limit - place) piece) →
      record_at form turns ((held ++ take (limit - place) piece) ++ take (limit - place - length piece) more) ≡ Last →
      Goes (reader limit chained (Records form) place turns held) piece more
      (found_taken Last (reader limit chained (Records form) place turns held) piece)
  unfolding resumed
  last-goes none some is =
      let front = length-take (limit - place) piece in
      let in_room : 1 ≤ limit - place = omega arith in
      let in_piece : 1 ≤ length piece = omega arith in
      let empty : length held ≡ 0 = ap length none in
      let next : place - length held + 1 ≡ place + 1 = omega arith in
      let count : place + length (piece ++ more) ≡ place + 1 + length (drop 1 piece ++ more) =
      omega (arith, length-append piece more, length-append (drop 1 piece) more, length-drop 1 piece) in
      ap (within limit (place + length (piece ++ more))) (fronted Last is)
      ∙ ap (λ (n : ℕ).
      within limit n (reading [] (after_end (place - length held + 1) (drop 1 (held ++ take (limit - place) (piece ++ more)))))) count
      ∙ ap (λ (n : ℕ). within limit (place + 1 + length (drop 1 piece ++ more))
      (reading [] (after_end n (drop 1 (held ++ take (limit - place) (piece ++ more)))))) next
      ∙ ap (λ (zs : List ℕ). within limit (place + 1 + length (drop 1 piece ++ more)) (reading [] (after_end (place + 1) zs)))
      (ap (λ (n : ℕ). drop n (held ++ take (limit - place) (piece ++ more))) (let e : 1 ≡ length held + 1 = omega arith in e)
      ∙ used_of limit place 1 held piece more in_room in_piece)

  cut-goes : (over : Bool) → nat_lt (limit - place) (length piece) ≡ over →
      record_at form turns (held ++ take (limit - place) piece) ≡ Cut →
      Goes (reader limit chained (Records form) place turns held) piece more
      (unfinished_if over (reader limit chained (Records form) place turns held) piece)
  unfolding resumed
  cut-goes true is cut =
      let over : limit - place < length piece = ltb-true (limit - place) (length piece) is in
      let beyond : limit < place + length (piece ++ more) = omega (arith, length-append piece more) in
      let same : held ++ take (limit - place) (piece ++ more) ≡ held ++ take (limit - place) piece =
      ap (λ (zs : List ℕ). held ++ zs) (take-append-le (limit - place) piece more (omega arith)) in
      within-over limit (place + length (piece ++ more))
      (records form turns (place - length held) 0 (held ++ take (limit - place) (piece ++ more))) beyond
      ∙ ap (λ (found : Reading). reading found.steps (too_long limit found.ending))
      (ap (records form turns (place - length held) 0) same
      ∙ records-front form turns (place - length held) (held ++ take (limit - place) piece)
      ∙ ap (λ (f : Found). front_of f form turns (place - length held) (held ++ take (limit - place) piece)) cut)
  cut-goes false is cut =
      let inside : length piece ≤ limit - place = ltb-false (limit - place) (length piece) is in
      let all : limit - place ≡ length piece + (limit - (place + length piece)) = omega arith in
      let nothing : drop (length piece) piece ≡ [] = drop_all (length piece) piece (omega arith) in
      let rest : more ≡ drop (length piece) piece ++ more = sym (ap (λ (zs : List ℕ). zs ++ more) nothing) in
      let begins : place - length held ≡ place + length piece - length (held ++ piece) = omega (arith, length-append held piece) in
      let count : place + length (piece ++ more) ≡ place + length piece + length (drop (length piece) piece ++ more) =
      omega (arith, length-append piece more, ap length rest) in
      let bytes : held ++ take (limit - place) (piece ++ more)
      ≡ (held ++ piece) ++ take (limit - (place + length piece)) (drop (length piece) piece ++ more) =
      ap (λ (n : ℕ). held ++ take n (piece ++ more)) all
      ∙ ap (λ (zs : List ℕ). held ++ zs) (take-append-add piece more (limit - (place + length piece)))
      ∙ sym (append_assoc held piece (take (limit - (place + length piece)) more))
      ∙ ap (λ (zs : List ℕ). (held ++ piece) ++ take (limit - (place + length piece)) zs) rest in
      ap (λ (n : ℕ). within limit n (records form turns (place - length held) 0 (held ++ take (limit - place) (piece ++ more)))) count
      ∙ ap (λ (zs : List ℕ). within limit (place + length piece + length (drop (length piece) piece ++ more))
      (records form turns (place - length held) 0 zs)) bytes
      ∙ ap (λ (n : ℕ). within limit (place + length piece + length (drop (length piece) piece ++ more))
      (records form turns n 0 ((held ++ piece) ++ take (limit - (place + length piece)) (drop (length piece) piece ++ more)))) begins

  found-goes : (found : Found) → record_at form turns (held ++ take (limit - place) piece) ≡ found →
      Spans found (length (held ++ take (limit - place) piece)) → Passes found (length held) →
      Keeps found (record_at form turns ((held ++ take (limit - place) piece) ++ take (limit - place - length piece) more)) →
      Goes (reader limit chained (Records form) place turns held) piece more
      (found_taken found (reader limit chained (Records form) place turns held) piece)
  found-goes (Whole step len) is spans passes (inl e) = absurd (cc)
  found-goes (Whole step len) is spans passes (inr e) = whole-goes step len spans passes e
  found-goes (Wrong from to kind) is spans passes (inl e) = absurd (cc)
  found-goes (Wrong from to kind) is spans passes (inr e) = wrong-goes from to kind e
  found-goes Last is spans passes (inl e) = absurd (cc)
  found-goes Last is spans passes (inr e) =
      let none : held ≡ [] = nil_from_length held (omega arith) in
      let some : 0 < length (take (limit - place) piece) = omega (arith, length-append held (take (limit - place) piece)) in
      last-goes none some e
  found-goes Cut is spans passes keeps = cut-goes (nat_lt (limit - place) (length piece)) refl is

  record-goes : record_at form turns held ≡ Cut → Goes (reader limit chained (Records form) place turns held) piece more
      (record_taken form (reader limit chained (Records form) place turns held) piece)
  record-goes cut =
      found-goes (record_at form turns (held ++ take (limit - place) piece)) refl
      (record_at-spans form turns (held ++ take (limit - place) piece))
      (record_at-passes form turns held (take (limit - place) piece) cut)
      (record_at-append form turns (held ++ take (limit - place) piece) (take (limit - place - length piece) more))

-- In the first word.

module _ (limit : ℕ) (chained : Bool) (held piece more : List ℕ) (below : length held ≤ limit) where
  joined : take limit (held ++ (piece ++ more)) ≡ held ++ take (limit - length held) (piece ++ more)
  joined =
      take_both limit held (piece ++ more)
      ∙ ap (λ (zs : List ℕ). zs ++ take (limit - length held) (piece ++ more)) (take_all limit held below)

  split : take limit (held ++ (piece ++ more))
      ≡ (held ++ take (limit - length held) piece) ++ take (limit - length held - length piece) more
  split =
      joined
      ∙ ap (λ (zs : List ℕ). held ++ zs) (take_both (limit - length held) piece more)
      ∙ sym (append_assoc held (take (limit - length held) piece) (take (limit - length held - length piece) more))

  unfinished-goes : (over : Bool) → nat_lt (limit - length held) (length piece) ≡ over →
      number_at (held ++ take (limit - length held) piece) ≡ None →
      Goes (reader limit chained Opening (length held) 0 held) piece more
      (unfinished_if over (reader limit chained Opening (length held) 0 held) piece)
  unfolding resumed stream_of
  unfinished-goes true is short =
      let over : limit - length held < length piece = ltb-true (limit - length held) (length piece) is in
      let beyond : limit < length (held ++ (piece ++ more)) = omega (arith, length-append piece more, length-append held (piece ++ more)) in
      let same : take limit (held ++ (piece ++ more)) ≡ held ++ take (limit - length held) piece =
      joined ∙ ap (λ (zs : List ℕ). held ++ zs) (take-append-le (limit - length held) piece more (omega arith)) in
      within-over limit (length (held ++ (piece ++ more))) (judged chained (take limit (held ++ (piece ++ more)))) beyond
      ∙ ap (λ (found : Reading). reading found.steps (too_long limit found.ending))
      (ap (judged chained) same
      ∙ ap (λ (word : Option ℕ). opened_by chained word (drop 4 (held ++ take (limit - length held) piece))) short)
  unfinished-goes false is short =
      let nothing : drop (length piece) piece ≡ [] = drop_all (length piece) piece (omega arith) in
      ap (stream_of limit chained)
      (sym (append_assoc held piece more)
      ∙ ap (λ (zs : List ℕ). (held ++ piece) ++ (zs ++ more)) (sym nothing))

  module _ (word : ℕ) (is : number_at (held ++ take (limit - length held) piece) ≡ Some word) (short : length held < 4) where
    enough : (4 - length held ≤ limit - length held) × (4 - length held ≤ length piece)
    enough =
        let four = number_at-four (held ++ take (limit - length held) piece) in
        let some : HasFour (Some word) (length (held ++ take (limit - length held) piece)) = rw is at four in
        let all : 4 ≤ length (held ++ take (limit - length held) piece) = some in
        let size = length-append held (take (limit - length held) piece) in
        let front = length-take (limit - length held) piece in
        (omega arith, omega arith)

    word-first : number_at (take limit (held ++ (piece ++ more))) ≡ Some word
    word-first =
        elim (number_at-append (held ++ take (limit - length held) piece) (take (limit - length held - length piece) more)) [
          | inl e ↦ absurd (cc)
          | inr e ↦ ap number_at split ∙ e ∙ is
        ]

    begun-reads : stream_of limit chained (held ++ (piece ++ more)) ≡
        within limit (4 + length (drop (4 - length held) piece ++ more))
        (opened (form_of chained word) (take (limit - 4) (drop (4 - length held) piece ++ more)))
    unfolding stream_of
    begun-reads =
        let used : 4 ≡ length held + (4 - length held) = omega arith in
        let count : length (held ++ (piece ++ more)) ≡ 4 + length (drop (4 - length held) piece ++ more) =
        omega (
          arith,
          enough,
          length-append held (piece ++ more),
          length-append piece more,
          length-append (drop (4 - length held) piece) more,
          length-drop (4 - length held) piece,
        ) in
        let rest : drop 4 (take limit (held ++ (piece ++ more))) ≡ take (limit - 4) (drop (4 - length held) piece ++ more) =
        ap (drop 4) joined
        ∙ ap (λ (n : ℕ). drop n (held ++ take (limit - length held) (piece ++ more))) used
        ∙ used_of limit (length held) (4 - length held) held piece more enough.0 enough.1
        ∙ ap (λ (n : ℕ). take (limit - n) (drop (4 - length held) piece ++ more)) (sym used) in
        ap (λ (n : ℕ). within limit n (judged chained (take limit (held ++ (piece ++ more))))) count
        ∙ ap (λ (w : Option ℕ). within limit (4 + length (drop (4 - length held) piece ++ more))
        (opened_by chained w (drop 4 (take limit (held ++ (piece ++ more)))))) word-first
        ∙ ap (λ (zs : List ℕ). within limit (4 + length (drop (4 - length held) piece ++ more)) (opened (form_of chained word) zs)) rest

    form-goes : (form : Option Form) → form_of chained word ≡ form →
        Goes (reader limit chained Opening (length held) 0 held) piece more
        (form_taken form (4 - length held) (reader limit chained Opening (length held) 0 held) piece)
    unfolding resumed
    form-goes None named =
        begun-reads
        ∙ ap (λ (f : Option Form). within limit (4 + length (drop (4 - length held) piece ++ more))
        (opened f (take (limit - 4) (drop (4 - length held) piece ++ more)))) named
        ∙ within-bad limit (4 + length (drop (4 - length held) piece ++ more)) (fault_at 0 fault.Magic)
    form-goes (Some Bfs1) named =
        let low : 4 ≤ limit = omega (arith, enough) in
        let t : Taken = record_taken Bfs1 (begun Bfs1 (reader limit chained Opening (length held) 0 held)) (drop (4 - length held) piece) in
        begun-reads
        ∙ ap (λ (f : Option Form). within limit (4 + length (drop (4 - length held) piece ++ more))
        (opened f (take (limit - 4) (drop (4 - length held) piece ++ more)))) named
        ∙ record-goes Bfs1 limit chained 4 0 [] (drop (4 - length held) piece) more low (omega arith) refl
        ∙ ap (λ (zs : List ℕ). after_answer t.answer (resumed t.reader (zs ++ more))) (drop-drop t.used (4 - length held) piece)
    form-goes (Some Bfs2) named =
        begun-reads
        ∙ ap (λ (f : Option Form). within limit (4 + length (drop (4 - length held) piece ++ more))
        (opened f (take (limit - 4) (drop (4 - length held) piece ++ more)))) named
        ∙ within-step limit (4 + length (drop (4 - length held) piece ++ more)) (4 + length (drop (4 - length held) piece ++ more))
        first_trigger (records Bfs2 0 4 0 (take (limit - 4) (drop (4 - length held) piece ++ more))) refl
    form-goes (Some Bfs3) named =
        begun-reads
        ∙ ap (λ (f : Option Form). within limit (4 + length (drop (4 - length held) piece ++ more))
        (opened f (take (limit - 4) (drop (4 - length held) piece ++ more)))) named
        ∙ within-step limit (4 + length (drop (4 - length held) piece ++ more)) (4 + length (drop (4 - length held) piece ++ more))
        first_trigger (records Bfs3 0 4 0 (take (limit - 4) (drop (4 - length held) piece ++ more))) refl

  word-goes : (word : Option ℕ) → number_at (held ++ take (limit - length held) piece) ≡ word → length held < 4 →
      Goes (reader limit chained Opening (length held) 0 held) piece more
      (word_taken word (reader limit chained Opening (length held) 0 held) piece)
  word-goes None is short = unfinished-goes (nat_lt (limit - length held) (length piece)) refl is
  word-goes (Some word) is short = form-goes word is short (form_of chained word) refl

-- After the end record.

closed-goes : (limit : ℕ) (chained : Bool) (place turns : ℕ) (piece more : List ℕ) (inside : Bool) → nat_lt place limit ≡ inside →
    place ≤ limit → (byte : ℕ) →
    within limit (place + length (byte ∷ (piece ++ more))) (reading [] (after_end place (take (limit - place) (byte ∷ (piece ++ more)))))
    ≡ reading [] (Bad (fault_at place (beyond_end inside)))
closed-goes limit chained place turns piece more true is below byte =
    let lt : place < limit = ltb-true place limit is in
    let one : limit - place ≡ suc (limit - place - 1) = omega arith in
    ap
    (λ (n : ℕ). within limit (place + length (byte ∷ (piece ++ more))) (reading [] (after_end place (take n (byte ∷ (piece ++ more)))))) one
    ∙ within-bad limit (place + length (byte ∷ (piece ++ more))) (fault_at place fault.AfterEnd)
closed-goes limit chained place turns piece more false is below byte =
    let ge : limit ≤ place = ltb-false place limit is in
    let none : limit - place ≡ 0 = omega arith in
    let same : limit ≡ place = omega arith in
    let over : limit < place + length (byte ∷ (piece ++ more)) = omega arith in
    ap (λ (n : ℕ). within limit (place + length (byte ∷ (piece ++ more))) (reading [] (after_end place (take n (byte ∷ (piece ++ more))))))
    none
    ∙ within-over limit (place + length (byte ∷ (piece ++ more))) (reading [] Ended) over
    ∙ ap (λ (n : ℕ). reading [] (Bad (fault_at n fault.TooLong))) same

-- In every phase.

phase-goes : (phase : Phase) (limit : ℕ) (chained : Bool) (place turns : ℕ) (held piece more : List ℕ) → place ≤ limit →
    IsAt phase (reader limit chained phase place turns held) →
    Goes (reader limit chained phase place turns held) piece more (taken_in phase (reader limit chained phase place turns held) piece)
unfolding resumed
phase-goes Opening limit chained place turns held piece more below at =
    let low : length held ≤ limit = omega arith in
    rw (at.0, at.2) (word-goes limit chained held piece more low (number_at (held ++ take (limit - length held) piece)) refl at.1)
phase-goes (Records form) limit chained place turns held piece more below at =
    record-goes form limit chained place turns held piece more below at.0 at.1
phase-goes Closed limit chained place turns held [] more below at = refl
phase-goes Closed limit chained place turns held (byte ∷ piece) more below at =
    closed-goes limit chained place turns piece more (nat_lt place limit) refl below byte
phase-goes (Failed fault) limit chained place turns held piece more below at = refl

pub taken-goes : (r : Reader) (piece more : List ℕ) → IsReader r → Goes r piece more (taken r piece)
unfolding taken
taken-goes r piece more is = phase-goes r.phase r.limit r.chained r.place r.turns r.held piece more is.below is.at
