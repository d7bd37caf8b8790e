-- A stream of which more bytes come.
use Rattle.std.proofs.Common.{◌≡◌, ℕ, zero, suc, ◌+◌, ◌-◌, ◌<◌, inl, inr, Bool, true, false, List, [], ◌∷◌, ◌++◌, length, take, Option}
use Rattle.std.proofs.Common.{Some, None, refl, sym, ap, ◌∙◌, arith, length-append}
use Rattle.std.proofs.lemmas.List.{append-nil, take_all, take-append-le}
use Rattle.std.proofs.lemmas.Bool.{ltb-true, ltb-false, lt-ltb}
use Rattle.std.specs.Prelude.{nat_lt}
use Rattle.byteorder.specs.Endian.{little_number}
use Rattle.capture_file.specs.declared.Step.{Step}
use Rattle.capture_file.specs.declared.records.Form.{Form}
use Rattle.capture_file.specs.declared.records.Form.TheVariants.{Bfs1, Bfs2, Bfs3}
use Rattle.capture_file.specs.declared.records.Found.{Found}
use Rattle.capture_file.specs.declared.records.Found.TheVariants.{Cut, Wrong, Last, Whole}
use Rattle.capture_file.specs.Streams.{Reading, reading, with_step, Ending, Unfinished, Ended, Bad, IsFinal, GoesOn, first_trigger}
use Rattle.capture_file.specs.Streams.{turns_of, after_end, form_of, record_at, records, opened, judged, within, within_if, too_long}
use Rattle.capture_file.specs.Streams.{stream_of}
use Rattle.capture_file.proofs.Fields.{Keeps, record_at-append}
use Rattle.capture_file.proofs.Readings.{cons_of, records-cons}
use Rattle.capture_file.proofs.Resumed.{take_both}

final_same : (ending : Ending) (r : Reading) → IsFinal ending r r
final_same Unfinished r = tt
final_same Ended r = tt
final_same (Bad fault) r = refl

goes_same : (r : Reading) → GoesOn r r
goes_same r = (([], sym (append-nil r.steps)), final_same r.ending r)

goes_from_start : (r : Reading) → GoesOn (reading [] Unfinished) r
goes_from_start r = ((r.steps, refl), tt)

final_step : (ending : Ending) (step : Step) (first more : Reading) → IsFinal ending first more →
    IsFinal ending (with_step step first) (with_step step more)
final_step Unfinished step first more h = tt
final_step Ended step first more h = tt
final_step (Bad fault) step first more h = ap (with_step step) h

goes_step : (step : Step) (first more : Reading) → GoesOn first more → GoesOn (with_step step first) (with_step step more)
goes_step step first more h = ((h.0.0, ap (λ (ss : List Step). step ∷ ss) h.0.1), final_step first.ending step first more h.1)

goes_end : (place : ℕ) (bytes more : List ℕ) → GoesOn (reading [] (after_end place bytes)) (reading [] (after_end place (bytes ++ more)))
goes_end place [] more = (([], refl), tt)
goes_end place (byte ∷ bytes) more = (([], refl), refl)

-- ---- records

abbrev Later : Form → List ℕ → List ℕ → Type 0
Later form bytes more =
    (turns place skip : ℕ) → GoesOn (records form turns place skip bytes) (records form turns place skip (bytes ++ more))

found_same : (found : Found) (form : Form) (turns place : ℕ) (rest more : List ℕ) → Later form rest more →
    GoesOn (cons_of found form turns place rest) (cons_of found form turns place (rest ++ more))
found_same Cut form turns place rest more later = goes_same (reading [] Unfinished)
found_same (Wrong from to kind) form turns place rest more later = (([], refl), refl)
found_same Last form turns place rest more later = goes_end (place + 1) rest more
found_same (Whole step len) form turns place rest more later =
    goes_step step (records form (turns + turns_of step) (place + 1) (len - 1) rest)
    (records form (turns + turns_of step) (place + 1) (len - 1) (rest ++ more))
    (later (turns + turns_of step) (place + 1) (len - 1))

found_goes : (found longer : Found) → Keeps found longer → (form : Form) (turns place : ℕ) (rest more : List ℕ) → Later form rest more →
    GoesOn (cons_of found form turns place rest) (cons_of longer form turns place (rest ++ more))
found_goes found longer (inl e) form turns place rest more later = rw e (goes_from_start (cons_of longer form turns place (rest ++ more)))
found_goes found longer (inr e) form turns place rest more later = rw e (found_same found form turns place rest more later)

records-tag : (form : Form) (turns place tag : ℕ) (rest more : List ℕ) → Later form rest more →
    GoesOn (records form turns place 0 (tag ∷ rest)) (records form turns place 0 (tag ∷ (rest ++ more)))
records-tag form turns place tag rest more later =
    rw (records-cons form turns place tag rest, records-cons form turns place tag (rest ++ more))
    (found_goes (record_at form turns (tag ∷ rest)) (record_at form turns (tag ∷ (rest ++ more)))
    (record_at-append form turns (tag ∷ rest) more) form turns place rest more later)

records-goes : (form : Form) (bytes more : List ℕ) (turns place skip : ℕ) →
    GoesOn (records form turns place skip bytes) (records form turns place skip (bytes ++ more))
unfolding records
records-goes form [] more turns place zero = goes_from_start (records form turns place 0 more)
records-goes form [] more turns place (suc skip) = goes_from_start (records form turns place (suc skip) more)
records-goes form (byte ∷ rest) more turns place (suc skip) = records-goes form rest more turns (place + 1) skip
records-goes form (tag ∷ rest) more turns place zero = records-tag form turns place tag rest more (records-goes form rest more)

-- ---- the first word

opened-goes : (form : Option Form) (rest more : List ℕ) → GoesOn (opened form rest) (opened form (rest ++ more))
opened-goes None rest more = (([], refl), refl)
opened-goes (Some Bfs1) rest more = records-goes Bfs1 rest more 0 4 0
opened-goes (Some Bfs2) rest more =
    goes_step first_trigger (records Bfs2 0 4 0 rest) (records Bfs2 0 4 0 (rest ++ more)) (records-goes Bfs2 rest more 0 4 0)
opened-goes (Some Bfs3) rest more =
    goes_step first_trigger (records Bfs3 0 4 0 rest) (records Bfs3 0 4 0 (rest ++ more)) (records-goes Bfs3 rest more 0 4 0)

judged-goes : (chained : Bool) (bytes more : List ℕ) → GoesOn (judged chained bytes) (judged chained (bytes ++ more))
judged-goes chained [] more = goes_from_start (judged chained more)
judged-goes chained (a ∷ []) more = goes_from_start (judged chained (a ∷ more))
judged-goes chained (a ∷ b ∷ []) more = goes_from_start (judged chained (a ∷ b ∷ more))
judged-goes chained (a ∷ b ∷ c ∷ []) more = goes_from_start (judged chained (a ∷ b ∷ c ∷ more))
judged-goes chained (a ∷ b ∷ c ∷ d ∷ rest) more = opened-goes (form_of chained (little_number 4 (a ∷ b ∷ c ∷ d ∷ []))) rest more

-- ---- the limit

final_within : (ending : Ending) (limit : ℕ) (first more : Reading) → first.ending ≡ ending → IsFinal ending first more →
    IsFinal ending first (within_if true limit more)
final_within Unfinished limit first more is h = tt
final_within Ended limit first more is h = tt
final_within (Bad fault) limit first more is h =
    rw h (ap (λ (e : Ending). reading first.steps (too_long limit e)) is ∙ sym (ap (reading first.steps) is))

goes_within : (over : Bool) (limit : ℕ) (first more : Reading) → GoesOn first more → GoesOn first (within_if over limit more)
goes_within true limit first more h = (h.0, final_within first.ending limit first more refl h.1)
goes_within false limit first more h = h

pub stream-goes : (limit : ℕ) (chained : Bool) (bytes more : List ℕ) →
    GoesOn (stream_of limit chained bytes) (stream_of limit chained (bytes ++ more))
unfolding stream_of
stream-goes limit chained bytes more = by_length (nat_lt limit (length bytes)) refl
  where
    by_length : (over : Bool) →
        nat_lt limit (length bytes) ≡ over → GoesOn (within limit (length bytes) (judged chained (take limit bytes)))
        (within limit (length (bytes ++ more)) (judged chained (take limit (bytes ++ more))))
    by_length true e =
        let over : limit < length bytes = ltb-true limit (length bytes) e in
        let same = take-append-le limit bytes more (omega arith) in
        rw (e, lt-ltb limit (length (bytes ++ more)) (omega (arith, length-append bytes more)), same)
        (goes_same (within_if true limit (judged chained (take limit bytes))))
    by_length false e =
        let all : take limit bytes ≡ bytes = take_all limit bytes (ltb-false limit (length bytes) e) in
        rw (e, take_both limit bytes more, all)
        (goes_within (nat_lt limit (length (bytes ++ more))) limit (judged chained bytes)
        (judged chained (bytes ++ take (limit - length bytes) more)) (judged-goes chained bytes (take (limit - length bytes) more)))
