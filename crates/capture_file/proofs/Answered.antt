-- What a reader answers: how much it uses of a piece, and what it answers at the end.
use Rattle.std.proofs.Common.{◌≡◌, ℕ, zero, suc, ◌+◌, ◌-◌, ◌<◌, ◌≤◌, Bool, true, false, List, [], ◌∷◌, ◌++◌, length, take, drop, Option}
use Rattle.std.proofs.Common.{Some, None, refl, ap, ◌∙◌, arith, length-append, length-take, length-drop}
use Rattle.std.proofs.lemmas.Bool.{ltb-true, le-ltb}
use Rattle.std.proofs.lemmas.List.{take_all, append-nil}
use Rattle.std.specs.Prelude.{nat_lt}
use Rattle.capture_file.specs.declared.FileFault.{FileFault}
use Rattle.capture_file.specs.declared.reader.Got.{Got}
use Rattle.capture_file.specs.declared.reader.Got.TheVariants as got
use Rattle.capture_file.specs.Readers.{Phase, Opening, Records, Closed, Failed}
use Rattle.capture_file.specs.declared.records.Form.{Form}
use Rattle.capture_file.specs.declared.records.Form.TheVariants.{Bfs1, Bfs2, Bfs3}
use Rattle.capture_file.specs.declared.records.Found.{Found}
use Rattle.capture_file.specs.declared.records.Found.TheVariants.{Cut, Wrong, Last, Whole}
use Rattle.capture_file.specs.Records.{HasFour, Spans, Passes}
use Rattle.capture_file.specs.Streams.{Reading, reading, Unfinished, Ended, number_at, form_of, record_at, records, within, within_if}
use Rattle.capture_file.specs.Streams.{opened_by, after_end, stream_of, judged, Bad}
use Rattle.capture_file.specs.Readers.{Reader, Taken, taking, resumed, taken, taken_in, unfinished_if, found_taken, record_taken}
use Rattle.capture_file.specs.Readers.{form_taken, word_taken, closed_taken, behind_word, begun, resumed_in}
use Rattle.capture_file.specs.Readers.{ending_in, Uses, Counts, IsAt, IsReader, Stays, PlacedAt}
use Rattle.capture_file.proofs.Fields.{number_at-four, record_at-spans, record_at-passes}
use Rattle.capture_file.proofs.Readings.{records-front, front_of}

-- so much of a piece is used, and the place moves by it
abbrev Moves : Reader → List ℕ → Taken → Type 0
Moves r piece t = Uses t.answer t.used (length piece) × Counts t.answer (r.place + t.used) t.reader.place

unfinished-moves : (over : Bool) (r : Reader) (piece : List ℕ) → nat_lt (r.limit - r.place) (length piece) ≡ over →
    Moves r piece (unfinished_if over r piece)
unfinished-moves true r piece is =
    let over : r.limit - r.place < length piece = ltb-true (r.limit - r.place) (length piece) is in
    (omega arith, tt)
unfinished-moves false r piece is = (refl, refl)

module _ (r : Reader) (piece : List ℕ) where
  found-moves : (found : Found) → Spans found (length (r.held ++ take (r.limit - r.place) piece)) → Passes found (length r.held) →
      Moves r piece (found_taken found r piece)
  found-moves Cut spans passes = unfinished-moves (nat_lt (r.limit - r.place) (length piece)) r piece refl
  found-moves (Wrong from to kind) spans passes =
      let size = length-append r.held (take (r.limit - r.place) piece) in
      let front = length-take (r.limit - r.place) piece in
      (omega arith, tt)
  found-moves Last spans passes =
      let size = length-append r.held (take (r.limit - r.place) piece) in
      let front = length-take (r.limit - r.place) piece in
      ((omega arith, omega arith), refl)
  found-moves (Whole step len) spans passes =
      let size = length-append r.held (take (r.limit - r.place) piece) in
      let front = length-take (r.limit - r.place) piece in
      ((omega arith, omega arith), refl)

record-moves : (form : Form) (r : Reader) (piece : List ℕ) → record_at form r.turns r.held ≡ Cut → Moves r piece (record_taken form r piece)
record-moves form r piece cut =
    found-moves r piece (record_at form r.turns (r.held ++ take (r.limit - r.place) piece))
    (record_at-spans form r.turns (r.held ++ take (r.limit - r.place) piece))
    (record_at-passes form r.turns r.held (take (r.limit - r.place) piece) cut)

-- behind the first word
later-moves : (answer : Got) (first used count rest before now : ℕ) → Uses answer used rest → Counts answer (4 + used) now → first ≤ count →
    rest ≡ count - first → before + first ≡ 4 →
    Uses answer (first + used) count × Counts answer (before + (first + used)) now
later-moves (got.Step step) first used count rest before now uses counts some is word = ((omega arith, omega arith), omega arith)
later-moves got.End first used count rest before now uses counts some is word = ((omega arith, omega arith), omega arith)
later-moves got.More first used count rest before now uses counts some is word = (omega arith, omega arith)
later-moves (got.Bad fault) first used count rest before now uses counts some is word = (omega arith, tt)

module _ (r : Reader) (piece : List ℕ) (place : r.place ≡ length r.held) (short : length r.held < 4) (turns : r.turns ≡ 0) where
  enough : 4 ≤ length (r.held ++ take (r.limit - r.place) piece) → 4 - length r.held ≤ length piece
  enough four =
      let size = length-append r.held (take (r.limit - r.place) piece) in
      let front = length-take (r.limit - r.place) piece in
      omega arith

  form-moves : (form : Form) → 4 ≤ length (r.held ++ take (r.limit - r.place) piece) →
      Moves r piece (behind_word form (4 - length r.held) (begun form r) (drop (4 - length r.held) piece))
  form-moves Bfs1 four =
      let t : Taken = record_taken Bfs1 (begun Bfs1 r) (drop (4 - length r.held) piece) in
      let moves = record-moves Bfs1 (begun Bfs1 r) (drop (4 - length r.held) piece) refl in
      later-moves t.answer (4 - length r.held) t.used (length piece) (length (drop (4 - length r.held) piece)) r.place t.reader.place
      moves.0 moves.1 (enough four) (length-drop (4 - length r.held) piece) (omega arith)
  form-moves Bfs2 four = ((omega arith, enough four), omega arith)
  form-moves Bfs3 four = ((omega arith, enough four), omega arith)

  word-moves : (word : Option ℕ) → HasFour word (length (r.held ++ take (r.limit - r.place) piece)) →
      Moves r piece (word_taken word r piece)
  word-moves None four = unfinished-moves (nat_lt (r.limit - r.place) (length piece)) r piece refl
  word-moves (Some word) four = named (form_of r.chained word)
    where
      named : (form : Option Form) → Moves r piece (form_taken form (4 - length r.held) r piece)
      named None = (enough four, tt)
      named (Some form) = form-moves form four

closed-moves : (r : Reader) (piece : List ℕ) → Moves r piece (closed_taken r piece)
closed-moves r [] = (refl, omega arith)
closed-moves r (byte ∷ piece) = (omega arith, tt)

phase-moves : (phase : Phase) (r : Reader) (piece : List ℕ) → IsAt phase r → Moves r piece (taken_in phase r piece)
phase-moves Opening r piece at =
    word-moves r piece at.0 at.1 at.2 (number_at (r.held ++ take (r.limit - r.place) piece))
    (number_at-four (r.held ++ take (r.limit - r.place) piece))
phase-moves (Records form) r piece at = record-moves form r piece at.1
phase-moves Closed r piece at = closed-moves r piece
phase-moves (Failed fault) r piece at = (omega arith, tt)

pub taken-moves : (r : Reader) (piece : List ℕ) → IsReader r → Moves r piece (taken r piece)
unfolding taken
taken-moves r piece is = phase-moves r.phase r piece is.at

-- Where no more bytes come.

pub not-over : (limit count : ℕ) (found : Reading) → count ≤ limit → within limit count found ≡ found
not-over limit count found h = ap (λ (b : Bool). within_if b limit found) (le-ltb limit count h)

none-four : (word : Option ℕ) (count : ℕ) → HasFour word count → count < 4 → word ≡ None
none-four None count four short = refl
none-four (Some word) count four short = absurd (omega arith)

opening-ends : (limit : ℕ) (chained : Bool) (held : List ℕ) → length held ≤ limit → length held < 4 →
    stream_of limit chained (held ++ []) ≡ reading [] Unfinished
unfolding stream_of
opening-ends limit chained held below short =
    let none : number_at held ≡ None = none-four (number_at held) (length held) (number_at-four held) short in
    ap (λ (zs : List ℕ). within limit (length zs) (judged chained (take limit zs))) (append-nil held)
    ∙ ap (λ (zs : List ℕ). within limit (length held) (judged chained zs)) (take_all limit held below)
    ∙ not-over limit (length held) (judged chained held) below
    ∙ ap (λ (word : Option ℕ). opened_by chained word (drop 4 held)) none

no-bytes : (n : ℕ) → take {A = ℕ} n [] ≡ []
no-bytes zero = refl
no-bytes (suc n) = refl

record-ends : (form : Form) (limit place turns start room : ℕ) (held : List ℕ) → place ≤ limit → record_at form turns held ≡ Cut →
    within limit (place + length {A = ℕ} []) (records form turns start 0 (held ++ take room [])) ≡ reading [] Unfinished
record-ends form limit place turns start room held below cut =
    not-over limit (place + length {A = ℕ} []) (records form turns start 0 (held ++ take room [])) (omega arith)
    ∙ ap (records form turns start 0) (ap (λ (zs : List ℕ). held ++ zs) (no-bytes room) ∙ append-nil held)
    ∙ records-front form turns start held
    ∙ ap (λ (f : Found). front_of f form turns start held) cut

closed-ends : (limit place room : ℕ) → place ≤ limit →
    within limit (place + length {A = ℕ} []) (reading [] (after_end place (take room []))) ≡ reading [] Ended
closed-ends limit place room below =
    not-over limit (place + length {A = ℕ} []) (reading [] (after_end place (take room []))) (omega arith)
    ∙ ap (λ (zs : List ℕ). reading [] (after_end place zs)) (no-bytes room)

phase-ends : (phase : Phase) (r : Reader) → r.place ≤ r.limit → IsAt phase r → resumed_in phase r [] ≡ reading [] (ending_in phase)
phase-ends Opening r below at = opening-ends r.limit r.chained r.held (omega arith) at.1
phase-ends (Records form) r below at =
    record-ends form r.limit r.place r.turns (r.place - length r.held) (r.limit - r.place) r.held below at.1
phase-ends Closed r below at = closed-ends r.limit r.place (r.limit - r.place) below
phase-ends (Failed fault) r below at = refl

pub reader-ends : (r : Reader) → IsReader r → resumed r [] ≡ reading [] (ending_in r.phase)
unfolding resumed
reader-ends r is = phase-ends r.phase r is.below is.at

-- After a fault.

stays-unfinished : (over : Bool) (r : Reader) (piece : List ℕ) → let t = unfinished_if over r piece in Stays t.answer t.reader.phase
stays-unfinished true r piece = refl
stays-unfinished false r piece = tt

stays-found : (found : Found) (r : Reader) (piece : List ℕ) → let t = found_taken found r piece in Stays t.answer t.reader.phase
stays-found Cut r piece = stays-unfinished (nat_lt (r.limit - r.place) (length piece)) r piece
stays-found (Wrong from to kind) r piece = refl
stays-found Last r piece = tt
stays-found (Whole step len) r piece = tt

stays-form : (form : Option Form) (used : ℕ) (r : Reader) (piece : List ℕ) → let t = form_taken form used r piece in
    Stays t.answer t.reader.phase
stays-form None used r piece = refl
stays-form (Some Bfs1) used r piece =
    stays-found (record_at Bfs1 r.turns ([] ++ take (r.limit - 4) (drop used piece))) (begun Bfs1 r) (drop used piece)
stays-form (Some Bfs2) used r piece = tt
stays-form (Some Bfs3) used r piece = tt

stays-word : (word : Option ℕ) (r : Reader) (piece : List ℕ) → let t = word_taken word r piece in Stays t.answer t.reader.phase
stays-word None r piece = stays-unfinished (nat_lt (r.limit - r.place) (length piece)) r piece
stays-word (Some word) r piece = stays-form (form_of r.chained word) (4 - length r.held) r piece

stays-closed : (r : Reader) (piece : List ℕ) → let t = closed_taken r piece in Stays t.answer t.reader.phase
stays-closed r [] = tt
stays-closed r (byte ∷ piece) = refl

stays-phase : (phase : Phase) (r : Reader) (piece : List ℕ) → r.phase ≡ phase → let t = taken_in phase r piece in
    Stays t.answer t.reader.phase
stays-phase Opening r piece is = stays-word (number_at (r.held ++ take (r.limit - r.place) piece)) r piece
stays-phase (Records form) r piece is = stays-found (record_at form r.turns (r.held ++ take (r.limit - r.place) piece)) r piece
stays-phase Closed r piece is = stays-closed r piece
stays-phase (Failed fault) r piece is = is

pub taken-stays : (r : Reader) (piece : List ℕ) → let t = taken r piece in Stays t.answer t.reader.phase
unfolding taken
taken-stays r piece = stays-phase r.phase r piece refl

pub taken-again : (r : Reader) (piece : List ℕ) (fault : FileFault) → r.phase ≡ Failed fault → taken r piece ≡ taking 0 (got.Bad fault) r
unfolding taken
taken-again r piece fault is = ap (λ (phase : Phase). taken_in phase r piece) is

-- The bytes that were used.

placed_from : (phase : Phase) (place count : ℕ) → place ≡ count → PlacedAt phase place count
placed_from Opening place count e = e
placed_from (Records form) place count e = e
placed_from Closed place count e = e
placed_from (Failed fault) place count e = tt

placed_answer : (answer : Got) (phase : Phase) (place before used now : ℕ) → place ≡ before → Counts answer (place + used) now →
    Stays answer phase → PlacedAt phase now (before + used)
placed_answer (got.Step step) phase place before used now e counts stays = placed_from phase now (before + used) (omega arith)
placed_answer got.End phase place before used now e counts stays = placed_from phase now (before + used) (omega arith)
placed_answer got.More phase place before used now e counts stays = placed_from phase now (before + used) (omega arith)
placed_answer (got.Bad fault) phase place before used now e counts stays = rw stays tt

placed-phase : (phase : Phase) (r : Reader) (piece : List ℕ) (before : ℕ) → r.phase ≡ phase → IsAt phase r → PlacedAt phase r.place before →
    let t = taken_in phase r piece in PlacedAt t.reader.phase t.reader.place (before + t.used)
placed-phase Opening r piece before is at placed =
    let t : Taken = taken_in Opening r piece in
    placed_answer t.answer t.reader.phase r.place before t.used t.reader.place placed (phase-moves Opening r piece at).1
    (stays-phase Opening r piece is)
placed-phase (Records form) r piece before is at placed =
    let t : Taken = taken_in (Records form) r piece in
    placed_answer t.answer t.reader.phase r.place before t.used t.reader.place placed (phase-moves (Records form) r piece at).1
    (stays-phase (Records form) r piece is)
placed-phase Closed r piece before is at placed =
    let t : Taken = taken_in Closed r piece in
    placed_answer t.answer t.reader.phase r.place before t.used t.reader.place placed (phase-moves Closed r piece at).1
    (stays-phase Closed r piece is)
placed-phase (Failed fault) r piece before is at placed = rw is tt

pub taken-placed : (r : Reader) (piece : List ℕ) (before : ℕ) → IsReader r → PlacedAt r.phase r.place before → let t = taken r piece in
    PlacedAt t.reader.phase t.reader.place (before + t.used)
unfolding taken
taken-placed r piece before is placed = placed-phase r.phase r piece before refl is.at placed

-- a reader at a fault reads nothing
pub failed-ends : (r : Reader) (fault : FileFault) (more : List ℕ) → r.phase ≡ Failed fault → resumed r more ≡ reading [] (Bad fault)
unfolding resumed
failed-ends r fault more is = rw is refl
