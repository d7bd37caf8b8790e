-- Only a reader of streams for chains gives patches.
use Rattle.std.proofs.Common.{◌≡◌, ◌==◌, ℕ, Bool, true, false, List, [], ◌∷◌, ◌++◌, length, take, drop, Option, Some, None, refl, sym}
use Rattle.std.proofs.Common.{subst, if◌then◌else◌}
use Rattle.std.specs.Prelude.{⊤, nat_lt}
use Rattle.risc_word.specs.declared.Code.{Code}
use Rattle.risc_word.specs.Words.{code_numbered}
use Rattle.fifo_model.specs.declared.Queue.{Queue}
use Rattle.fifo_model.specs.declared.Queue.TheVariants.{One, Two, Three}
use Rattle.capture_file.specs.declared.reader.Got.{Got}
use Rattle.capture_file.specs.declared.records.Form.{Form}
use Rattle.capture_file.specs.declared.records.Form.TheVariants.{Bfs1, Bfs2, Bfs3}
use Rattle.capture_file.specs.declared.records.Found.{Found}
use Rattle.capture_file.specs.declared.records.Found.TheVariants.{Cut, Wrong, Last, Whole}
use Rattle.capture_file.specs.declared.records.RecordKind.{RecordKind}
use Rattle.capture_file.specs.declared.records.RecordKind.TheVariants as kind
use Rattle.capture_file.specs.Streams.{ack_with, buffer_if, control_with, data_with, enable_if, fields_at, form_of, is_buffer, is_data}
use Rattle.capture_file.specs.Streams.{kind_of_tag, number_at, patch_at, patch_in, push_at, push_if}
use Rattle.capture_file.specs.Streams.{record_at, slot_if, trigger_if, trigger_in, turns_if, turns_with}
use Rattle.capture_file.specs.Readers.{Closed, Failed, Opening, Phase, Reader, Records, Taken, begun, behind_word, closed_taken, form_taken}
use Rattle.capture_file.specs.Readers.{found_taken, record_taken, room, taken, taken_in, taking, unfinished_if, word_taken}
use Rattle.stream_play.specs.Plays.{IsFormOf, IsPhaseOf, MayGive, MayStand, ReadsForm}

module _ (c : Bool) where
  -- what a reader gives, and the reader after it
  abbrev Fits : Taken → Type 0
  Fits t = ReadsForm c t.reader × MayGive c t.answer

  abbrev Stands : Found → Type 0
  Stands (Whole step len) = MayStand c step
  Stands _ = ⊤

  -- ---- records

  data_stands : (q : Queue) (status : ℕ) (o : Option ℕ) → Stands (data_with q status o)
  data_stands q status None = tt
  data_stands q status (Some dword) = tt

  push_if_stands : (b : Bool) (q : Queue) (status : ℕ) (rest : List ℕ) → Stands (push_if b q status rest)
  push_if_stands true q status rest = data_stands q status (number_at rest)
  push_if_stands false q status rest = tt

  push_stands : (q : Queue) (rest : List ℕ) → Stands (push_at q rest)
  push_stands q [] = tt
  push_stands q (status ∷ rest) = push_if_stands (is_data status) q status rest

  control_stands : (n : ℕ) (o : Option Code) → Stands (control_with n o)
  control_stands n None = tt
  control_stands n (Some code) = tt

  turns_if_stands : (b : Bool) (n : ℕ) → Stands (turns_if b n)
  turns_if_stands true n = tt
  turns_if_stands false n = tt

  turns_stands : (before : ℕ) (o : Option ℕ) → Stands (turns_with before o)
  turns_stands before None = tt
  turns_stands before (Some n) = turns_if_stands _ n

  ack_stands : (o : Option ℕ) → Stands (ack_with o)
  ack_stands None = tt
  ack_stands (Some mask) = tt

  enable_if_stands : (b : Bool) (n : ℕ) → Stands (enable_if b n)
  enable_if_stands true n = tt
  enable_if_stands false n = tt

  trigger_if_stands : (b : Bool) (n : ℕ) → Stands (trigger_if b n)
  trigger_if_stands true n = tt
  trigger_if_stands false n = tt

  buffer_stands : c ≡ true → (b : Bool) (slot buffer : ℕ) → Stands (buffer_if b slot buffer)
  buffer_stands h true slot buffer = h
  buffer_stands h false slot buffer = tt

  slot_stands : c ≡ true → (b : Bool) (slot : ℕ) (rest : List ℕ) → Stands (slot_if b slot rest)
  slot_stands h true slot [] = tt
  slot_stands h true slot (buffer ∷ rest) = buffer_stands h (is_buffer buffer) slot buffer
  slot_stands h false slot rest = tt

  patch_stands : c ≡ true → (rest : List ℕ) → Stands (patch_at rest)
  patch_stands h [] = tt
  patch_stands h (slot ∷ rest) = slot_stands h (nat_lt slot 2) slot rest

  -- a record's kind may be in the stream
  abbrev KindStands : RecordKind → Type 0
  KindStands kind.Patch = c ≡ true
  KindStands _ = ⊤

  fields_stand : (k : RecordKind) (tag turns : ℕ) (rest : List ℕ) → KindStands k → Stands (fields_at k tag turns rest)
  fields_stand kind.End tag turns rest h = tt
  fields_stand (kind.Push q) tag turns rest h = push_stands q rest
  fields_stand kind.Control tag turns [] h = tt
  fields_stand kind.Control tag turns (number ∷ rest) h = control_stands number (code_numbered number)
  fields_stand kind.Turns tag turns rest h = turns_stands turns (number_at rest)
  fields_stand kind.Ack tag turns rest h = ack_stands (number_at rest)
  fields_stand kind.Enable tag turns [] h = tt
  fields_stand kind.Enable tag turns (enables ∷ rest) h = enable_if_stands (nat_lt enables 4) enables
  fields_stand kind.Trigger tag turns [] h = tt
  fields_stand kind.Trigger tag turns (number ∷ rest) h = trigger_if_stands (nat_lt number 4) number
  fields_stand kind.Patch tag turns rest h = patch_stands h rest
  fields_stand kind.Unknown tag turns rest h = tt

  trigger_kind : (form : Form) → KindStands (trigger_in form)
  trigger_kind Bfs1 = tt
  trigger_kind Bfs2 = tt
  trigger_kind Bfs3 = tt

  patch_kind : (form : Form) → IsFormOf c form → KindStands (patch_in form)
  patch_kind Bfs1 h = tt
  patch_kind Bfs2 h = tt
  patch_kind Bfs3 h = h

  either : (b : Bool) (x y : RecordKind) → KindStands x → KindStands y → KindStands (if b then x else y)
  either true x y h k = h
  either false x y h k = k

  kind_stands : (form : Form) (tag : ℕ) → IsFormOf c form → KindStands (kind_of_tag form tag)
  kind_stands form tag h =
      either (tag == 0) kind.End _ tt (either (tag == 1) (kind.Push One) _ tt (either (tag == 2) (kind.Push Two) _ tt
      (either (tag == 3) (kind.Push Three) _ tt (either (tag == 4) kind.Control _ tt (either (tag == 5) kind.Turns _ tt
      (either (tag == 6) kind.Ack _ tt (either (tag == 7) kind.Enable _ tt (either (tag == 8) (trigger_in form) _ (trigger_kind form)
      (either (tag == 9) (patch_in form) kind.Unknown (patch_kind form h) tt)))))))))

  record_stands : (form : Form) (turns : ℕ) (bytes : List ℕ) → IsFormOf c form → Stands (record_at form turns bytes)
  record_stands form turns [] h = tt
  record_stands form turns (tag ∷ rest) h = fields_stand (kind_of_tag form tag) tag turns rest (kind_stands form tag h)

  -- ---- a reader

  unfinished_fits : (b : Bool) (r : Reader) (piece : List ℕ) → ReadsForm c r → Fits (unfinished_if b r piece)
  unfinished_fits true r piece h = ((h.0, tt), tt)
  unfinished_fits false r piece h = (h, tt)

  found_fits : (found : Found) (r : Reader) (piece : List ℕ) → Stands found → ReadsForm c r → Fits (found_taken found r piece)
  found_fits Cut r piece s h = unfinished_fits (nat_lt (room r) (length piece)) r piece h
  found_fits (Wrong from to why) r piece s h = ((h.0, tt), tt)
  found_fits Last r piece s h = ((h.0, tt), tt)
  found_fits (Whole step len) r piece s h = (h, s)

  record_fits : (form : Form) (r : Reader) (piece : List ℕ) → IsFormOf c form → ReadsForm c r → Fits (record_taken form r piece)
  record_fits form r piece f h =
      found_fits (record_at form r.turns (r.held ++ take (room r) piece)) r piece
      (record_stands form r.turns (r.held ++ take (room r) piece) f) h

  behind_fits : (form : Form) (used : ℕ) (r : Reader) (rest : List ℕ) → IsFormOf c form → ReadsForm c r →
      Fits (behind_word form used r rest)
  behind_fits Bfs1 used r rest f h = record_fits Bfs1 r rest f h
  behind_fits Bfs2 used r rest f h = (h, tt)
  behind_fits Bfs3 used r rest f h = (h, tt)

  abbrev IsOpenForm : Option Form → Type 0
  IsOpenForm None = ⊤
  IsOpenForm (Some form) = IsFormOf c form

  form_fits : (o : Option Form) (used : ℕ) (r : Reader) (piece : List ℕ) → IsOpenForm o → ReadsForm c r → Fits (form_taken o used r piece)
  form_fits None used r piece f h = ((h.0, tt), tt)
  form_fits (Some form) used r piece f h = behind_fits form used (begun form r) (drop used piece) f (h.0, f)

  chained_form : (b : Bool) → IsFormOf c Bfs3 → IsOpenForm (if b then Some Bfs3 else None)
  chained_form true h = h
  chained_form false h = tt

  other_form : (a b : Bool) → IsOpenForm (if a then Some Bfs1 else (if b then Some Bfs2 else None))
  other_form true b = tt
  other_form false true = tt
  other_form false false = tt

open_form : (c : Bool) (word : ℕ) → IsOpenForm c (form_of c word)
open_form true word = chained_form true _ refl
open_form false word = other_form false _ _

word_fits : (c : Bool) (o : Option ℕ) (r : Reader) (piece : List ℕ) → ReadsForm c r → Fits c (word_taken o r piece)
word_fits c None r piece h = unfinished_fits c (nat_lt (room r) (length piece)) r piece h
word_fits c (Some word) r piece h =
    form_fits c (form_of r.chained word) _ r piece (subst (λ d. IsOpenForm c (form_of d word)) (sym h.0) (open_form c word)) h

closed_fits : (c : Bool) (r : Reader) (piece : List ℕ) → ReadsForm c r → Fits c (closed_taken r piece)
closed_fits c r [] h = (h, tt)
closed_fits c r (byte ∷ piece) h = ((h.0, tt), tt)

taken_fits : (c : Bool) (phase : Phase) (r : Reader) (piece : List ℕ) → IsPhaseOf c phase → ReadsForm c r → Fits c (taken_in phase r piece)
taken_fits c Opening r piece p h = word_fits c (number_at (r.held ++ take (room r) piece)) r piece h
taken_fits c (Records form) r piece p h = record_fits c form r piece p h
taken_fits c Closed r piece p h = closed_fits c r piece h
taken_fits c (Failed fault) r piece p h = (h, tt)

pub taken_form : (c : Bool) (r : Reader) (piece : List ℕ) → ReadsForm c r → ReadsForm c (taken r piece).reader
unfolding taken
taken_form c r piece h = (taken_fits c r.phase r piece h.1 h).0

pub taken_gives : (c : Bool) (r : Reader) (piece : List ℕ) → ReadsForm c r → MayGive c (taken r piece).answer
unfolding taken
taken_gives c r piece h = (taken_fits c r.phase r piece h.1 h).1

pub form_after : (c : Bool) (r : Reader) (piece : List ℕ) (count : ℕ) (answer : Got) (after : Reader) →
    taking count answer after ≡ taken r piece → ReadsForm c r → ReadsForm c after × MayGive c answer
form_after c r piece count answer after e h =
    subst (λ (t : Taken). ReadsForm c t.reader × MayGive c t.answer) (sym e) (taken_form c r piece h, taken_gives c r piece h)
