-- What a reader of a stream is at, and what it does with the bytes that come next.
use Rattle.std.specs.Prelude.{◌≡◌, ℕ, ◌+◌, ◌-◌, ◌<◌, ◌≤◌, Bool, true, false, List, [], ◌∷◌, ◌++◌, length, take, drop, Option, Some, None}
use Rattle.std.specs.Prelude.{Result, Ok, Err, nat_le, nat_lt}
use Rattle.capture_file.specs.declared.FileKind.{FileKind}
use Rattle.capture_file.specs.declared.FileKind.TheVariants as fault
use Rattle.capture_file.specs.declared.FileFault.{FileFault}
use Rattle.capture_file.specs.declared.Step.{Step}
use Rattle.capture_file.specs.declared.reader.Got.{Got}
use Rattle.capture_file.specs.declared.reader.Got.TheVariants as got
use Rattle.capture_file.specs.declared.reader.State.{State}
use Rattle.capture_file.specs.declared.reader.State.TheVariants as state
use Rattle.capture_file.specs.declared.records.Form.{Form}
use Rattle.capture_file.specs.declared.records.Form.TheVariants.{Bfs1, Bfs2, Bfs3}
use Rattle.capture_file.specs.declared.records.Found.{Found}
use Rattle.capture_file.specs.declared.records.Found.TheVariants.{Cut, Wrong, Last, Whole}
use Rattle.capture_file.specs.Records.{StepFits}
use Rattle.capture_file.specs.Streams.{Reading, reading, with_step, Ending, Unfinished, Ended, Bad, fault_at, number_at, form_of, record_at}
use Rattle.capture_file.specs.Streams.{records, within, after_end, first_trigger, turns_of, most_turns, stream_of}

-- what a reader is at: in the first word, among the records, after the end record, or after a fault
pub data Phase : Type 0 where
  Opening : Phase
  Records : Form → Phase
  Closed : Phase
  Failed : FileFault → Phase

abbrev pub phase_of : State → Phase
phase_of state.Opening = Opening
phase_of (state.Between form) = Records form
phase_of (state.Within form) = Records form
phase_of state.Closed = Closed
phase_of (state.Failed fault) = Failed fault

-- nothing is held between two records, and some of a record that is under way
abbrev pub HoldsAt : State → List ℕ → Type 0
HoldsAt (state.Between form) held = held ≡ []
HoldsAt (state.Within form) held = 0 < length held
HoldsAt _ held = Unit {0}

-- a reader after some bytes of a stream. `place` is the number of bytes that it used, `turns` the sum
-- of the counts of turns so far, and `held` the bytes of the first word or the record that has not
-- ended
pub record Reader : Type 0 where
  pub limit : ℕ
  pub chained : Bool
  pub phase : Phase
  pub place : ℕ
  pub turns : ℕ
  pub held : List ℕ

abbrev pub fresh : ℕ → Bool → Reader
fresh limit chained =
    record { limit = limit; chained = chained; phase = Opening; place = 0; turns = 0; held = [] }

-- how many bytes may still come below the limit
abbrev pub room : Reader → ℕ
room r = r.limit - r.place

-- where the first word or the record that has not ended begins
abbrev pub start : Reader → ℕ
start r = r.place - length r.held

-- what the stream stands for from there on, where these bytes are all that still come
abbrev pub resumed_in : Phase → Reader → List ℕ → Reading
resumed_in Opening r more = stream_of r.limit r.chained (r.held ++ more)
resumed_in (Records form) r more =
    within r.limit (r.place + length more)
    (records form r.turns (start r) 0 (r.held ++ take (room r) more))
resumed_in Closed r more =
    within r.limit (r.place + length more) (reading [] (after_end r.place (take (room r) more)))
resumed_in (Failed fault) r more = reading [] (Bad fault)

unfoldable pub resumed : Reader → List ℕ → Reading
resumed r more = resumed_in r.phase r more

-- what a reader does with a piece: the bytes of it that it uses, what it answers, and what it is then
pub record Taken : Type 0 where
  pub used : ℕ
  pub answer : Got
  pub reader : Reader

abbrev pub taking : ℕ → Got → Reader → Taken
taking used answer reader = record { used = used; answer = answer; reader = reader }

abbrev pub failed : ℕ → ℕ → FileKind → Reader → Taken
failed used at kind r =
    let fault = fault_at at kind in taking used (got.Bad fault) (record r { phase = Failed fault; held = [] })

-- no record ends in the piece, and no field of it is at fault
abbrev pub unfinished_if : Bool → Reader → List ℕ → Taken
unfinished_if true r piece = failed (room r + 1) r.limit fault.TooLong r
unfinished_if false r piece =
    taking (length piece) got.More
    (record r { place = r.place + length piece; held = r.held ++ piece })

abbrev pub unfinished : Reader → List ℕ → Taken
unfinished r piece = unfinished_if (nat_lt (room r) (length piece)) r piece

-- what is found where a record begins
abbrev pub found_taken : Found → Reader → List ℕ → Taken
found_taken Cut r piece = unfinished r piece
found_taken (Wrong from to kind) r piece = failed (to - length r.held) (start r + from) kind r
found_taken Last r piece = taking 1 got.End (record r { phase = Closed; place = r.place + 1; held = [] })
found_taken (Whole step len) r piece =
    let used = len - length r.held in
    taking used (got.Step step)
    (record r { place = r.place + used; turns = r.turns + turns_of step; held = [] })

abbrev pub record_taken : Form → Reader → List ℕ → Taken
record_taken form r piece =
    found_taken (record_at form r.turns (r.held ++ take (room r) piece)) r piece

-- the first word: the step of BFS2 and BFS3 ends with it, BFS1 goes on with the first record
abbrev pub begun : Form → Reader → Reader
begun form r = record r { phase = Records form; place = 4; held = [] }

abbrev pub after_word : ℕ → Taken → Taken
after_word used next = taking (used + next.used) next.answer next.reader

abbrev pub behind_word : Form → ℕ → Reader → List ℕ → Taken
behind_word Bfs1 used r rest = after_word used (record_taken Bfs1 r rest)
behind_word Bfs2 used r rest = taking used (got.Step first_trigger) r
behind_word Bfs3 used r rest = taking used (got.Step first_trigger) r

abbrev pub form_taken : Option Form → ℕ → Reader → List ℕ → Taken
form_taken None used r piece = failed used 0 fault.Magic r
form_taken (Some form) used r piece = behind_word form used (begun form r) (drop used piece)

abbrev pub word_taken : Option ℕ → Reader → List ℕ → Taken
word_taken None r piece = unfinished r piece
word_taken (Some word) r piece = form_taken (form_of r.chained word) (4 - length r.held) r piece

-- no byte may follow the end record
abbrev pub beyond_end : Bool → FileKind
beyond_end true = fault.AfterEnd
beyond_end false = fault.TooLong

abbrev pub closed_taken : Reader → List ℕ → Taken
closed_taken r [] = taking 0 got.More r
closed_taken r (_ ∷ _) = failed 1 r.place (beyond_end (nat_lt r.place r.limit)) r

abbrev pub taken_in : Phase → Reader → List ℕ → Taken
taken_in Opening r piece = word_taken (number_at (r.held ++ take (room r) piece)) r piece
taken_in (Records form) r piece = record_taken form r piece
taken_in Closed r piece = closed_taken r piece
taken_in (Failed fault) r piece = taking 0 (got.Bad fault) r

unfoldable pub taken : Reader → List ℕ → Taken
taken r piece = taken_in r.phase r piece

-- what the stream stands for where a reader answers so, and the rest of it is this
abbrev pub after_answer : Got → Reading → Reading
after_answer (got.Step s) rest = with_step s rest
after_answer got.End rest = rest
after_answer got.More rest = rest
after_answer (got.Bad fault) rest = reading [] (Bad fault)

-- the record at the front of a piece that ends below the limit, where no record is under way
abbrev pub front_if : Bool → List ℕ → Form → Reader → List ℕ → Found
front_if true [] form r piece = record_at form r.turns piece
front_if true (_ ∷ _) form r piece = Cut
front_if false held form r piece = Cut

abbrev pub front_in : Phase → Reader → List ℕ → Found
front_in (Records form) r piece = front_if (nat_le (length piece) (room r)) r.held form r piece
front_in Opening r piece = Cut
front_in Closed r piece = Cut
front_in (Failed fault) r piece = Cut

abbrev pub front_record : Reader → List ℕ → Found
front_record r piece = front_in r.phase r piece

-- how many bytes of a piece an answer uses: all of it where more are wanted, and at least one for a
-- step or the end
abbrev pub Uses : Got → ℕ → ℕ → Type 0
Uses (got.Step s) used count = (0 < used) × (used ≤ count)
Uses got.End used count = (0 < used) × (used ≤ count)
Uses got.More used count = used ≡ count
Uses (got.Bad fault) used count = used ≤ count

-- the bytes that a reader used in all
abbrev pub Counts : Got → ℕ → ℕ → Type 0
Counts (got.Bad fault) before now = Unit {0}
Counts _ before now = now ≡ before

-- what a stream stands for behind these steps
abbrev pub behind : List Step → Reading → Reading
behind steps rest = reading (steps ++ rest.steps) rest.ending

-- a reader used so many bytes, unless it met a fault
abbrev pub PlacedAt : Phase → ℕ → ℕ → Type 0
PlacedAt (Failed fault) place count = Unit {0}
PlacedAt Opening place count = place ≡ count
PlacedAt (Records form) place count = place ≡ count
PlacedAt Closed place count = place ≡ count

-- after a fault the reader is at it
abbrev pub Stays : Got → Phase → Type 0
Stays (got.Bad fault) phase = phase ≡ Failed fault
Stays _ phase = Unit {0}

-- what holds of the step that is answered
abbrev pub AnswerFits : Got → Type 0
AnswerFits (got.Step s) = StepFits s
AnswerFits _ = Unit {0}

-- a step was taken off the front of a piece with so many bytes
pub record Takes (step : Step) (count : ℕ) (r : Reader) (piece : List ℕ) (after : Reader) : Type 0 where
  pub exact : taking count (got.Step step) after ≡ taken r piece
  pub whole : (more : List ℕ) → resumed r (piece ++ more) ≡ with_step step (resumed after (drop count piece ++ more))
  pub within : count ≤ length piece
  pub place : after.place ≡ r.place + count
  pub moves : (before : ℕ) → PlacedAt r.phase r.place before → PlacedAt after.phase after.place (before + count)
  pub fits : StepFits step

-- how the bytes that a reader used end
abbrev pub ending_in : Phase → Ending
ending_in Opening = Unfinished
ending_in (Records form) = Unfinished
ending_in Closed = Ended
ending_in (Failed fault) = Bad fault

-- a whole file, or its first fault, after so many bytes that end so
abbrev pub closed_by : ℕ → Ending → Result (Unit {0}) FileFault
closed_by place Unfinished = Err (fault_at place fault.Short)
closed_by place Ended = Ok tt
closed_by place (Bad fault) = Err fault

-- what holds of every reader
abbrev pub IsAt : Phase → Reader → Type 0
IsAt Opening r = (r.place ≡ length r.held) × (length r.held < 4) × (r.turns ≡ 0)
IsAt (Records form) r =
    (length r.held ≤ r.place) × (record_at form r.turns r.held ≡ Cut) × (r.turns ≤ most_turns)
IsAt Closed r = r.held ≡ []
IsAt (Failed fault) r = Unit {0}

pub record IsReader (r : Reader) : Type 0 where
  pub below : r.place ≤ r.limit
  pub at : IsAt r.phase r
