-- The trace of a machine's steps: a line for each step, and one for turns of which nothing is seen.
use Rattle.std.specs.Prelude.{ℕ, ◌*◌, ◌^◌, Bool, true, false, List, [], ◌∷◌, ◌++◌, codes, length, Option, Some, None, if◌then◌else◌, ◌==◌}
use Rattle.std.specs.Fmt.{digits}
use Rattle.risc_word.specs.declared.Code.{Code}
use Rattle.sync_status.specs.declared.StatusKind.{StatusKind}
use Rattle.sync_status.specs.declared.StatusKind.TheVariants.{Control as ControlCode, Start, Pixels, End, Reserved}
use Rattle.sync_status.specs.Statuses.{kind_of}
use Rattle.fifo_model.specs.declared.Queue.{Queue}
use Rattle.fifo_model.specs.declared.Queue.TheVariants.{One, Two, Three}
use Rattle.fifo_model.specs.declared.Entry.{Entry}
use Rattle.fifo_model.specs.declared.Pushed.{Pushed}
use Rattle.fifo_model.specs.declared.Pushed.TheVariants.{Held, Overrun, Off}
use Rattle.fifo_model.specs.Queues.{more, queue_state}
use Rattle.irq_status.specs.declared.HostWrite.{HostWrite}
use Rattle.irq_status.specs.declared.HostWrite.TheVariants.{Ack, Enable, Trigger}
use Rattle.machine_model.specs.declared.Did.{Did}
use Rattle.machine_model.specs.declared.Did.TheVariants.{Still, Jumped, Synced, Passed, Begun, Dropped, Matched, Missed, Retired, Moved}
use Rattle.machine_model.specs.declared.Did.TheVariants.{GivenUp}
use Rattle.machine_model.specs.declared.Seen.{Seen}
use Rattle.machine_model.specs.Seen.{seen, taken}
use Rattle.machine_model.specs.States.{State}
use Rattle.machine_model.specs.Steps.{Step, Push, Control, Turn, Host, step, pushed_as, control_pushed_as}
use Rattle.dma_machine.specs.Looks.{next_drop}
use Rattle.risc_listing.specs.Lines.{at_text, code_name, count_text, line_end}

-- a machine that is traced, and how many turns of which nothing was seen came last
pub record Tracing : Type 0 where
  pub machine : State
  pub still : ℕ

abbrev pub tracing : State → ℕ → Tracing
tracing m still = record { machine = m; still = still }

abbrev pub queue_name : Queue → List ℕ
queue_name One = codes "1"
queue_name Two = codes "2"
queue_name Three = codes "3"

-- a number below 16
abbrev pub digit_text : ℕ → List ℕ
digit_text n = digits 16 false n

-- the name of a status, by its kind and its number
abbrev pub status_name : StatusKind → ℕ → List ℕ
status_name Pixels n = codes "pxv"
status_name Start n = codes "sol"
status_name (End count) n = codes "eol" ++ digit_text count
status_name Reserved n = codes "reserved " ++ digit_text n
status_name (ControlCode code) n = code_name code

-- what became of a push
abbrev pub fate : Pushed → List ℕ
fate Held = []
fate Overrun = codes " lost"
fate Off = codes " ignored"

abbrev pub bit_text : Bool → List ℕ
bit_text false = codes " 0"
bit_text true = codes " 1"

abbrev pub write_words : HostWrite → List ℕ
write_words (Ack mask) = codes "ack" ++ at_text mask
write_words (Enable fifo risc) = codes "enable" ++ (bit_text fifo ++ bit_text risc)
write_words (Trigger number) = codes "trigger" ++ count_text (4 * 2 ^ number)

-- a burst that takes so many bytes of a queue
abbrev pub moved_words : Queue → ℕ → List ℕ
moved_words q count = codes "move " ++ (queue_name q ++ count_text count)

-- a burst at whose last entry the instruction is given up
abbrev pub given_up_words : Queue → ℕ → List ℕ
given_up_words q count =
    if count == 0 then codes "give up " ++ queue_name q else moved_words q count ++ codes " give up"

abbrev pub dropped_words : Option Queue → List ℕ
dropped_words None = codes "drop"
dropped_words (Some q) = codes "drop " ++ queue_name q

-- what a turn did, the queue from which it dropped an entry, and how many bytes it took. A turn of which nothing is seen
-- has no line
abbrev pub did_words : Did → Option Queue → ℕ → List ℕ
did_words Still drops count = []
did_words Jumped drops count = codes "jump"
did_words Synced drops count = codes "sync"
did_words Passed drops count = codes "pass"
did_words Begun drops count = codes "begin"
did_words Dropped drops count = dropped_words drops
did_words Matched drops count = codes "match"
did_words Missed drops count = codes "miss"
did_words Retired drops count = codes "retire"
did_words (Moved q) drops count = moved_words q count
did_words (GivenUp q) drops count = given_up_words q count

-- the words of the steps: those of a turn begin with the count of turns before it
abbrev pub entry_words : Queue → Entry → List ℕ
entry_words q entry =
    codes "push " ++ (queue_name q ++ (codes " " ++ (status_name (kind_of entry.status) entry.status ++ at_text entry.dword)))

abbrev pub control_words : Code → List ℕ
control_words code = codes "control " ++ code_name code

abbrev pub turn_words : ℕ → Seen → Option Queue → ℕ → List ℕ
turn_words turns s drops count =
    codes "turn" ++ (count_text turns ++ (at_text s.at ++ (codes " " ++ did_words s.did drops count)))

abbrev pub words : Step → State → List ℕ
words (Push q entry) m = entry_words q entry ++ fate (pushed_as q m)
words (Control code) m = control_words code ++ fate (control_pushed_as m)
words (Host write) m = write_words write
words Turn m = turn_words m.turns (seen m) (next_drop m) (taken m)

-- how many entries a queue holds
abbrev pub level_text : Queue → State → List ℕ
level_text q m = count_text (length (queue_state q m.queues).entries)

-- how many entries each of the three queues holds
abbrev pub levels_text : State → List ℕ
levels_text m = level_text One m ++ (level_text Two m ++ level_text Three m)

-- the numbers of a state: pc, INT_STAT, the entries in each queue, the bytes stored
abbrev pub numbers : State → List ℕ
numbers m =
    codes " |" ++ (at_text m.pc ++ (at_text m.interrupts
    ++ (level_text One m ++ (level_text Two m ++ (level_text Three m ++ count_text m.moved)))))

-- the line of a step at a state: its words, and the numbers of the state after it
abbrev pub line : Step → State → List ℕ
line s m = words s m ++ (numbers (step s m) ++ line_end)

-- the line of so many turns of which nothing was seen, if there were any
abbrev pub still_line : ℕ → List ℕ
still_line still = if still == 0 then [] else codes "still" ++ (count_text still ++ line_end)

-- a turn of which nothing is seen
abbrev pub is_still_did : Did → Bool
is_still_did Still = true
is_still_did _ = false

abbrev pub is_quiet : Step → State → Bool
is_quiet Turn m = is_still_did (seen m).did
is_quiet _ m = false

-- the text of a step: none for a turn of which nothing is seen; any other step ends such turns, and their line comes before its own
abbrev pub told_if : Bool → Tracing → Step → List ℕ
told_if true t s = []
told_if false t s = still_line t.still ++ line s t.machine

abbrev pub told_by : Tracing → Step → List ℕ
told_by t s = told_if (is_quiet s t.machine) t s

-- how many turns of which nothing was seen come last after a step, and the trace after it
abbrev pub still_after : Bool → ℕ → ℕ
still_after true still = more still 1
still_after false still = 0

abbrev pub after : Tracing → Step → Tracing
after t s = tracing (step s t.machine) (still_after (is_quiet s t.machine) t.still)

-- the text of steps, one after the other, and the trace after them
abbrev pub lines : Tracing → List Step → List ℕ
lines t [] = []
lines t (s ∷ steps) = told_by t s ++ lines (after t s) steps

abbrev pub after_all : Tracing → List Step → Tracing
after_all t [] = t
after_all t (s ∷ steps) = after_all (after t s) steps

-- the line of the turns that come last, if nothing was seen of them
abbrev pub last_line : Tracing → List ℕ
last_line t = still_line t.still
