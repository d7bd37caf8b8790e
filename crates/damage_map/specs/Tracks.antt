-- What is kept of a field under way, and how each step changes it.
use Rattle.std.specs.Prelude.{◌≡◌, ℕ, Bool, true, false, not, ◌&&◌, ◌==◌, List, [], ◌∷◌, ◌++◌, drop, length, Option, Some, None, option_map}
use Rattle.std.specs.Prelude.{Ok, Err, if◌then◌else◌, nat_lt}
use Rattle.std.proofs.Common.{ap, refl}
use Rattle.risc_word.specs.declared.Instr.TheVariants.{Jump, Sync}
use Rattle.risc_word.specs.Words.{Reading}
use Rattle.fifo_model.specs.declared.Queue.{Queue}
use Rattle.fifo_model.specs.declared.Queue.TheVariants.{One, Two, Three}
use Rattle.pixel_layout.specs.declared.Parity.{Parity}
use Rattle.pixel_layout.specs.declared.Parity.TheVariants.{Top, Bottom}
use Rattle.machine_model.specs.declared.Did.{Did}
use Rattle.machine_model.specs.declared.Did.TheVariants.{Still, Synced, Jumped, Passed, Retired, Moved, GivenUp}
use Rattle.machine_model.specs.declared.Seen.{Seen}
use Rattle.machine_model.specs.Paths.{RiscProgram, fetch}
use Rattle.risc_word.specs.Parts.{instr_ends}
use Rattle.machine_model.specs.States.{State}
use Rattle.machine_model.specs.Steps.{Step}
use Rattle.machine_watch.specs.Watches.{FirstTellsIf, Notes, kept_after, next}
use Rattle.capture_desc.specs.declared.desc.Desc.{Desc}
use Rattle.damage_map.specs.Before.{before_of, before_rows}
use Rattle.damage_map.specs.declared.before.LinesBefore.{LinesBefore}
use Rattle.damage_map.specs.declared.mark.LineMark.{LineMark}
use Rattle.damage_map.specs.declared.mark.LineMark.TheVariants.{Fresh, Within, Done, Spoilt}
use Rattle.damage_map.specs.declared.mark.LineMarks.{LineMarks}

-- the line under way on each queue, whether an instruction of it was passed over or given up, the lines of the field
-- before it, each whole or not, the lines of each field at its last signal, and how many of them are before the rows
pub record FieldTrack : Type 0 where
  pub marks : LineMarks
  pub lost : Bool
  pub lines : List Bool
  pub top : Option (List Bool)
  pub bottom : Option (List Bool)
  pub before : LinesBefore

-- the lines of a field at its last signal, if it had one
abbrev pub told : Bool → List Bool → Option (List Bool)
told true lines = Some lines
told false lines = None

abbrev pub fresh : LineMarks
fresh = record { one = Fresh; two = Fresh; three = Fresh }

-- as a machine of a description is made
abbrev pub untold : Desc → FieldTrack
untold d = record { marks = fresh; lost = false; lines = []; top = None; bottom = None; before = before_rows d }

-- a queue's mark, where bytes are taken: up to the last byte of a line, or not
abbrev pub taken_mark : Bool → LineMark → LineMark
taken_mark true Fresh = Done
taken_mark true Within = Done
taken_mark false Fresh = Within
taken_mark false Within = Within
taken_mark ended _ = Spoilt

-- where an entry leaves the queue of which nothing is taken
abbrev pub left_mark : LineMark → LineMark
left_mark Within = Spoilt
left_mark mark = mark

-- where both happen in one turn, the entry was within the line
abbrev pub met_mark : Bool → Bool → Bool → LineMark → LineMark
met_mark true true ended mark = Spoilt
met_mark true false ended mark = taken_mark ended mark
met_mark false true ended mark = left_mark mark
met_mark false false ended mark = mark

abbrev pub mark_on : Queue → LineMarks → LineMark
mark_on One marks = marks.one
mark_on Two marks = marks.two
mark_on Three marks = marks.three

abbrev pub with_mark : Queue → LineMark → LineMarks → LineMarks
with_mark One mark marks = record marks { one = mark }
with_mark Two mark marks = record marks { two = mark }
with_mark Three mark marks = record marks { three = mark }

abbrev pub met : Queue → Seen → FieldTrack → FieldTrack
met q s t = record t { marks = with_mark q (met_mark s.took s.reserved s.ended (mark_on q t.marks)) t.marks }

-- a line is whole where no instruction of it was lost, and each queue was taken a whole line of or nothing
abbrev pub is_good : LineMark → Bool
is_good Fresh = true
is_good Within = false
is_good Done = true
is_good Spoilt = false

abbrev pub is_whole : FieldTrack → Bool
is_whole t = not t.lost && is_good t.marks.one && is_good t.marks.two && is_good t.marks.three

-- how many lines are kept: a field has at most 32 VBI lines and 1,024 rows, and 255 lines that are skipped before each
abbrev pub max_lines : ℕ
max_lines = 1566

abbrev pub noted : Bool → List Bool → List Bool
noted whole lines = if nat_lt (length lines) max_lines then lines ++ whole ∷ [] else lines

-- at the end of a line the next one begins
abbrev pub through : Bool → FieldTrack → FieldTrack
through true t = record t { marks = fresh; lost = false; lines = noted (is_whole t) t.lines }
through false t = t

abbrev pub with_loss : FieldTrack → FieldTrack
with_loss t = record t { lost = true }

-- a SYNC with RESYNC opens a field
abbrev pub opened : Bool → FieldTrack → FieldTrack
opened true t = record t { marks = fresh; lost = false; lines = [] }
opened false t = t

-- a JUMP that sets RISC status 1 signals the top field, one that sets 2 the bottom field
abbrev pub signalled : Option Parity → FieldTrack → FieldTrack
signalled (Some Top) t = record t { top = Some t.lines; lines = [] }
signalled (Some Bottom) t = record t { bottom = Some t.lines; lines = [] }
signalled None t = t

-- what the instruction at an address means for a field
abbrev pub opens : Reading → Bool
opens (Ok (Sync ctl resync code, count)) = resync
opens _ = false

abbrev pub field_of : ℕ → Option Parity
field_of status = if status == 1 then Some Top else (if status == 2 then Some Bottom else None)

abbrev pub signals : Reading → Option Parity
signals (Ok (Jump ctl target, count)) = field_of ctl.set
signals _ = None

abbrev pub ends_line : Reading → Bool
ends_line (Ok (instr, count)) = (instr_ends instr).eol
ends_line (Err fault) = false

-- a turn, by what it did
abbrev pub turned : RiscProgram → Did → Seen → FieldTrack → FieldTrack
turned program Synced s t = opened (opens (fetch program s.at)) t
turned program Jumped s t = signalled (signals (fetch program s.at)) t
turned program Passed s t = through (ends_line (fetch program s.at)) (with_loss t)
turned program Retired s t = through (ends_line (fetch program s.at)) t
turned program (Moved q) s t = met q s t
turned program (GivenUp q) s t = through (ends_line (fetch program s.at)) (with_loss (met q s t))
turned program _ s t = t

-- where the queues are emptied
abbrev pub emptied_mark : Bool → LineMark → LineMark
emptied_mark true mark = left_mark mark
emptied_mark false mark = mark

abbrev pub emptied_marks : Bool → Bool → Bool → LineMarks → LineMarks
emptied_marks one two three marks =
    record {
      one = emptied_mark one marks.one;
      two = emptied_mark two marks.two;
      three = emptied_mark three marks.three;
    }

-- what is made of what is kept
abbrev pub track_notes : Notes FieldTrack
track_notes =
    record {
      saw = λ program seen t. turned program seen.did seen t;
      emptied = λ one two three t. record t { marks = emptied_marks one two three t.marks };
    }

-- of a turn that does nothing there is nothing to note
pub still_tells_nothing : (program : RiscProgram) (s : Seen) (t : FieldTrack) → s.did ≡ Still → track_notes.saw program s t ≡ t
still_tells_nothing program s t still = ap (λ (did : Did). turned program did s t) still

-- nor is there of a turn that takes an entry whole behind another of its queue
taken_twice : (mark : LineMark) → taken_mark false (taken_mark false mark) ≡ taken_mark false mark
taken_twice Fresh = refl
taken_twice Within = refl
taken_twice Done = refl
taken_twice Spoilt = refl

pub later_tell_nothing : FirstTellsIf true track_notes
later_tell_nothing first later One at next t = ap (λ mark. record t { marks = record t.marks { one = mark } }) (taken_twice t.marks.one)
later_tell_nothing first later Two at next t = ap (λ mark. record t { marks = record t.marks { two = mark } }) (taken_twice t.marks.two)
later_tell_nothing first later Three at next t =
    ap (λ mark. record t { marks = record t.marks { three = mark } }) (taken_twice t.marks.three)

-- what each step makes of it, from the state that the step meets
abbrev pub track_next : State → Step → FieldTrack → FieldTrack
track_next m s t = next track_notes m s t

abbrev pub tracked : State → List Step → FieldTrack → FieldTrack
tracked m steps t = kept_after track_notes m steps t

abbrev pub lines_at_signal : Parity → FieldTrack → Option (List Bool)
lines_at_signal Top t = t.top
lines_at_signal Bottom t = t.bottom

-- which rows of a field are whole at its last signal, if it had one
abbrev pub rows_kept : Parity → FieldTrack → Option (List Bool)
rows_kept field t = option_map (drop (before_of field t.before)) (lines_at_signal field t)
