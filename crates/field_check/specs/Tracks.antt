-- Where the three queues are in what a field's section asks of them.
use Rattle.std.specs.Prelude.{ℕ, ◌&&◌, not, List, [], ◌∷◌, Option, None, Some, option_map, if◌then◌else◌}
use Rattle.risc_word.specs.declared.Code.{Code}
use Rattle.risc_word.specs.declared.Instr.{Instr}
use Rattle.risc_word.specs.Parts.{instr_ends}
use Rattle.risc_word.specs.declared.Code.TheVariants.{Vre}
use Rattle.fifo_model.specs.declared.Queue.{Queue}
use Rattle.fifo_model.specs.declared.Queue.TheVariants.{One, Two, Three}
use Rattle.pixel_layout.specs.declared.Parity.{Parity}
use Rattle.machine_model.specs.declared.Demand.{Demand}
use Rattle.machine_model.specs.Paths.{RiscProgram, is_data}
use Rattle.capture_desc.specs.declared.desc.Desc.{Desc}
use Rattle.field_law.specs.Sections.{Ask, Await}
use Rattle.check_model.specs.Checks.{Awaited, awaited, eol_by, first_unlike, goes_on, instr_asks, is_none, reach_at, unlike_why}
use Rattle.check_model.specs.Lines.{last_spot}
use Rattle.check_model.specs.declared.Why.{Why}
use Rattle.check_model.specs.declared.Why.TheVariants.{NothingMore}
use Rattle.field_check.specs.Cursors.{CountsMore, CountsUpTo, Fits, IsAt, first_of, left_of}
use Rattle.field_check.specs.declared.cursors.Track.{Track}
use Rattle.field_check.specs.declared.judge.Tracks.{Tracks}

-- what is met: bytes, or else a code
abbrev pub met_ask : Option Demand → Ask
met_ask None = Await Vre
met_ask (Some d) = first_of d

abbrev pub track_of : Tracks → Queue → Track
track_of ts One = ts.one
track_of ts Two = ts.two
track_of ts Three = ts.three

-- what each queue awaits
abbrev pub lefts : RiscProgram → Tracks → Awaited
lefts plan ts q = left_of plan q (track_of ts q).cursor

-- a track of a field
abbrev pub IsIn : Desc → Parity → RiscProgram → Queue → Track → Type 0
IsIn d field plan q t = IsAt (awaited d field q) plan q t

pub record AreIn (d : Desc) (field : Parity) (plan : RiscProgram) (ts : Tracks) : Type 0 where
  pub one : IsIn d field plan One ts.one
  pub two : IsIn d field plan Two ts.two
  pub three : IsIn d field plan Three ts.three

-- how much they count
pub record CountUpTo (ts : Tracks) (count : ℕ) : Type 0 where
  pub one : CountsUpTo ts.one count
  pub two : CountsUpTo ts.two count
  pub three : CountsUpTo ts.three count

pub record CountMore (before after : Tracks) (count : ℕ) : Type 0 where
  pub one : CountsMore before.one after.one count
  pub two : CountsMore before.two after.two count
  pub three : CountsMore before.three after.three count

-- why a queue doesn't await what an instruction asks, from what is left; and, where the instruction is awaited, why its EOL is
-- wrong, from what is left then
abbrev pub met_why : Desc → Parity → Queue → Instr → List Ask → Option Why
met_why d field q instr left = option_map (λ unlike. unlike_why d field q unlike.0 unlike.1) (first_unlike (instr_asks q instr) left)

abbrev pub eol_at : Desc → Parity → Queue → Instr → List Ask → Option Why
eol_at d field q instr after =
    if is_data instr && not (is_none (instr_asks q instr))
    then eol_by (instr_ends instr).eol (goes_on after) (last_spot q d field (reach_at q d field after)) q d
    else None

-- the same of a code, where the queue awaits something; and of one that awaits nothing
abbrev pub code_why : Desc → Parity → Queue → Code → List Ask → Option Why
code_why d field q code left =
    if is_none left then None
    else option_map (λ unlike. unlike_why d field q unlike.0 unlike.1) (first_unlike (Await code ∷ []) left)

abbrev pub none_why : Queue → List Ask → Option Why
none_why q left = if is_none left then Some (NothingMore q) else None

pub record AreFit (plan : RiscProgram) (ts : Tracks) : Type 0 where
  pub one : Fits plan One ts.one.cursor
  pub two : Fits plan Two ts.two.cursor
  pub three : Fits plan Three ts.three.cursor
