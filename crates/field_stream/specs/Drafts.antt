-- The bytes of a stream that are made but not put yet.
use Rattle.std.specs.Prelude.{◌≡◌, ℕ, ◌<◌, List, [], ◌∷◌, ◌++◌, length, take, Result, Ok, Err}
use Rattle.capture_desk.specs.Desks.{Told, after_write}
use Rattle.field_stream.specs.declared.lines.Line.{Line}
use Rattle.field_stream.specs.Pushes.{Push}
use Rattle.field_stream.specs.Made.{after, records, records_of}

-- with the number of the generator
pub record Drafted : Type 0 where
  pub bytes : List ℕ
  pub number : ℕ

-- with one more push, and with some
abbrev pub pushed : Push → Drafted → Drafted
pushed push d =
    record {
      bytes = d.bytes ++ records_of d.number push;
      number = after d.number push;
    }

abbrev pub pushed_all : List Push → Drafted → Drafted
pushed_all [] d = d
pushed_all (push ∷ rest) d = pushed_all rest (pushed push d)

-- of the bytes that a draft would hold a front was put, and it holds the others
pub record IsMoved (whole held : Drafted) (old told : Told) : Type 0 where
  pub front : List ℕ
  pub bytes : whole.bytes ≡ front ++ held.bytes
  pub put : told ≡ after_write front old
  pub number : held.number ≡ whole.number

-- a front of them was put, and then came a fault
pub record IsBroken (whole : Drafted) (old told : Told) : Type 0 where
  pub count : ℕ
  pub within : count < length whole.bytes
  pub put : told ≡ after_write (take count whole.bytes) old

abbrev pub Moves : {A E : Type 0} → Drafted → Result A E → Drafted → Told → Told → Type 0
Moves whole (Ok _) held old told = IsMoved whole held old told
Moves whole (Err _) held old told = IsBroken whole old told

-- a line, and its records with some bytes
pub record Patterned : Type 0 where
  pub line : Line
  pub bytes : List ℕ

-- the records of some pushes, whatever is drawn
abbrev pub AreRecords : List Push → List ℕ → Type 0
AreRecords pushes bytes = (number : ℕ) × (bytes ≡ records number pushes)
