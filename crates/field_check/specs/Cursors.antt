-- What instructions that are one after another still ask of a queue.
use Rattle.std.specs.Prelude.{◌≡◌, ℕ, zero, suc, ◌+◌, ◌*◌, ◌<◌, ◌≤◌, ◌^◌, List, [], ◌∷◌, ◌++◌, length, drop, ◌-◌, ◌&&◌, ◌==◌, Option, Some}
use Rattle.std.specs.Prelude.{None, option_map, Ok, Err}
use Rattle.fifo_model.specs.declared.Queue.{Queue}
use Rattle.machine_model.specs.declared.Demand.{Demand}
use Rattle.machine_model.specs.Paths.{RiscProgram, fetch}
use Rattle.field_law.specs.Sections.{Ask, Await, ask, ask_of, asked}
use Rattle.check_model.specs.ByBytes.{bytes_asked}
use Rattle.check_model.specs.Lines.{Reach, nowhere, reached}
use Rattle.field_check.specs.declared.cursors.Cursor.{Cursor}
use Rattle.field_check.specs.declared.cursors.Next.{Next}
use Rattle.field_check.specs.declared.cursors.Next.TheVariants.{Nothing, Marked, Bytes}
use Rattle.field_check.specs.declared.cursors.Track.{Track}

-- so many instructions from an address on
abbrev pub asks_from : ℕ → RiscProgram → Queue → ℕ → List Ask
asks_from zero plan q at = []
asks_from (suc more) plan q at =
    elim (fetch plan at) [ Err fault ↦ [] | Ok read ↦ bytes_asked (asked q read.0) ++ asks_from more plan q (at + 4 * read.1) ]

-- the first of them
abbrev pub first_asks : RiscProgram → Queue → ℕ → List Ask
first_asks plan q at = elim (fetch plan at) [ Err fault ↦ [] | Ok read ↦ bytes_asked (asked q read.0) ]

-- what is left of them, some bytes of the first being taken
abbrev pub left_of : RiscProgram → Queue → Cursor → List Ask
left_of plan q c = drop c.done (asks_from c.more plan q c.at)

-- no more of the first are taken than it asks
abbrev pub Fits : RiscProgram → Queue → Cursor → Type 0
Fits plan q c = c.done ≤ length (first_asks plan q c.at)

-- what comes next
abbrev pub IsNext : Next → List Ask → Type 0
IsNext Nothing left = left ≡ []
IsNext (Marked code) left = (rest : List Ask) × (left ≡ Await code ∷ rest)
IsNext (Bytes d) left = (0 < d.rest) × (rest : List Ask) × (left ≡ bytes_asked (ask_of d) ++ rest)

-- a demand without the first of its bytes
abbrev pub rest_of : Demand → ℕ → Demand
rest_of d n =
    record { rest = d.rest - n; address = option_map (λ at. at + n) d.address; needs_sol = d.needs_sol && n == 0 }

-- the first byte of a demand
abbrev pub first_of : Demand → Ask
first_of d = ask d.needs_sol 1 d.address

-- so many of the first instruction's bytes may be taken
abbrev pub HasRoom : Next → ℕ → List Ask → Type 0
HasRoom (Bytes d) done asks = (done + d.rest ≤ length asks) × (done + d.rest < 2 ^ 16)
HasRoom (Marked code) done asks = (done + 1 ≤ length asks) × (done + 1 < 2 ^ 16)
HasRoom Nothing done asks = Unit {0}

-- what comes next where some of an instruction's bytes are taken, if any is left
abbrev pub IsHere : Option Next → ℕ → List Ask → Type 0
IsHere None done asks = length asks ≡ done
IsHere (Some next) done asks = ((more : List Ask) → IsNext next (drop done (asks ++ more))) × HasRoom next done asks

-- how far a track has come
abbrev pub reach_of : Track → Reach
reach_of t = record { lines = t.lines; bytes = t.bytes }

-- a track is within what a queue awaits from the beginning: what is taken is counted, and the rest is left
pub record IsAt (full : List Ask) (plan : RiscProgram) (q : Queue) (t : Track) : Type 0 where
  pub fits : Fits plan q t.cursor
  pub taken : List Ask
  pub whole : full ≡ taken ++ left_of plan q t.cursor
  pub reach : reached nowhere taken ≡ reach_of t

-- it counts no more lines and no more bytes than so many
pub record CountsUpTo (t : Track) (count : ℕ) : Type 0 where
  pub lines : t.lines ≤ count
  pub bytes : t.bytes ≤ count

-- at most so many more than another
pub record CountsMore (before after : Track) (count : ℕ) : Type 0 where
  pub lines : after.lines ≤ before.lines + count
  pub bytes : after.bytes ≤ before.bytes + count
