-- Whether a program shows a field of a description from an opening on, and else the first place at which it doesn't, and why.
use Rattle.std.specs.Prelude.{ℕ, zero, suc, ◌+◌, ◌-◌, ◌*◌, Bool, true, false, not, ◌&&◌, List, [], ◌∷◌, length, take, drop, Option, Some}
use Rattle.std.specs.Prelude.{None, option_map, Result, Ok, Err, if◌then◌else◌, ◌==◌}
use Rattle.risc_word.specs.declared.Code.{Code}
use Rattle.risc_word.specs.declared.Code.TheVariants.{Vre, Vro, Fm1, Fm3}
use Rattle.risc_word.specs.declared.Instr.{Instr}
use Rattle.risc_word.specs.declared.Instr.TheVariants.{WriteC, Jump, Sync}
use Rattle.risc_word.specs.Parts.{instr_ends, instr_off}
use Rattle.risc_word.specs.Words.{code_number, encoded}
use Rattle.fifo_model.specs.declared.Queue.{Queue}
use Rattle.fifo_model.specs.declared.Queue.TheVariants.{One, Two, Three}
use Rattle.pixel_layout.specs.declared.Parity.{Parity}
use Rattle.machine_model.specs.Paths.{RiscProgram, all_words, fetch, is_data}
use Rattle.capture_desc.specs.declared.desc.Desc.{Desc}
use Rattle.picture_model.specs.Programs.{body, vertical}
use Rattle.field_law.specs.Sections.{Ask, Await, Begin, GoOn, asked, asks}
use Rattle.field_law.specs.Trails.{next_at}
use Rattle.check_model.specs.ByBytes.{by_bytes}
use Rattle.check_model.specs.Lines.{Reach, last_spot, line_bytes, next_spot, nowhere, reached}
use Rattle.check_model.specs.declared.Spot.{Spot}
use Rattle.check_model.specs.declared.Why.{Why}
use Rattle.check_model.specs.declared.Why.TheVariants as why

-- ---- what is awaited and what is asked

-- what each queue still awaits, byte by byte
abbrev pub Awaited : Type 0
Awaited = Queue → List Ask

-- at first, what the description's own section asks of it
abbrev pub awaited : Desc → Parity → Awaited
awaited d field q = by_bytes (asks q (body d field))

abbrev pub is_none : List Ask → Bool
is_none [] = true
is_none (next ∷ rest) = false

abbrev pub none_left : Awaited → Bool
none_left left = is_none (left One) && is_none (left Two) && is_none (left Three)

-- what an instruction asks of a queue, byte by byte, and what is left then
abbrev pub instr_asks : Queue → Instr → List Ask
instr_asks q instr = by_bytes (asked q instr ∷ [])

abbrev pub left_by : Instr → Awaited → Awaited
left_by instr left q = drop (length (instr_asks q instr)) (left q)

-- how far a queue has come where this is left
abbrev pub reach_at : Queue → Desc → Parity → List Ask → Reach
reach_at q d field left = reached nowhere (take (length (awaited d field q) - length left) (awaited d field q))

-- ---- the first code or byte that differs

abbrev pub same_place : Option ℕ → Option ℕ → Bool
same_place None None = true
same_place (Some a) (Some b) = a == b
same_place _ _ = false

abbrev pub same_ask : Ask → Ask → Bool
same_ask (Await a) (Await b) = code_number a == code_number b
same_ask (Begin count a) (Begin other b) = count == other && same_place a b
same_ask (GoOn count a) (GoOn other b) = count == other && same_place a b
same_ask _ _ = false

-- the first ask that isn't what is left then, and what is left then
abbrev pub first_unlike : List Ask → List Ask → Option (Ask × List Ask)
first_unlike [] left = None
first_unlike (met ∷ more) [] = Some (met, [])
first_unlike (met ∷ more) (next ∷ rest) = if same_ask met next then first_unlike more rest else Some (met, next ∷ rest)

-- where the byte of an ask goes, if anywhere
abbrev pub place_of : Ask → Option ℕ
place_of (Await code) = None
place_of (Begin count address) = address
place_of (GoOn count address) = address

-- a byte is awaited: a code is met, or a byte for another place, or one that begins a line where that one doesn't or the
-- other way round
abbrev pub place_why : Spot → Queue → Option ℕ → Why
place_why spot q (Some address) = why.PlaceAwaited spot.line q spot.number address
place_why spot q None = why.NoPlaceAwaited spot.line q spot.number

abbrev pub sol_why : Spot → Queue → Ask → Why
sol_why spot q (Begin count address) = why.SolAwaited spot.line q
sol_why spot q _ = why.NoSolAwaited spot.line q spot.number

abbrev pub byte_why : Spot → Queue → Ask → Ask → Why
byte_why spot q (Await code) next = why.ByteAwaited spot.line q spot.number
byte_why spot q met next =
    if same_place (place_of met) (place_of next) then sol_why spot q next else place_why spot q (place_of next)

-- something is met where a queue awaits nothing more, a code or a byte
abbrev pub unlike_why : Desc → Parity → Queue → Ask → List Ask → Why
unlike_why d field q met [] = why.NothingMore q
unlike_why d field q met (Await code ∷ rest) = why.SyncAwaited code
unlike_why d field q met (next ∷ rest) = byte_why (next_spot q d field (reach_at q d field (next ∷ rest)) next) q met next

-- ---- an instruction

-- the first of two causes, and that of the queues in their order
abbrev pub first_why : Option Why → Option Why → Option Why
first_why None other = other
first_why (Some cause) other = Some cause

abbrev pub over_queues : (Queue → Option Why) → Option Why
over_queues on = first_why (on One) (first_why (on Two) (on Three))

abbrev pub queue_why : Desc → Parity → Instr → Awaited → Queue → Option Why
queue_why d field instr left q = option_map (λ unlike. unlike_why d field q unlike.0 unlike.1) (first_unlike (instr_asks q instr) (left q))

-- of a SYNC the queues that await something come before those that don't
abbrev pub waiting_why : Desc → Parity → Instr → Awaited → Queue → Option Why
waiting_why d field instr left q = if is_none (left q) then None else queue_why d field instr left q

abbrev pub order_why : Desc → Parity → Instr → Awaited → Option Why
order_why d field instr left =
    if is_data instr then over_queues (queue_why d field instr left)
    else first_why (over_queues (waiting_why d field instr left)) (over_queues (queue_why d field instr left))

-- a line goes on
abbrev pub goes_on : List Ask → Bool
goes_on (GoOn count address ∷ rest) = true
goes_on _ = false

-- EOL is missing at a line's last byte, or comes before it
abbrev pub eol_by : Bool → Bool → Spot → Queue → Desc → Option Why
eol_by true true spot q d = Some (why.EarlyEol spot.line q spot.number (line_bytes q d spot.line))
eol_by true false spot q d = None
eol_by false true spot q d = None
eol_by false false spot q d = Some (why.EolAwaited spot.line q)

-- an instruction of which a queue's bytes are awaited
abbrev pub eol_why : Desc → Parity → Instr → Awaited → Queue → Option Why
eol_why d field instr left q =
    if is_data instr && not (is_none (instr_asks q instr))
    then eol_by (instr_ends instr).eol (goes_on (left_by instr left q))
    (last_spot q d field (reach_at q d field (left_by instr left q))) q d
    else None

-- why an instruction isn't what is awaited
abbrev pub instr_why : Desc → Parity → Instr → Awaited → Option Why
instr_why d field (WriteC ctl ends off count) left = Some why.WriteC
instr_why d field instr left =
    if not (instr_off instr == 0) then Some why.LanesOff
    else first_why (order_why d field instr left) (over_queues (eol_why d field instr left))

-- ---- the next field

abbrev pub is_vertical : Code → Bool
is_vertical Vre = true
is_vertical Vro = true
is_vertical Fm1 = false
is_vertical Fm3 = false

-- a SYNC for a vertical code
abbrev pub begins_field : Instr → Bool
begins_field (Sync ctl resync code) = is_vertical code
begins_field _ = false

-- it comes while something is awaited; the lowest queue that awaits something is reported
abbrev pub lowest_left : Awaited → Queue
lowest_left left = if not (is_none (left One)) then One else (if not (is_none (left Two)) then Two else Three)

abbrev pub short_why : Desc → Parity → Awaited → Why
short_why d field left = let q = lowest_left left in unlike_why d field q (Await (vertical field)) (left q)

-- ---- the walk along the path

-- Behind a field's end are only JUMPs up to the next field's SYNC; else the first place where that isn't so. The next
-- place is searched by `more`
abbrev pub behind_at : Instr → ℕ → (ℕ → Option (ℕ × Why)) → Option (ℕ × Why)
behind_at (Jump ctl target) at more = more target
behind_at instr at more = if begins_field instr then None else Some (at, why.NothingAwaited)

abbrev pub behind : ℕ → RiscProgram → ℕ → Option (ℕ × Why)
behind zero program at = Some (at, why.NoNextField)
behind (suc fuel) program at =
    elim (fetch program at) [ Err fault ↦ Some (at, why.Unread) | Ok read ↦ behind_at read.0 at (behind fuel program) ]

-- the address at which the field ends and the number of instructions before it, or an address and why the field isn't shown
abbrev pub Answer : Type 0
Answer = Result (ℕ × ℕ) (ℕ × Why)

abbrev pub ended : Option (ℕ × Why) → ℕ → Answer
ended None at = Ok (at, 0)
ended (Some fault) at = Err fault

abbrev pub one_more : Answer → Answer
one_more (Ok found) = Ok (found.0, suc found.1)
one_more (Err fault) = Err fault

-- an instruction that is awaited, and then the rest by `more`
abbrev pub walked_by : Option Why → Instr → ℕ → Awaited → (ℕ → Awaited → Answer) → Answer
walked_by (Some cause) instr at left more = Err (at, cause)
walked_by None instr at left more = one_more (more (next_at instr at) (left_by instr left))

-- while a queue awaits something, no field begins
abbrev pub walked_at : Bool → Desc → Parity → Instr → ℕ → Awaited → (ℕ → Awaited → Answer) → Answer
walked_at true d field instr at left more = Err (at, short_why d field left)
walked_at false d field instr at left more = walked_by (instr_why d field instr left) instr at left more

-- from an address on, along at most so many instructions: once nothing is awaited, the field ends
abbrev pub walked : ℕ → RiscProgram → Desc → Parity → ℕ → Awaited → Answer
walked zero program d field at left = Err (at, why.NoNextField)
walked (suc fuel) program d field at left =
    if none_left left then ended (behind (suc fuel) program at) at
    else elim (fetch program at) [
      | Err fault ↦ Err (at, why.Unread)
      | Ok read ↦ walked_at (begins_field read.0) d field read.0 at left (walked fuel program d field)
    ]

-- as many instructions as there are words lead to the next field, if any do
abbrev pub fuel : RiscProgram → ℕ
fuel program = length (all_words program)

-- ---- from an opening

abbrev pub opened : Instr → RiscProgram → Desc → Parity → ℕ → Answer
opened (Sync ctl resync code) program d field at =
    if not (code_number code == code_number (vertical field)) then Err (at, why.NoSync (vertical field))
    else (if not resync then Err (at, why.NoResync)
    else walked (fuel program) program d field (at + 8) (awaited d field))
opened _ program d field at = Err (at, why.NoSync (vertical field))

-- what is found of a field from the opening at an address on
abbrev pub checked : RiscProgram → Desc → Parity → ℕ → Answer
checked program d field at =
    elim (fetch program at) [ Err fault ↦ Err (at, why.Unread) | Ok read ↦ opened read.0 program d field at ]
