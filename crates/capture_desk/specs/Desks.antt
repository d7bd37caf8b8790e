-- What a desk tells, and what each of its calls changes. A name is the list of its bytes.
use Rattle.std.specs.Prelude.{ℕ, length, ◌+◌, ◌-◌, ◌^◌, ◌<◌, ◌≤◌, min, Bool, true, false, IsTrue, List, [], ◌∷◌, ◌++◌, take, drop, Option}
use Rattle.std.specs.Prelude.{Some, None, option_map, MatchOption, ◌⊎◌, Result, Ok, Err, ⊤, ◌≡◌, if◌then◌else◌}
use Rattle.std.specs.List.{list_any}
use Rattle.std.specs.Str.{bytes_eq}
use Rattle.capture_desk.specs.declared.calls.Call.{Call}
use Rattle.capture_desk.specs.declared.calls.Call.TheVariants.{Say}
use Rattle.capture_desk.specs.declared.desk.OpenFault.{OpenFault}
use Rattle.capture_desk.specs.declared.desk.OpenFault.TheVariants.{Missing, Failed}

-- the input files by name
abbrev pub Inputs : Type 0
Inputs = List (List ℕ × List ℕ)

-- the output files by name, in some order of the desk; a name of which there is no output yet may be here too
abbrev pub Outputs : Type 0
Outputs = List (List ℕ × Option (List ℕ))

-- Each content is there only where the desk tells it. A desk that tells its inputs tells the rest of the
-- one that is open, and a desk that tells its outputs tells which one is open.
pub record Told : Type 0 where
  pub inputs : Option Inputs
  pub rest : Option (List ℕ)  -- the unread rest of the open input
  pub outputs : Option Outputs
  pub writing : Option (List ℕ)  -- the name of the open output
  pub said : Option (List ℕ)  -- the text on the standard output
  pub may_open : Option (List (List ℕ))
  pub may_create : Option (List (List ℕ))
  pub input_open : Bool
  pub output_open : Bool

-- All that is seen of a desk: what it tells, how many calls that read and that write failed, whether the last call
-- failed, and the calls so far, where it tells them, the last one first.
pub record Seen : Type 0 where
  pub told : Told
  pub reads : ℕ
  pub writes : ℕ
  pub failed : Bool
  pub calls : Option (List Call)

-- ---- files by name

-- what is first under a name
abbrev pub named : {V : Type 0} → List ℕ → List (List ℕ × V) → Option V
named name [] = None
named name (file ∷ files) = if bytes_eq file.0 name then Some file.1 else named name files

-- the bytes of the output of this name, where there is one
abbrev pub output_under : Option (Option (List ℕ)) → Option (List ℕ)
output_under None = None
output_under (Some bytes) = bytes

abbrev pub output_named : List ℕ → Outputs → Option (List ℕ)
output_named name outputs = output_under (named name outputs)

abbrev pub is_among : List ℕ → List (List ℕ) → Bool
is_among name names = list_any (λ other. bytes_eq other name) names

-- an empty output under a name, in place of an old one
abbrev pub created : List ℕ → Outputs → Outputs
created name [] = (name, Some []) ∷ []
created name (file ∷ files) = if bytes_eq file.0 name then (file.0, Some []) ∷ files else file ∷ created name files

-- more bytes at the end of the output of a name
abbrev pub appended : List ℕ → List ℕ → Outputs → Outputs
appended name bytes [] = []
appended name bytes (file ∷ files) =
    if bytes_eq file.0 name then (file.0, option_map (λ old. old ++ bytes) file.1) ∷ files
    else file ∷ appended name bytes files

abbrev pub written : Option (List ℕ) → List ℕ → Outputs → Outputs
written None bytes outputs = outputs
written (Some name) bytes outputs = appended name bytes outputs

-- ---- what each call changes

abbrev pub first_rest : List ℕ → Option Inputs → Option (List ℕ)
first_rest name None = None
first_rest name (Some inputs) = named name inputs

abbrev pub after_open : List ℕ → Told → Told
after_open name t = record t { rest = first_rest name t.inputs; input_open = true }

abbrev pub after_read : ℕ → Told → Told
after_read n t = record t { rest = option_map (λ rest. drop n rest) t.rest }

abbrev pub after_create : List ℕ → Told → Told
after_create name t =
    record t {
      outputs = option_map (created name) t.outputs;
      writing = option_map (λ _. name) t.outputs;
      output_open = true;
    }

abbrev pub after_write : List ℕ → Told → Told
after_write bytes t = record t { outputs = option_map (written t.writing bytes) t.outputs }

abbrev pub after_finish : Told → Told
after_finish t = record t { writing = None; output_open = false }

abbrev pub after_say : List ℕ → Told → Told
after_say bytes t = record t { said = option_map (λ text. text ++ bytes) t.said }

-- ---- conditions and answers

-- a name may be used, where the desk tells the names
abbrev pub IsAllowed : List ℕ → Option (List (List ℕ)) → Type 0
IsAllowed name names = MatchOption names ⊤ (λ known. IsTrue (is_among name known))

-- whether the desk tells that there is no such input
abbrev pub is_missing : List ℕ → Option Inputs → Bool
is_missing name None = false
is_missing name (Some inputs) = elim (named name inputs) [ None ↦ true | Some _ ↦ false ]

-- what each answer states of the desk before and after
abbrev pub Opens : {A : Type 0} → List ℕ → Result A OpenFault → Told → Told → Type 0
Opens name (Ok _) old new = (is_missing name old.inputs ≡ false) × (new ≡ after_open name old)
Opens name (Err Missing) old new = (is_missing name old.inputs ≡ true) × (new ≡ old)
Opens name (Err Failed) old new = new ≡ old

-- the first n bytes of the rest, where the desk tells it, are at the front of a buffer; none exactly at the end
abbrev pub Takes : ℕ → List ℕ → List ℕ → List ℕ → Type 0
Takes n rest buf new_buf = (n ≤ length rest) × (n ≡ 0 → rest ≡ []) × (new_buf ≡ take n rest ++ drop n buf)

abbrev pub Reads : {E : Type 0} → List ℕ → List ℕ → Result ℕ E → Told → Told → Type 0
Reads buf new_buf (Ok n) old new =
    (n ≤ length buf) × MatchOption old.rest ⊤ (λ rest. Takes n rest buf new_buf) × (new ≡ after_read n old)
Reads buf new_buf (Err _) old new = MatchOption old.rest ⊤ (λ _. new_buf ≡ buf) × (new ≡ old)

abbrev pub Makes : {A E : Type 0} → Result A E → Told → Told → Told → Type 0
Makes (Ok _) made old new = new ≡ made
Makes (Err _) made old new = new ≡ old

-- one byte at least of a piece was appended, as by `after`
abbrev pub Appends : {E : Type 0} → List ℕ → Result ℕ E → (List ℕ → Told → Told) → Told → Told → Type 0
Appends bytes (Ok n) after old new = (0 < n) × (n ≤ length bytes) × (new ≡ after (take n bytes) old)
Appends bytes (Err _) after old new = new ≡ old

-- a whole piece was appended, or a part of it and then came a fault
abbrev pub Puts : {A E : Type 0} → List ℕ → Result A E → (List ℕ → Told → Told) → Told → Told → Type 0
Puts bytes (Ok _) after old new = new ≡ after bytes old
Puts bytes (Err _) after old new = (n : ℕ) × (n < length bytes) × (new ≡ after (take n bytes) old)

-- ---- counts of faults, and the calls

-- one more fault; a count stays at its greatest value
abbrev pub counted : ℕ → ℕ
counted n = min (n + 1) (2 ^ 64 - 1)

-- a count rose; one at its greatest value counts as risen
abbrev pub HasRisen : ℕ → ℕ → Type 0
HasRisen old new = counted old ≤ new

-- one more call, before which others were made: calls of `say` one after the other are one run
abbrev pub joined : Call → List Call → List Call
joined Say (Say ∷ before) = Say ∷ before
joined call before = call ∷ before

-- the desk tells it, where it tells calls
abbrev pub recorded : Call → Option (List Call) → Option (List Call)
recorded call calls = option_map (joined call) calls

-- and so are calls that follow one another, in their order
abbrev pub all_recorded : List Call → Option (List Call) → Option (List Call)
all_recorded [] calls = calls
all_recorded (call ∷ later) calls = all_recorded later (recorded call calls)

-- these calls were made, in their order, where the desk tells calls; it may cease to tell them
abbrev pub Tells : List Call → Option (List Call) → Option (List Call) → Type 0
Tells made old new = (new ≡ None) ⊎ (new ≡ all_recorded made old)

-- the calls that print a text: none where it is empty
abbrev pub said_by : List ℕ → List Call
said_by [] = []
said_by (_ ∷ _) = Say ∷ []

-- a call did not fail
abbrev pub IsQuiet : Seen → Seen → Type 0
IsQuiet old new = (new.reads ≡ old.reads) × (new.writes ≡ old.writes) × (new.failed ≡ false)

-- the last call failed at reading, and at writing, and no other call did
abbrev pub IsReadFault : Seen → Seen → Type 0
IsReadFault old new = (new.reads ≡ counted old.reads) × (new.writes ≡ old.writes) × (new.failed ≡ true)

abbrev pub IsWriteFault : Seen → Seen → Type 0
IsWriteFault old new = (new.reads ≡ old.reads) × (new.writes ≡ counted old.writes) × (new.failed ≡ true)

abbrev pub OpenCounts : {A : Type 0} → Result A OpenFault → Seen → Seen → Type 0
OpenCounts (Ok _) = IsQuiet
OpenCounts (Err Missing) = IsQuiet
OpenCounts (Err Failed) = IsReadFault

abbrev pub ReadCounts : {A E : Type 0} → Result A E → Seen → Seen → Type 0
ReadCounts (Ok _) = IsQuiet
ReadCounts (Err _) = IsReadFault

abbrev pub CallCounts : {A E : Type 0} → Result A E → Seen → Seen → Type 0
CallCounts (Ok _) = IsQuiet
CallCounts (Err _) = IsWriteFault

-- no count rose, and no input or output was opened, read or finished
abbrev pub OnlyWrites : Seen → Seen → Type 0
OnlyWrites old new = (new.reads ≡ old.reads) × (new.writes ≡ old.writes) × (new.calls ≡ old.calls)

-- what is left by calls that write, one after the other up to the first that fails
abbrev pub WriteCounts : {A E : Type 0} → Result A E → Seen → Seen → Type 0
WriteCounts (Ok _) old new = OnlyWrites old new
WriteCounts (Err _) old new = IsWriteFault old new × (new.calls ≡ old.calls)

-- no count rose, and nothing was done but that these bytes were printed
abbrev pub OnlySaid : List ℕ → Seen → Seen → Type 0
OnlySaid bytes old new = (new.reads ≡ old.reads) × (new.writes ≡ old.writes) × Tells (said_by bytes) old.calls new.calls

-- what is left by calls that print these bytes, one after the other up to the first that fails
abbrev pub SayCounts : {A E : Type 0} → List ℕ → Result A E → Seen → Seen → Type 0
SayCounts bytes (Ok _) old new = OnlySaid bytes old new
SayCounts bytes (Err _) old new = IsWriteFault old new × Tells (Say ∷ []) old.calls new.calls

abbrev pub was_done : {A E : Type 0} → Result A E → Bool
was_done (Ok _) = true
was_done (Err _) = false

abbrev pub moved_by : {E : Type 0} → Result ℕ E → Option ℕ
moved_by (Ok n) = Some n
moved_by (Err _) = None
