-- What the words of the command line ask for, or their first fault. A word is the list of its bytes, as it is passed.
use Rattle.std.specs.Prelude.{ℕ, ◌+◌, ◌-◌, ◌*◌, ◌^◌, ◌≤◌, ⊤, Bool, false, ◌&&◌, ◌||◌, List, [], ◌∷◌, map, Option, Some, None, Result, Ok}
use Rattle.std.specs.Prelude.{Err, if◌then◌else◌, ◌==◌, nat_lt, nat_le, codes}
use Rattle.std.specs.Borrow.{Bor}
use Rattle.std.specs.List.{list_any}
use Rattle.std.specs.Str.{bytes_eq}
use Rattle.bt878_words.specs.declared.Command.{Command}
use Rattle.bt878_words.specs.declared.Command.TheVariants as command
use Rattle.bt878_words.specs.declared.Task.{Task}
use Rattle.bt878_words.specs.declared.Task.TheVariants as task
use Rattle.bt878_words.specs.declared.UsageFault.{UsageFault}
use Rattle.bt878_words.specs.declared.UsageFault.TheVariants.{NoCommand, UnknownCommand, WordCount, Number, SameName}
use Rattle.bt878_words.specs.declared.Verb.{Verb}
use Rattle.bt878_words.specs.declared.Verb.TheVariants as verb

-- a word as it is passed
abbrev pub Word : Type 0
Word = Bor (List ℕ)

-- the bytes of words
abbrev pub texts : List Word → List (List ℕ)
texts words = map (λ (word : Word). word.now) words

-- the command of a first word
abbrev pub verb_named : List ℕ → Option Verb
verb_named word =
    if bytes_eq word (codes "list") then Some verb.List
    else (if bytes_eq word (codes "verify") then Some verb.Verify
    else (if bytes_eq word (codes "run") then Some verb.Run
    else (if bytes_eq word (codes "compile") then Some verb.Compile
    else (if bytes_eq word (codes "capture") then Some verb.Capture
    else (if bytes_eq word (codes "make") then Some verb.Make
    else (if bytes_eq word (codes "chain") then Some verb.Chain
    else (if bytes_eq word (codes "damage") then Some verb.Damage
    else (if bytes_eq word (codes "ring") then Some verb.Ring
    else (if bytes_eq word (codes "assemble") then Some verb.Assemble
    else (if bytes_eq word (codes "check") then Some verb.Check
    else (if bytes_eq word (codes "trace") then Some verb.Trace
    else (if bytes_eq word (codes "--help") then Some verb.Help
    else (if bytes_eq word (codes "--version") then Some verb.Version
    else None)))))))))))))

-- a decimal number of 64 bits, in digits without a sign and without a leading zero
abbrev pub is_digit : ℕ → Bool
is_digit byte = nat_le 48 byte && nat_le byte 57

abbrev pub digit_after : ℕ → ℕ → ℕ
digit_after value byte = value * 10 + (byte - 48)

abbrev pub number_from : ℕ → List ℕ → Option ℕ
number_from value [] = Some value
number_from value (byte ∷ bytes) =
    if is_digit byte && nat_lt (digit_after value byte) (2 ^ 64)
    then number_from (digit_after value byte) bytes
    else None

abbrev pub number_of : List ℕ → Option ℕ
number_of [] = None
number_of (byte ∷ []) = number_from 0 (byte ∷ [])
number_of (byte ∷ bytes) = if byte == 48 then None else number_from 0 (byte ∷ bytes)

-- a stream that is made has 1 to 16 frames
abbrev pub HasFrames : Task → Type 0
HasFrames (task.Make desc seed frames stream) = (1 ≤ frames) × (frames ≤ 16)
HasFrames _ = ⊤

-- the words SEED and FRAMES of `make`
abbrev pub made_with : Word → Option ℕ → Option ℕ → Word → Result Task UsageFault
made_with desc (Some seed) (Some frames) stream =
    if nat_le 1 frames && nat_le frames 16 then Ok (task.Make desc seed frames stream) else Err Number
made_with desc _ _ stream = Err Number

-- a command with the words that follow the first
abbrev pub named : Verb → List Word → Result Task UsageFault
named verb.List (program ∷ []) = Ok (task.List program)
named verb.Verify (program ∷ []) = Ok (task.Verify program)
named verb.Run (program ∷ stream ∷ image ∷ []) = Ok (task.Run program stream image)
named verb.Compile (desc ∷ program ∷ []) = Ok (task.Compile desc program)
named verb.Capture (desc ∷ stream ∷ program ∷ image ∷ []) = Ok (task.Capture desc stream program image)
named verb.Make (desc ∷ seed ∷ frames ∷ stream ∷ []) = made_with desc (number_of seed.now) (number_of frames.now) stream
named verb.Chain (one ∷ two ∷ stream ∷ image ∷ []) = Ok (task.Chain one two stream image)
named verb.Damage (desc ∷ stream ∷ []) = Ok (task.Damage desc stream)
named verb.Ring (ring ∷ stream ∷ program ∷ image ∷ []) = Ok (task.Ring ring stream program image)
named verb.Assemble (text ∷ program ∷ []) = Ok (task.Assemble text program)
named verb.Check (program ∷ desc ∷ []) = Ok (task.Check program desc)
named verb.Trace (program ∷ stream ∷ []) = Ok (task.Trace program stream)
named verb.Help [] = Ok task.Help
named verb.Version [] = Ok task.Version
named _ _ = Err WordCount

-- the names of the inputs and of the outputs, in the order in which they are read and written
abbrev pub reads : Task → List (List ℕ)
reads (task.List program) = program.now ∷ []
reads (task.Verify program) = program.now ∷ []
reads (task.Run program stream image) = program.now ∷ stream.now ∷ []
reads (task.Compile desc program) = desc.now ∷ []
reads (task.Capture desc stream program image) = desc.now ∷ stream.now ∷ []
reads (task.Make desc seed frames stream) = desc.now ∷ []
reads (task.Chain one two stream image) = one.now ∷ two.now ∷ stream.now ∷ []
reads (task.Damage desc stream) = desc.now ∷ stream.now ∷ []
reads (task.Ring ring stream program image) = ring.now ∷ stream.now ∷ []
reads (task.Assemble text program) = text.now ∷ []
reads (task.Check program desc) = program.now ∷ desc.now ∷ []
reads (task.Trace program stream) = program.now ∷ stream.now ∷ []
reads task.Help = []
reads task.Version = []

abbrev pub writes : Task → List (List ℕ)
writes (task.List program) = []
writes (task.Verify program) = []
writes (task.Run program stream image) = image.now ∷ []
writes (task.Compile desc program) = program.now ∷ []
writes (task.Capture desc stream program image) = program.now ∷ image.now ∷ []
writes (task.Make desc seed frames stream) = stream.now ∷ []
writes (task.Chain one two stream image) = image.now ∷ []
writes (task.Damage desc stream) = []
writes (task.Ring ring stream program image) = program.now ∷ image.now ∷ []
writes (task.Assemble text program) = program.now ∷ []
writes (task.Check program desc) = []
writes (task.Trace program stream) = []
writes task.Help = []
writes task.Version = []

-- an output has the name of an input or of another output
abbrev pub is_among : List ℕ → List (List ℕ) → Bool
is_among name names = list_any (λ other. bytes_eq other name) names

abbrev pub has_clash : List (List ℕ) → List (List ℕ) → Bool
has_clash taken [] = false
has_clash taken (name ∷ names) = is_among name taken || is_among name names || has_clash taken names

abbrev pub apart : Task → Result Task UsageFault
apart t = if has_clash (reads t) (writes t) then Err SameName else Ok t

abbrev pub apart_if : Result Task UsageFault → Result Task UsageFault
apart_if (Err fault) = Err fault
apart_if (Ok t) = apart t

abbrev pub with_verb : Option Verb → List Word → Result Task UsageFault
with_verb None others = Err UnknownCommand
with_verb (Some v) others = apart_if (named v others)

-- what the words ask for, or their first fault
abbrev pub task_of : List Word → Result Task UsageFault
task_of [] = Err NoCommand
task_of (word ∷ others) = with_verb (verb_named word.now) others

-- the command, without the names
abbrev pub command_in : Task → Command
command_in (task.List program) = command.List
command_in (task.Verify program) = command.Verify
command_in (task.Run program stream image) = command.Run
command_in (task.Compile desc program) = command.Compile
command_in (task.Capture desc stream program image) = command.Capture
command_in (task.Make desc seed frames stream) = command.Make seed frames
command_in (task.Chain one two stream image) = command.Chain
command_in (task.Damage desc stream) = command.Damage
command_in (task.Ring ring stream program image) = command.Ring
command_in (task.Assemble text program) = command.Assemble
command_in (task.Check program desc) = command.Check
command_in (task.Trace program stream) = command.Trace
command_in task.Help = command.Help
command_in task.Version = command.Version

abbrev pub command_if : Result Task UsageFault → Result Command UsageFault
command_if (Err fault) = Err fault
command_if (Ok t) = Ok (command_in t)

abbrev pub command_of : List Word → Result Command UsageFault
command_of words = command_if (task_of words)
