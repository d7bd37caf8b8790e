-- Files that may have so many bytes and no more.
use Rattle.std.specs.Prelude.{◌≡◌, ℕ, true, ◌<◌, ◌≤◌, List, length, Option}
use Rattle.capture_desk.specs.Desks.{Inputs}
use Rattle.capture_file.specs.declared.FileKind.TheVariants as kind
use Rattle.capture_file.specs.declared.FileFault.{FileFault}
use Rattle.capture_file.specs.declared.Input.{Input as File}
use Rattle.command_texts.specs.declared.refusal.Refusal.{Refusal}
use Rattle.command_texts.specs.declared.refusal.Refusal.TheVariants.{Malformed}
use Rattle.command_steps.specs.Inputs.{Always, ByBytes, Input, Judge, OfInput}

-- the byte at the limit is one too many
abbrev pub too_long : ℕ → FileFault
too_long most = record { at = most; kind = kind.TooLong }

-- an input has more bytes
abbrev pub IsLonger : ℕ → File → List ℕ → Refusal → Option Inputs → Type 0
IsLonger most file name (Malformed other fault) inputs =
    (other ≡ file) × (fault ≡ too_long most) × OfInput name inputs (λ bytes. most < length bytes)
IsLonger most file name _ inputs = ⊥

-- ---- as an input

abbrev pub limited_files : ℕ → File → Judge
limited_files most file =
    record { most = most; kept = true; MayGoOn = Always; IsGood = ByBytes (λ bytes. length bytes ≤ most); IsBad = IsLonger most file }

abbrev pub a_limited : ℕ → File → List ℕ → Input
a_limited most file name = record { name = name; judge = limited_files most file }
