-- What is read up to one byte beyond the longest file shows whether the file is too long, and else what the whole file is.
use Rattle.std.proofs.Common.{◌≡◌, ◌≤◌, ◌<◌, ◌+◌, ◌∙◌, ℕ, List, Option, length, take, ap, subst, arith, length-take}
use Rattle.std.proofs.lemmas.List.{take_all}
use Rattle.capture_desk.specs.Desks.{Inputs}
use Rattle.command_steps.specs.Inputs.{OfInput}
use Rattle.command_steps.proofs.Inputs.{OfInput-map}

pub is_longer : (most : ℕ) (bytes content : List ℕ) → bytes ≡ take (most + 1) content → most < length bytes → most < length content
is_longer most bytes content e long =
    let size = length-take (most + 1) content in
    let same = ap length e in
    omega (arith, size, same, long)

-- a file of which no more bytes were read than it may have was read whole
pub is_whole : (most : ℕ) (bytes content : List ℕ) → bytes ≡ take (most + 1) content → length bytes ≤ most → bytes ≡ content
is_whole most bytes content e few =
    let size = length-take (most + 1) content in
    let same = ap length e in
    e ∙ take_all (most + 1) content (omega (arith, size, same, few))

-- what is so of the bytes that were read is so of the file
pub of_whole : (name : List ℕ) (inputs : Option Inputs) (bytes : List ℕ) → OfInput name inputs (λ content. bytes ≡ content) →
    (P : List ℕ → Type 0) → P bytes → OfInput name inputs P
of_whole name inputs bytes whole P h = OfInput-map name inputs (λ content. bytes ≡ content) P (λ content e. subst P e h) whole
