-- A ring file that is read and checked, and the program that it asks for.
use Rattle.std.specs.Prelude.{◌≡◌, ℕ, true, ⊤, List, length, Option, Result, Ok, Err, if◌then◌else◌, nat_lt}
use Rattle.capture_desk.specs.Desks.{Inputs}
use Rattle.machine_model.specs.Paths.{RiscProgram}
use Rattle.capture_file.specs.declared.Input.TheVariants as input
use Rattle.ring_model.specs.Rings.{IsRing, Ring, ring_program}
use Rattle.ring_compile.specs.declared.fault.RingFault.{RingFault}
use Rattle.ring_compile.specs.Files.{described}
use Rattle.command_texts.specs.declared.refusal.Refusal.{Refusal}
use Rattle.command_texts.specs.declared.refusal.Refusal.TheVariants.{Malformed, BadRing, NoMemory}
use Rattle.command_steps.specs.Inputs.{Always, ByBytes, Input, Judge, OfInput}
use Rattle.command_inputs.specs.Limits.{too_long}

-- the most bytes of a ring file, which is read up to one byte beyond them at most
abbrev pub longest_ring : ℕ
longest_ring = 1048576

abbrev pub judged_reading : Result Ring RingFault → Result Ring Refusal
judged_reading (Err fault) = Err (BadRing fault)
judged_reading (Ok r) = Ok r

-- the ring of a file: it is short enough, and its text describes a ring; or the first refusal
abbrev pub ring_of : List ℕ → Result Ring Refusal
ring_of bytes =
    if nat_lt longest_ring (length bytes) then Err (Malformed input.Ring (too_long longest_ring)) else judged_reading (described bytes)

-- a file is that of a ring without a fault
pub record IsRingFile (bytes : List ℕ) (r : Ring) : Type 0 where
  pub reads : ring_of bytes ≡ Ok r
  pub ring : IsRing r

abbrev pub HoldsRing : List ℕ → Type 0
HoldsRing bytes = (r : Ring) × IsRingFile bytes r

-- why a file that isn't too long holds none; running out of memory is free
abbrev pub IsRefused : List ℕ → Refusal → Type 0
IsRefused bytes NoMemory = ⊤
IsRefused bytes (BadRing fault) = ring_of bytes ≡ Err (BadRing fault)
IsRefused bytes _ = ⊥

-- an input isn't that of a ring
abbrev pub IsBadRing : List ℕ → Refusal → Option Inputs → Type 0
IsBadRing name (Malformed input.Ring fault) inputs = OfInput name inputs (λ bytes. ring_of bytes ≡ Err (Malformed input.Ring fault))
IsBadRing name (BadRing fault) inputs = OfInput name inputs (λ bytes. ring_of bytes ≡ Err (BadRing fault))
IsBadRing name _ inputs = ⊥

-- a file is that of this ring, with its program and its fill
pub record GivesRing (ring : Ring) (bytes : List ℕ) (program : RiscProgram) (fill : ℕ) : Type 0 where
  pub holds : IsRingFile bytes ring
  pub compiles : program ≡ ring_program ring
  pub fills : fill ≡ ring.fill

-- the program of a ring file, and its fill
abbrev pub GivesRingProgram : List ℕ → RiscProgram → ℕ → Type 0
GivesRingProgram bytes program fill = (ring : Ring) × GivesRing ring bytes program fill

-- ---- as an input

abbrev pub ring_files : Judge
ring_files = record { most = longest_ring; kept = true; MayGoOn = Always; IsGood = ByBytes HoldsRing; IsBad = IsBadRing }

abbrev pub a_ring : List ℕ → Input
a_ring name = record { name = name; judge = ring_files }
