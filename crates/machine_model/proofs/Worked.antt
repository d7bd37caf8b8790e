-- Worked programs, computed by the definitions.
use Rattle.std.proofs.Common.{◌≡◌, ℕ, zero, suc, ◌++◌, Bool, true, false, List, [], ◌∷◌, refl, replicate}
use Rattle.risc_word.specs.declared.Code.TheVariants.{Vre, Fm1}
use Rattle.fifo_model.specs.declared.Entry.{Entry}
use Rattle.fifo_model.specs.declared.Queue.TheVariants.{One}
use Rattle.page_table.specs.Grants.{chunk}
use Rattle.page_table.specs.Blocks.{byte_at}
use Rattle.machine_model.specs.declared.Did.{Did}
use Rattle.machine_model.specs.declared.Did.TheVariants.{Still, Jumped, Synced, Passed, Begun, Matched, Retired, Moved, GivenUp}
use Rattle.machine_model.specs.declared.Seen.{Seen}
use Rattle.machine_model.specs.Paths.{RiscProgram}
use Rattle.machine_model.specs.Seen.{seen}
use Rattle.machine_model.specs.States.{State, first_state}
use Rattle.machine_model.specs.Steps.{Step, Push, Control, Turn, run}
use Rattle.machine_model.specs.Turns.{turn}

abbrev program : List ℕ → RiscProgram
program words = record { base = 0x1000; spans = record { at = 0x1000; words = words } ∷ []; grants = chunk 0x20000 16 ∷ [] }

abbrev one_line : RiscProgram
one_line = program (0x80008004 ∷ 0 ∷ 0x80000006 ∷ 0 ∷ 0x1c000008 ∷ 0x20000 ∷ 0x71e10000 ∷ 0x1000 ∷ [])

abbrev entry : ℕ → ℕ → Entry
entry status dword = record { status = status; dword = dword }

abbrev line : List Step
line = Control Vre ∷ Control Fm1 ∷ Push One (entry 2 0x13121110) ∷ Push One (entry 1 0x17161514) ∷ []

abbrev after : List Step → State
after steps = run (first_state one_line 0) steps

turns-are_counted : (after (line ++ replicate 9 Turn)).turns ≡ 9
turns-are_counted = refl

bytes-are_moved : (after (line ++ replicate 9 Turn)).moved ≡ 8
bytes-are_moved = refl

status-is_signalled : (after (line ++ replicate 9 Turn)).interrupts ≡ 0x10000800
status-is_signalled = refl

byte-is_stored : byte_at (after (line ++ replicate 9 Turn)).memory 0x20007 ≡ 0x17
byte-is_stored = refl

-- what is seen of so many turns
abbrev seen_turns : ℕ → State → List Seen
seen_turns zero m = []
seen_turns (suc count) m = seen m ∷ seen_turns count (turn m)

abbrev moves : Did → ℕ → Bool → Bool → Seen
moves did at took ended = record { did = did; at = at; took = took; ended = ended; reserved = false }

turns-are_seen :
    seen_turns 11 (after line)
    ≡ moves Synced 0x1000 false false ∷ moves Matched 0x1000 false false
    ∷ moves Synced 0x1008 false false ∷ moves Matched 0x1008 false false
    ∷ moves Begun 0x1010 false false ∷ moves (Moved One) 0x1010 true false ∷ moves (Moved One) 0x1010 true true
    ∷ moves Retired 0x1010 false false ∷ moves Jumped 0x1018 false false
    ∷ moves Synced 0x1000 false false ∷ moves Still 0x1000 false false ∷ []
turns-are_seen = refl

-- a line of 7 bytes, then one of 16: the short line is given up and the next is whole
abbrev two_lines : RiscProgram
two_lines =
    record {
      base = 0x1000;
      spans = record {
        at = 0x1000;
        words =
            0x80008004 ∷ 0 ∷ 0x80000006 ∷ 0
            ∷ 0x18000004 ∷ 0x20000 ∷ 0x20000004 ∷ 0x14000008 ∷ 0x20008
            ∷ 0x18000004 ∷ 0x20010 ∷ 0x20000004 ∷ 0x14000008 ∷ 0x20018
            ∷ 0x71e10000 ∷ 0x1000 ∷ [];
      } ∷ [];
      grants = chunk 0x20000 32 ∷ [];
    }

abbrev both_pushed : List Step
both_pushed =
    Control Vre ∷ Control Fm1
    ∷ Push One (entry 2 0xa3a2a1a0) ∷ Push One (entry 13 0xffa6a5a4)
    ∷ Push One (entry 2 0xb3b2b1b0) ∷ Push One (entry 0 0xb7b6b5b4) ∷ Push One (entry 0 0xbbbab9b8)
    ∷ Push One (entry 1 0xbfbebdbc) ∷ []

abbrev short_then_whole : State
short_then_whole = run (first_state two_lines 0x55) (both_pushed ++ replicate 21 Turn)

short_line-is_given_up : short_then_whole.interrupts ≡ 0x10004800
short_line-is_given_up = refl

short_line-moved : short_then_whole.moved ≡ 16
short_line-moved = refl

last_byte-is_stored : byte_at short_then_whole.memory 0x2001f ≡ 0xbf
last_byte-is_stored = refl

-- the turns of the short line, after the two SYNCs
short_line-is_seen :
    seen_turns 6 (run (first_state two_lines 0x55) (both_pushed ++ replicate 4 Turn))
    ≡ moves Begun 0x1010 false false ∷ moves (Moved One) 0x1010 true false ∷ moves Retired 0x1010 false false
    ∷ moves Begun 0x1018 false false ∷ moves (GivenUp One) 0x1018 true true ∷ moves Passed 0x101c false false ∷ []
short_line-is_seen = refl
