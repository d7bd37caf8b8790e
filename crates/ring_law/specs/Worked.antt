-- Ring runs behind an entry that comes before FM1: one of two block ends, whose third line is unfinished, and one of three.
use Rattle.std.specs.Prelude.{List, [], replicate, ℕ, ◌++◌, ◌∷◌}
use Rattle.machine_model.specs.Steps.{Control, Push, Step, Turn, run}
use Rattle.risc_word.specs.declared.Code.TheVariants.{Fm1}
use Rattle.fifo_model.specs.declared.Queue.TheVariants.{One}
use Rattle.machine_model.specs.States.{State}
use Rattle.ring_model.specs.Worked.{entry, line_of, machine}

-- after the first turn the machine waits in the SYNC
abbrev pub waiting : State
waiting = run machine (Turn ∷ [])

abbrev pub brought_steps : List Step
brought_steps =
    Push One (entry 0 0xffffffff) ∷ Control Fm1 ∷ line_of 0x13121110 0x17161514 ++ line_of 0x23222120 0x27262524
    ++ Push One (entry 2 0x33323130) ∷ []

-- the entry goes, FM1 is met, and each line has a turn that begins its WRITE, two that move its entries and one that retires it;
-- the last of these comes after the steps
abbrev pub early : List Step
early = brought_steps ++ replicate 9 Turn

abbrev pub two_whole : List (List ℕ)
two_whole = (0x10 ∷ 0x11 ∷ 0x12 ∷ 0x13 ∷ 0x14 ∷ 0x15 ∷ 0x16 ∷ 0x17 ∷ []) ∷ (0x20 ∷ 0x21 ∷ 0x22 ∷ 0x23 ∷ 0x24 ∷ 0x25 ∷ 0x26 ∷ 0x27 ∷ []) ∷ []

-- the run from the first state, of which this is the part from place 1 on
abbrev pub run_steps : List Step
run_steps = Turn ∷ early ++ Turn ∷ []

-- the third line comes whole as well: after a turn for the JUMP its four turns fill the first block a second time
abbrev pub three_early : List Step
three_early = brought_steps ++ Push One (entry 1 0x37363534) ∷ replicate 14 Turn

abbrev pub three_whole : List (List ℕ)
three_whole = two_whole ++ (0x30 ∷ 0x31 ∷ 0x32 ∷ 0x33 ∷ 0x34 ∷ 0x35 ∷ 0x36 ∷ 0x37 ∷ []) ∷ []

abbrev pub three_steps : List Step
three_steps = Turn ∷ three_early ++ Turn ∷ []
