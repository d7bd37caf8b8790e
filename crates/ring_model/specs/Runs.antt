-- Runs over a ring: its block ends.
use Rattle.std.specs.Prelude.{ℕ, ◌+◌, ◌-◌, List, [], ◌∷◌, Option, Some, None, if◌then◌else◌}
use Rattle.risc_word.specs.declared.Instr.TheVariants.{Write}
use Rattle.machine_model.specs.declared.Did.{Did}
use Rattle.machine_model.specs.declared.Did.TheVariants.{Retired}
use Rattle.machine_model.specs.declared.Job.{Job}
use Rattle.machine_model.specs.declared.Job.TheVariants.{Running}
use Rattle.machine_model.specs.declared.Seen.{Seen}
use Rattle.machine_model.specs.Seen.{seen}
use Rattle.machine_model.specs.States.{State}
use Rattle.machine_model.specs.Steps.{Step, Turn, step}
use Rattle.machine_model.specs.Turns.{is_done}

-- block ends

-- the block whose last WRITE is at an address, if any
abbrev pub BlockAt : Type 0
BlockAt = ℕ → Option ℕ

-- a WRITE that has all its bytes retires; it is two words before the instruction that comes next
abbrev pub ended_by : BlockAt → Job → ℕ → Option ℕ
ended_by block_at (Running (Write ctl line_ends off count address) demands) pc =
    if is_done demands then block_at (pc - 8) else None
ended_by block_at _ pc = None

-- the block that a step ends: a turn in which its last WRITE retires
abbrev pub block_end : BlockAt → State → Step → Option ℕ
block_end block_at m Turn = if m.risc_on then ended_by block_at m.job m.pc else None
block_end block_at m _ = None

abbrev pub one_if : Option ℕ → ℕ
one_if (Some block) = 1
one_if None = 0

-- how many blocks some steps end
abbrev pub block_ends : BlockAt → State → List Step → ℕ
block_ends block_at m [] = 0
block_ends block_at m (s ∷ steps) = one_if (block_end block_at m s) + block_ends block_at (step s m) steps

-- The same as it is seen of the turns: an instruction retires at an address. Over a ring's program these are the block
-- ends

abbrev pub end_by : BlockAt → Did → ℕ → Option ℕ
end_by block_at Retired at = block_at at
end_by block_at _ at = None

abbrev pub end_seen : BlockAt → Seen → Option ℕ
end_seen block_at turn = end_by block_at turn.did turn.at

abbrev pub step_end_seen : BlockAt → State → Step → Option ℕ
step_end_seen block_at m Turn = end_seen block_at (seen m)
step_end_seen block_at m _ = None

abbrev pub block_ends_seen : BlockAt → State → List Step → ℕ
block_ends_seen block_at m [] = 0
block_ends_seen block_at m (s ∷ steps) = one_if (step_end_seen block_at m s) + block_ends_seen block_at (step s m) steps
