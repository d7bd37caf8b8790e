-- What is kept of a ring's run: the ring, and the blocks that it has ended.
use Rattle.std.specs.Prelude.{◌≡◌, ℕ, true, Option, Some, None}
use Rattle.std.proofs.Common.{ap, refl}
use Rattle.fifo_model.specs.Queues.{more}
use Rattle.ring_model.specs.Rings.{Ring, ends}
use Rattle.machine_model.specs.declared.Did.{Did}
use Rattle.machine_model.specs.declared.Did.TheVariants.{Still}
use Rattle.machine_model.specs.declared.Seen.{Seen}
use Rattle.machine_model.specs.Paths.{RiscProgram}
use Rattle.ring_model.specs.Runs.{end_by, end_seen}
use Rattle.machine_watch.specs.Watches.{FirstTellsIf, Notes, Watching}

pub record Counted : Type 0 where
  pub ring : Ring
  pub blocks : ℕ

-- a block that is ended is counted, up to 2^64 - 1
abbrev pub counted : Option ℕ → Counted → Counted
counted (Some block) k = record k { blocks = more k.blocks 1 }
counted None k = k

-- a block ends where its last WRITE retires
abbrev pub block_notes : Notes Counted
block_notes = record { saw = λ program seen k. counted (end_seen (ends k.ring) seen) k; emptied = λ one two three k. k }

-- with the machine
abbrev pub RingState : Type 0
RingState = Watching Counted

-- a turn that takes an entry whole ends none
pub whole_ends_none : FirstTellsIf true block_notes
whole_ends_none first later q at next k = refl

-- a turn that does nothing ends none
pub still_ends_none : (program : RiscProgram) (s : Seen) (k : Counted) → s.did ≡ Still → block_notes.saw program s k ≡ k
still_ends_none program s k still = ap (λ (did : Did). counted (end_by (ends k.ring) did s.at) k) still
