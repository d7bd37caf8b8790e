use Rattle.std.proofs.Common.{◌∙◌, ap}
use Rattle.page_table.specs.Blocks.{chunks_of}
use Rattle.page_table.proofs.Memory.{chunks_of-filled}
use Rattle.machine_model.specs.Paths.{RiscProgram}
use Rattle.stream_play.proofs.machines.machine_of.Goals as goal

pub new-requires-3-clause-granted : goal.new-requires-3-clause-granted
new-requires-3-clause-granted c =
    ap chunks_of c.in_ok-ram.ensures ∙ chunks_of-filled _ _ ∙ c.grants.ensures.value
    ∙ ap (λ (p : RiscProgram). p.grants) c.program.ensures.value
