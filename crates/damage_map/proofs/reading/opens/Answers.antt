use Rattle.std.proofs.Common.{◌∙◌, sym, ap}
use Rattle.machine_model.specs.Paths.{fetch}
use Rattle.damage_map.specs.Tracks.{opens}
use Rattle.damage_map.proofs.reading.opens.Goals as goal

pub returns-in-Ok : goal.returns-in-Ok
returns-in-Ok c =
    c.resyncs.ensures _ ∙ ap opens (sym c.in-Ok.is ∙ c.instr_at.ensures.value ∙ ap (fetch c.args.program.now) c.from.ensures)
