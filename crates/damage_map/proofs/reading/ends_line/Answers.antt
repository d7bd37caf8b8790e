use Rattle.std.proofs.Common.{◌∙◌, sym, ap}
use Rattle.risc_word.specs.declared.Ends.{Ends}
use Rattle.machine_model.specs.Paths.{fetch}
use Rattle.damage_map.specs.Tracks.{ends_line}
use Rattle.damage_map.proofs.reading.ends_line.Goals as goal

pub returns-in-Ok : goal.returns-in-Ok
returns-in-Ok c =
    ap (λ (ends : Ends). ends.eol) c.ends.ensures
    ∙ ap ends_line (sym c.in-Ok.is ∙ c.instr_at.ensures.value ∙ ap (fetch c.args.program.now) c.from.ensures)
