use Rattle.std.proofs.Common.{◌∙◌, ap}
use Rattle.check_model.specs.Checks.{is_none}
use Rattle.field_check.proofs.Instrs.{something}
use Rattle.field_check.proofs.judge.awaits_nothing.Goals as goal

pub returns-in_default : goal.returns-in_default
returns-in_default c =
    record {
      value = something c.look.result _ c.in_default.not-Nothing c.look.ensures.next ∙ ap is_none c.look.ensures.same;
      same = c.look.ensures.same;
      fits = c.look.ensures.fits;
    }
