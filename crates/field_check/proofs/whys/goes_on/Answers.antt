use Rattle.std.proofs.Common.{◌∙◌, ap, refl}
use Rattle.check_model.specs.Checks.{goes_on}
use Rattle.field_check.proofs.Spots.{bytes_go_on}
use Rattle.field_check.proofs.whys.goes_on.Goals as goal

pub returns-in-Bytes-clause-value : goal.returns-in-Bytes-clause-value
returns-in-Bytes-clause-value c =
    bytes_go_on c.in-Bytes.next _ c.in-Bytes.next.needs_sol c.in-Bytes.ensures.next refl ∙ ap goes_on c.look.ensures.same
