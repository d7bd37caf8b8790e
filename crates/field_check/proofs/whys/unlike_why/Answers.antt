use Rattle.std.proofs.Common.{◌∙◌, ap}
use Rattle.check_model.specs.Checks.{byte_why, unlike_why}
use Rattle.check_model.specs.declared.Spot.{Spot}
use Rattle.field_check.specs.Cursors.{first_of}
use Rattle.field_check.specs.Tracks.{met_ask}
use Rattle.field_check.proofs.Spots.{unlike_byte}
use Rattle.field_check.proofs.whys.unlike_why.Goals as goal

pub returns-in-Bytes : goal.returns-in-Bytes
returns-in-Bytes c =
    c.byte_why.ensures
    ∙ ap (λ (spot : Spot). byte_why spot c.args.q (met_ask c.args.met) (first_of c.in-Bytes.next))
    (c.next_spot-spot.ensures 1 c.in-Bytes.next.address)
    ∙ unlike_byte c.args.frame.now c.args.field c.args.q
    (met_ask c.args.met) c.args.plan.now c.args.track.now c.in-Bytes.next _ c.requires.at c.look.ensures.same c.in-Bytes.ensures.next
    ∙ ap (unlike_why c.args.frame.now c.args.field c.args.q (met_ask c.args.met)) c.look.ensures.same
