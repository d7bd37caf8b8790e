use Rattle.std.proofs.lemmas.Option.{IfSome_then}
use Rattle.picture_model.proofs.fields.vbi_skip.Goals as goal

pub field_number-requires : goal.field_number-requires
field_number-requires c = IfSome_then c.args.desc.now.vbi_skip c.requires.vbi_skip (λ ns has. has.0)
