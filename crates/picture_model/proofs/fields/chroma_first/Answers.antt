use Rattle.std.proofs.lemmas.Option.{IfSome_then}
use Rattle.picture_model.proofs.fields.chroma_first.Goals as goal

pub field_number-requires : goal.field_number-requires
field_number-requires c = IfSome_then c.args.desc.now.chroma_first c.requires.chroma_first (λ ns has. has.0)
