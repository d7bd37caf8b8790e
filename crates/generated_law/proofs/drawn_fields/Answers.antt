use Rattle.generated_law.proofs.Bytes.{carries_drawn}
use Rattle.generated_law.proofs.Fields.{brings_picture, draws_picture}
use Rattle.generated_law.proofs.drawn_fields.Goals as goal

pub returns-clause-pictured : goal.returns-clause-pictured
returns-clause-pictured c = draws_picture

pub returns-clause-brought : goal.returns-clause-brought
returns-clause-brought c = brings_picture

pub returns-clause-drawn : goal.returns-clause-drawn
returns-clause-drawn c = carries_drawn
