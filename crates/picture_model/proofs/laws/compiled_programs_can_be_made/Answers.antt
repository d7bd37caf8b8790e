use Rattle.picture_model.proofs.Limit.{sections_few}
use Rattle.picture_model.proofs.CompiledProgram.{compiled_program}
use Rattle.picture_model.proofs.FaultlessGeometry.{IsFrame-IsRight}
use Rattle.picture_model.proofs.laws.compiled_programs_can_be_made.Goals as goal

pub returns-clause-words : goal.returns-clause-words
returns-clause-words c = λ d is frame. sections_few d d.base d.base is (IsFrame-IsRight d is frame)

pub returns-clause-program : goal.returns-clause-program
returns-clause-program c = compiled_program
