use Rattle.check_law.proofs.CompiledFields.{compiled_is_checked}
use Rattle.check_law.proofs.Verdicts.{compiled_is_shown}
use Rattle.check_law.proofs.compiled_programs_are_found.Goals as goal

pub returns-clause-found : goal.returns-clause-found
returns-clause-found c = compiled_is_checked

pub returns-clause-shown : goal.returns-clause-shown
returns-clause-shown c = compiled_is_shown
