use Rattle.command_inputs.proofs.programs.verify_program.Given as goal

abbrev pub ghosts-verify_over : goal.ghosts-verify_over
ghosts-verify_over a = record { name = a.blank.name; parts = a.blank.parts }
