use Rattle.machine_cases.proofs.slots.is_said.Given as goal

abbrev pub ghosts-said : goal.ghosts-said
ghosts-said a = record { name = a.blank.name; parts = a.blank.parts }
