use Rattle.machine_cases.proofs.machine.made.Given as goal

abbrev pub ghosts-accepted : goal.ghosts-accepted
ghosts-accepted a = record { name = a.blank.name; parts = a.blank.parts }
