use Rattle.machine_cases.proofs.paths.paths_are_judged.Given as goal

abbrev pub ghosts-said : goal.ghosts-said
ghosts-said g a = record { name = a.blank.name; parts = a.blank.parts }
