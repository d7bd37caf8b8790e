use Rattle.damage_cases.proofs.maps.mapped_of.Given as goal

abbrev pub ghosts-accepted : goal.ghosts-accepted
ghosts-accepted a = record { name = a.blank.name; parts = a.blank.parts }
