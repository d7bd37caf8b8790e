use Rattle.stream_play.proofs.machines.machine_of_sound.Given as goal

abbrev pub ghosts-accept_sound : goal.ghosts-accept_sound
ghosts-accept_sound a = record { name = a.blank.name; parts = a.blank.parts }
