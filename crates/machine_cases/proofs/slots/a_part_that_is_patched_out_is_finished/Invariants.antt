use Rattle.machine_cases.proofs.slots.a_part_that_is_patched_out_is_finished.Given as goal

abbrev pub ghosts-two_slots : goal.ghosts-two_slots
ghosts-two_slots g a = record { name = a.blank.name; parts = a.blank.parts }
