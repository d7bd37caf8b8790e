use Rattle.slot_chain.proofs.buffer.DoubleBuffer+PageRam.new.Given as goal

abbrev pub ghosts-made_over : goal.ghosts-made_over
ghosts-made_over a = record { name = a.blank.name; parts = a.blank.parts }
