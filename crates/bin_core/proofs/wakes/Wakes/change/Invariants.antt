use Rattle.bin_core.proofs.wakes.Wakes.change.Given as goal

abbrev pub ghosts-set_timer : goal.ghosts-set_timer
ghosts-set_timer a = record { name = a.blank.name; parts = a.blank.parts }
