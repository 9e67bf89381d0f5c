use Rattle.live_bin.proofs.tests.stops.Given as goal

abbrev pub ghosts-stopped : goal.ghosts-stopped
ghosts-stopped a = record { plan = a.plan.now }
