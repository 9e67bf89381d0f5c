use Rattle.live_plan.proofs.tests.history.Given as goal

abbrev pub ghosts-completed : goal.ghosts-completed
ghosts-completed a = record { plan = a.plan.now }
