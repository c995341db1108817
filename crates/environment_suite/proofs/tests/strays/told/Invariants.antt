use Rattle.environment_suite.proofs.tests.strays.told.Given as goal

abbrev pub ghosts-run_of : goal.ghosts-run_of
ghosts-run_of g a = record { numbers = record { threads = 2; workers = 1; limits = record { journal = 0; history = 200 } } }
