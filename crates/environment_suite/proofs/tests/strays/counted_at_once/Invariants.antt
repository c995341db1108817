use Rattle.environment_suite.proofs.tests.strays.counted_at_once.Given as goal

abbrev pub ghosts-run_at_once : goal.ghosts-run_at_once
ghosts-run_at_once g a = record { numbers = record { threads = 2; workers = 1; limits = record { journal = 0; history = 200 } } }
