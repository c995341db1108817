use Rattle.environment_suite.proofs.tests.actors.worker_works.Given as goal

-- the numbers of the hub
abbrev pub ghosts-works : goal.ghosts-works
ghosts-works g a = record { numbers = record { threads = 0; workers = 1; limits = record { journal = 0; history = 100 } } }
