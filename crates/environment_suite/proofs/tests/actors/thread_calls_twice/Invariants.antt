use Rattle.environment_suite.proofs.tests.actors.thread_calls_twice.Given as goal

-- the numbers of the hub
abbrev pub ghosts-calls_twice : goal.ghosts-calls_twice
ghosts-calls_twice g a = record { numbers = record { threads = 1; workers = 0; limits = record { journal = 0; history = a.history } } }
