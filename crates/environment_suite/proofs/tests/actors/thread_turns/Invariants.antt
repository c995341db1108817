use Rattle.environment_suite.proofs.tests.actors.thread_turns.Given as goal

abbrev pub ghosts-five_turns : goal.ghosts-five_turns
ghosts-five_turns g a = record { numbers = record { threads = 1; workers = 0; limits = record { journal = 0; history = a.history } } }
