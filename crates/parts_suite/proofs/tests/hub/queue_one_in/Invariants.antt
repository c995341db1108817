use Rattle.parts_suite.proofs.tests.hub.queue_one_in.Given as goal

abbrev pub ghosts-queue_one : goal.ghosts-queue_one
ghosts-queue_one g a = record { numbers = record { threads = 1; workers = 1; limits = record { journal = 0; history = a.history } } }
