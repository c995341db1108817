use Rattle.parts_suite.proofs.tests.hub.ask_of_nothing_as.Given as goal

abbrev pub ghosts-ask_of_nothing : goal.ghosts-ask_of_nothing
ghosts-ask_of_nothing g a = record { numbers = record { threads = 1; workers = 1; limits = record { journal = 0; history = 99 } } }
