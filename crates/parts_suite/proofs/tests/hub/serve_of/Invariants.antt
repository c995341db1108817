use Rattle.parts_suite.proofs.tests.hub.serve_of.Given as goal

abbrev pub ghosts-serve : goal.ghosts-serve
ghosts-serve g a = record { numbers = record { threads = 1; workers = 1; limits = record { journal = 0; history = 999 } } }
