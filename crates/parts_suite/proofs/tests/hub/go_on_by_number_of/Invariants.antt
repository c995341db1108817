use Rattle.parts_suite.proofs.tests.hub.go_on_by_number_of.Given as goal

abbrev pub ghosts-go_on_by_number : goal.ghosts-go_on_by_number
ghosts-go_on_by_number g a = record { numbers = record { threads = 1; workers = 1; limits = record { journal = 0; history = 999 } } }
