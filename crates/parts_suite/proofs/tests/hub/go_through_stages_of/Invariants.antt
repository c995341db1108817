use Rattle.parts_suite.proofs.tests.hub.go_through_stages_of.Given as goal

abbrev pub ghosts-go_through_stages : goal.ghosts-go_through_stages
ghosts-go_through_stages g a = record { numbers = record { threads = 0; workers = 0; limits = record { journal = 0; history = 999 } } }
