use Rattle.environment_suite.proofs.tests.hub_turns.ran_within.Given as goal

-- the numbers of the hub
abbrev pub ghosts-ran : goal.ghosts-ran
ghosts-ran g a = record { numbers = record { threads = 0; workers = 0; limits = record { journal = 0; history = a.places.1 } } }
