use Rattle.environment_suite.proofs.tests.bursts.a_burst_forgets_nobody_who_is_to_be_rung.Given as goal

-- the numbers of the hub
abbrev pub ghosts-ran : goal.ghosts-ran
ghosts-ran g a = record { numbers = record { threads = 0; workers = 0; limits = record { journal = 0; history = 400 } } }
