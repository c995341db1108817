use Rattle.environment_suite.proofs.tests.journals.compare.Given as goal

-- the numbers of the hub
abbrev pub ghosts-journal_within : goal.ghosts-journal_within
ghosts-journal_within g a = record { numbers = record { threads = 0; workers = 0; limits = record { journal = 0; history = 100 } } }
