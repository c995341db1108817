use Rattle.lock_suite.proofs.tests.hub.rung.first_rings.Given as goal

-- the numbers of the hub
abbrev pub ghosts-first_rings_at : goal.ghosts-first_rings_at
ghosts-first_rings_at g a = record { numbers = record { threads = 2; workers = 0; limits = record { journal = 0; history = 9999 } } }
