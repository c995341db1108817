use Rattle.lock_suite.proofs.tests.hub.rung.play.Given as goal

-- the numbers of the hub
abbrev pub ghosts-play_with : goal.ghosts-play_with
ghosts-play_with g a = record { numbers = record { threads = a.threads; workers = a.workers; limits = record { journal = 0; history = 999 } } }
