use Rattle.environment_suite.proofs.tests.turns.a_function_runs_in_a_frame_inside_its_callers.Given as goal

-- the numbers of the hub
abbrev pub ghosts-turns : goal.ghosts-turns
ghosts-turns g a = record { numbers = record { threads = 0; workers = 0; limits = record { journal = 0; history = 100 } } }
