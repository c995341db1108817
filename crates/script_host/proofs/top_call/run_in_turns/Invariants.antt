use Rattle.std.proofs.Common.{length}
use Rattle.script_run.specs.Loading.{hub_numbers}
use Rattle.script_host.proofs.top_call.run_in_turns.Given as goal

-- the hub's numbers are the script's
abbrev pub ghosts-in_turns : goal.ghosts-in_turns
ghosts-in_turns g a = record { numbers = hub_numbers (length a.script.threads) a.script.workers }
