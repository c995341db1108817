use Rattle.std.proofs.Common.{length}
use Rattle.script_run.specs.Loading.{hub_numbers}
use Rattle.script_host.proofs.top_call.run_on_threads.Given as goal

-- the hub's numbers are the script's
abbrev pub ghosts-on_threads : goal.ghosts-on_threads
ghosts-on_threads g a = record { numbers = hub_numbers (length a.script.threads) a.script.workers }
