use Rattle.std.proofs.Common.{sym, ◌∙◌}
use Rattle.script_host.proofs.Chosen.{chosen-given}
use Rattle.script_host.proofs.choosing.command_and_script.Goals as goal

pub returns-in_ok-script-in-Run-clause-answer : goal.returns-in_ok-script-in-Run-clause-answer
returns-in_ok-script-in-Run-clause-answer g c =
    chosen-given _ _ _ _ c.in-Some.command c.in_ok-script-in-Run.script (sym c.command_of.ensures ∙ c.in-Some.is) c.in-Run.is c.in_ok-script-in-Run.ensures.answer
