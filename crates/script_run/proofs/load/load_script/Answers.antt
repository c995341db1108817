use Rattle.script_run.proofs.SmallLoad.{small-load}
use Rattle.script_run.proofs.load.load_script.Goals as goal

pub returns-clause-small : goal.returns-clause-small
returns-clause-small c =
    rw (c.in_ok-addons.ensures, c.in_ok-threads.ensures, c.in_ok-texts.ensures) (small-load c.args.number)
