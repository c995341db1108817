use Rattle.runner.proofs.MadeCrews.{unstarted_hold_no_work}
use Rattle.script_run.proofs.EndedActors.{all-unstarted}
use Rattle.script_run.proofs.running.open.Goals as goal

pub retire_all-requires : goal.retire_all-requires
retire_all-requires g c = unstarted_hold_no_work _ (all-unstarted _ c.args.threads c.args.workers c.in_ok-actors.actors.items c.in_ok-actors.ensures)

pub retire_all-requires-in_default-new : goal.retire_all-requires-in_default-new
retire_all-requires-in_default-new g c =
    unstarted_hold_no_work _ (all-unstarted _ c.args.threads c.args.workers c.in_ok-actors.actors.items c.in_ok-actors.ensures)
