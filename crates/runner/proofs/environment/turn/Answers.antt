use Rattle.env_loop.proofs.NeededTurns.{needs-then}
use Rattle.std.proofs.Common.{◌∙◌, sym}
use Rattle.runner.proofs.EnvironmentAtTheLock.{has-run-alone, has-run-then, fits-alone, others-then, gone-then}
use Rattle.runner.proofs.SameStrays.{same-pass-none, same-strays-none}
use Rattle.runner.proofs.environment.turn.Goals as goal

-- a turn of its own
pub returns-in-Made-clause-same : goal.returns-in-Made-clause-same
returns-in-Made-clause-same g c = same-pass-none c.args.pass.now c.requires.free

pub returns-in-Made-clause-fits : goal.returns-in-Made-clause-fits
returns-in-Made-clause-fits g c = fits-alone g.N.Naming.numbers c.args.pass.now c.args.env.now c.local_turn.new.self c.requires.fits c.in-Made.ensures.fits

pub returns-in-Made-clause-ran : goal.returns-in-Made-clause-ran
returns-in-Made-clause-ran g c = λ first start same at.
    has-run-alone g.N.Naming.numbers _ first c.args.env.now c.local_turn.new.self c.args.pass.now start _ _ same at c.in-Made.ensures.goes c.in-Made.ensures.fits

pub returns-in-Made-clause-same_strays : goal.returns-in-Made-clause-same_strays
returns-in-Made-clause-same_strays g c = same-strays-none g.N.Naming.numbers c.args.hub.now c.args.strays.now.items c.requires.strays

-- one at the hub
pub turn_at_the_lock-turn-requires-clause-fits : goal.turn_at_the_lock-turn-requires-clause-fits
turn_at_the_lock-turn-requires-clause-fits g c κs within =
    fits-alone g.N.Naming.numbers c.args.pass.now c.args.env.now c.local_turn.new.self c.requires.fits c.in-NeedsHub.ensures.fits

pub turn_at_the_lock-turn-requires-clause-needs : goal.turn_at_the_lock-turn-requires-clause-needs
turn_at_the_lock-turn-requires-clause-needs g c κs within =
    needs-then c.args.env.now c.local_turn.new.self (c.in-NeedsHub.ensures.owes (λ e. cc)) c.in-NeedsHub.ensures.turn

pub returns-in-NeedsHub-clause-ran : goal.returns-in-NeedsHub-clause-ran
returns-in-NeedsHub-clause-ran g c = λ first start same at.
    let k = c.in-NeedsHub.ensures in
    let t = c.turn_at_the_lock-turn.ensures in
    has-run-then g.N.Naming.numbers _ _ first c.local_turn.new.self c.turn_at_the_lock-turn.new.env c.args.pass.now c.turn_at_the_lock-turn.new.pass start _ _ k.plans.same (same ∙ sym k.addons) t.ran
    (has-run-alone g.N.Naming.numbers _ first c.args.env.now c.local_turn.new.self c.args.pass.now start _ _ same at k.goes k.fits)

pub returns-in-NeedsHub-clause-others : goal.returns-in-NeedsHub-clause-others
returns-in-NeedsHub-clause-others g c =
    others-then _ _ _ _ _ c.in-NeedsHub.ensures.addons c.in-NeedsHub.ensures.others c.turn_at_the_lock-turn.ensures.others

-- one that finds the environment gone
pub returns-in-Gone-clause-same : goal.returns-in-Gone-clause-same
returns-in-Gone-clause-same g c = same-pass-none c.args.pass.now c.requires.free

pub returns-in-Gone-clause-fits : goal.returns-in-Gone-clause-fits
returns-in-Gone-clause-fits g c = fits-alone g.N.Naming.numbers c.args.pass.now c.args.env.now c.local_turn.new.self c.requires.fits c.in-Gone.ensures.fits

pub returns-in-Gone-clause-ran : goal.returns-in-Gone-clause-ran
returns-in-Gone-clause-ran g c = λ first start same at.
    has-run-alone g.N.Naming.numbers _ first c.args.env.now c.local_turn.new.self c.args.pass.now start _ _ same at c.in-Gone.ensures.goes c.in-Gone.ensures.fits

pub returns-in-Gone-clause-same_strays : goal.returns-in-Gone-clause-same_strays
returns-in-Gone-clause-same_strays g c = same-strays-none g.N.Naming.numbers c.args.hub.now c.args.strays.now.items c.requires.strays

pub returns-in-Gone-clause-gone : goal.returns-in-Gone-clause-gone
returns-in-Gone-clause-gone g c = λ is. gone-then c.args.env.now c.local_turn.new.self (c.in-Gone.ensures.owes (λ e. cc)) c.in-Gone.ensures.turn
