use Rattle.std.proofs.Common.{◌∙◌, refl, sym, ap}
use Rattle.napi_types.specs.declared.entry.Actor.TheVariants as actor
use Rattle.turn_lock.specs.Passes.{PassState}
use Rattle.runner.proofs.TakenTurns.{run-fits-at-take, grew-on}
use Rattle.runner.proofs.EnvironmentAtTheLock.{has-run-locked}
use Rattle.runner.proofs.environment.turn_at_the_lock.Goals as goal

pub turn_under_the_lock-turn-requires-clause-fits : goal.turn_under_the_lock-turn-requires-clause-fits
turn_under_the_lock-turn-requires-clause-fits g c κs within =
    run-fits-at-take g.N.Naming.numbers c.args.pass.now _ c.take-held.ensures.seen c.take-held.ensures.own c.args.env.now c.take-held.result.value.state.value refl c.invariant.ensures.led
    c.requires.number c.requires.fits

pub give-requires-clause-adds : goal.give-requires-clause-adds
give-requires-clause-adds g c κs within =
    let num = ap (λ (h : PassState). h.number) c.take-held.ensures.holder in
    rw c.take-held.ensures.taken
    (grew-on c.take-held.result.seat.me.0.number g.N.Naming.numbers.threads actor.Env c.take-held.result.value.state.value c.turn_under_the_lock-turn.new.locked.state.value
    (sym (num ∙ c.requires.number)) c.turn_under_the_lock-turn.ensures.grew)

pub returns-clause-ran : goal.returns-clause-ran
returns-clause-ran g c = λ first start same at.
    has-run-locked g.N.Naming.numbers _ first c.args.env.now c.turn_under_the_lock-turn.new.env c.args.pass.now c.give.new.pass start _ _ c.take-held.result.value.state.value
    c.turn_under_the_lock-turn.new.locked.state.value same c.requires.number c.take-held.ensures.seen c.take-held.ensures.own c.invariant.ensures c.turn_under_the_lock-turn.ensures.known
    (ap (λ (q : PassState). q.seen) c.give.ensures.pass) c.give.ensures.own c.turn_under_the_lock-turn.ensures.fits c.turn_under_the_lock-turn.ensures.goes at
