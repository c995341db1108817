use Rattle.env_core.specs.contracts.state.State.{the_view}
use Rattle.env_values.proofs.HandleValues.{given-live}
use Rattle.env_core.proofs.CoreExceptions.{unknown-throw, accepted-throw}
use Rattle.env_core.proofs.state.State.throw.Goals as goal

pub returns-in_default : goal.returns-in_default
returns-in_default c =
    let s = c.self.inside in
    rw (← c.self.view_is) (rw c.plain.ensures (unknown-throw (the_view s) s.store s.scopes c.args.handle c.in_default.ensures))

pub invariant_of-self : goal.invariant_of-self
invariant_of-self c =
    let s = c.self.inside in
    rw c.set.ensures (
      record {
        live = c.self.invariant.0.live;
        frames = c.self.invariant.0.frames;
        calls = c.self.invariant.0.calls;
        pending = given-live s.store s.scopes c.args.handle.0 c.in-Some.value.0 c.self.invariant.0.live c.in-Some.ensures;
        referred = c.self.invariant.0.referred;
        rooted = c.self.invariant.0.rooted;
      },
      c.self.invariant.1,
      c.self.invariant.2,
      c.self.invariant.3,
    )

pub returns : goal.returns
returns c =
    let s = c.self.inside in
    rw (← c.self.view_is) (rw (c.plain-2.ensures, c.set.ensures) (accepted-throw (the_view s) s.store s.scopes c.args.handle c.in-Some.value.0 c.in-Some.ensures))
