use Rattle.env_core.specs.contracts.state.State.{the_view}
use Rattle.env_core.proofs.CoreScopes.{unknown-escape, refused-escape, accepted-escape, state-escaped-or-not}
use Rattle.env_core.proofs.state.State.escape.Goals.{in-Ok, in-Err}
use Rattle.env_core.proofs.state.State.escape.Goals as goal

pub returns-in_default : goal.returns-in_default
returns-in_default c =
    let s = c.self.inside in
    rw (← c.self.view_is) (rw c.plain.ensures (unknown-escape (the_view s) s.store s.scopes c.args.scope c.args.handle c.in_default.ensures))

pub invariant_of-self : goal.invariant_of-self
invariant_of-self c =
    let s = c.self.inside in
    (state-escaped-or-not s.store s.scopes c.escape.new.self s.frames s.exceptions.pending c.args.scope.0 c.args.handle.0 c.in-Some.value.0 c.escape.result c.self.invariant.0 c.in-Some.ensures c.escape.ensures.ok c.escape.ensures.err, c.self.invariant.1, c.self.invariant.2, c.self.invariant.3)

pub returns : goal.returns
returns c =
    let s = c.self.inside in
    elim c.match-escape.branch [
      | in-Ok w ↦ rw (← c.self.view_is)
          (rw (w.result-is, w.plain-in-Ok.ensures)
          (accepted-escape (the_view s) s.store s.scopes c.escape.new.self c.args.scope c.args.handle w.in-Ok.escaped c.in-Some.value.0 c.in-Some.ensures w.in-Ok.ensures.refusal w.in-Ok.ensures.handle w.in-Ok.ensures.ok))
      | in-Err w ↦ rw (← c.self.view_is)
          (rw (w.result-is, w.plain-in-Err.ensures)
          (refused-escape (the_view s) s.store s.scopes c.escape.new.self c.args.scope c.args.handle c.in-Some.value.0 w.in-Err.status c.in-Some.ensures w.in-Err.ensures.refusal w.in-Err.ensures.err))
    ]
