use Rattle.std.proofs.Common.{refl, sym}
use Rattle.napi_types.specs.parts.Graph.{number_in}
use Rattle.napi_types.proofs.plain.Options.{at-err}
use Rattle.env_values.proofs.Giving.{given-heap}
use Rattle.env_core.specs.contracts.state.State.{the_view}
use Rattle.env_core.proofs.CoreExceptions.{state-issued}
use Rattle.env_core.proofs.PromiseAnswers.{reads-none, reads-unrefused, reads-answers}
use Rattle.env_core.proofs.state.State.get_reaction_value.Goals as goal

pub invariant_of-self-in-Some : goal.invariant_of-self-in-Some
invariant_of-self-in-Some c =
    let s = c.self.inside in (
      state-issued s.store s.scopes c.issue.new.self s.frames s.exceptions.pending c.in-Some.value.0 c.self.invariant.0 c.in-Some.ensures.live
          c.in_ok-handle-in-Some.ensures.ok,
      c.self.invariant.1,
      c.self.invariant.2,
      c.self.invariant.3,
    )

pub returns-in-None-clause-ok : goal.returns-in-None-clause-ok
returns-in-None-clause-ok c =
    let s = c.self.inside in
    rw (← c.self.view_is) (rw c.plain-in-None.ensures (reads-none (the_view s) (sym c.in-None.ensures.value)))

pub returns-in_ok-handle-in-Some-clause-ok : goal.returns-in_ok-handle-in-Some-clause-ok
returns-in_ok-handle-in-Some-clause-ok c =
    let s = c.self.inside in
    let h = c.in_ok-handle-in-Some in
    let v = c.in-Some.value.0 in
    rw (← c.self.view_is)
    (rw c.plain.ensures
    (reads-answers (the_view s) _ (number_in s.store v) h.handle (sym c.in-Some.ensures.value) h.ensures.handle
    (given-heap s.store s.store s.scopes c.issue.new.self v (number_in s.store v) (λ n live. refl) c.self.invariant.0.live refl h.ensures.ok)))

pub returns-in_err-handle-in-Some-clause-unrefused : goal.returns-in_err-handle-in-Some-clause-unrefused
returns-in_err-handle-in-Some-clause-unrefused c =
    let s = c.self.inside in
    rw (← c.self.view_is) (at-err _ (reads-unrefused (the_view s) (number_in s.store c.in-Some.value.0) (sym c.in-Some.ensures.value)))
