use Rattle.std.proofs.Common.{option_map, refl, ap, sym, ◌∙◌}
use Rattle.napi_types.specs.declared.call.Call.TheVariants as call
use Rattle.napi_types.specs.declared.ids.ValueId.{ValueId}
use Rattle.napi_types.specs.parts.Graph.{number_in}
use Rattle.napi_types.proofs.plain.Options.{at-err}
use Rattle.napi_reference.specs.ReferencePlaces.{map_of}
use Rattle.env_core.specs.contracts.state.State.{the_view}
use Rattle.env_values.proofs.Giving.{given-heap}
use Rattle.env_core.proofs.CoreExceptions.{state-issued}
use Rattle.env_core.proofs.Referring.{refused-answers, gone-answers, told-answers, value-live}
use Rattle.env_core.proofs.Unrefused.{reference-unrefused}
use Rattle.env_core.proofs.state.State.get_reference_value.Goals as goal

pub invariant_of-self-in-Ok-Some : goal.invariant_of-self-in-Ok-Some
invariant_of-self-in-Ok-Some c =
    let s = c.self.inside in
    let v = c.in-Ok-Some.value.0 in (
      state-issued s.store s.scopes c.issue.new.self s.frames s.exceptions.pending v c.self.invariant.0
          (value-live s.store (map_of s.references) c.args.reference.0 v (sym (ap (option_map (λ (x : ValueId). x.0)) c.in-Ok-Some.field-0-is) ∙ c.in-Ok-Some.ensures.value) c.self.invariant.0.referred) c.in_ok-handle-in-Ok-Some.ensures.ok,
      c.self.invariant.1,
      c.self.invariant.2,
      c.self.invariant.3,
    )

pub returns-in_ok-handle-in-Ok-Some-clause-ok : goal.returns-in_ok-handle-in-Ok-Some-clause-ok
returns-in_ok-handle-in-Ok-Some-clause-ok c =
    let s = c.self.inside in
    let h = c.in_ok-handle-in-Ok-Some in
    let v = c.in-Ok-Some.value.0 in
    rw (← c.self.view_is)
    (rw c.plain.ensures
    (told-answers (the_view s) s.store (map_of s.references) s.scopes c.issue.new.self c.args.reference h.handle v refl c.in-Ok-Some.ensures.refusal (sym (ap (option_map (λ (x : ValueId). x.0)) c.in-Ok-Some.field-0-is) ∙ c.in-Ok-Some.ensures.value) h.ensures.handle
    (given-heap s.store s.store s.scopes c.issue.new.self v (number_in s.store v) (λ n live. refl) c.self.invariant.0.live refl h.ensures.ok)))

pub returns-in-Ok-None-clause-ok : goal.returns-in-Ok-None-clause-ok
returns-in-Ok-None-clause-ok c =
    let s = c.self.inside in
    rw (← c.self.view_is) (rw c.plain-in-Ok-None.ensures (gone-answers (the_view s) s.store (map_of s.references) c.args.reference c.in-Ok-None.ensures.refusal (sym (ap (option_map (λ (x : ValueId). x.0)) c.in-Ok-None.field-0-is) ∙ c.in-Ok-None.ensures.value)))

pub returns-in-Err-clause-ok : goal.returns-in-Err-clause-ok
returns-in-Err-clause-ok c =
    let s = c.self.inside in
    let m = map_of s.references in
    rw (← c.self.view_is)
    (rw c.plain-in-Err.ensures (refused-answers (the_view s) s.store m m (call.GetReferenceValue c.args.reference) c.in-Err.status c.in-Err.ensures.refusal refl refl))

pub returns-in_err-handle-in-Ok-Some-clause-unrefused : goal.returns-in_err-handle-in-Ok-Some-clause-unrefused
returns-in_err-handle-in-Ok-Some-clause-unrefused c =
    let s = c.self.inside in
    rw (← c.self.view_is) (at-err _ (reference-unrefused (the_view s) s.store (map_of s.references) (call.GetReferenceValue c.args.reference) c.in-Ok-Some.ensures.refusal refl))
