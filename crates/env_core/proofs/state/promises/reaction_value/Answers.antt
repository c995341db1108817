use Rattle.std.proofs.Common.{◌∙◌, Some, None, option_map, ap, sym}
use Rattle.napi_types.specs.declared.ids.ValueId.{ValueId}
use Rattle.env_core.proofs.Reacting.{settler-none, settler-of, link-told}
use Rattle.env_core.proofs.state.promises.reaction_value.Goals as goal

pub returns-in_err-promise-clause-value : goal.returns-in_err-promise-clause-value
returns-in_err-promise-clause-value c =
    settler-none c.args.store.now c.invariant.ensures c.args.registry.now.parts.promises c.requires c.args.frames.now _ c.reacted_promise.ensures
    c.from_residual.result c.from_residual.ensures (ap (option_map (λ (v : ValueId). v.0)) c.in_err-promise.was)

pub returns-in_err-get-clause-value : goal.returns-in_err-get-clause-value
returns-in_err-get-clause-value c =
    settler-of c.args.store.now c.invariant.ensures c.args.registry.now.parts.promises c.requires c.args.frames.now _ c.reacted_promise.ensures
    c.in_ok-promise.promise.0 (ap (option_map (λ (v : ValueId). v.0)) c.in_ok-promise.was) c.get.ensures.graph None (sym c.get.ensures.value ∙ c.in_err-get.was)
    c.from_residual-in_err-get.result (ap (option_map (λ (v : ValueId). v.0)) c.from_residual-in_err-get.ensures)

pub returns-clause-value : goal.returns-clause-value
returns-clause-value c =
    settler-of c.args.store.now c.invariant.ensures c.args.registry.now.parts.promises c.requires c.args.frames.now _ c.reacted_promise.ensures
    c.in_ok-promise.promise.0 (ap (option_map (λ (v : ValueId). v.0)) c.in_ok-promise.was) c.get.ensures.graph (Some c.in_ok-get.field-0)
    (sym c.get.ensures.value ∙ c.in_ok-get.was) c.link.result c.link.ensures

pub returns-clause-live : goal.returns-clause-live
returns-clause-live c =
    link-told c.args.store.now c.invariant.ensures c.in_ok-promise.promise.0 c.in_ok-get.field-0 (sym c.get.ensures.value ∙ c.in_ok-get.was) c.link.result c.link.ensures
