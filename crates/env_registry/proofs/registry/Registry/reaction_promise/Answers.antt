use Rattle.std.proofs.Common.{◌≡◌, ◌↔◌, ℕ, true, Some, option_map, ap, subst}
use Rattle.napi_types.specs.declared.ids.ValueId.{ValueId}
use Rattle.napi_types.specs.parts.Promises.{Promises, is_reaction_of}
use Rattle.env_registry.specs.KeptRegistry.{KeptRegistry}
use Rattle.env_registry.proofs.registry.Registry.reaction_promise.Goals as goal

pub returns : goal.returns
returns c =
    let told = option_map (λ (v : ValueId). v.0) c.promise_of.result in
    subst (λ (p : Promises). (v : ℕ) → (told ≡ Some v) ↔ (is_reaction_of p v c.args.ticket.0 ≡ true)) (ap (λ (r : KeptRegistry). r.parts.promises) c.self.view_is)
    c.promise_of.ensures
