use Rattle.std.proofs.Common.{◌++◌, map, OnOk, ap, subst}
use Rattle.napi_types.specs.declared.ids.ValueId.{ValueId}
use Rattle.napi_types.specs.plain.Lists.{HaveSameNumbers}
use Rattle.napi_types.specs.parts.Promises.{Promises, promise_roots}
use Rattle.env_registry.specs.KeptRegistry.{KeptRegistry}
use Rattle.env_registry.proofs.registry.Registry.push_promise_roots.Goals as goal

pub returns : goal.returns
returns c =
    let old = map (λ (v : ValueId). v.0) c.args.roots.now.items in
    let new = map (λ (v : ValueId). v.0) c.push_roots.new.roots.items in
    subst (λ (p : Promises). OnOk c.push_roots.result (HaveSameNumbers new (old ++ promise_roots p))) (ap (λ (r : KeptRegistry). r.parts.promises) c.self.view_is) c.push_roots.ensures
