use Rattle.std.proofs.Common.{◌∙◌, ap, refl}
use Rattle.napi_types.specs.declared.call.Call.TheVariants as call
use Rattle.napi_types.specs.declared.entry.Out.TheVariants as out
use Rattle.napi_types.specs.plain.Replies.{accepts}
use Rattle.napi_types.specs.parts.Heap.{Heap}
use Rattle.napi_types.specs.parts.HeapChanges.{with_changed}
use Rattle.napi_types.specs.parts.Values.{with_property}
use Rattle.env_values.specs.SeenValues.{heap_of}
use Rattle.env_values.proofs.Coming.{comes-without_memory}
use Rattle.env_values.proofs.Giving.{more-live}
use Rattle.env_values.proofs.Heaps.{with_changed-heap}
use Rattle.env_values.proofs.KeepingHeaps.{plain-kind, keeps_changed}
use Rattle.env_values.proofs.UnrefusedValues.{set_named-unrefused}
use Rattle.env_values.proofs.properties.set_named_property.Goals as goal

pub returns-in_err-set_prop-clause-comes : goal.returns-in_err-set_prop-clause-comes
returns-in_err-set_prop-clause-comes c =
    let scopes = c.args.scopes.now in
    let heap = heap_of c.args.store.now scopes in
    comes-without_memory c.args.texts heap _ (call.SetNamedProperty c.args.object c.args.name c.args.value) _ c.from_residual-in_err-set_prop.ensures.1 refl
    (set_named-unrefused c.args.texts c.args.object c.args.name c.args.value c.in_ok-object.ensures.ok c.in_ok-value.ensures.ok c.in_ok-known_text.ensures.ok c.in_ok-object_like.ensures.ok)
    (ap (λ s. heap_of s scopes) c.in_err-set_prop.ensures.err)

pub returns-clause-comes : goal.returns-clause-comes
returns-clause-comes c =
    let s = c.args.store.now in
    let scopes = c.args.scopes.now in
    let object = c.in_ok-object.ensures.ok in
    let value = c.in_ok-value.ensures.ok in (
      set_named-unrefused c.args.texts c.args.object c.args.name c.args.value object value c.in_ok-known_text.ensures.ok c.in_ok-object_like.ensures.ok,
      ap (λ n. accepts out.Nothing (with_changed c.args.object.0 (with_property c.args.name.0 n) (heap_of s scopes))) value.number
          ∙ ap (λ (heap : Heap). accepts out.Nothing heap)
          (with_changed-heap s c.set_prop.new.self scopes c.args.object.0 c.in_ok-object.object.id.0 _ _ (λ v. refl) c.in_ok-set_prop.ensures.set c.in_ok-set_prop.ensures.graph object.number),
    )

pub returns-clause-keeps : goal.returns-clause-keeps
returns-clause-keeps c = let values = keeps_changed c.args.store.now c.set_prop.new.self c.in_ok-object.object.id.0 _
    (plain-kind c.args.store.now c.in_ok-object.object.id.0 _ (λ v. refl) (λ v. refl) (λ v. refl)) c.in_ok-set_prop.ensures.set in record {
      scopes = record { live = more-live c.args.store.now c.set_prop.new.self c.args.scopes.now values.live c.requires; calls = refl };
      values = values;
    }
