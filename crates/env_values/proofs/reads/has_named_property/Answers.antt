use Rattle.std.proofs.Common.{◌≡◌, ◌∙◌, true, is_some, ap, sym, refl}
use Rattle.napi_types.specs.declared.entry.Out.TheVariants as out
use Rattle.napi_types.specs.plain.Replies.{accepts}
use Rattle.napi_types.specs.parts.Bodies.{is_object_like}
use Rattle.napi_types.specs.parts.Heap.{handle_body}
use Rattle.env_values.specs.SeenValues.{heap_of}
use Rattle.env_values.proofs.HandleValues.{like-lent, property-lent, same-there}
use Rattle.env_values.proofs.reads.has_named_property.Goals as goal

pub returns : goal.returns
returns c =
    let s = c.args.store.now in
    let scopes = c.args.scopes.now in
    let k = c.in_ok-object.ensures.ok in
    let like : is_object_like (handle_body (heap_of s scopes) c.args.object.0) ≡ true =
    like-lent s scopes c.args.object.0 c.in_ok-object.object k (ap is_object_like (sym c.body.ensures) ∙ c.in_ok-object_like.ensures.ok) in
    record {
      comes = (
        rw (k.known, c.in_ok-known_text.ensures.ok, like) refl,
        ap (λ b. accepts (out.Flag b) (heap_of s scopes))
            (ap is_some (property-lent s scopes c.args.object.0 c.in_ok-object.object k c.args.name.0) ∙ same-there s _ _ c.get_prop.ensures ∙ sym c.is_some.ensures),
      );
    }
