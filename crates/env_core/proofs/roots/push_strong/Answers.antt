use Rattle.std.proofs.Common.{◌∙◌, ◌++◌, ap, sym, map, arith}
use Rattle.napi_types.specs.plain.Lists.{has_number}
use Rattle.napi_types.specs.parts.References.{strong_values}
use Rattle.std.specs.List.{filter_map}
use Rattle.std.proofs.lemmas.List.{length-map, take_all}
use Rattle.value_store.specs.StoreChanges.{numbers_of}
use Rattle.napi_reference.specs.ReferencePlaces.{map_of, strong_in}
use Rattle.napi_reference.proofs.Strong.{strong_values-places}
use Rattle.env_core.proofs.Rooting.{same-after, pushed-more, strong-places, strong-at}
use Rattle.env_core.proofs.roots.push_strong.Goals as goal

pub loop-at-preserved : goal.loop-at-preserved
loop-at-preserved c =
    let places = c.args.references.now.places in
    pushed-more (numbers_of c.args.roots.now.items) (numbers_of c.loop-at.roots.items) (numbers_of c.push.new.roots.items) (map strong_in places) c.loop-at.at _ (omega (arith, length-map places strong_in))
    (c.strong_at.ensures ∙ sym (strong-at places c.loop-at.at)) c.loop-at.invariant c.in_ok-push.ensures

pub returns : goal.returns
returns c =
    let references = c.args.references.now in
    let places = references.places in
    let old = numbers_of c.args.roots.now.items in
    let pushed = c.loop-at.invariant
    ∙ ap (λ l. old ++ filter_map (λ place. place) l) (take_all c.loop-at.at (map strong_in places) (omega (arith, length-map places strong_in)))
    ∙ ap (λ l. old ++ l) (strong-places places) in
    λ n. ap (has_number n) pushed ∙ same-after old (filter_map strong_in places) (strong_values (map_of references)) (λ m. sym (strong_values-places references c.rows-at-end.ensures.once m)) n
