use Rattle.value_store.proofs.ReadingPlaces.{indexed-live}
use Rattle.env_values.proofs.values.get_element.Goals as goal

pub or_undefined-value-requires : goal.or_undefined-value-requires
or_undefined-value-requires c = indexed-live c.args.store.now c.in_ok-object.object c.in_ok-object.ensures.ok.named c.args.index c.element.result c.element.ensures
