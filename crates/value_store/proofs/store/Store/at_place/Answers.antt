use Rattle.std.proofs.Common.{◌∙◌, sym}
use Rattle.value_store.proofs.LiveValues.{place-live}
use Rattle.value_store.proofs.StoreCalls.{good-view, id-read}
use Rattle.value_store.proofs.store.Store.at_place.Goals as goal

pub returns-clause-live : goal.returns-clause-live
returns-clause-live c =
    let good = good-view c.self.inside.values c.self.inside.made c.self.inside.starting c.self.invariant c.args.self.now c.self.view_is in
    place-live c.args.self.now good.once c.args.place c.in_ok-number_in.field-0 (id-read c.self.inside.values c.self.inside.made c.self.inside.starting c.self.invariant c.args.self.now c.self.view_is c.args.place ∙ sym c.in_ok-number_in.ensures)
