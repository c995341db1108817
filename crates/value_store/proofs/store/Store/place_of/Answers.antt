use Rattle.value_store.proofs.StoreCalls.{live-held, stands-at}
use Rattle.value_store.proofs.store.Store.place_of.Goals as goal

pub place_of-requires : goal.place_of-requires
place_of-requires c = live-held c.self.inside.values c.self.inside.made c.self.inside.starting c.self.invariant c.args.self.now c.self.view_is c.args.id.0 c.requires

pub returns : goal.returns
returns c = stands-at c.self.inside.values c.self.inside.made c.self.inside.starting c.self.invariant c.args.self.now c.self.view_is c.args.id.0 c.place_of.result c.place_of.ensures
