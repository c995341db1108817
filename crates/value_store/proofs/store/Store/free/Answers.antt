use Rattle.std.proofs.lemmas.List.Elements.{All-weaker}
use Rattle.generation_slab.specs.HeldPlaces.{value_of as record_at}
use Rattle.std.proofs.Common.{IsSome}
use Rattle.napi_types.specs.parts.Graph.{IsLive}
use Rattle.value_store.specs.StoreChanges.{numbers_of}
use Rattle.value_store.proofs.StoreCalls.{live-held, free-kept, free-frees, free-graph}
use Rattle.value_store.proofs.store.Store.free.Goals as goal

pub clear-requires : goal.clear-requires
clear-requires c = record {
  held = All-weaker (IsLive c.args.self.now) (λ n. IsSome (record_at c.self.inside.values n)) (live-held c.self.inside.values c.self.inside.made c.self.inside.starting c.self.invariant c.args.self.now c.self.view_is) (numbers_of c.args.list.now) c.requires.live;
  distinct = c.requires.distinct;
  once = c.self.invariant.once;
}

pub invariant_of-self : goal.invariant_of-self
invariant_of-self c = free-kept c.self.inside.values c.self.inside.made c.self.inside.starting c.self.invariant c.args.self.now c.self.view_is c.clear.new.values (numbers_of c.args.list.now) c.requires c.clear.ensures.values c.clear.ensures.issued c.clear.ensures.once

pub returns-clause-freed : goal.returns-clause-freed
returns-clause-freed c = free-frees c.self.inside.values c.self.inside.made c.self.inside.starting c.self.invariant c.args.self.now c.self.view_is c.clear.new.values (numbers_of c.args.list.now) c.requires c.clear.ensures.values c.clear.ensures.issued c.clear.ensures.once

pub returns-clause-graph : goal.returns-clause-graph
returns-clause-graph c = free-graph c.self.inside.values c.self.inside.made c.self.inside.starting c.self.invariant c.args.self.now c.self.view_is c.clear.new.values (numbers_of c.args.list.now) c.requires c.clear.ensures.values c.clear.ensures.issued c.clear.ensures.once
