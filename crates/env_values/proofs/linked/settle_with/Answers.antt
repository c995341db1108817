use Rattle.std.proofs.Common.{refl}
use Rattle.env_values.proofs.Heaps.{changed-heap, changed-live}
use Rattle.env_values.proofs.KeepingHeaps.{keeps_changed, promise-kind}
use Rattle.env_values.proofs.PromiseLinks.{promise-linked}
use Rattle.env_values.proofs.linked.settle_with.Goals as goal

pub link-requires-clause-linked : goal.link-requires-clause-linked
link-requires-clause-linked c = promise-linked c.args.store.now c.args.promise.0 c.requires.promise

pub returns-clause-heap : goal.returns-clause-heap
returns-clause-heap c =
    changed-heap c.args.store.now c.link.new.self c.args.scopes.now c.args.promise.0 _ _ (λ v. refl) c.link.ensures.set c.link.ensures.graph

pub returns-clause-keeps : goal.returns-clause-keeps
returns-clause-keeps c =
    record {
      scopes = record { live = changed-live c.args.store.now c.link.new.self c.args.scopes.now c.args.promise.0 _ c.link.ensures.set c.requires.held; calls = refl };
      values = keeps_changed c.args.store.now c.link.new.self c.args.promise.0 _
          (promise-kind c.args.store.now c.args.promise.0 c.args.value.0 c.requires.promise) c.link.ensures.set;
    }
