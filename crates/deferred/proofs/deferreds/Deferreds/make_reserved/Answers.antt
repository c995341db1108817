use Rattle.std.proofs.Common.{◌∙◌, ◌+◌, refl, ap, length, arith}
use Rattle.napi_types.specs.parts.Promises.{with_promise}
use Rattle.deferred.specs.KeptPromises.{KeptPromises}
use Rattle.deferred.proofs.Views.{seen, issued-length, fresh-of, forgotten-then, made-then}
use Rattle.deferred.proofs.deferreds.Deferreds.make_reserved.Goals as goal

pub overflow_add-number : goal.overflow_add-number
overflow_add-number c =
    omega (arith, ap (λ (k : KeptPromises). length k.promises.issued) c.self.view_is, c.requires.few, issued-length c.self.inside.promises.entries c.self.inside.deferreds.entries c.self.inside.made)

pub invariant_of-self : goal.invariant_of-self
invariant_of-self c =
    made-then c.self.inside.promises.entries c.self.inside.deferreds.entries c.self.inside.reactions.entries c.self.inside.made c.self.invariant c.args.promise.0
    c.take_off.new.promises.entries c.take_off.new.deferreds.entries c.take_off.new.reactions.entries
    c.self.inside.promises.entries c.self.inside.deferreds.entries (λ w. refl) (λ n. refl)
    c.take_off.ensures.promises c.take_off.ensures.deferreds c.take_off.ensures.reactions
    c.put.new.promises.entries c.put_number.new.numbers.entries c.new.result.items c.new.ensures.items c.put.ensures c.put_number.ensures

pub returns-clause-fresh : goal.returns-clause-fresh
returns-clause-fresh c = fresh-of c.self.inside.promises.entries c.self.inside.deferreds.entries c.self.inside.made _ (seen c.self.view_is)

pub returns-clause-made : goal.returns-clause-made
returns-clause-made c =
    forgotten-then c.self.inside.promises.entries c.self.inside.deferreds.entries c.self.inside.reactions.entries c.self.inside.made c.self.invariant c.args.promise.0
    c.take_off.new.promises.entries c.take_off.new.deferreds.entries c.take_off.new.reactions.entries
    c.self.inside.promises.entries c.self.inside.deferreds.entries (λ w. refl) (λ n. refl)
    c.take_off.ensures.promises c.take_off.ensures.deferreds c.take_off.ensures.reactions
    c.put.new.promises.entries c.put_number.new.numbers.entries c.new.result.items c.new.ensures.items c.put.ensures c.put_number.ensures
    ∙ ap (with_promise c.args.promise.0 (c.self.inside.made + 1)) (seen c.self.view_is)
