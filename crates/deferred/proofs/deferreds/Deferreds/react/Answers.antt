use Rattle.std.proofs.Common.{◌∙◌, nat_eq, cond, [], Some, refl, sym, ap}
use Rattle.napi_types.specs.parts.Promises.{with_reaction}
use Rattle.napi_types.proofs.plain.Options.{at-err}
use Rattle.deferred.proofs.Views.{seen, view-same, row-there, never-both, never-none, kept-none, added-tied, added-view}
use Rattle.deferred.proofs.deferreds.Deferreds.react.Goals as goal

pub returns-then-contains_key-clause-added : goal.returns-then-contains_key-clause-added
returns-then-contains_key-clause-added c none =
    absurd (never-both _ _ _ _ c.self.invariant _ (seen c.self.view_is) _ c.args.ticket.0 c.reserve.ensures.entries.2 (sym c.contains_key.ensures ∙ c.if-contains_key.true) none)

pub add-requires : goal.add-requires
add-requires c = row-there _ _ _ _ c.self.invariant _ (seen c.self.view_is) c.args.promise.0 c.requires

pub returns-in_err-add-clause-there : goal.returns-in_err-add-clause-there
returns-in_err-add-clause-there c v has =
    view-same _ _ _ _ _ [] _ c.self.invariant 0 c.in_err-add.ensures.err (λ n. refl) ∙ (seen c.self.view_is)

pub returns-in_err-add-clause-err : goal.returns-in_err-add-clause-err
returns-in_err-add-clause-err c =
    at-err _ (view-same _ _ _ _ _ [] _ c.self.invariant 0 c.in_err-add.ensures.err (λ n. refl) ∙ (seen c.self.view_is))

pub invariant_of-self-2 : goal.invariant_of-self-2
invariant_of-self-2 c =
    let there = row-there _ _ _ _ c.self.invariant _ (seen c.self.view_is) c.args.promise.0 c.requires in
    let none = kept-none _ _ _ _ c.self.invariant _ (seen c.self.view_is) _ c.args.ticket.0 c.reserve.ensures.entries.2 (sym c.contains_key.ensures ∙ c.if-contains_key.false) in
    added-tied _ _ _ _ c.self.invariant _ c.args.promise.0 c.args.ticket.0 there c.in_ok-add.ensures.ok _ none
    (λ m. c.put_number.ensures m ∙ ap (cond (nat_eq c.args.ticket.0 m) (Some c.args.promise.0)) (c.reserve.ensures.entries.2 m))

pub returns-clause-added : goal.returns-clause-added
returns-clause-added c none =
    let there = row-there _ _ _ _ c.self.invariant _ (seen c.self.view_is) c.args.promise.0 c.requires in
    added-view _ _ _ _ c.self.invariant _ c.args.promise.0 c.args.ticket.0 there c.in_ok-add.ensures.ok ∙ ap (with_reaction c.args.promise.0 c.args.ticket.0) (seen c.self.view_is)

pub returns-clause-there : goal.returns-clause-there
returns-clause-there c v has =
    absurd (never-none _ _ _ _ c.self.invariant _ (seen c.self.view_is) _ c.args.ticket.0 v c.reserve.ensures.entries.2 (sym c.contains_key.ensures ∙ c.if-contains_key.false) has)
