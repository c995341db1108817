use Rattle.std.proofs.Common.{◌∙◌, [], None, Some, is_none, sym, ap}
use Rattle.napi_types.specs.declared.status.Status.TheVariants as status
use Rattle.napi_types.specs.plain.Lists.{when}
use Rattle.napi_types.specs.parts.Promises.{with_settled, reactions_settled}
use Rattle.deferred.proofs.Views.{seen, deferred-of, deferred-there, reactions-read, settled-tied, settled-view}
use Rattle.deferred.proofs.deferreds.Deferreds.settle.Goals as goal

pub returns-in_default-clause-refusal : goal.returns-in_default-clause-refusal
returns-in_default-clause-refusal c =
    sym (ap (λ o. when (is_none o) status.InvalidArg) (deferred-of _ _ [] _ _ (seen c.self.view_is) c.args.id.0 None (sym c.in_default.is ∙ c.take_number.ensures.promise)))

pub settle-requires : goal.settle-requires
settle-requires c = deferred-there c.args.id.0 _ (c.self.invariant.promised c.args.id.0 c.in-Some.promise (sym c.take_number.ensures.promise ∙ c.in-Some.is))

pub invariant_of-self-2 : goal.invariant_of-self-2
invariant_of-self-2 c =
    settled-tied _ _ _ _ c.self.invariant _ _ c.in-Some.promise c.args.id.0 c.args.state (sym c.take_number.ensures.promise ∙ c.in-Some.is) c.settle.ensures.rows c.take_number.ensures.taken

pub returns-clause-refusal : goal.returns-clause-refusal
returns-clause-refusal c =
    sym (ap (λ o. when (is_none o) status.InvalidArg) (deferred-of _ _ [] _ _ (seen c.self.view_is) c.args.id.0 (Some c.in-Some.promise) (sym c.in-Some.is ∙ c.take_number.ensures.promise)))

pub returns-clause-promise : goal.returns-clause-promise
returns-clause-promise c = deferred-of _ _ [] _ _ (seen c.self.view_is) c.args.id.0 (Some c.in-Some.promise) (sym c.in-Some.is ∙ c.take_number.ensures.promise)

pub returns-clause-settled : goal.returns-clause-settled
returns-clause-settled c =
    settled-view _ _ _ _ c.self.invariant _ _ c.in-Some.promise c.args.id.0 c.args.state (sym c.take_number.ensures.promise ∙ c.in-Some.is) c.settle.ensures.rows c.take_number.ensures.taken
    ∙ ap (with_settled c.args.id.0 c.in-Some.promise c.args.state) (seen c.self.view_is)

pub returns-clause-due : goal.returns-clause-due
returns-clause-due c =
    c.settle.ensures.settled ∙ ap (λ ns. reactions_settled c.args.state ns c.args.book.now.book) (sym (reactions-read _ _ [] _ _ (seen c.self.view_is) c.in-Some.promise))
