use Rattle.std.proofs.Common.{◌∙◌, sym, ap}
use Rattle.napi_types.specs.parts.Promises.{without_reaction}
use Rattle.deferred.proofs.Views.{seen, ended-none, ended-one, ended-tied, reactions-there}
use Rattle.deferred.proofs.deferreds.Deferreds.ended.Goals as goal

pub returns-in_default : goal.returns-in_default
returns-in_default c =
    ended-none _ _ _ _ c.self.invariant c.args.ticket.0 (sym c.take_number.ensures.promise ∙ c.in_default.is) ∙ ap (without_reaction c.args.ticket.0) (seen c.self.view_is)

pub take_out-requires-clause-there : goal.take_out-requires-clause-there
take_out-requires-clause-there c = reactions-there c.args.ticket.0 _ (c.self.invariant.listed c.args.ticket.0 c.in-Some.promise (sym c.take_number.ensures.promise ∙ c.in-Some.is))

pub invariant_of-self-2 : goal.invariant_of-self-2
invariant_of-self-2 c =
    ended-tied _ _ _ _ c.self.invariant _ _ c.in-Some.promise c.args.ticket.0 (sym c.take_number.ensures.promise ∙ c.in-Some.is) c.take_out.ensures c.take_number.ensures.taken

pub returns : goal.returns
returns c =
    ended-one _ _ _ _ c.self.invariant _ c.in-Some.promise c.args.ticket.0 (sym c.take_number.ensures.promise ∙ c.in-Some.is) c.take_out.ensures
    ∙ ap (without_reaction c.args.ticket.0) (seen c.self.view_is)
