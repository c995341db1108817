use Rattle.std.proofs.Common.{◌∙◌, ap}
use Rattle.napi_types.specs.parts.Promises.{without_promise}
use Rattle.deferred.proofs.Views.{seen, view-gone}
use Rattle.deferred.proofs.deferreds.Deferreds.gone.Goals as goal

pub returns : goal.returns
returns c =
    view-gone c.self.inside.promises.entries c.take_off.new.promises.entries c.self.inside.deferreds.entries c.take_off.new.deferreds.entries
    c.self.inside.reactions.entries c.take_off.new.reactions.entries c.self.inside.made c.self.invariant c.args.value.0
    (record { rows = c.take_off.ensures.promises; deferreds = c.take_off.ensures.deferreds; reactions = c.take_off.ensures.reactions })
    ∙ ap (without_promise c.args.value.0) (seen c.self.view_is)
