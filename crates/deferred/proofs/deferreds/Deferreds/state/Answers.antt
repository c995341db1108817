use Rattle.std.proofs.Common.{◌∙◌, [], None, Some, sym, ap}
use Rattle.std.specs.Option.{option_copied}
use Rattle.deferred.proofs.Views.{seen, state-of}
use Rattle.deferred.proofs.deferreds.Deferreds.state.Goals as goal

pub returns-in_err-row : goal.returns-in_err-row
returns-in_err-row c = c.from_residual.ensures ∙ sym (state-of _ _ [] _ _ (seen c.self.view_is) _ None (sym (ap option_copied c.in_err-row.was) ∙ c.get.ensures.value))

pub returns : goal.returns
returns c = sym (state-of _ _ [] _ _ (seen c.self.view_is) _ (Some c.in_ok-row.row.now) (sym (ap option_copied c.in_ok-row.was) ∙ c.get.ensures.value))
