use Rattle.std.proofs.Common.{◌∙◌, None, Some, option_map, sym, ap}
use Rattle.std.specs.Option.{option_copied}
use Rattle.deferred.proofs.Views.{seen, promise-of}
use Rattle.deferred.proofs.deferreds.Deferreds.promise_of.Goals as goal

pub returns-in_err-promise : goal.returns-in_err-promise
returns-in_err-promise c = λ v.
    let both = promise-of _ _ _ _ _ (seen c.self.view_is) c.self.invariant _ None (sym (ap option_copied c.in_err-promise.was) ∙ c.get.ensures.value) v in
    let none = ap (option_map (λ w. w.0)) c.from_residual.ensures in
    ((λ is. both.0 (sym none ∙ is)), (λ has. none ∙ both.1 has))

pub returns : goal.returns
returns c = λ v. promise-of _ _ _ _ _ (seen c.self.view_is) c.self.invariant _ (Some c.in_ok-promise.promise.now) (sym (ap option_copied c.in_ok-promise.was) ∙ c.get.ensures.value) v
