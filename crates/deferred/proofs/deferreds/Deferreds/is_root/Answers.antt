use Rattle.std.proofs.Common.{◌∙◌, None, Some, sym, ap}
use Rattle.std.specs.Option.{option_copied}
use Rattle.deferred.proofs.Views.{seen, root-of}
use Rattle.deferred.proofs.deferreds.Deferreds.is_root.Goals as goal

pub returns-in-Some : goal.returns-in-Some
returns-in-Some c =
    c.is_root.ensures
    ∙ sym (root-of _ _ _ _ _ (seen c.self.view_is) c.self.invariant c.args.value.0 (Some c.in-Some.row.now) (sym (ap option_copied c.in-Some.is) ∙ c.get.ensures.value))

pub returns-in-None : goal.returns-in-None
returns-in-None c = sym (root-of _ _ _ _ _ (seen c.self.view_is) c.self.invariant c.args.value.0 None (sym (ap option_copied c.in-None.is) ∙ c.get.ensures.value))
