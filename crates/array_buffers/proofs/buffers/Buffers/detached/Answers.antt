use Rattle.std.proofs.Common.{◌∙◌, Some, None, sym, ap}
use Rattle.std.specs.Option.{option_copied}
use Rattle.array_buffers.proofs.Kept.{seen, detached-now, none-told}
use Rattle.array_buffers.proofs.buffers.Buffers.detached.Goals as goal

pub returns-in-Some : goal.returns-in-Some
returns-in-Some c =
    none-told _ c.is_none.result c.is_none.ensures
    ∙ detached-now _ _ _ _ (seen c.self.view_is) c.self.invariant c.args.value.0 (Some c.in-Some.row.now) (sym (ap option_copied c.in-Some.is) ∙ c.get.ensures.value)

pub returns-in-None : goal.returns-in-None
returns-in-None c = detached-now _ _ _ _ (seen c.self.view_is) c.self.invariant c.args.value.0 None (sym (ap option_copied c.in-None.is) ∙ c.get.ensures.value)
