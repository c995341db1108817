use Rattle.std.proofs.Common.{◌∙◌}
use Rattle.array_buffers.proofs.Kept.{seen, view-now}
use Rattle.array_buffers.proofs.buffers.Buffers.about.Goals as goal

pub returns : goal.returns
returns c = view-now _ _ _ _ (seen c.self.view_is) c.self.invariant c.args.value.0 _ (c.copied.ensures ∙ c.get.ensures.value)
