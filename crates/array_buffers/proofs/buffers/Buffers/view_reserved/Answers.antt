use Rattle.array_buffers.proofs.Kept.{seen, viewed-after}
use Rattle.array_buffers.proofs.buffers.Buffers.view_reserved.Goals as goal

pub invariant_of-self : goal.invariant_of-self
invariant_of-self c =
    (viewed-after _ _ _ c.args.self.now.buffers (seen c.self.view_is) c.self.invariant c.args.value.0 c.args.about c.put_view.new.views.entries c.put_view.ensures c.requires.size c.requires.within).0

pub returns : goal.returns
returns c =
    (viewed-after _ _ _ c.args.self.now.buffers (seen c.self.view_is) c.self.invariant c.args.value.0 c.args.about c.put_view.new.views.entries c.put_view.ensures c.requires.size c.requires.within).1
