use Rattle.env_registry.proofs.Keeping.{kept-tagged}
use Rattle.env_registry.proofs.registry.Registry.tag.Goals as goal

pub invariant_of-self-2 : goal.invariant_of-self-2
invariant_of-self-2 c =
    let s = c.self.inside in (
      rw (c.tag.ensures.tagged, c.reserve.ensures.same) (kept-tagged s.wraps.attachments s.book.book c.args.value.0 c.args.lower c.args.upper c.self.invariant.0),
      rw (c.tag.ensures.tagged, c.reserve.ensures.same) c.self.invariant.1,
    )
