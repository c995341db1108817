use Rattle.env_registry.proofs.Keeping.{due-uncalled, kept-begun}
use Rattle.env_registry.proofs.registry.Registry.begin_due.Goals as goal

pub invariant_of-self : goal.invariant_of-self
invariant_of-self c =
    let s = c.self.inside in (
      kept-begun s.wraps.attachments s.book.book c.take_due.new.self.book c.take_due.result c.take_due.ensures.stays c.take_due.ensures.taken c.self.invariant.0,
      c.self.invariant.1,
    )

pub returns-clause-uncalled : goal.returns-clause-uncalled
returns-clause-uncalled c =
    let s = c.self.inside in
    due-uncalled s.wraps.attachments s.book.book c.take_due.new.self.book c.take_due.result c.take_due.ensures.taken c.self.invariant.0
