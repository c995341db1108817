use Rattle.std.proofs.Common.{◌∙◌, ap}
use Rattle.napi_types.specs.parts.Attachments.{left_on, is_attached_to}
use Rattle.napi_types.specs.parts.Book.{made_due}
use Rattle.wrap_tag.specs.Wraps.{is_one_of}
use Rattle.env_registry.proofs.Agreeing.{agree-left, due-already}
use Rattle.env_registry.proofs.Keeping.{given-freed, kept-left, kept-moved}
use Rattle.env_registry.proofs.registry.Registry.gone_all.Goals as goal

pub gone_all-requires : goal.gone_all-requires
gone_all-requires c =
    let s = c.self.inside in
    given-freed s.wraps.attachments s.book.book (is_one_of c.args.values.now) c.self.invariant.0

pub take_buffers_away-requires : goal.take_buffers_away-requires
take_buffers_away-requires c =
    let s = c.self.inside in
    record {
      due = due-already s.wraps.attachments s.book.book c.gone_all.new.book.book s.buffers.buffers (is_one_of c.args.values.now) c.self.invariant.0
          c.self.invariant.1 c.gone_all.ensures.due;
    }

pub invariant_of-self : goal.invariant_of-self
invariant_of-self c =
    let s = c.self.inside in
    let freed = is_one_of c.args.values.now in (
      rw (c.take_buffers_away.ensures.same, c.gone_all.ensures.forgotten, c.gone_all.ensures.due)
          (kept-moved (left_on freed s.wraps.attachments) s.book.book made_due (is_attached_to freed s.wraps.attachments)
          (kept-left s.wraps.attachments s.book.book freed c.self.invariant.0)),
      rw (c.gone_all.ensures.forgotten, c.take_buffers_away.ensures.left) (agree-left freed s.wraps.attachments s.buffers.buffers c.self.invariant.1),
    )
