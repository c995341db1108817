use Rattle.std.proofs.Common.{◌∙◌, ap}
use Rattle.napi_types.specs.plain.Lists.{has}
use Rattle.napi_types.specs.parts.Attachments.{with_attached}
use Rattle.wrap_tag.proofs.AttachingRows.{attached-rows}
use Rattle.wrap_tag.proofs.wraps.Wraps.attach.Goals as goal

pub invariant_of-self : goal.invariant_of-self
invariant_of-self c = (attached-rows c.args.value.0 c.self.inside.rows.entries c.put_ticket.new.rows.entries c.self.invariant c.args.ticket.0 c.put_ticket.ensures.put (ap (λ s. has (λ t. t.ticket) c.args.ticket.0 s.attachments.tickets) c.self.view_is ∙ c.requires.absent)).1

pub returns-clause-attached : goal.returns-clause-attached
returns-clause-attached c =
    (attached-rows c.args.value.0 c.self.inside.rows.entries c.put_ticket.new.rows.entries c.self.invariant c.args.ticket.0 c.put_ticket.ensures.put (ap (λ s. has (λ t. t.ticket) c.args.ticket.0 s.attachments.tickets) c.self.view_is ∙ c.requires.absent)).0
    ∙ ap (λ s. with_attached c.args.value.0 c.args.ticket.0 s.attachments) c.self.view_is
