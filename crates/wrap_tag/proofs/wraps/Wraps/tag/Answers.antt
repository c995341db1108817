use Rattle.std.proofs.Common.{◌∙◌, ap}
use Rattle.napi_types.specs.parts.Attachments.{with_tag}
use Rattle.wrap_tag.proofs.AttachingRows.{tagged-rows}
use Rattle.wrap_tag.proofs.wraps.Wraps.tag.Goals as goal

pub invariant_of-self : goal.invariant_of-self
invariant_of-self c = (tagged-rows c.args.value.0 c.self.inside.rows.entries c.put_tag.new.rows.entries c.self.invariant c.args.lower c.args.upper c.put_tag.ensures.put).1

pub returns-clause-tagged : goal.returns-clause-tagged
returns-clause-tagged c =
    (tagged-rows c.args.value.0 c.self.inside.rows.entries c.put_tag.new.rows.entries c.self.invariant c.args.lower c.args.upper c.put_tag.ensures.put).0
    ∙ ap (λ s. with_tag c.args.value.0 c.args.lower c.args.upper s.attachments) c.self.view_is
