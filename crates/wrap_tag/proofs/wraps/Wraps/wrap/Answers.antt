use Rattle.std.proofs.Common.{◌∙◌, option_map, ap}
use Rattle.napi_types.specs.parts.Attachments.{with_wrap}
use Rattle.wrap_tag.proofs.AttachingRows.{wrapped-rows}
use Rattle.wrap_tag.proofs.wraps.Wraps.wrap.Goals as goal

pub invariant_of-self : goal.invariant_of-self
invariant_of-self c = (wrapped-rows c.args.value.0 c.self.inside.rows.entries c.put_wrap.new.rows.entries c.self.invariant c.args.payload c.args.ticket c.put_wrap.ensures.put).1

pub returns-clause-wrapped : goal.returns-clause-wrapped
returns-clause-wrapped c =
    (wrapped-rows c.args.value.0 c.self.inside.rows.entries c.put_wrap.new.rows.entries c.self.invariant c.args.payload c.args.ticket c.put_wrap.ensures.put).0
    ∙ ap (λ s. with_wrap c.args.value.0 c.args.payload (option_map (λ t. t.0) c.args.ticket) s.attachments) c.self.view_is
