use Rattle.std.proofs.Common.{◌∙◌, None, Some, option_map, sym, ap}
use Rattle.wrap_tag.proofs.AttachingRows.{wrap_of-part}
use Rattle.wrap_tag.proofs.wraps.Wraps.wrapped.Goals as goal

pub returns-in_err-wrap : goal.returns-in_err-wrap
returns-in_err-wrap c =
    c.from_residual.ensures
    ∙ sym (ap (option_map (λ w. w.payload)) (wrap_of-part c.args.value.0 c.self.inside.rows.entries c.args.self.now.attachments c.self.invariant (ap (λ s. s.attachments) c.self.view_is) None (sym c.wrap_at.ensures ∙ c.in_err-wrap.was)))

pub returns : goal.returns
returns c =
    sym (ap (option_map (λ w. w.payload)) (wrap_of-part c.args.value.0 c.self.inside.rows.entries c.args.self.now.attachments c.self.invariant (ap (λ s. s.attachments) c.self.view_is) (Some c.in_ok-wrap.wrap) (sym c.wrap_at.ensures ∙ c.in_ok-wrap.was)))
