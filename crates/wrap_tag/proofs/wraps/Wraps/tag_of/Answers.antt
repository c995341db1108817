use Rattle.std.proofs.Common.{◌∙◌, None, Some, ℕ, option_map, sym, ap}
use Rattle.wrap_tag.proofs.AttachingRows.{tag_of-part}
use Rattle.wrap_tag.proofs.wraps.Wraps.tag_of.Goals as goal

pub returns-in_err-tag : goal.returns-in_err-tag
returns-in_err-tag c =
    c.from_residual.ensures
    ∙ sym (ap (option_map {U = ℕ × ℕ} (λ t. (t.lower, t.upper))) (tag_of-part c.args.value.0 c.self.inside.rows.entries c.args.self.now.attachments c.self.invariant (ap (λ s. s.attachments) c.self.view_is) None (sym c.tag_at.ensures ∙ c.in_err-tag.was)))

pub returns : goal.returns
returns c =
    sym (ap (option_map {U = ℕ × ℕ} (λ t. (t.lower, t.upper))) (tag_of-part c.args.value.0 c.self.inside.rows.entries c.args.self.now.attachments c.self.invariant (ap (λ s. s.attachments) c.self.view_is) (Some c.in_ok-tag.tag) (sym c.tag_at.ensures ∙ c.in_ok-tag.was)))
