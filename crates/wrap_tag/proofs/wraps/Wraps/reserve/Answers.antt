use Rattle.std.proofs.Common.{◌≡◌, ◌∙◌, ℕ, ◌<◌, ◌≤◌, Option, Some, None, min, ap, sym, subst, arith}
use Rattle.std.specs.Option.{option_len}
use Rattle.napi_types.specs.parts.Attachments.{Attachments}
use Rattle.wrap_tag.specs.ValueRows.{attachments_of}
use Rattle.wrap_tag.specs.Wraps.{WrapState}
use Rattle.wrap_tag.proofs.AttachingRows.{reordered-maps}
use Rattle.wrap_tag.proofs.wraps.Wraps.reserve.Goals.{in-Some-1, in-None-1}
use Rattle.wrap_tag.proofs.wraps.Wraps.reserve.Goals as goal

pub returns-in_err-new-clause-same : goal.returns-in_err-new-clause-same
returns-in_err-new-clause-same c =
    reordered-maps c.self.inside.rows.entries c.reserve.new.self.entries c.self.invariant c.reserve.ensures.entries.2 c.reserve.ensures.unique ∙ ap (λ s. s.attachments) c.self.view_is

pub returns-in_ok-new-clause-same : goal.returns-in_ok-new-clause-same
returns-in_ok-new-clause-same c =
    let kept : c.match-self.self.attachments ≡ attachments_of c.reserve.new.self.entries = elim c.match-self.branch [ in-Some-1 w ↦ ap (λ s. s.attachments) w.self-is | in-None-1 w ↦ ap (λ s. s.attachments) w.self-is ] in
    kept ∙ reordered-maps c.self.inside.rows.entries c.reserve.new.self.entries c.self.invariant c.reserve.ensures.entries.2 c.reserve.ensures.unique ∙ ap (λ s. s.attachments) c.self.view_is

pub returns-else-is_none-clause-same : goal.returns-else-is_none-clause-same
returns-else-is_none-clause-same c =
    reordered-maps c.self.inside.rows.entries c.reserve.new.self.entries c.self.invariant c.reserve.ensures.entries.2 c.reserve.ensures.unique ∙ ap (λ s. s.attachments) c.self.view_is

-- one that is spare stays one
same-spare : {A : Type 0} (link : Option A) (m n : ℕ) → 0 < min m (option_len link) → m ≤ n → min n (option_len link) ≡ min m (option_len link)
same-spare None m n some more = absurd (omega arith)
same-spare (Some x) m n some more = omega arith

same-state : (a b : Attachments) (m n : ℕ) → a ≡ b → m ≡ n → let s : WrapState = record { attachments = a; spare = m } in s ≡ record { attachments = b; spare = n }
same-state a b m n attachments spare = cc

pub returns-else-is_none-clause-enough : goal.returns-else-is_none-clause-enough
returns-else-is_none-clause-enough c some =
    let w = c.self.inside in
    let old = c.self.view_is in
    same-state _ c.args.self.now.attachments _ c.args.self.now.spare (returns-else-is_none-clause-same c)
    (same-spare w.link _ _ (subst (λ (s : WrapState). 0 < s.spare) (sym old) some) c.reserve.ensures.spare ∙ ap (λ s. s.spare) old)
