use Rattle.std.proofs.Common.{◌∙◌, sym}
use Rattle.napi_types.proofs.plain.Options.{at-err}
use Rattle.env_core.specs.contracts.state.State.{the_view}
use Rattle.env_core.proofs.Attaching.{tag-refused, tag-unrefused, tag-answers, untold, attached-with_tag}
use Rattle.env_core.proofs.state.State.type_tag_object.Goals as goal

pub returns-then-is_some-clause-ok : goal.returns-then-is_some-clause-ok
returns-then-is_some-clause-ok c =
    let s = c.self.inside in
    let k = c.in-Ok.ensures in
    rw (← c.self.view_is)
    (rw c.plain-then-is_some.ensures
    (tag-refused (the_view s) s.store k.sound s.registry.parts.attachments c.self.invariant.1 c.args.object c.in-Ok.value.0 k.live k.number c.args.lower c.args.upper c.tag_of.result
    k.refusal c.tag_of.ensures (sym c.is_some.ensures ∙ c.if-is_some.true)))

pub returns-in_err-tag-clause-unrefused : goal.returns-in_err-tag-clause-unrefused
returns-in_err-tag-clause-unrefused c =
    let s = c.self.inside in
    let k = c.in-Ok.ensures in
    rw (← c.self.view_is)
    (at-err _
    (tag-unrefused (the_view s) s.store k.sound s.registry.parts.attachments c.self.invariant.1 c.args.object c.in-Ok.value.0 k.live k.number c.args.lower c.args.upper c.tag_of.result
    k.refusal c.tag_of.ensures (sym c.is_some.ensures ∙ c.if-is_some.false)))

pub invariant_of-self-2 : goal.invariant_of-self-2
invariant_of-self-2 c =
    let s = c.self.inside in
    let v = c.in-Ok.value.0 in
    rw c.in_ok-tag.ensures.ok
    (c.self.invariant.0, attached-with_tag s.store s.registry.parts.attachments v c.args.lower c.args.upper c.self.invariant.1 c.in-Ok.ensures.live, c.self.invariant.2, c.self.invariant.3)

pub returns-clause-ok : goal.returns-clause-ok
returns-clause-ok c =
    let s = c.self.inside in
    let v = c.in-Ok.value.0 in
    let k = c.in-Ok.ensures in
    rw (← c.self.view_is)
    (rw (c.plain-2.ensures, c.in_ok-tag.ensures.ok)
    (tag-answers (the_view s) s.store k.sound s.registry.parts.attachments c.self.invariant.1 c.args.object v k.live k.number c.args.lower c.args.upper c.invariant.ensures.once
    (untold c.tag_of.result (sym c.is_some.ensures ∙ c.if-is_some.false) ∙ c.tag_of.ensures)
    (tag-unrefused (the_view s) s.store k.sound s.registry.parts.attachments c.self.invariant.1 c.args.object v k.live k.number c.args.lower c.args.upper c.tag_of.result k.refusal c.tag_of.ensures (sym c.is_some.ensures ∙ c.if-is_some.false))))
