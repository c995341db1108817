use Rattle.std.proofs.Common.{◌∙◌, sym, ap}
use Rattle.env_core.specs.contracts.state.State.{the_view}
use Rattle.env_core.proofs.Attaching.{is_tag, tag-same, tag-other, check-answers}
use Rattle.env_core.proofs.state.State.check_object_type_tag.Goals.{in-Some+then-low-lower, in-Some+else-low-lower, in-None}
use Rattle.env_core.proofs.state.State.check_object_type_tag.Goals as goal

pub returns : goal.returns
returns c =
    let s = c.self.inside in
    let k = c.in-Ok.ensures in
    rw (← c.self.view_is)
    (rw c.plain-2.ensures
    (check-answers (the_view s) s.store k.sound s.registry.parts.attachments c.self.invariant.1 c.args.object c.in-Ok.value.0 k.live k.number c.args.lower c.args.upper c.tag_of.result c.match-tag_of.tagged k.refusal c.tag_of.ensures
    (elim c.match-tag_of.branch [
      | in-Some+then-low-lower w ↦ tag-same w.in-Some.low w.in-Some.high c.args.lower c.args.upper c.match-tag_of.tagged c.tag_of.result w.in-Some.is w.if-low-lower.true w.tagged-is
      | in-Some+else-low-lower w ↦ tag-other w.in-Some.low w.in-Some.high c.args.lower c.args.upper c.match-tag_of.tagged c.tag_of.result w.in-Some.is w.if-low-lower.false w.tagged-is
      | in-None w ↦ w.tagged-is ∙ sym (ap (is_tag c.args.lower c.args.upper) w.in-None.is)
    ])))
