use Rattle.std.proofs.Common.{◌∙◌}
use Rattle.napi_reference.specs.ReferencePlaces.{map_of}
use Rattle.env_core.specs.contracts.state.State.{the_view}
use Rattle.env_values.specs.SeenValues.{heap_of}
use Rattle.env_core.proofs.Attaching.{attached-kept, attachments-kept}
use Rattle.env_core.proofs.Buffering.{buffered-kept, buffers-kept}
use Rattle.env_core.proofs.Promising.{promised-kept, promises-kept}
use Rattle.env_core.proofs.TsfnRooting.{roots-live, roots-kept}
use Rattle.env_core.proofs.ValueAnswers.{value-answers, value-frames, pending-live, pending-kept, referred-live, references-kept, stopped-same}
use Rattle.env_core.proofs.Unrefused.{value-unrefused, stopped}
use Rattle.env_core.proofs.state.State.value_call.Goals as goal

pub invariant_of-self : goal.invariant_of-self
invariant_of-self c =
    let s = c.self.inside in
    let k = c.value_step in (
      record {
        live = k.ensures.live;
        frames = value-frames s.texts c.caller-addon.result c.args.call.now s.store k.new.store s.scopes k.new.scopes k.result k.ensures.after k.ensures.err ∙ c.self.invariant.0.frames;
        calls = k.ensures.calls ∙ c.self.invariant.0.calls;
        pending = pending-live s.store k.new.store s.exceptions.pending k.ensures.kept c.self.invariant.0.pending;
        referred = referred-live s.store k.new.store (map_of s.references) k.ensures.kept c.self.invariant.0.referred;
        rooted = roots-live s.store k.new.store s.tsfn_roots k.ensures.kept c.self.invariant.0.rooted;
      },
      attached-kept s.store k.new.store k.ensures.kept s.registry.parts.attachments c.self.invariant.1,
      c.self.invariant.2,
      record {
        promises = promised-kept s.store k.new.store k.ensures.kept s.registry.parts.promises c.self.invariant.3.promises;
        buffers = buffered-kept s.store k.new.store k.ensures.kept s.registry.parts.buffers c.self.invariant.3.buffers;
      },
    )

pub returns-clause-ok : goal.returns-clause-ok
returns-clause-ok c =
    let s = c.self.inside in
    let k = c.value_step in
    rw (← c.self.view_is)
    (rw (
      pending-kept s.store k.new.store s.exceptions.pending k.ensures.kept c.self.invariant.0.pending,
      references-kept s.store k.new.store (map_of s.references) k.ensures.kept c.self.invariant.0.referred,
      roots-kept s.store k.new.store s.tsfn_roots k.ensures.kept c.self.invariant.0.rooted,
      attachments-kept s.store k.new.store k.ensures.kept s.registry.parts.attachments c.self.invariant.1,
      promises-kept s.store k.new.store k.ensures.kept s.registry.parts.promises c.self.invariant.3.promises,
      buffers-kept s.store k.new.store k.ensures.kept c.invariant.ensures s.registry.parts.buffers c.self.invariant.3.buffers,
    )
    (value-answers (the_view s) c.caller-addon.result c.args.call.now (heap_of k.new.store k.new.scopes) k.result c.requires.value_call (rw (← c.self.view_is) at c.caller-addon.ensures) k.ensures.reply k.ensures.after))

pub returns-clause-stopped : goal.returns-clause-stopped
returns-clause-stopped c =
    let s = c.self.inside in
    let k = c.value_step in
    rw (
      ← c.self.view_is,
      buffers-kept s.store k.new.store k.ensures.kept c.invariant.ensures s.registry.parts.buffers c.self.invariant.3.buffers,
    )
    (stopped (the_view s) _ c.args.call.now _ k.result
    (stopped-same (the_view s) s.store k.new.store s.scopes k.new.scopes
    (map_of s.references) s.tsfn_roots s.registry.parts.attachments s.exceptions.pending s.registry.parts.promises k.result k.ensures.kept
    c.self.invariant.0.referred c.self.invariant.0.rooted c.self.invariant.1 c.self.invariant.0.pending c.self.invariant.3.promises k.ensures.err)
    k.ensures.growing
    (value-unrefused (the_view s) c.args.call.now k.result c.requires.value_call k.ensures.unrefused))
