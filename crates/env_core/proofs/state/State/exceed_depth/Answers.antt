use Rattle.std.proofs.Common.{None}
use Rattle.napi_reference.specs.ReferencePlaces.{map_of}
use Rattle.env_core.specs.contracts.state.State.{the_view}
use Rattle.env_values.proofs.Giving.{thrown-heap}
use Rattle.env_core.proofs.Attaching.{attachments-kept}
use Rattle.env_core.proofs.Buffering.{buffers-kept}
use Rattle.env_core.proofs.Promising.{promises-kept}
use Rattle.env_core.proofs.TsfnRooting.{roots-kept}
use Rattle.env_core.proofs.CoreExceptions.{limit-thrown}
use Rattle.env_core.proofs.ValueAnswers.{references-kept}
use Rattle.env_core.proofs.state.State.exceed_depth.Goals as goal

pub returns-clause-after : goal.returns-clause-after
returns-clause-after c =
    let s = c.self.inside in
    let t = c.thrown_value.new.store in
    let k = c.in_ok-error.ensures in
    rw (← c.self.view_is)
    (rw (
      c.set.ensures,
      references-kept s.store t (map_of s.references) k.kept c.self.invariant.0.referred,
      roots-kept s.store t s.tsfn_roots k.kept c.self.invariant.0.rooted,
      attachments-kept s.store t k.kept s.registry.parts.attachments c.self.invariant.1,
      promises-kept s.store t k.kept s.registry.parts.promises c.self.invariant.3.promises,
      buffers-kept s.store t k.kept c.invariant.ensures s.registry.parts.buffers c.self.invariant.3.buffers,
    )
    (limit-thrown (the_view s) s.store t s.scopes None (record { 0 = 2 }) c.in_ok-error.error.0
    (thrown-heap s.store t s.scopes None (record { 0 = 2 }) k.kept.numbers c.self.invariant.0.live k.made k.graph) k.number))
