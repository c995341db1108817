use Rattle.std.proofs.Common.{rules}
use Rattle.env_core.proofs.Attaching.{attached-new}
use Rattle.env_core.proofs.Buffering.{buffered-new}
use Rattle.env_core.proofs.CoreScopes.{state-new}
use Rattle.env_core.proofs.Promising.{promised-new}
use Rattle.env_core.proofs.state.State.new.Goals as goal

pub invariant_of-result : goal.invariant_of-result
invariant_of-result c = (
  rw (c.in_ok-scopes.ensures, c.in_ok-frames.ensures, c.in_ok-references.ensures, c.new-6.ensures, c.new-7.ensures) (state-new c.in_ok-store.store),
  rw c.in_ok-registry.ensures (attached-new c.in_ok-store.store),
  search rules,
  rw c.in_ok-registry.ensures (record { promises = promised-new c.in_ok-store.store; buffers = buffered-new c.in_ok-store.store }),
)
