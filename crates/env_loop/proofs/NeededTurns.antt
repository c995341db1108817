-- A turn that needs the hub.
use Rattle.std.proofs.Common.{◌≡◌, ◌∙◌, sym}
use Rattle.env_loop.specs.RecordedRuns.{Run}
use Rattle.env_loop.specs.Turns.{turn_after, needs_hub, OnlyPendingChanged}
use Rattle.env_loop.specs.declared.turn.LocalTurn.TheVariants as local

-- the turn that the run before needs is needed by the one that has something pending
pub needs-then : (old owing : Run) → OnlyPendingChanged old owing → local.NeedsHub ≡ turn_after owing old.core.env → needs_hub owing
needs-then old owing owes is = (λ i. turn_after owing (owes i).core.env) ∙ sym is
