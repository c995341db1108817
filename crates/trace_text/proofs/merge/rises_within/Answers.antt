use Rattle.trace_text.proofs.Merging.{falls-below, falls-above}
use Rattle.trace_text.proofs.merge.rises_within.Goals as goal
use Rattle.trace_text.proofs.merge.rises_within.Goals.{then-local-least-via-then-local-least, then-local-least-via-else-local-least+then-last-local}

pub returns-then-local-least : goal.returns-then-local-least
returns-then-local-least c = (
  λ h. cc,
  λ r.
      let rises = c.loop-local.invariant.same.1 r in
      absurd (elim c.then-local-least.branch [
        | then-local-least-via-then-local-least w ↦ falls-below _ _ _ _ _ c.loop-local-test.true w.if-local-least.true rises
        | then-local-least-via-else-local-least+then-last-local w ↦ falls-above _ _ _ _ _ c.loop-local-test.true w.if-last-local.true rises
      ]),
)
