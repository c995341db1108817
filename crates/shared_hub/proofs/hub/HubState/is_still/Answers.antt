use Rattle.std.proofs.Common.{◌∙◌, ap, sym, not, is_some}
use Rattle.napi_types.specs.hub.Hub.{Hub}
use Rattle.napi_types.specs.hub.HubMoves.{hub_move, is_quiet}
use Rattle.shared_hub.specs.HubStates.{led_by}
use Rattle.shared_hub.proofs.EventSteps.{hub-of_fields}
use Rattle.shared_hub.proofs.LoopReasons.{move-comes-first, quiet-decides}
use Rattle.shared_hub.proofs.hub.HubState.is_still.Goals as goal

pub returns-then-not-has_move : goal.returns-then-not-has_move
returns-then-not-has_move g c =
    let h : Hub = led_by g.N.Naming.numbers c.self.inside.entries.items in
    let same = hub-of_fields h c.self.inside.parts c.self.inside.progress c.self.invariant.1 in
    rw (c.is_quiet.ensures, ← c.self.view_is)
    (quiet-decides (hub_move h) (is_quiet h) (ap (λ (k : Hub). is_some (hub_move k)) (sym same) ∙ sym (c.has_move.ensures h) ∙ c.if-not-has_move.true))

pub returns-else-not-has_move : goal.returns-else-not-has_move
returns-else-not-has_move g c =
    let h : Hub = led_by g.N.Naming.numbers c.self.inside.entries.items in
    let same = hub-of_fields h c.self.inside.parts c.self.inside.progress c.self.invariant.1 in
    rw (← c.self.view_is)
    (ap not c.if-not-has_move.false
    ∙ move-comes-first (hub_move h) (is_quiet h) (ap (λ (k : Hub). is_some (hub_move k)) (sym same) ∙ sym (c.has_move.ensures h) ∙ c.if-not-has_move.false))
