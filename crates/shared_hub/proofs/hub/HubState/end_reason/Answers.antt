use Rattle.std.proofs.Common.{◌∙◌, ap, sym, is_some}
use Rattle.napi_types.specs.hub.Hub.{Hub}
use Rattle.napi_types.specs.hub.HubMoves.{hub_move, is_idle}
use Rattle.shared_hub.specs.HubStates.{led_by}
use Rattle.shared_hub.proofs.EventSteps.{hub-of_fields}
use Rattle.shared_hub.proofs.LoopReasons.{due-goes-on, move-goes-on, idle-ends, quiet-ends}
use Rattle.shared_hub.proofs.hub.HubState.end_reason.Goals as goal
use Rattle.shared_hub.proofs.hub.HubState.end_reason.Goals.{then-due-via-then-due, then-due-via-else-due+then-has_move}

pub returns-then-due : goal.returns-then-due
returns-then-due g c =
    let h : Hub = led_by g.N.Naming.numbers c.self.inside.entries.items in
    rw (c.if-exit.false, ← c.self.view_is)
    (elim c.then-due.branch [
      | then-due-via-then-due w ↦ due-goes-on h c.args.due w.if-due.true
      | then-due-via-else-due+then-has_move w ↦ move-goes-on h c.args.due w.if-due.false
          (ap (λ (k : Hub). is_some (hub_move k)) (sym (hub-of_fields h c.self.inside.parts c.self.inside.progress c.self.invariant.1)) ∙ sym (w.has_move.ensures h) ∙ w.if-has_move.true)
    ])

pub returns-then-is_idle : goal.returns-then-is_idle
returns-then-is_idle g c =
    let h : Hub = led_by g.N.Naming.numbers c.self.inside.entries.items in
    let same = hub-of_fields h c.self.inside.parts c.self.inside.progress c.self.invariant.1 in
    rw (c.if-exit.false, ← c.self.view_is)
    (idle-ends h c.args.due c.if-due.false (ap (λ (k : Hub). is_some (hub_move k)) (sym same) ∙ sym (c.if-has_move.ensures h)) (ap is_idle (sym same) ∙ sym (c.if-is_idle.ensures h)))

pub returns : goal.returns
returns g c =
    let h : Hub = led_by g.N.Naming.numbers c.self.inside.entries.items in
    let same = hub-of_fields h c.self.inside.parts c.self.inside.progress c.self.invariant.1 in
    rw (c.then_some.ensures, c.is_quiet.ensures, c.if-exit.false, ← c.self.view_is)
    (quiet-ends h c.args.due c.if-due.false (ap (λ (k : Hub). is_some (hub_move k)) (sym same) ∙ sym (c.if-has_move.ensures h)) (ap is_idle (sym same) ∙ sym (c.if-is_idle.ensures h)))
